-- That a column, and several, are read in one pass.
use Rattle.std.proofs.Common.{inl, inr, IsOk, ◌≡◌, ℕ, zero, suc, ◌+◌, ◌-◌, ◌<◌, Bool, true, false, cond, not, ◌||◌, nat_lt, List, [], ◌∷◌, length, drop, slice_get, Option, Some, None, Result, Ok, Err, refl, sym, ap, ◌∙◌, subst, arith}
use Rattle.std.specs.Prelude.{IsOkAnd, is_none}
use Rattle.std.proofs.lemmas.Bool.{lt-ltb}
use Rattle.std.proofs.lemmas.Option.{slice_get_within}
use Rattle.pgv_types.specs.Ty.{Ty}
use Rattle.pgv_types.specs.Facts.{is_custom}
use Rattle.pgv_value.specs.FrameBinary.{Part}
use Rattle.pgv_value.specs.Fronts.{one_part}
use Rattle.pgv_value.specs.Outcome.{Fails, Outcome, or_fail, done, ◌>>=◌}
use Rattle.pgv_value.specs.Several.{several}
use Rattle.pgv_value.specs.ValueView.{Given, given}
use Rattle.pgv_value.specs.declared.error.CodecError.{CodecError}
use Rattle.pgv_value.specs.declared.error.CodecError.TheVariants.{NoField}
use Rattle.pgv_value.proofs.Outcomes.{answers_are, taken, found_or, stated_is}
use Rattle.pgv_row.specs.ColumnView.{Column}
use Rattle.pgv_row.specs.OnePass.{Fit, type_fits, column_fits, both_fit, columns_fit, ColumnsLeft, value_of_part, value_in_front, column_in_front, columns_in_front, AreFramesFrom, InOnePass, IsRefusedInFront, IsFirstInFront}
use Rattle.pgv_row.specs.Errors.{codec_error}
use Rattle.pgv_row.specs.RowView.{Row}
use Rattle.pgv_row.specs.Tuples.{column_parse, columns_parse, IsRefused, IsFirstRefused}
use Rattle.pgv_row.specs.RowValues.{may_read, raw_value, column_value}
use Rattle.pgv_row.specs.declared.error.ColumnError.{ColumnError}

-- ---- frames

-- one more frame in front
frame_more : (n : ℕ) (bytes : List ℕ) (p : Part) (rest : List ℕ) (ps : List Part) → (one_part bytes).answer ≡ Ok (p, rest) → (several one_part n rest).answer ≡ Ok (ps, []) → (several one_part (suc n) bytes).answer ≡ Ok (p ∷ ps, [])
unfolding several
frame_more n bytes p rest ps found more = rw (found, more) refl

-- the first frame, and those after it
record FirstFrame (n : ℕ) (bytes : List ℕ) (parts : List Part) : Type 0 where
  part : Part
  rest : List ℕ
  later : List Part
  found : (one_part bytes).answer ≡ Ok (part, rest)
  more : (several one_part n rest).answer ≡ Ok (later, [])
  all : parts ≡ part ∷ later

first_frame : (n : ℕ) (bytes : List ℕ) (parts : List Part) → (several one_part (suc n) bytes).answer ≡ Ok (parts, []) → FirstFrame n bytes parts
unfolding several
first_frame n bytes parts e =
    let a = taken (one_part bytes) _ (parts, []) e in
    let b = taken (several one_part n a.0.1) _ (parts, []) a.2 in
    let is = answers_are {A = List Part} {B = List ℕ} (a.0.0 ∷ b.0.0) parts b.0.1 [] b.2 in
    record {
      part = a.0.0;
      rest = a.0.1;
      later = b.0.0;
      found = a.1;
      more = b.1 ∙ ap (λ (xs : List ℕ). let r : Result (List Part × List ℕ) (Option CodecError) = Ok (b.0.0, xs) in r) is.1;
      all = sym is.0;
    }

left_over : (n place : ℕ) → place < n → n - place ≡ suc (n - (place + 1))
left_over n place lt = omega (arith, lt)

-- the element at a place, and those after it
dropped : {A : Type 0} (xs : List A) (i : ℕ) (x : A) (ys : List A) → drop i xs ≡ x ∷ ys → (slice_get xs i ≡ Some x) × (drop (suc i) xs ≡ ys)
dropped [] zero x ys e = absurd cc
dropped [] (suc i) x ys e = absurd cc
dropped (y ∷ xs) zero x ys e = (cc, cc)
dropped (y ∷ xs) (suc i) x ys e = dropped xs i x ys e

-- ---- the types of columns

accepted : (b : Bool) (e : ColumnError ℕ) → cond {A = Fit} b (Ok tt) (Err e) ≡ Ok tt → b ≡ true
accepted true e is = refl
accepted false e is = absurd cc

type_is : (accepts : Ty → Bool) (place : ℕ) (found : Option Column) → type_fits accepts place found ≡ Ok tt → (c : Column) × (found ≡ Some c) × (accepts c.type_info ≡ true)
type_is accepts place None e = absurd cc
type_is accepts place (Some c) e = (c, refl, accepted (accepts c.type_info) _ e)

column_is : (accepts : Ty → Bool) (columns : List Column) (place : ℕ) → column_fits accepts columns place ≡ Ok tt → (c : Column) × (slice_get columns place ≡ Some c) × (accepts c.type_info ≡ true)
unfolding column_fits
column_is accepts columns place e = type_is accepts place (slice_get columns place) e

both_are : (first more : Fit) → both_fit first more ≡ Ok tt → (first ≡ Ok tt) × (more ≡ Ok tt)
both_are (Ok tt) more e = (refl, e)
both_are (Err why) more e = absurd cc

columns_are : (first more : List Column → ℕ → Fit) (columns : List Column) (place : ℕ) → columns_fit first more columns place ≡ Ok tt → (first columns place ≡ Ok tt) × (more columns (place + 1) ≡ Ok tt)
unfolding columns_fit
columns_are first more columns place e = both_are (first columns place) (more columns (place + 1)) e

-- ---- one column

may_be : (a b : Bool) → b ≡ true → not (a || b) ≡ false
may_be true b e = refl
may_be false b e = rw e refl

or_not : (b : Bool) → (b || false) ≡ b
or_not true = refl
or_not false = refl

module _ {M : Type 0} where
  value_of_row : (accepts : Ty → Bool) (parse : Given → Outcome M) (row : Row) (place : ℕ) (c : Column) (part : Part) → slice_get row.columns place ≡ Some c → slice_get row.parts place ≡ Some part →
      nat_lt place (length row.columns) ≡ true → not (may_read accepts (given c.type_info c.format part)) ≡ false → column_parse accepts parse row place ≡ value_of_part parse c part
  unfolding column_parse column_value raw_value value_of_part
  value_of_row accepts parse row place c part at there within may = rw (within, at, there, may, or_not (is_custom c.type_info)) refl

  regrouped : (r : Result M (Option CodecError)) (b : Bool) (next : ℕ) (rest : List ℕ) → let o : Outcome M = record { answer = r; may_alloc = b } in
      ((o >>= λ m. done {M = M × List ℕ} (m, rest)) >>= λ value. done {M = M × ColumnsLeft} (value.0, (next, value.1))) ≡ (o >>= λ m. done {M = M × ColumnsLeft} (m, (next, rest)))
  regrouped (Ok m) true next rest = refl
  regrouped (Ok m) false next rest = refl
  regrouped (Err why) b next rest = refl

  column_found : (parse : Given → Outcome M) (columns : List Column) (place : ℕ) (bytes : List ℕ) (c : Column) (part : Part) (rest : List ℕ) → slice_get columns place ≡ Some c → (one_part bytes).answer ≡ Ok (part, rest) →
      column_in_front parse columns place bytes ≡ (value_of_part parse c part >>= λ m. done {M = M × ColumnsLeft} (m, (place + 1, rest)))
  unfolding column_in_front value_in_front
  column_found parse columns place bytes c part rest at found =
      let o : Outcome M = value_of_part parse c part in
      rw (at, found) (regrouped o.answer o.may_alloc (place + 1) rest)

  column_as_row : (accepts : Ty → Bool) (parse : Given → Outcome M) (row : Row) (place : ℕ) (bytes : List ℕ) → column_fits accepts row.columns place ≡ Ok tt → AreFramesFrom row place bytes →
      (rest : List ℕ) × AreFramesFrom row (place + 1) rest × (column_in_front parse row.columns place bytes ≡ (column_parse accepts parse row place >>= λ m. done {M = M × ColumnsLeft} (m, (place + 1, rest))))
  column_as_row accepts parse row place bytes fit frames =
      let c = column_is accepts row.columns place fit in
      let lt : place < length row.columns = slice_get_within row.columns place c.0 c.1 in
      let n : ℕ = length row.columns - (place + 1) in
      let f = first_frame n bytes (drop place row.parts) (subst (λ (k : ℕ). (several one_part k bytes).answer ≡ Ok (drop place row.parts, [])) (left_over (length row.columns) place lt) frames) in
      let d = dropped row.parts place f.part f.later f.all in
      let may = may_be (is_none f.part) (accepts c.0.type_info) c.2 in
      let next : suc place ≡ place + 1 = omega arith in
      let later : f.later ≡ drop (place + 1) row.parts = sym d.1 ∙ ap (λ (k : ℕ). drop k row.parts) next in (
        f.rest,
        subst (λ (ps : List Part). (several one_part n f.rest).answer ≡ Ok (ps, [])) later f.more,
        rw (value_of_row accepts parse row place c.0 f.part c.1 d.0 (lt-ltb place (length row.columns) lt) may) (column_found parse row.columns place bytes c.0 f.part f.rest c.1 f.found),
      )

  column_of_frames : (parse : Given → Outcome M) (columns : List Column) (place : ℕ) (bytes : List ℕ) (m : M) (left : ColumnsLeft) (further : List Part) → (column_in_front parse columns place bytes).answer ≡ Ok (m, left) →
      (several one_part (length columns - left.0) left.1).answer ≡ Ok (further, []) → (parts : List Part) × ((several one_part (length columns - place) bytes).answer ≡ Ok (parts, []))
  unfolding column_in_front value_in_front
  column_of_frames parse columns place bytes m left further e more =
      let c = taken (or_fail (slice_get columns place) (NoField place)) _ (m, left) e in
      let at : slice_get columns place ≡ Some c.0 = found_or (slice_get columns place) (NoField place) c.0 (stated_is _ c.0 c.1) in
      let v = taken (value_in_front parse c.0 bytes) _ (m, left) c.2 in
      let left_is = answers_are {A = M} {B = ColumnsLeft} v.0.0 m (place + 1, v.0.1) left v.2 in
      let f = taken (one_part bytes) _ v.0 v.1 in
      let p = taken (value_of_part parse c.0 f.0.0) (λ (x : M). done {M = M × List ℕ} (x, f.0.1)) v.0 f.2 in
      let rest_is = answers_are {A = M} {B = List ℕ} p.0 v.0.0 f.0.1 v.0.1 p.2 in
      let lt : place < length columns = slice_get_within columns place c.0 at in
      let after : (several one_part (length columns - (place + 1)) f.0.1).answer ≡ Ok (further, []) =
      ap (λ (xs : List ℕ). (several one_part (length columns - (place + 1)) xs).answer) rest_is.1 ∙ ap (λ (l : ColumnsLeft). (several one_part (length columns - l.0) l.1).answer) left_is.1 ∙ more in (
        f.0.0 ∷ further,
        ap (λ (k : ℕ). (several one_part k bytes).answer) (left_over (length columns) place lt) ∙ frame_more (length columns - (place + 1)) bytes f.0.0 f.0.1 further f.1 after,
      )

-- ---- which column is refused

module _ {M : Type 0} where
  fails_before : (r : Result M (Option CodecError)) (b : Bool) (left : ColumnsLeft) (e : CodecError) → let o : Outcome M = record { answer = r; may_alloc = b } in Fails e (o >>= λ m. done {M = M × ColumnsLeft} (m, left)) → Fails e o
  fails_before (Ok m) b left e (inl h) = absurd cc
  fails_before (Ok m) b left e (inr (inl h)) = absurd (let no : (let r : Result (M × ColumnsLeft) (Option CodecError) = Ok (m, left) in r) ≡ Err None = h.0 in cc)
  fails_before (Ok m) b left e (inr (inr h)) = inr (inr (h.0, sym (or_not b) ∙ h.1))
  fails_before (Err why) b left e (inl h) = inl (ap (λ (w : Option CodecError). let r : Result M (Option CodecError) = Err w in r) (let same : why ≡ Some e = cc in same))
  fails_before (Err why) b left e (inr (inl h)) = let is : (let r : Result (M × ColumnsLeft) (Option CodecError) = Err why in r) ≡ Err None = h.0 in inr (inl (ap (λ (w : Option CodecError). let r : Result M (Option CodecError) = Err w in r) (let same : why ≡ None = cc in same), h.1))
  fails_before (Err why) b left e (inr (inr h)) = inr (inr h)

  okay_before : (r : Result M (Option CodecError)) (b : Bool) (left : ColumnsLeft) (P : ColumnsLeft → Type 0) → let o : Outcome M = record { answer = r; may_alloc = b } in IsOkAnd (o >>= λ m. done {M = M × ColumnsLeft} (m, left)).answer (λ x. P x.1) → IsOk r × P left
  okay_before (Ok m) b left P h = (refl, h)
  okay_before (Err why) b left P h = absurd h

  column_refused : (accepts : Ty → Bool) (parse : Given → Outcome M) (row : Row) (place : ℕ) (bytes : List ℕ) (e : ColumnError ℕ) → column_fits accepts row.columns place ≡ Ok tt → AreFramesFrom row place bytes →
      IsRefusedInFront (column_in_front parse) row.columns place bytes e → IsRefused (column_parse accepts parse) row place e
  column_refused accepts parse row place bytes e fit frames h =
      let c = column_as_row accepts parse row place bytes fit frames in
      let o : Outcome M = column_parse accepts parse row place in
      (h.0, fails_before o.answer o.may_alloc (place + 1, c.0) (codec_error e) (subst (λ (p : Outcome (M × ColumnsLeft)). Fails (codec_error e) p) c.2 h.1))

-- the last column
pub last_in_one_pass : {M : Type 0} (accepts : Ty → Bool) (parse : Given → Outcome M) (place : ℕ) →
    InOnePass place (λ columns. column_fits accepts columns place) (λ row. column_parse accepts parse row place) (λ row. IsRefused (column_parse accepts parse) row place) (λ columns. column_in_front parse columns place)
    (λ columns. IsRefusedInFront (column_in_front parse) columns place)
last_in_one_pass accepts parse place = record {
  as_row = λ row bytes fit frames. let c = column_as_row accepts parse row place bytes fit frames in ((place + 1, c.0), c.1, c.2);
  refused_as_row = λ row bytes e fit frames. column_refused accepts parse row place bytes e fit frames;
  of_frames = λ columns bytes m left further e more. column_of_frames parse columns place bytes m left further e more;
}

-- ---- a column and the rest

module _ {M N : Type 0} where
  paired : (r : Result M (Option CodecError)) (b : Bool) (s : Result N (Option CodecError)) (d : Bool) (more : ℕ → List ℕ → Outcome (N × ColumnsLeft)) (next : ℕ) (rest : List ℕ) (left : ColumnsLeft) →
      let o : Outcome M = record { answer = r; may_alloc = b } in let p : Outcome N = record { answer = s; may_alloc = d } in more next rest ≡ (p >>= λ n. done {M = N × ColumnsLeft} (n, left)) →
      ((o >>= λ m. done {M = M × ColumnsLeft} (m, (next, rest))) >>= λ m. more m.1.0 m.1.1 >>= λ n. done {M = (M × N) × ColumnsLeft} ((m.0, n.0), n.1)) ≡ ((o >>= λ m. p >>= λ n. done {M = M × N} (m, n)) >>= λ both. done {M = (M × N) × ColumnsLeft} (both, left))
  paired (Ok m) true (Ok n) d more next rest left e = rw e refl
  paired (Ok m) false (Ok n) true more next rest left e = rw e refl
  paired (Ok m) false (Ok n) false more next rest left e = rw e refl
  paired (Ok m) true (Err why) d more next rest left e = rw e refl
  paired (Ok m) false (Err why) d more next rest left e = rw e refl
  paired (Err why) b s d more next rest left e = refl

module _ {M N : Type 0} (accepts : Ty → Bool) (parse : Given → Outcome M) {fits : List Column → ℕ → Fit} {rest : Row → ℕ → Outcome N} {refused : Row → ℕ → ColumnError ℕ → Type 0} {read : List Column → ℕ → List ℕ → Outcome (N × ColumnsLeft)} {refused_in_front : List Column → ℕ → List ℕ → ColumnError ℕ → Type 0}
    (law : (place : ℕ) → InOnePass place (λ columns. fits columns place) (λ row. rest row place) (λ row. refused row place) (λ columns. read columns place) (λ columns. refused_in_front columns place)) where
  columns_as_row : (place : ℕ) (row : Row) (bytes : List ℕ) → columns_fit (column_fits accepts) fits row.columns place ≡ Ok tt → AreFramesFrom row place bytes →
      (left : ColumnsLeft) × AreFramesFrom row left.0 left.1 × (columns_in_front (column_in_front parse) read row.columns place bytes ≡ (columns_parse (column_parse accepts parse) rest row place >>= λ m. done {M = (M × N) × ColumnsLeft} (m, left)))
  unfolding columns_in_front columns_parse
  columns_as_row place row bytes fit frames =
      let both = columns_are (column_fits accepts) fits row.columns place fit in
      let c = column_as_row accepts parse row place bytes both.0 frames in
      let r = (law (place + 1)).as_row row c.0 both.1 c.1 in
      let o : Outcome M = column_parse accepts parse row place in
      let p : Outcome N = rest row (place + 1) in
      (r.0, r.1, rw c.2 (paired o.answer o.may_alloc p.answer p.may_alloc (read row.columns) (place + 1) c.0 r.0 r.2))

  columns_refused : (place : ℕ) (row : Row) (bytes : List ℕ) (e : ColumnError ℕ) → columns_fit (column_fits accepts) fits row.columns place ≡ Ok tt → AreFramesFrom row place bytes →
      IsFirstInFront (column_in_front parse) refused_in_front row.columns place bytes e → IsFirstRefused (column_parse accepts parse) refused row place e
  columns_refused place row bytes e fit frames (inl h) = inl (column_refused accepts parse row place bytes e (columns_are (column_fits accepts) fits row.columns place fit).0 frames h)
  columns_refused place row bytes e fit frames (inr h) =
      let both = columns_are (column_fits accepts) fits row.columns place fit in
      let c = column_as_row accepts parse row place bytes both.0 frames in
      let o : Outcome M = column_parse accepts parse row place in
      let P : ColumnsLeft → Type 0 = λ left. refused_in_front row.columns left.0 left.1 e in
      let k = okay_before o.answer o.may_alloc (place + 1, c.0) P (subst (λ (p : Outcome (M × ColumnsLeft)). IsOkAnd p.answer (λ x. P x.1)) c.2 h) in
      inr (k.0, (law (place + 1)).refused_as_row row c.0 e both.1 c.1 k.1)

  columns_of_frames : (place : ℕ) (columns : List Column) (bytes : List ℕ) (m : M × N) (left : ColumnsLeft) (further : List Part) → (columns_in_front (column_in_front parse) read columns place bytes).answer ≡ Ok (m, left) →
      (several one_part (length columns - left.0) left.1).answer ≡ Ok (further, []) → (parts : List Part) × ((several one_part (length columns - place) bytes).answer ≡ Ok (parts, []))
  unfolding columns_in_front
  columns_of_frames place columns bytes m left further e more =
      let a = taken (column_in_front parse columns place bytes) _ (m, left) e in
      let b = taken (read columns a.0.1.0 a.0.1.1) _ (m, left) a.2 in
      let is = answers_are {A = M × N} {B = ColumnsLeft} (a.0.0, b.0.0) m b.0.1 left b.2 in
      let r = (law a.0.1.0).of_frames columns a.0.1.1 b.0.0 b.0.1 further b.1 (ap (λ (l : ColumnsLeft). (several one_part (length columns - l.0) l.1).answer) is.1 ∙ more) in
      column_of_frames parse columns place bytes a.0.0 a.0.1 r.0 a.1 r.1

  -- a column and the rest
  pub further_in_one_pass : (place : ℕ) →
      InOnePass place (λ columns. columns_fit (column_fits accepts) fits columns place) (λ row. columns_parse (column_parse accepts parse) rest row place) (λ row. IsFirstRefused (column_parse accepts parse) refused row place) (λ columns. columns_in_front (column_in_front parse) read columns place)
      (λ columns. IsFirstInFront (column_in_front parse) refused_in_front columns place)
  further_in_one_pass place = record { as_row = columns_as_row place; refused_as_row = columns_refused place; of_frames = columns_of_frames place }
