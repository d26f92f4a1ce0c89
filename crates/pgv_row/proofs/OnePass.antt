-- A row that is read in one pass is read as its parts are.
use Rattle.std.proofs.Common.{◌⊎◌, inl, inr, ◌≡◌, ℕ, suc, ◌-◌, ◌<◌, ◌≤◌, Bool, true, false, not, nat_eq, List, [], ◌∷◌, length, drop, Option, Result, Ok, Err, refl, sym, ap, ◌∙◌, subst, arith}
use Rattle.pgv_value.specs.FrameBinary.{Part}
use Rattle.pgv_value.specs.Fronts.{one_part}
use Rattle.pgv_value.specs.FrameLaws.{AreBytes}
use Rattle.std.specs.Prelude.{IsOkAnd}
use Rattle.std.proofs.lemmas.Bool.{false≢true}
use Rattle.pgv_value.specs.Parsed.{Parsed}
use Rattle.pgv_row.specs.Errors.{codec_error}
use Rattle.pgv_value.specs.Outcome.{Outcome, Fails, fails_if, bind_by, done, ◌>>=◌, ◌>>◌}
use Rattle.pgv_value.specs.Several.{several}
use Rattle.pgv_value.specs.declared.error.CodecError.{CodecError}
use Rattle.pgv_value.specs.declared.error.CodecError.TheVariants.{WrongLength}
use Rattle.pgv_value.proofs.Outcomes.{only_memory, answer_is, taken, taken_exactly, tested}
use Rattle.pgv_value.proofs.ReadFronts.{nothing_is}
use Rattle.pgv_value.proofs.Several.{never_allocate}
use Rattle.pgv_row.proofs.DataRows.{frames_of_row, row_of_frames}
use Rattle.pgv_row.specs.ColumnView.{Column}
use Rattle.pgv_row.specs.DataRow.{IsDataRow, frames_front}
use Rattle.pgv_row.specs.OnePass.{Fit, ColumnsLeft, passed_over, one_pass, IsRowOf, AreFramesFrom, InOnePass, IsRestRefused, IsRowRefused, ReadsRows}
use Rattle.pgv_row.specs.RowView.{Row}
use Rattle.pgv_row.specs.declared.error.ColumnError.{ColumnError}

-- ---- frames that are passed over

without_first : (p : Part) (r : Result (List Part × List ℕ) (Option CodecError)) (b d : Bool) →
    (bind_by (bind_by r b (λ (more : List Part × List ℕ). done (p ∷ more.0, more.1))).answer d (λ (frames : List Part × List ℕ). done frames.1)).answer ≡ (bind_by r b (λ (frames : List Part × List ℕ). done frames.1)).answer
without_first p (Ok more) b d = refl
without_first p (Err why) b d = refl

one_passed : (n : ℕ) (bytes : List ℕ) (p : Part) (rest : List ℕ) → (one_part bytes).answer ≡ Ok (p, rest) → (passed_over (suc n) bytes).answer ≡ (passed_over n rest).answer
unfolding passed_over several
one_passed n bytes p rest found = rw found (without_first p (several one_part n rest).answer (several one_part n rest).may_alloc _)

one_refused : (n : ℕ) (bytes : List ℕ) (why : Option CodecError) → (one_part bytes).answer ≡ Err why → (passed_over (suc n) bytes).answer ≡ Err why
unfolding passed_over several
one_refused n bytes why missing = rw missing refl

none_left : (bytes : List ℕ) → (passed_over 0 bytes).answer ≡ Ok bytes
unfolding passed_over several
none_left bytes = refl

-- the loop goes on, is done, or ends with an error
module _ (width at : ℕ) (rest : List ℕ) (total : Result (List ℕ) (Option CodecError)) (so_far : (passed_over (width - at) rest).answer ≡ total) where
  pub goes_on : (p : Part) (after : List ℕ) → at < width → (one_part rest).answer ≡ Ok (p, after) → (passed_over (width - suc at) after).answer ≡ total
  goes_on p after lt found =
      let left : width - at ≡ suc (width - suc at) = omega (arith, lt) in
      sym (one_passed (width - suc at) rest p after found) ∙ ap (λ (n : ℕ). (passed_over n rest).answer) (sym left) ∙ so_far

  pub is_done : width ≤ at → total ≡ Ok rest
  is_done le =
      let none : width - at ≡ 0 = omega (arith, le) in
      sym so_far ∙ ap (λ (n : ℕ). (passed_over n rest).answer) none ∙ none_left rest

  pub ends : (why : Option CodecError) → at < width → (one_part rest).answer ≡ Err why → total ≡ Err why
  ends why lt missing =
      let left : width - at ≡ suc (width - suc at) = omega (arith, lt) in
      sym so_far ∙ ap (λ (n : ℕ). (passed_over n rest).answer) left ∙ one_refused (width - suc at) rest why missing

-- ---- rows

ended : {M : Type 0} (r : Result M (Option CodecError)) (b : Bool) (left : ColumnsLeft) (width : ℕ) (wrong : CodecError) (further : List Part) →
    (several one_part (width - left.0) left.1).answer ≡ Ok (further, []) → (several one_part (width - left.0) left.1).may_alloc ≡ false → let o : Outcome M = record { answer = r; may_alloc = b } in
    ((o >>= λ m. done {M = M × ColumnsLeft} (m, left)) >>= λ first. passed_over (width - first.1.0) first.1.1 >>= λ rest. fails_if (not (nat_eq (length rest) 0)) wrong >> done first.0) ≡ o
unfolding passed_over
ended (Ok m) true left width wrong further found free = rw found refl
ended (Ok m) false left width wrong further found free = rw (found, free) refl
ended (Err why) b left width wrong further found free = refl

not_failed : {A : Type 0} (o : Outcome A) (e : CodecError) (m : A) → o.answer ≡ Ok m → o.may_alloc ≡ false → Fails e o → ⊥
not_failed o e m is free fails = false≢true (sym free ∙ (only_memory o e m is fails).1)

-- where the rest is frames and nothing comes after them, it isn't refused
rest_passes : (width size : ℕ) (left : ColumnsLeft) (e : ColumnError ℕ) (further : List Part) → (several one_part (width - left.0) left.1).answer ≡ Ok (further, []) → (several one_part (width - left.0) left.1).may_alloc ≡ false → IsRestRefused width size left e → ⊥
unfolding passed_over
rest_passes width size left e further found free (inl k) = not_failed (passed_over (width - left.0) left.1) (codec_error e) [] (rw found refl) (rw (found, free) refl) k.1
rest_passes width size left e further found free (inr k) =
    let rest : (passed_over (width - left.0) left.1).answer ≡ Ok [] = rw found refl in
    let fails = subst (λ (r : Result (List ℕ) (Option CodecError)). IsOkAnd r (λ rest. Fails (codec_error e) (fails_if (not (nat_eq (length rest) 0)) (WrongLength size)))) rest k.1 in
    not_failed (fails_if false (WrongLength size)) (codec_error e) tt refl refl fails

read_passes : {M : Type 0} (width size : ℕ) (e : ColumnError ℕ) (r : Result M (Option CodecError)) (b : Bool) (left : ColumnsLeft) (further : List Part) →
    (several one_part (width - left.0) left.1).answer ≡ Ok (further, []) → (several one_part (width - left.0) left.1).may_alloc ≡ false → let o : Outcome M = record { answer = r; may_alloc = b } in
    IsOkAnd (o >>= λ m. done {M = M × ColumnsLeft} (m, left)).answer (λ first. IsRestRefused width size first.1 e) → ⊥
read_passes width size e (Ok m) b left further found free k = rest_passes width size left e further found free k
read_passes width size e (Err why) b left further found free k = k

module _ {M : Type 0} (fits : List Column → Fit) (parse : Row → Outcome M) (refused : Row → ColumnError ℕ → Type 0) (read : List Column → List ℕ → Outcome (M × ColumnsLeft)) (refused_in_front : List Column → List ℕ → ColumnError ℕ → Type 0)
    (law : InOnePass 0 fits parse refused read refused_in_front) (columns : List Column) (body : List ℕ) (h : AreBytes body) where
  pub as_row : (parts : List Part) → fits columns ≡ Ok tt → IsDataRow (length columns) body parts → one_pass read columns body ≡ parse (record { columns = columns; parts = parts })
  unfolding one_pass
  as_row parts fit s =
      let row : Row = record { columns = columns; parts = parts } in
      let f = frames_of_row (length columns) body parts h s in
      let all : length columns - 0 ≡ length columns = omega arith in
      let frames : AreFramesFrom row 0 f.0 = ap (λ (k : ℕ). (several one_part k f.0).answer) all ∙ f.2 in
      let r = law.as_row row f.0 fit frames in
      let free = never_allocate one_part (λ b. refl) (length columns - r.0.0) r.0.1 in
      let o : Outcome M = parse row in
      rw (f.1, r.2) (ended o.answer o.may_alloc r.0 (length columns) (WrongLength (length body)) (drop r.0.0 parts) r.1 free)

  pub of_row : (m : M) → (one_pass read columns body).answer ≡ Ok m → IsRowOf columns body
  unfolding one_pass passed_over
  of_row m e =
      let a = taken_exactly (frames_front (length columns) body) _ m e in
      let b = taken (read columns a.0) _ m a.2 in
      let n : ℕ = length columns - b.0.1.0 in
      let c = taken (passed_over n b.0.1.1) _ m b.2 in
      let d = taken (several one_part n b.0.1.1) _ c.0 c.1 in
      let t = tested (not (nat_eq (length c.0) 0)) (WrongLength (length body)) (done b.0.0) m c.2 in
      let nothing : d.0.1 ≡ [] = answer_is d.0.1 c.0 d.2 ∙ nothing_is c.0 t.0 in
      let further : (several one_part n b.0.1.1).answer ≡ Ok (d.0.0, []) = d.1 ∙ ap (λ (xs : List ℕ). let r : Result (List Part × List ℕ) (Option CodecError) = Ok (d.0.0, xs) in r) nothing in
      let p = law.of_frames columns a.0 b.0.0 b.0.1 d.0.0 b.1 further in
      let all : length columns ≡ length columns - 0 = omega arith in
      (p.0, row_of_frames (length columns) body a.0 p.0 h a.1 (ap (λ (k : ℕ). (several one_part k a.0).answer) all ∙ p.1))

  fields_refused : (parts : List Part) (e : ColumnError ℕ) (frames : List ℕ) → fits columns ≡ Ok tt → AreFramesFrom (record { columns = columns; parts = parts }) 0 frames →
      refused_in_front columns frames e ⊎ IsOkAnd (read columns frames).answer (λ first. IsRestRefused (length columns) (length body) first.1 e) → refused (record { columns = columns; parts = parts }) e
  fields_refused parts e frames fit are (inl k) = law.refused_as_row (record { columns = columns; parts = parts }) frames e fit are k
  fields_refused parts e frames fit are (inr k) =
      let row : Row = record { columns = columns; parts = parts } in
      let r = law.as_row row frames fit are in
      let free = never_allocate one_part (λ b. refl) (length columns - r.0.0) r.0.1 in
      let o : Outcome M = parse row in
      absurd (read_passes (length columns) (length body) e o.answer o.may_alloc r.0 (drop r.0.0 parts) r.1 free (subst (λ (p : Outcome (M × ColumnsLeft)). IsOkAnd p.answer (λ first. IsRestRefused (length columns) (length body) first.1 e)) r.2 k))

  pub error_as_row : (parts : List Part) (e : ColumnError ℕ) → fits columns ≡ Ok tt → IsDataRow (length columns) body parts → IsRowRefused read refused_in_front columns body e → refused (record { columns = columns; parts = parts }) e
  error_as_row parts e fit s (inl k) =
      let f = frames_of_row (length columns) body parts h s in
      absurd (let no : (let r : Parsed (List ℕ) = Ok f.0 in r) ≡ Err (codec_error e) = sym f.1 ∙ k.1 in cc)
  error_as_row parts e fit s (inr k) =
      let f = frames_of_row (length columns) body parts h s in
      let all : length columns - 0 ≡ length columns = omega arith in
      let frames : AreFramesFrom (record { columns = columns; parts = parts }) 0 f.0 = ap (λ (n : ℕ). (several one_part n f.0).answer) all ∙ f.2 in
      fields_refused parts e f.0 fit frames (subst (λ (r : Parsed (List ℕ)). IsOkAnd r (λ frames. refused_in_front columns frames e ⊎ IsOkAnd (read columns frames).answer (λ first. IsRestRefused (length columns) (length body) first.1 e))) f.1 k)

pub reads_rows : {M : Type 0} (fits : List Column → Fit) (parse : Row → Outcome M) (refused : Row → ColumnError ℕ → Type 0) (read : List Column → List ℕ → Outcome (M × ColumnsLeft)) (refused_in_front : List Column → List ℕ → ColumnError ℕ → Type 0) →
    InOnePass 0 fits parse refused read refused_in_front → ReadsRows fits parse refused read refused_in_front
unfolding ReadsRows
reads_rows fits parse refused read refused_in_front law = record {
  of_row = λ columns body m h. of_row fits parse refused read refused_in_front law columns body h m;
  as_row = λ columns parts body h. as_row fits parse refused read refused_in_front law columns body h parts;
  refused_as_row = λ columns parts body e h. error_as_row fits parse refused read refused_in_front law columns body h parts e;
}
