-- The body of an error or a notice is read as fields exactly where it is these fields; and how a loop reads them.
use Rattle.std.proofs.Common.{◌≡◌, ℕ, zero, suc, ◌≤◌, Bool, true, false, nat_eq, List, [], ◌∷◌, ◌++◌, length, Ok, Err, Result, refl, sym, ap, ◌∙◌, subst, append_assoc, append-nil, arith, length-append}
use Rattle.std.specs.Prelude.{◌==◌, flat_map, if◌then◌else◌}
use Rattle.std.specs.List.{AllByRecursion}
use Rattle.std.proofs.lemmas.Bool.{eqb-true}
use Rattle.pgv_value.specs.declared.error.CodecError.{CodecError}
use Rattle.pgv_value.specs.declared.error.CodecError.TheVariants.{Short, WrongLength}
use Rattle.pgv_value.specs.Fronts.{name_front}
use Rattle.pgv_value.specs.Outcome.{Gives, GivesWhole}
use Rattle.pgv_value.specs.Parsed.{Parsed, ◌>>=◌}
use Rattle.pgv_value.proofs.ReadFronts.{name_there, name_is}
use Rattle.pgv_value.proofs.Outcomes.{only_memory, ok_is, stated_is}
use Rattle.pgv_value.specs.Outcome.{stated}
use Rattle.pgv_message.specs.Bodies.{whole_body}
use Rattle.pgv_message.specs.Notice.{Field, notice_field_bytes, IsNoticeField, IsNotice, fields_in, notice_fields, notice, NoticeIsRead}

abbrev pub Fields : Type 0
Fields = Parsed (List Field × List ℕ)

-- ---- steps

abbrev with_first : Field → Fields → Fields
with_first f r = r >>= λ more. Ok (f ∷ more.0, more.1)

pub zero_ends : (n : ℕ) (code : ℕ) (rest : List ℕ) → (code == 0) ≡ true → fields_in n (code ∷ rest) ≡ Ok ([], rest)
unfolding fields_in
zero_ends zero code rest e = rw e refl
zero_ends (suc n) code rest e = rw e refl

field_next : (n : ℕ) (code : ℕ) (rest after : List ℕ) (text : List ℕ) → (code == 0) ≡ false → name_front rest ≡ Ok (text, after) → fields_in (suc n) (code ∷ rest) ≡ with_first (record { code = code; text = text }) (fields_in n after)
unfolding fields_in
field_next n code rest after text e found = rw (e, found) refl

field_missing : (n : ℕ) (code : ℕ) (rest : List ℕ) (d : CodecError) → (code == 0) ≡ false → name_front rest ≡ Err d → fields_in (suc n) (code ∷ rest) ≡ Err d
unfolding fields_in
field_missing n code rest d e missing = rw (e, missing) refl

none_there : (n : ℕ) → fields_in n [] ≡ Err Short
unfolding fields_in
none_there zero = refl
none_there (suc n) = refl

-- ---- fields are read

pub fields_there : (n : ℕ) (fields : List Field) (rest : List ℕ) → length fields ≤ n → AllByRecursion IsNoticeField fields → fields_in n (flat_map notice_field_bytes fields ++ 0 ∷ rest) ≡ Ok (fields, rest)
fields_there n [] rest le each = zero_ends n 0 rest refl
fields_there zero (f ∷ fields) rest le each = absurd (omega arith)
fields_there (suc n) (f ∷ fields) rest le each =
    let later : List ℕ = flat_map notice_field_bytes fields ++ 0 ∷ rest in
    let fewer : length fields ≤ n = omega (arith, le) in
    let regrouped : ((f.text ++ 0 ∷ []) ++ flat_map notice_field_bytes fields) ++ 0 ∷ rest ≡ f.text ++ 0 ∷ later =
    append_assoc (f.text ++ 0 ∷ []) (flat_map notice_field_bytes fields) (0 ∷ rest) ∙ append_assoc f.text (0 ∷ []) later in
    ap (λ (xs : List ℕ). fields_in (suc n) (f.code ∷ xs)) regrouped
    ∙ field_next n f.code (f.text ++ 0 ∷ later) later f.text each.0.code (name_there f.text later each.0.none each.0.text)
    ∙ ap (with_first f) (fields_there n fields rest fewer each.1)

fields_fit : (fields : List Field) → length fields ≤ length (flat_map notice_field_bytes fields)
fields_fit [] = omega arith
fields_fit (f ∷ fields) = omega (arith, fields_fit fields, length-append (f.text ++ 0 ∷ []) (flat_map notice_field_bytes fields))

read_by : (bytes : List ℕ) (fields : List Field) → fields_in (length bytes) bytes ≡ Ok (fields, []) → notice_fields bytes ≡ Ok fields
unfolding notice_fields
read_by bytes fields found = rw found refl

is_read : (bytes : List ℕ) (fields : List Field) → IsNotice bytes fields → notice_fields bytes ≡ Ok fields
is_read bytes fields s =
    let fit : length fields ≤ length bytes = omega (arith, fields_fit fields, ap length s.whole, length-append (flat_map notice_field_bytes fields) (0 ∷ [])) in
    read_by bytes fields (ap (λ (xs : List ℕ). fields_in (length bytes) xs) s.whole ∙ fields_there (length bytes) fields [] fit s.each)

-- ---- what is read are fields

pub record AreFields (bytes : List ℕ) (fields : List Field) (rest : List ℕ) : Type 0 where
  pub whole : bytes ≡ flat_map notice_field_bytes fields ++ 0 ∷ rest
  pub each : AllByRecursion IsNoticeField fields

step_is : {A B : Type 0} (r : Parsed A) (next : A → Parsed B) (y : B) → r >>= next ≡ Ok y → (x : A) × (r ≡ Ok x) × (next x ≡ Ok y)
step_is (Ok x) next y e = (x, refl, e)
step_is (Err d) next y e = absurd cc

zero_is : (code : ℕ) (rest : List ℕ) (fields : List Field) (left : List ℕ) → (code == 0) ≡ true → (let r : Fields = Ok ([], rest) in r) ≡ Ok (fields, left) → AreFields (code ∷ rest) fields left
zero_is code rest fields left z e =
    let code_is : code ≡ 0 = eqb-true code 0 z in
    subst (λ (p : List Field × List ℕ). AreFields (code ∷ rest) p.0 p.1) (ok_is {A = List Field × List ℕ} ([], rest) (fields, left) e) (record { whole = ap (λ (c : ℕ). c ∷ rest) code_is; each = tt })

by_zero : (b : Bool) (code : ℕ) (more : List ℕ) (fields : List Field) (rest : List ℕ) → (code == 0) ≡ b → (let r : Fields = if b then Ok ([], more) else Err Short in r) ≡ Ok (fields, rest) → AreFields (code ∷ more) fields rest
by_zero true code more fields rest z e = zero_is code more fields rest z e
by_zero false code more fields rest z e = absurd cc

by_next : (b : Bool) (n code : ℕ) (more : List ℕ) (fields : List Field) (rest : List ℕ) → (code == 0) ≡ b →
    (let r : Fields = if b then Ok ([], more) else name_front more >>= λ text. with_first (record { code = code; text = text.0 }) (fields_in n text.1) in r) ≡ Ok (fields, rest) →
    ((after : List ℕ) (fs : List Field) (left : List ℕ) → fields_in n after ≡ Ok (fs, left) → AreFields after fs left) → AreFields (code ∷ more) fields rest
by_next true n code more fields rest z e again = zero_is code more fields rest z e
by_next false n code more fields rest z e again =
    let t = step_is (name_front more) (λ (text : List ℕ × List ℕ). with_first (record { code = code; text = text.0 }) (fields_in n text.1)) (fields, rest) e in
    let f : Field = record { code = code; text = t.0.0 } in
    let m = step_is (fields_in n t.0.1) (λ (more : List Field × List ℕ). let r : Fields = Ok (f ∷ more.0, more.1) in r) (fields, rest) t.2 in
    let name = name_is more t.0.0 t.0.1 t.1 in
    let a = again t.0.1 m.0.0 m.0.1 m.1 in
    let later : List ℕ = flat_map notice_field_bytes m.0.0 ++ 0 ∷ m.0.1 in
    let regrouped : ((f.text ++ 0 ∷ []) ++ flat_map notice_field_bytes m.0.0) ++ 0 ∷ m.0.1 ≡ f.text ++ 0 ∷ later =
    append_assoc (f.text ++ 0 ∷ []) (flat_map notice_field_bytes m.0.0) (0 ∷ m.0.1) ∙ append_assoc f.text (0 ∷ []) later in
    let whole : code ∷ more ≡ flat_map notice_field_bytes (f ∷ m.0.0) ++ 0 ∷ m.0.1 =
    ap (λ (xs : List ℕ). code ∷ xs) (name.whole ∙ ap (λ (xs : List ℕ). t.0.0 ++ 0 ∷ xs) a.whole ∙ sym regrouped) in
    subst (λ (p : List Field × List ℕ). AreFields (code ∷ more) p.0 p.1) (ok_is {A = List Field × List ℕ} (f ∷ m.0.0, m.0.1) (fields, rest) m.2)
    (record { whole = whole; each = (record { code = z; none = name.none; text = name.text }, a.each) })

pub fields_are : (n : ℕ) (bytes : List ℕ) (fields : List Field) (rest : List ℕ) → fields_in n bytes ≡ Ok (fields, rest) → AreFields bytes fields rest
unfolding fields_in
fields_are zero [] fields rest e = absurd cc
fields_are (suc n) [] fields rest e = absurd cc
fields_are zero (code ∷ more) fields rest e = by_zero (code == 0) code more fields rest refl e
fields_are (suc n) (code ∷ more) fields rest e = by_next (code == 0) n code more fields rest refl e (fields_are n)

ended_is : (b : Bool) (d : CodecError) (x y : List Field) → (let r : Parsed (List Field) = if b then Ok x else Err d in r) ≡ Ok y → (b ≡ true) × (x ≡ y)
ended_is true d x y e = (refl, ok_is {A = List Field} x y e)
ended_is false d x y e = absurd cc

nothing_left : (rest : List ℕ) → nat_eq (length rest) 0 ≡ true → rest ≡ []
nothing_left [] e = refl
nothing_left (x ∷ rest) e = let none : suc (length rest) ≡ 0 = eqb-true (suc (length rest)) 0 e in absurd (omega arith)

is_notice : (bytes : List ℕ) (fields : List Field) → notice_fields bytes ≡ Ok fields → IsNotice bytes fields
unfolding notice_fields
is_notice bytes fields e =
    let a = step_is (fields_in (length bytes) bytes) (λ (list : List Field × List ℕ). whole_body bytes list.0 list.1) fields e in
    let t = ended_is (nat_eq (length a.0.1) 0) (WrongLength (length bytes)) a.0.0 fields a.2 in
    let k = fields_are (length bytes) bytes a.0.0 a.0.1 a.1 in
    subst (IsNotice bytes) t.1 (record { whole = k.whole ∙ ap (λ (xs : List ℕ). flat_map notice_field_bytes a.0.0 ++ 0 ∷ xs) (nothing_left a.0.1 t.0); each = k.each })

pub notice_is_read : NoticeIsRead
unfolding NoticeIsRead
notice_is_read bytes fields = (is_notice bytes fields, is_read bytes fields)

-- ---- as a reader answers

module _ {V : Type 0} (view : V → List Field) (bytes : List ℕ) where
  pub reads_fields : (result : Result V CodecError) → Gives view (notice bytes) result → GivesWhole view (notice bytes) (IsNotice bytes) result
  reads_fields (Ok v) gives =
      let found = stated_is (notice_fields bytes) (view v) gives in
      (gives, (is_notice bytes (view v) found, λ fields s. ok_is {A = List Field} (view v) fields (sym found ∙ is_read bytes fields s)))
  reads_fields (Err e) gives = (gives, λ fields s. (only_memory (notice bytes) e fields (ap stated (is_read bytes fields s)) gives).0)

-- ---- as a loop reads them

-- what was read before, and what is still read
abbrev pub continued : List Field → Fields → Fields
continued before r = r >>= λ more. Ok (before ++ more.0, more.1)

one_more : (before : List Field) (f : Field) (r : Fields) → continued (before ++ f ∷ []) r ≡ continued before (with_first f r)
one_more before f (Ok x) = ap (λ (fs : List Field). let r : Fields = Ok (fs, x.1) in r) (append_assoc before (f ∷ []) x.0)
one_more before f (Err e) = refl

module _ (before : List Field) (n : ℕ) (bytes : List ℕ) (total : Fields) where
  pub is_done : (code : ℕ) (rest : List ℕ) → bytes ≡ code ∷ rest → (code == 0) ≡ true → continued before (fields_in n bytes) ≡ total → total ≡ Ok (before, rest)
  is_done code rest is z e =
      sym e ∙ ap (λ (xs : List ℕ). continued before (fields_in n xs)) is ∙ ap (continued before) (zero_ends n code rest z)
      ∙ ap (λ (fs : List Field). let r : Fields = Ok (fs, rest) in r) (append-nil before)

  pub goes_on : (code m : ℕ) (rest after text : List ℕ) → bytes ≡ code ∷ rest → (code == 0) ≡ false → n ≡ suc m → name_front rest ≡ Ok (text, after) → continued before (fields_in n bytes) ≡ total →
      continued (before ++ record { code = code; text = text } ∷ []) (fields_in m after) ≡ total
  goes_on code m rest after text is z n_is found e =
      one_more before (record { code = code; text = text }) (fields_in m after)
      ∙ ap (continued before) (sym (field_next m code rest after text z found))
      ∙ ap (λ (k : ℕ). continued before (fields_in k (code ∷ rest))) (sym n_is)
      ∙ ap (λ (xs : List ℕ). continued before (fields_in n xs)) (sym is)
      ∙ e

  pub ends : (code m : ℕ) (rest : List ℕ) (d : CodecError) → bytes ≡ code ∷ rest → (code == 0) ≡ false → n ≡ suc m → name_front rest ≡ Err d → continued before (fields_in n bytes) ≡ total → total ≡ Err d
  ends code m rest d is z n_is missing e =
      sym e ∙ ap (λ (xs : List ℕ). continued before (fields_in n xs)) is ∙ ap (λ (k : ℕ). continued before (fields_in k (code ∷ rest))) n_is
      ∙ ap (continued before) (field_missing m code rest d z missing)

  pub runs_out : bytes ≡ [] → continued before (fields_in n bytes) ≡ total → total ≡ Err Short
  runs_out is e = sym e ∙ ap (λ (xs : List ℕ). continued before (fields_in n xs)) is ∙ ap (continued before) (none_there n)

pub empty_is : (xs : List ℕ) → length xs ≡ 0 → xs ≡ []
empty_is [] e = refl
empty_is (x ∷ xs) e = absurd (omega (arith, e))
