-- How an outcome goes from step to step.
use Rattle.std.proofs.Common.{◌≡◌, ◌≢◌, Bool, true, false, cond, Option, Some, None, Result, Ok, Err, refl, sym, ap, ◌∙◌, subst, inl, inr}
use Rattle.std.specs.Prelude.{ok_or, IfErr}
use Rattle.std.proofs.lemmas.Bool.{false≢true}
use Rattle.pgv_value.specs.declared.error.CodecError.{CodecError}
use Rattle.pgv_value.specs.declared.error.CodecError.TheVariants.{Memory}
use Rattle.pgv_value.specs.Outcome.{Outcome, Fails, fails_if, stated, in_place, bind_by, ok_of, ◌>>=◌, ◌>>◌}
use Rattle.pgv_value.specs.Parsed.{Parsed, ◌>>=◌ as ◌and_then◌}

pub answer_is : {A : Type 0} (x y : A) → (let r : Result A (Option CodecError) = Ok x in r) ≡ Ok y → x ≡ y
answer_is x y e = cc

-- what an answer reads is the answer
pub answer_of : {A : Type 0} (r : Result A (Option CodecError)) (x : A) → ok_of r ≡ Some x → r ≡ Ok x
answer_of (Ok y) x e = cc
answer_of (Err why) x e = absurd cc

pub answers_are : {A B : Type 0} (a c : A) (b d : B) → (let r : Result (A × B) (Option CodecError) = Ok (a, b) in r) ≡ Ok (c, d) → (a ≡ c) × (b ≡ d)
answers_are {A} {B} a c b d e =
    let p = answer_is {A = A × B} (a, b) (c, d) e in
    (ap (λ (x : A × B). x.0) p, ap (λ (x : A × B). x.1) p)

pub ok_is : {A : Type 0} (x y : A) → (let r : Parsed A = Ok x in r) ≡ Ok y → x ≡ y
ok_is x y e = cc

-- ---- steps that never ask for memory

pub and_then_taken : {A B : Type 0} (p : Parsed A) (f : A → Parsed B) (y : B) → p and_then f ≡ Ok y → (x : A) × (p ≡ Ok x) × (f x ≡ Ok y)
and_then_taken (Ok x) f y e = (x, refl, e)
and_then_taken (Err d) f y e = absurd cc

pub held : {A : Type 0} (b : Bool) (d : CodecError) (r : Parsed A) (y : A) → cond {A = Parsed A} b r (Err d) ≡ Ok y → (b ≡ true) × (r ≡ Ok y)
held true d r y e = (refl, e)
held false d r y e = absurd cc

pub failed : {A : Type 0} (b : Bool) (d : CodecError) (r : Parsed A) (y : A) → cond {A = Parsed A} b (Err d) r ≡ Ok y → (b ≡ false) × (r ≡ Ok y)
failed true d r y e = absurd cc
failed false d r y e = (refl, e)

-- ---- what is read at the end was read step by step

module _ {A B : Type 0} where
  taken_by : (r : Result A (Option CodecError)) (b : Bool) (next : A → Outcome B) (y : B) → (bind_by r b next).answer ≡ Ok y → (x : A) × (r ≡ Ok x) × ((next x).answer ≡ Ok y)
  taken_by (Ok x) b next y e = (x, refl, e)
  taken_by (Err why) b next y e = absurd cc

  pub taken : (o : Outcome A) (next : A → Outcome B) (y : B) → (o >>= next).answer ≡ Ok y → (x : A) × (o.answer ≡ Ok x) × ((next x).answer ≡ Ok y)
  taken o next y e = taken_by o.answer o.may_alloc next y e

  pub taken_exactly : (p : Parsed A) (next : A → Outcome B) (y : B) → (in_place p >>= next).answer ≡ Ok y → (x : A) × (p ≡ Ok x) × ((next x).answer ≡ Ok y)
  taken_exactly (Ok x) next y e = (x, refl, e)
  taken_exactly (Err d) next y e = absurd cc

pub tested : {B : Type 0} (b : Bool) (e : CodecError) (o : Outcome B) (y : B) → (fails_if b e >> o).answer ≡ Ok y → (b ≡ false) × (o.answer ≡ Ok y)
tested true e o y is = absurd cc
tested false e o y is = (refl, is)

pub found_or : {A : Type 0} (o : Option A) (e : CodecError) (x : A) → (let p : Parsed A = ok_or o e in p) ≡ Ok x → o ≡ Some x
found_or None e x is = absurd cc
found_or (Some y) e x is = cc

pub stated_is : {A : Type 0} (p : Parsed A) (x : A) → stated p ≡ Ok x → p ≡ Ok x
stated_is (Ok y) x e = cc
stated_is (Err d) x e = absurd cc

-- ---- what is never asked for or answered

-- the error, if one is stated, is another than out of memory
abbrev pub IsOther : {M : Type 0} → Result M (Option CodecError) → Type 0
IsOther r = IfErr r (λ why. why ≢ Some Memory)

module _ {A B : Type 0} where
  free_by : (r : Result A (Option CodecError)) (b : Bool) (next : A → Outcome B) → b ≡ false → ((x : A) → (next x).may_alloc ≡ false) → (bind_by r b next).may_alloc ≡ false
  free_by (Ok x) b next free then_free = rw free (then_free x)
  free_by (Err why) b next free then_free = free

  pub free_then : (o : Outcome A) (next : A → Outcome B) → o.may_alloc ≡ false → ((x : A) → (next x).may_alloc ≡ false) → (o >>= next).may_alloc ≡ false
  free_then o next free then_free = free_by o.answer o.may_alloc next free then_free

  other_by : (r : Result A (Option CodecError)) (b : Bool) (next : A → Outcome B) → IsOther r → ((x : A) → IsOther (next x).answer) → IsOther (bind_by r b next).answer
  other_by (Ok x) b next other then_other = then_other x
  other_by (Err why) b next other then_other = other

  pub other_then : (o : Outcome A) (next : A → Outcome B) → IsOther o.answer → ((x : A) → IsOther (next x).answer) → IsOther (o >>= next).answer
  other_then o next other then_other = other_by o.answer o.may_alloc next other then_other

-- ---- what a caller knows of an error

module _ {M : Type 0} (o : Outcome M) where
  -- where something is read, only memory was wanting
  pub only_memory : (e : CodecError) (m : M) → o.answer ≡ Ok m → Fails e o → (e ≡ Memory) × (o.may_alloc ≡ true)
  only_memory e m is (inl h) = absurd (let no : (let r : Result M (Option CodecError) = Ok m in r) ≡ Err (Some e) = sym is ∙ h in cc)
  only_memory e m is (inr (inl h)) = absurd (let no : (let r : Result M (Option CodecError) = Ok m in r) ≡ Err None = sym is ∙ h.0 in cc)
  only_memory e m is (inr (inr h)) = h

  -- where no memory is asked for, the error is another
  pub another : (e : CodecError) → IsOther o.answer → o.may_alloc ≡ false → Fails e o → e ≢ Memory
  another e other free (inl h) is = subst IsOther h other (ap Some is)
  another e other free (inr (inl h)) is = h.1 is
  another e other free (inr (inr h)) is = false≢true (sym free ∙ h.1)

-- what is nothing that is there is not there
pub none_there : {A E : Type 0} (o : Option A) (e : E) → ((x : A) × (o ≡ Some x) → false ≡ true) → ok_or o e ≡ Err e
none_there None e h = refl
none_there (Some x) e h = absurd (false≢true (h (x, refl)))
