-- How an outcome fails: at a step, or after one that was taken.
use Rattle.std.proofs.Common.{◌≡◌, Bool, true, false, ◌||◌, Option, Result, Ok, Err, refl, inl, inr}
use Rattle.pgv_value.specs.Outcome.{Outcome, Fails, Gives, bind_by, lent_value, ◌>>=◌}
use Rattle.pgv_value.specs.ValueView.{Given}
use Rattle.pgv_value.specs.declared.error.CodecError.{CodecError}
use Rattle.pgv_codec.specs.Lent.{lent}

module _ {A B : Type 0} (o : Outcome A) (next : A → Outcome B) where
  -- memory that may be asked for stays so
  alloc_here : o.may_alloc ≡ true → (o >>= next).may_alloc ≡ true
  alloc_here is = by o.answer o.may_alloc is
    where
      by : (r : Result A (Option CodecError)) (b : Bool) → b ≡ true → (bind_by r b next).may_alloc ≡ true
      by (Ok x) b is = rw is refl
      by (Err why) b is = is

  -- a step that fails fails them all
  pub fails_here : (e : CodecError) → Fails e o → Fails e (o >>= next)
  fails_here e (inl h) = inl (rw h refl)
  fails_here e (inr (inl h)) = inr (inl (rw h.0 refl, h.1))
  fails_here e (inr (inr h)) = inr (inr (h.0, alloc_here h.1))

  -- so does one after a step that is taken
  or_true : (a b : Bool) → b ≡ true → a || b ≡ true
  or_true true b is = refl
  or_true false b is = is

  pub fails_then : (x : A) (e : CodecError) → o.answer ≡ Ok x → Fails e (next x) → Fails e (o >>= next)
  fails_then x e is (inl h) = inl (rw is h)
  fails_then x e is (inr (inl h)) = inr (inl (rw is h.0, h.1))
  fails_then x e is (inr (inr h)) = inr (inr (h.0, rw is (or_true o.may_alloc (next x).may_alloc h.1)))

-- ---- values that are read where they lie

module _ {V M : Type 0} (view : V → M) (parse : Given → Outcome M) (v : Given) where
  -- what is read of a value itself is read of its copy
  pub read_of_copy : (r : Result V CodecError) → Gives view (parse v) r → Gives view (lent parse v) r
  read_of_copy (Ok x) h = h
  read_of_copy (Err e) h = fails_then (lent_value v) parse v e refl h
