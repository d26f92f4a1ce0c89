-- Null (PostgreSQL: "Message Formats", DataRow). It is read by `Option` (as None) and by `()` alone.
use Rattle.std.specs.Prelude.{◌≡◌, Bool, false, Option, Some, None, Result, Ok, Err, is_none, if◌then◌else◌, ⊤, refl}
use Rattle.pgv_value.specs.Outcome.{Outcome, done, fails, ◌>>=◌}
use Rattle.pgv_value.specs.ValueView.{Given}
use Rattle.pgv_value.specs.declared.error.CodecError.{CodecError}
use Rattle.pgv_value.specs.declared.error.CodecError.TheVariants.{UnexpectedNull}

-- what may be null: null is None, and anything else is what the type reads
abbrev pub nullable : {M : Type 0} → (Given → Outcome M) → Given → Outcome (Option M)
nullable parse v = if is_none v.bytes then done None else (parse v >>= λ m. done (Some m))

-- anything is read as the same, null too, and without memory
abbrev pub anything : Given → Outcome ⊤
anything v = done tt

abbrev pub IsOfNullBy : {M : Type 0} → Result M (Option CodecError) → Bool → Type 0
IsOfNullBy (Ok m) may_alloc = ⊤
IsOfNullBy (Err why) may_alloc = (why ≡ Some UnexpectedNull) × (may_alloc ≡ false)

-- what an outcome of null is: something is read, or it is refused with C13 and without memory
abbrev pub IsOfNull : {M : Type 0} → Outcome M → Type 0
IsOfNull o = IsOfNullBy o.answer o.may_alloc

pub refused_null : {M : Type 0} (o : Outcome M) → o ≡ fails UnexpectedNull → IsOfNull o
refused_null o e = rw e (refl, refl)
