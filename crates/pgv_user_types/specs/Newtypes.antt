-- A newtype's value is read back as what it holds is.
use Rattle.std.specs.Prelude.{◌≡◌, List, Some}
use Rattle.std.proofs.Common.{ap, sym, ◌∙◌}
use Rattle.pgv_types.specs.Ty.{Ty}
use Rattle.pgv_types.specs.declared.oid.Oid.{Oid}
use Rattle.pgv_value.specs.Outcome.{Outcome, reading_of}
use Rattle.pgv_value.specs.ValueView.{Given}
use Rattle.pgv_codec.specs.Back.{ReadsBack}
use Rattle.pgv_codec.specs.Encoding.{Encoding}

pub newtype_back : {V B M : Type 0} (base : V → B) (made : B → V) (encoding : B → Encoding) (parse : Given → Outcome M) (view : B → M) (kept : B → B) (fits : B → Ty → List Oid → Type 0) →
    ((b : B) → base (made b) ≡ b) → ReadsBack encoding (reading_of parse) (λ b. view (kept b)) fits →
    ReadsBack (λ v. encoding (base v)) (reading_of parse) (λ v. view (base (made (kept (base v))))) (λ v. fits (base v))
newtype_back base made encoding parse view kept fits made_of back v i t p oids e whole small fit =
    back (base v) i t p oids e whole small fit ∙ ap (λ b. Some (view b)) (sym (made_of (kept (base v))))
