-- The laws of ranges in short words: what was written is read back, and where memory may be asked for.
use Rattle.std.specs.Prelude.{◌≡◌, ◌↔◌, ℕ, Bool, true, false, List, Some}
use Rattle.pgv_types.specs.Ty.{Ty}
use Rattle.pgv_types.specs.Facts.{is_custom}
use Rattle.pgv_types.specs.declared.oid.Oid.{Oid}
use Rattle.pgv_text.specs.Copies.{copies_of, none_copied}
use Rattle.pgv_text.specs.declared.scanner.TextForm.TheVariants.{Range}
use Rattle.pgv_value.specs.FrameBinary.{Part}
use Rattle.pgv_value.specs.Outcome.{Outcome}
use Rattle.pgv_value.specs.ValueView.{Given, given}
use Rattle.pgv_value.specs.declared.value.PgValueFormat.TheVariants.{Text, Binary}
use Rattle.pgv_codec.specs.Back.{FieldReadsBack}
use Rattle.pgv_codec.specs.Encoding.{Encoding, plainly}
use Rattle.pgv_range.specs.RangeBinary.{IsRangeOver}
use Rattle.pgv_range.specs.RangeFits.{range_kept}
use Rattle.pgv_range.specs.RangeGrammar.{parse_range}
use Rattle.pgv_range.specs.RangeImage.{range_image}
use Rattle.pgv_range.specs.RangeOf.{range_view}
use Rattle.pgv_range.specs.declared.range.PgRange.{PgRange}

-- a conversion gives this value and no other
abbrev pub Converts : {A B : Type 0} → (A → B → Type 0) → (A → B) → Type 0
Converts {A} {B} gives made = (from : A) (to : B) → gives from to ↔ (to ≡ made from)

-- what was written of a range that is a field of a record is read back: of the bounds' encoding, type, grammar, view
-- and what they keep, and of the ranges' type, the types under which they are read, and where they fit
abbrev pub RangeFieldComesBack : {X M : Type 0} → (X → Encoding) → Ty → (Given → Outcome M) → (X → M) → (X → X) → Ty → (Ty → Bool) → (PgRange X → Ty → List Oid → Type 0) → Type 0
RangeFieldComesBack encoding element parse view kept info accepts fits =
    FieldReadsBack info (λ r. plainly (range_image (range_view encoding r))) accepts (parse_range element parse) (λ r. range_view view (range_kept kept r)) fits

-- memory may be asked for only to copy: in binary a custom type that the range is over, in text a part that isn't
-- in it as it is
unfoldable pub TakesOnlyForCopies : {M : Type 0} → (Given → Outcome M) → Type 0
TakesOnlyForCopies parse =
    ((t u : Ty) (bytes : Part) → IsRangeOver t u → is_custom u ≡ false → (parse (given t Binary bytes)).may_alloc ≡ false)
    × ((t : Ty) (text : List ℕ) → none_copied (copies_of Range text) ≡ true → (parse (given t Text (Some text))).may_alloc ≡ false)
