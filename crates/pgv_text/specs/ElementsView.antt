-- What is still to come of an array text that is read as it comes: none where it is no array text.
use Rattle.std.specs.Prelude.{◌≡◌, ◌<◌, ◌+◌, ℕ, Bool, true, false, not, ◌||◌, if◌then◌else◌, List, [], ◌∷◌, length, Option, Some, None}
use Rattle.std.specs.Option.{option_map}
use Rattle.pgv_text.specs.declared.elements.Elements.{Elements}
use Rattle.pgv_text.specs.declared.elements.Next.{Next}
use Rattle.pgv_text.specs.declared.elements.Next.TheVariants.{Element, End, Fault}
use Rattle.pgv_text.specs.declared.scanner.Place.TheVariants.{Start}
use Rattle.pgv_text.specs.ArrayText.{array_form}
use Rattle.pgv_text.specs.Copies.{as_it_is}
use Rattle.pgv_text.specs.PartFound.{part_value}
use Rattle.pgv_text.specs.Scan.{read, values_from}

abbrev pub ahead_of : Bool → List ℕ → Option (List (Option (List ℕ)))
ahead_of true bytes = Some []
ahead_of false bytes = option_map (values_from array_form bytes) (read array_form Start bytes)

abbrev pub ahead : Elements → Option (List (Option (List ℕ)))
ahead e = ahead_of e.ended e.rest.now

-- whether that is no element, and the end
abbrev pub is_end : Option (List (Option (List ℕ))) → Bool
is_end None = false
is_end (Some []) = true
is_end (Some (value ∷ values)) = false

-- whether the next element is copied: it isn't in the text as it is
abbrev pub element_copied : Elements → Bool
element_copied e = not (e.ended || as_it_is array_form e.rest.now)

-- how far the end is at most
abbrev pub distance : Elements → ℕ
distance e = if e.ended then 0 else 1 + length e.rest.now

-- what came next, with the text that it may have been put into; at the end and at a fault nothing moves on
abbrev pub Follows : Next → List ℕ → Elements → Elements → Type 0
Follows (Element part) text was now = (ahead was ≡ option_map (λ values. part_value part text ∷ values) (ahead now)) × (distance now < distance was)
Follows End text was now = (ahead was ≡ Some []) × (now ≡ was)
Follows Fault text was now = (ahead was ≡ None) × (now ≡ was)
