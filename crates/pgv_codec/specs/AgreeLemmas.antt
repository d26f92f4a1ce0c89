-- Values of one view are written alike, where each of their parts is: the lemmas for what is made of others. A decoder
-- states what is written of a view (`written`). In a `Codec` it is what an encoder says of the value, so what is
-- written depends on what a value says alone.
use Rattle.std.specs.Prelude.{◌≡◌, ℕ, List, [], ◌∷◌, map, refl}
use Rattle.std.proofs.Common.{ap}
use Rattle.pgv_types.specs.Ty.{Ty}
use Rattle.pgv_buf.specs.Tokens.{Token}
use Rattle.pgv_value.specs.Outcome.{Outcome}
use Rattle.pgv_codec.specs.Encoding.{Encoding, field, plainly, array_image, sized_image}

module _ {X M : Type 0} (encoding : X → Encoding) (view : X → M) (written : M → Encoding) (agrees : (x : X) → encoding x ≡ written (view x)) where
  pub all_agree : (xs : List X) → map encoding xs ≡ map written (map view xs)
  all_agree [] = refl
  all_agree (x ∷ xs) = rw (all_agree xs, agrees x) refl

  pub array_agrees : (info : Ty) (xs : List X) → plainly (array_image info (map encoding xs)) ≡ plainly (array_image info (map written (map view xs)))
  array_agrees info xs = ap (λ es. plainly (array_image info es)) (all_agree xs)

  pub sized_agrees : (n : ℕ) (info : Ty) (xs : List X) → plainly (sized_image n info (map encoding xs)) ≡ plainly (sized_image n info (map written (map view xs)))
  sized_agrees n info xs = ap (λ es. plainly (sized_image n info es)) (all_agree xs)

pub last_agrees : {a b : Encoding} (info : Ty) → a ≡ b → field info a ∷ [] ≡ field info b ∷ []
last_agrees info same = ap (λ e. field info e ∷ []) same

pub further_agrees : {a b : Encoding} {fs gs : List (Outcome (List Token))} (info : Ty) → a ≡ b → fs ≡ gs → field info a ∷ fs ≡ field info b ∷ gs
further_agrees info first rest = rw (first, rest) refl
