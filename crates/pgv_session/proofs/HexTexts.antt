-- Texts that are bytes in hex, or null.
use Rattle.std.proofs.Common.{◌≡◌, ◌∙◌, sym, ap, subst, ℕ, Bool, true, false, List, [], ◌∷◌, refl, arith, Option, Some, None, Result, Ok, Err}
use Rattle.std.specs.Prelude.{codes, bytes_eq, option_map}
use Rattle.std.proofs.lemmas.Slice.Eq.{bytes_eq-Decides}
use Rattle.std.proofs.lemmas.Option.{same_Some}
use Rattle.hex.specs.Hex.{decode_of}
use Rattle.hex.specs.declared.error.FromHexError.{FromHexError}
use Rattle.hex.proofs.HexLemmas.{decode_of-ok, decode_of-even}
use Rattle.pgv_more.specs.ByteaText.{ArePairs}
use Rattle.pgv_more.specs.MacAddressText.{IsHexDigit}
use Rattle.pgv_more.proofs.LawsOfBytea.{pairs_are, pairs_there}
use Rattle.pgv_session.specs.Lines.{hex_bytes, given_bytes}
use Rattle.pgv_session.specs.Spelled.{IsName, SpellsPart}
use Rattle.pgv_session.proofs.SplitLines.{word_or}

-- `null` is no hex
no_digit : (v : ℕ) → IsHexDigit 110 v → ⊥
no_digit v h = omega (arith, h)

null_is_none : (bytes : List ℕ) → ArePairs bytes (codes "null") → ⊥
null_is_none [] s = cc
null_is_none (byte ∷ bytes) s =
    let first : s.0 ≡ 110 = cc (s.3) in
    no_digit s.4.0 (subst (λ (c : ℕ). IsHexDigit c s.4.0) first s.4.2)

pub hex_is : (text bytes : List ℕ) → decode_of text ≡ Ok bytes → ArePairs bytes text
hex_is text bytes e = pairs_are 0 text bytes (sym (decode_of-even text (decode_of-ok text bytes e).0) ∙ e)

pub hex_given : (text bytes : List ℕ) → ArePairs bytes text → decode_of text ≡ Ok bytes
hex_given text bytes s = let k = pairs_there 0 text bytes s in decode_of-even text k.1 ∙ k.0

no_space : (c v : ℕ) → IsHexDigit c v → c ≡ 32 → ⊥
no_space c v h e = omega (arith, h, e)

-- hex has no space
pub hex_is_name : (bytes text : List ℕ) → ArePairs bytes text → IsName text
hex_is_name [] text s = subst IsName (sym s) tt
hex_is_name (byte ∷ bytes) text s = subst IsName (sym s.3) (no_space s.0 s.4.0 s.4.2, (no_space s.1 s.4.1 s.4.3, hex_is_name bytes s.2 s.5))

decoded_part : (text : List ℕ) (part : Option (List ℕ)) (decoded : Result (List ℕ) FromHexError) → decode_of text ≡ decoded → option_map (λ bytes. Some bytes) (hex_bytes decoded) ≡ Some part → SpellsPart part text
decoded_part text part (Ok bytes) e h = subst (λ (p : Option (List ℕ)). SpellsPart p text) (same_Some {A = Option (List ℕ)} (Some bytes) part h) (hex_is text bytes e)
decoded_part text part (Err x) e h = absurd cc

pub part_is : (text : List ℕ) (part : Option (List ℕ)) → given_bytes text ≡ Some part → SpellsPart part text
part_is text part h =
    word_or text (codes "null") (Some None) (option_map (λ bytes. Some bytes) (hex_bytes (decode_of text))) part
    (λ e s. subst (λ (p : Option (List ℕ)). SpellsPart p text) (same_Some {A = Option (List ℕ)} None part s) e)
    (λ s. decoded_part text part (decode_of text) refl s) h

given_hex : (text bytes : List ℕ) (null : Bool) → bytes_eq text (codes "null") ≡ null → ArePairs bytes text → given_bytes text ≡ Some (Some bytes)
given_hex text bytes true e s = absurd (null_is_none bytes (subst (λ (t : List ℕ). ArePairs bytes t) ((bytes_eq-Decides text (codes "null")).0 e) s))
given_hex text bytes false e s = rw e (ap (λ (r : Result (List ℕ) FromHexError). option_map (λ bytes. Some bytes) (hex_bytes r)) (hex_given text bytes s))

pub part_given : (text : List ℕ) (part : Option (List ℕ)) → SpellsPart part text → given_bytes text ≡ Some part
part_given text None h = ap given_bytes h
part_given text (Some bytes) s = given_hex text bytes (bytes_eq text (codes "null")) refl s
