-- The laws of plain types: what they write is what they read.
use Rattle.std.specs.Prelude.{◌≡◌, ℕ, ◌^◌, nat_lt, ◌==◌, Bool, true, false, if◌then◌else◌, ℤ, List, length, Option, Some, None, Result, Ok, Err, ok_or, refl, string_bytes}
use Rattle.std.specs.Int.{Width, w8, w16, w32, w64, cast_unsigned, to_be_bytes}
use Rattle.std.specs.Str.{IsUtf8}
use Rattle.std.specs.declared.string.String.{String}
use Rattle.std.proofs.Common.{ap, ◌∙◌}
use Rattle.std.proofs.lemmas.Bool.{ltb-true, eq-eqb}
use Rattle.std.proofs.lemmas.Nat.{from_be_bytes-to_be_bytes_4}
use Rattle.std.proofs.lemmas.Option.{same_Some}
use Rattle.std.proofs.lemmas.Str.{IsUtf8-had, utf8_valid_len-IsUtf8}
use Rattle.pgv_types.specs.Ty.{Ty}
use Rattle.pgv_types.specs.declared.oid.Oid.{Oid}
use Rattle.pgv_buf.specs.Tokens.{bytes, be4}
use Rattle.pgv_value.specs.FrameBinary.{Part}
use Rattle.pgv_value.specs.IntBinary.{fits_signed, whole_number}
use Rattle.pgv_value.specs.OwnBytesLemmas.{own_byte, own_two_bytes, own_four_bytes, own_eight_bytes}
use Rattle.pgv_value.specs.Outcome.{ok_of, reading_of, stated, without_memory}
use Rattle.pgv_value.specs.Parsed.{Parsed}
use Rattle.pgv_value.specs.ReadingSteps.{number}
use Rattle.pgv_value.specs.ScalarGrammar.{parse_bool, parse_int, parse_char, parse_oid, parse_uuid}
use Rattle.pgv_value.specs.Text.{parse_text}
use Rattle.pgv_value.specs.declared.error.CodecError.{CodecError}
use Rattle.pgv_value.specs.declared.value.PgValueFormat.TheVariants.{Binary}
use Rattle.pgv_codec.specs.Back.{ReadsBack, always, image_is}
use Rattle.pgv_codec.specs.PartBackLemmas.{guarded, write-bytes}
use Rattle.pgv_codec.specs.Encoding.{Image, image_of, plainly, writes}
use Rattle.pgv_codec.specs.Writing.{written_part}
use Rattle.pgv_codec.specs.ScalarImage.{signed_image, unsigned_image, bool_image, text_image, uuid_image}

-- plain bytes are written as they are
pub part_is : (xs : List ℕ) (i : Image) (p : Option Ty) (os : List Oid) → (let o : Option Image = Some (image_of (bytes xs)) in o) ≡ Some i → written_part i p os ≡ Some xs
part_is xs i p os e = rw (← same_Some (image_of (bytes xs)) i e) (ap (λ (ys : List ℕ). let q : Part = Some ys in q) (write-bytes p os xs))

-- what is read, where something is
pub is_read : {M : Type 0} (read : Option M) (m : M) (why : Option CodecError) → read ≡ Some m → ok_of (let r : Result M (Option CodecError) = ok_or read why in r) ≡ Some m
is_read read m why e = rw e refl

-- what has a reading was parsed
pub parsed_as : {M : Type 0} (p : Parsed M) (m : M) → ok_of (stated p) ≡ Some m → p ≡ Ok m
parsed_as (Ok n) m e = cc
parsed_as (Err d) m e = absurd cc

pub bool_back : ReadsBack (λ v. plainly (writes (bool_image v))) (reading_of (without_memory parse_bool)) (λ v. v) always
bool_back true i t p os e whole small fit = rw (← same_Some _ i e) refl
bool_back false i t p os e whole small fit = rw (← same_Some _ i e) refl

-- ---- numbers

-- a number that is read from its own bytes, where it is in the range of its width
own_number : (w : Width) (v : ℤ) (b : Bool) → fits_signed w v ≡ b → (fits_signed w v ≡ true → whole_number (to_be_bytes w (cast_unsigned w v)) ≡ Ok v) →
    (i : Image) (t : Ty) (p : Option Ty) (os : List Oid) → (if b then Some (image_of (bytes (to_be_bytes w (cast_unsigned w v)))) else None) ≡ Some i → reading_of (without_memory (parse_int w)) t Binary (written_part i p os) ≡ Some v
own_number w v false room own i t p os e = absurd cc
own_number w v true room own i t p os e = rw (part_is (to_be_bytes w (cast_unsigned w v)) i p os e, own room, room) refl

pub int2_back : ReadsBack (λ v. plainly (writes (signed_image w16 v))) (reading_of (without_memory (parse_int w16))) (λ v. v) always
int2_back v i t p os e whole small fit = own_number w16 v _ refl (own_two_bytes v) i t p os (image_is (signed_image w16 v) i e)

pub int4_back : ReadsBack (λ v. plainly (writes (signed_image w32 v))) (reading_of (without_memory (parse_int w32))) (λ v. v) always
int4_back v i t p os e whole small fit = own_number w32 v _ refl (own_four_bytes v) i t p os (image_is (signed_image w32 v) i e)

pub int8_back : ReadsBack (λ v. plainly (writes (signed_image w64 v))) (reading_of (without_memory (parse_int w64))) (λ v. v) always
int8_back v i t p os e whole small fit = own_number w64 v _ refl (own_eight_bytes v) i t p os (image_is (signed_image w64 v) i e)

char_is_int : (t : Ty) (part : Part) → reading_of (without_memory parse_char) t Binary part ≡ reading_of (without_memory (parse_int w8)) t Binary part
char_is_int t None = refl
char_is_int t (Some bytes) = refl

pub char_back : ReadsBack (λ v. plainly (writes (signed_image w8 v))) (reading_of (without_memory parse_char)) (λ v. v) always
char_back v i t p os e whole small fit = char_is_int t (written_part i p os) ∙ own_number w8 v _ refl (own_byte v) i t p os (image_is (signed_image w8 v) i e)

pub oid_back : ReadsBack {A = Oid} (λ o. plainly (writes (unsigned_image w32 o.0))) (reading_of (without_memory parse_oid)) (λ o. o.0) always
unfolding number
oid_back o i t p os e whole small fit =
    let g = guarded (nat_lt o.0 (2 ^ 32)) (Some (image_of (bytes (be4 o.0)))) i (image_is (unsigned_image w32 o.0) i e) in
    rw (part_is (be4 o.0) i p os g.1) (ap (λ (n : ℕ). Some n) (from_be_bytes-to_be_bytes_4 o.0 (ltb-true o.0 (2 ^ 32) g.0)))

-- ---- texts and identifiers

pub uuid_back : ReadsBack (λ id. plainly (writes (uuid_image id))) (reading_of (without_memory parse_uuid)) (λ id. id) always
uuid_back id i t p os e whole small fit =
    let g = guarded (length id == 16) (Some (image_of (bytes id))) i (image_is (uuid_image id) i e) in
    rw (part_is id i p os g.1, g.0) refl

text_again : (text : List ℕ) (t : Ty) → IsUtf8 text → reading_of parse_text t Binary (Some text) ≡ Some text
text_again text t whole = rw (eq-eqb _ _ (utf8_valid_len-IsUtf8 text whole)) refl

pub text_back : {Z : Type 0} → ReadsBack {A = String Z} (λ s. plainly (writes (text_image (string_bytes s)))) (reading_of parse_text) (λ s. string_bytes s) always
text_back s i t p os e whole small fit =
    ap (λ (part : Part). reading_of parse_text t Binary part) (part_is (string_bytes s) i p os (image_is (text_image (string_bytes s)) i e)) ∙ text_again (string_bytes s) t (IsUtf8-had (string_bytes s) s.ok)
