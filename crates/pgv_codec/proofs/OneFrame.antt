-- One frame.
use Rattle.std.proofs.Common.{◌≡◌, ℕ, ◌+◌, ◌≤◌, ◌<◌, Bool, false, true, nat_lt, Result, IfOk, List, [], ◌∷◌, ◌++◌, length, Ok, Err, Some, refl, sym, ◌∙◌, ap, subst, arith}
use Rattle.std.proofs.lemmas.Bool.{le-ltb, lt-ltb}
use Rattle.pgv_buf.specs.Tokens.{Token, Cell, bytes, be4, blank, width, tokens_width}
use Rattle.pgv_buf.specs.Blank.{width-blank}
use Rattle.pgv_buf.specs.Proper.{width-append}
use Rattle.pgv_value.specs.Outcome.{Outcome}
use Rattle.pgv_value.specs.declared.error.CodecError.TheVariants.{ValueSize}
use Rattle.pgv_codec.specs.Encoding.{Encoding, Image, null_image, image_of, frame, plainly, with_hint, writes}
use Rattle.pgv_codec.specs.PlainBytes.{bytes-append}
use Rattle.pgv_codec.specs.Appending.{Appended, AtOnce, Encoded}
use Rattle.pgv_codec.specs.declared.buffer.IsNull.{IsNull}
use Rattle.pgv_codec.specs.declared.buffer.IsNull.TheVariants.{Yes, No}

pub null_frame : (e : Encoding) → e.size_hint ≤ 2147483647 → e.image.answer ≡ Ok null_image → (frame e).answer ≡ Ok (bytes (be4 4294967295))
unfolding frame
null_frame e le is = let small : nat_lt 2147483647 e.size_hint ≡ false = le-ltb _ _ le in rw (small, is) refl

pub image_frame : (e : Encoding) (ts : List Token) → e.size_hint ≤ 2147483647 → e.image.answer ≡ Ok (image_of ts) → tokens_width ts ≤ 2147483647 → (frame e).answer ≡ Ok (bytes (be4 (tokens_width ts)) ++ ts)
unfolding frame
image_frame e ts le is fits =
    let small : nat_lt 2147483647 e.size_hint ≡ false = le-ltb _ _ le in
    let short : nat_lt 2147483647 (tokens_width ts) ≡ false = le-ltb _ _ fits in
    rw (small, is, short) refl

pub long_frame : (e : Encoding) (ts : List Token) → e.size_hint ≤ 2147483647 → e.image.answer ≡ Ok (image_of ts) → 2147483647 < tokens_width ts → (frame e).answer ≡ Err (Some (ValueSize (tokens_width ts)))
unfolding frame
long_frame e ts le is wide =
    let small : nat_lt 2147483647 e.size_hint ≡ false = le-ltb _ _ le in
    let long : nat_lt 2147483647 (tokens_width ts) ≡ true = lt-ltb _ _ wide in
    rw (small, is, long) refl

pub encoded_null : {n : IsNull} (o : Outcome Image) (was now : List Cell) → n ≡ Yes → Encoded n o was now → (o.answer ≡ Ok null_image) × (now ≡ was)
encoded_null {n} o was now e h = subst (λ m. Encoded m o was now) e h

pub encoded_image : {n : IsNull} (o : Outcome Image) (was now : List Cell) → n ≡ No → Encoded n o was now → (ts : List Token) × (o.answer ≡ Ok (image_of ts)) × (now ≡ was ++ blank ts)
encoded_image {n} o was now e h = subst (λ m. Encoded m o was now) e h

-- how much wider the buffer is
pub grown : (was now : List Cell) (ts : List Token) → now ≡ was ++ blank ts → width now ≡ width was + tokens_width ts
grown was now ts e = ap width e ∙ (width-append was (blank ts) ∙ ap (λ n. width was + n) (width-blank ts))

-- ---- plain bytes

pub bytes_width : (xs : List ℕ) → tokens_width (bytes xs) ≡ length xs
bytes_width [] = refl
bytes_width (x ∷ xs) = omega (arith, bytes_width xs)

pub hinted_frame : (hint : ℕ) (xs : List ℕ) → hint ≤ 2147483647 → length xs ≤ 2147483647 → (frame (with_hint hint (writes (Some (image_of (bytes xs)))))).answer ≡ Ok (bytes (be4 (length xs) ++ xs))
hinted_frame hint xs le l =
    image_frame (with_hint hint (writes (Some (image_of (bytes xs))))) (bytes xs) le refl (omega (arith, bytes_width xs, l))
    ∙ ap (λ n. Ok (bytes (be4 n) ++ bytes xs)) (bytes_width xs) ∙ ap (λ ts. Ok ts) (sym (bytes-append (be4 (length xs)) xs))

pub plain_frame : (xs : List ℕ) → length xs ≤ 2147483647 → (frame (plainly (writes (Some (image_of (bytes xs)))))).answer ≡ Ok (bytes (be4 (length xs) ++ xs))
plain_frame xs l = hinted_frame 0 xs (omega arith) l

-- what is written at once is a frame
pub at_once : {E : Type 0} (r : Result Bool E) (o frame_is : Outcome (List Token)) (was now : List Cell) → o ≡ frame_is → IfOk r (λ done. (done ≡ true) × Appended o was now) → IfOk r (λ done. AtOnce done frame_is was now)
at_once (Ok done) o frame_is was now e h = rw h.0 (subst (λ (f : Outcome (List Token)). Appended f was now) e h.1)
at_once (Err error) o frame_is was now e h = tt

pub null_at_once : {E : Type 0} (r : Result Bool E) (e : Encoding) (was now : List Cell) → e.size_hint ≤ 2147483647 → e.image.answer ≡ Ok null_image → IfOk r (λ done. (done ≡ true) × (now ≡ was ++ blank (bytes (be4 4294967295)))) →
    IfOk r (λ done. AtOnce done (frame e) was now)
null_at_once (Ok done) e was now small is h = rw h.0 (bytes (be4 4294967295), null_frame e small is, h.1)
null_at_once (Err error) e was now small is h = tt
