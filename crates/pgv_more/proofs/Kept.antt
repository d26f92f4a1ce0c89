-- Bits as they are kept: bytes, and the number of bits.
use Rattle.std.proofs.Common.{◌≡◌, ℕ, suc, zero, ◌+◌, ◌-◌, ◌*◌, ◌/◌, ◌%◌, ◌^◌, ◌<◌, ◌≤◌, Bool, false, List, [], ◌∷◌, ◌++◌, length, get_or, take, drop, refl, sym, ap, ◌∙◌, eqb, subst, arith, Ok, true}
use Rattle.std.proofs.lemmas.List.{length-take-le, take_all, take_min, drop_min, take-append-drop, take_at, take_more, drop_more, get_or-take, get_or_read, length-append, length-drop, length_push, take-append-le, drop-append-le, drop_at, set_at, get_or_at, append-nil, take-map, drop-map, length-map}
use Rattle.std.proofs.Math.Seq.{take-append-add}
use Rattle.std.proofs.Math.ListN.{set}
use lib.Bits.{bit_and}
use Rattle.std.specs.Bool.{Decides}
use Rattle.std.specs.Cmp.{booleans_Decides, unsigned_Decides}
use Rattle.std.specs.Cmp.Lexicographic.{pointwise}
use Rattle.std.proofs.lemmas.Bool.Decides.{same_from_decides}
use Rattle.std.proofs.lemmas.Slice.Eq.{slice_eq-Decides}
use Rattle.pgv_more.specs.SameBits.{same_bits}
use Rattle.std.specs.Int.{div_ceil, bit_at}
use Rattle.std.proofs.lemmas.Nat.Bits.{shr_and_one}
use Rattle.pgv_more.proofs.BitsOfByte.{bit_there}
use Rattle.std.specs.Prelude.{map, min, Option, Some, slice_get, option_to_list, IsSome, nat_lt, ◌↔◌}
use Rattle.std.proofs.lemmas.Option.{slice_get-get_or}
use Rattle.pgv_more.specs.Bits.{low_bits, bits_of, number_of, byte_count, bytes_of, packed}
use Rattle.pgv_more.specs.PackingLemmas.{length-bits_of, length-bytes_of, packed_again, bytes_of-append, bytes_of-split, bytes_of-bits_of, number_of-take, AreByteNumbers, length-low_bits, bits_of-append}
use Rattle.std.proofs.lemmas.Bool.{le-ltb}
use Rattle.pgv_buf.specs.Tokens.{Token, Cell, bytes, be4, blank}
use Rattle.pgv_codec.specs.Encoding.{image_of}
use Rattle.pgv_codec.specs.PlainBytes.{appended_parts}
use Rattle.pgv_more.specs.BitsBinary.{bits_image}

pub kept_count : (bytes : List ℕ) (n : ℕ) → n ≤ 8 * length bytes → length (take n (bits_of bytes)) ≡ n
kept_count bytes n l = length-take-le n (bits_of bytes) (omega (arith, length-bits_of bytes))

pub kept_bytes : (bytes : List ℕ) (n : ℕ) → n ≤ 8 * length bytes → bytes ≡ packed (take n (bits_of bytes)) → length bytes ≡ byte_count n
kept_bytes bytes n l e =
    ap length e ∙ length-bytes_of (byte_count (length (take n (bits_of bytes)))) (take n (bits_of bytes)) ∙ ap byte_count (kept_count bytes n l)

-- the bytes of bits, and their number, show these bits
pub shows : (bytes : List ℕ) (n : ℕ) (bits : List Bool) → bytes ≡ packed bits → n ≡ length bits → take n (bits_of bytes) ≡ bits
shows bytes n bits e f = rw (e, f) (packed_again bits)

pub closes : (bytes : List ℕ) (n : ℕ) (bits : List Bool) → bytes ≡ packed bits → n ≡ length bits → (n ≤ 8 * length bytes) × (bytes ≡ packed (take n (bits_of bytes)))
closes bytes n bits e f =
    let long : length bytes ≡ byte_count (length bits) = ap length e ∙ length-bytes_of (byte_count (length bits)) bits in
    (omega arith, e ∙ ap packed (sym (shows bytes n bits e f)))

one_byte : (bits : List Bool) → bytes_of 1 bits ≡ number_of 8 bits ∷ []
unfolding bytes_of
one_byte bits = refl

next_byte : (n : ℕ) (bits : List Bool) → bytes_of (suc n) bits ≡ number_of 8 bits ∷ bytes_of n (drop 8 bits)
unfolding bytes_of
next_byte n bits = refl

first_of : (byte : ℕ) (after : List ℕ) (c : ℕ) → c ≤ 8 → take c (bits_of (byte ∷ after)) ≡ take c (low_bits 8 byte)
unfolding bits_of
first_of byte after c l = take-append-le c (low_bits 8 byte) (bits_of after) (omega (arith, length-low_bits 8 byte))

-- bits that fill m bytes, and one byte of those after them
in_front : (m : ℕ) (bits more : List Bool) → 8 * m ≤ length bits → bytes_of (m + 1) (bits ++ more) ≡ bytes_of m bits ++ number_of 8 (drop (8 * m) (bits ++ more)) ∷ []
in_front m bits more l =
    rw (bytes_of-split m 1 (bits ++ more), bytes_of-append m bits more l, one_byte (drop (8 * m) (bits ++ more))) refl

-- ---- one more bit

pub pushed_new : (m : ℕ) (bits : List Bool) (bit : Bool) → length bits ≡ 8 * m → packed (bits ++ bit ∷ []) ≡ packed bits ++ number_of 8 (bit ∷ []) ∷ []
pushed_new m bits bit e =
    let count : byte_count (length (bits ++ bit ∷ [])) ≡ m + 1 = omega (arith, length_push bits bit) in
    let before : byte_count (length bits) ≡ m = omega arith in
    rw (count, before, in_front m bits (bit ∷ []) (omega arith), drop_at bits (bit ∷ []) (8 * m) e) refl

-- the last byte is that of the bits that fill no byte
last_of : (m : ℕ) (bits : List Bool) → 8 * m < length bits → length bits ≤ 8 * m + 8 → packed bits ≡ bytes_of m bits ++ number_of 8 (drop (8 * m) bits) ∷ []
last_of m bits l h =
    let count : byte_count (length bits) ≡ m + 1 = omega arith in
    rw (count, bytes_of-split m 1 bits, one_byte (drop (8 * m) bits)) refl

pub last_byte : (m : ℕ) (bits : List Bool) (d : ℕ) → 8 * m < length bits → length bits ≤ 8 * m + 8 → get_or (packed bits) m d ≡ number_of 8 (drop (8 * m) bits)
last_byte m bits d l h = rw (last_of m bits l h) (get_or_at (bytes_of m bits) (number_of 8 (drop (8 * m) bits)) [] d m (length-bytes_of m bits))

pub pushed_in : (m : ℕ) (bits : List Bool) (bit : Bool) → 8 * m < length bits → length bits < 8 * m + 8 →
    packed (bits ++ bit ∷ []) ≡ set (packed bits) m (number_of 8 (drop (8 * m) bits ++ bit ∷ []))
pushed_in m bits bit l h =
    let count : byte_count (length (bits ++ bit ∷ [])) ≡ m + 1 = omega (arith, length_push bits bit) in
    rw (last_of m bits l (omega arith), set_at (bytes_of m bits) (number_of 8 (drop (8 * m) bits)) [] (number_of 8 (drop (8 * m) bits ++ bit ∷ [])) m (length-bytes_of m bits), count, in_front m bits (bit ∷ []) (omega arith), drop-append-le (8 * m) bits (bit ∷ []) (omega arith)) refl

-- ---- eight bits more

pub packs_next : (rest : List Bool) → 0 < length rest → packed rest ≡ number_of 8 rest ∷ packed (drop 8 rest)
packs_next rest l =
    let count : byte_count (length rest) ≡ suc (byte_count (length (drop 8 rest))) = omega (arith, length-drop 8 rest) in
    rw count (next_byte (byte_count (length (drop 8 rest))) rest)

-- ---- the first bits of bytes

-- whole bytes, and then some bits of the next
cut_is : (front after : List ℕ) (byte c m : ℕ) → length front ≡ m → AreByteNumbers front → c ≤ 8 → 0 < c →
    packed (take (8 * m + c) (bits_of (front ++ byte ∷ after))) ≡ front ++ number_of 8 (take c (low_bits 8 byte)) ∷ []
cut_is front after byte c m e small l some =
    let long : length (bits_of front) ≡ 8 * m = length-bits_of front ∙ ap (λ (n : ℕ). 8 * n) e in
    let front_bits : take (8 * m + c) (bits_of (front ++ byte ∷ after)) ≡ bits_of front ++ take c (low_bits 8 byte) =
    ap (take (8 * m + c)) (bits_of-append front (byte ∷ after)) ∙ ap (λ (n : ℕ). take (n + c) (bits_of front ++ bits_of (byte ∷ after))) (sym long) ∙ take-append-add (bits_of front) (bits_of (byte ∷ after)) c ∙ ap (λ (bs : List Bool). bits_of front ++ bs) (first_of byte after c l) in
    let size : length (take c (low_bits 8 byte)) ≡ c = length-take-le c (low_bits 8 byte) (omega (arith, length-low_bits 8 byte)) in
    let count : byte_count (length (bits_of front ++ take c (low_bits 8 byte))) ≡ m + 1 = omega (arith, length-append (bits_of front) (take c (low_bits 8 byte))) in
    let whole : bytes_of m (bits_of front) ≡ front = ap (λ (n : ℕ). bytes_of n (bits_of front)) (sym e) ∙ ap (bytes_of (length front)) (sym (append-nil (bits_of front))) ∙ bytes_of-bits_of front [] small in
    rw (front_bits, count, in_front m (bits_of front) (take c (low_bits 8 byte)) (omega arith), drop_at (bits_of front) (take c (low_bits 8 byte)) (8 * m) long, whole) refl

small_front : (front after : List ℕ) → AreByteNumbers (front ++ after) → AreByteNumbers front
small_front [] after small i = omega arith
small_front (byte ∷ front) after small zero = small 0
small_front (byte ∷ front) after small (suc i) = small_front front after (λ j. small (suc j)) i

cut_all : (front after : List ℕ) (m : ℕ) → length front ≡ m → AreByteNumbers front → packed (take (8 * m) (bits_of (front ++ after))) ≡ front
cut_all front after m e small =
    let long : length (bits_of front) ≡ 8 * m = length-bits_of front ∙ ap (λ (n : ℕ). 8 * n) e in
    let front_bits : take (8 * m) (bits_of (front ++ after)) ≡ bits_of front = ap (take (8 * m)) (bits_of-append front after) ∙ take_at (bits_of front) (bits_of after) (8 * m) long in
    let count : byte_count (length (bits_of front)) ≡ length front = omega arith in
    rw (front_bits, count, ← append-nil (bits_of front)) (bytes_of-bits_of front [] small)

-- what the type of a list of bytes says
pub small_items : (bytes : List ℕ) → ((i d : ℕ) → i < length bytes → get_or bytes i d < 256) → AreByteNumbers bytes
small_items [] small i = omega arith
small_items (byte ∷ bytes) small zero = small 0 0 (omega arith)
small_items (byte ∷ bytes) small (suc i) = small_items bytes (λ j d l. small (suc j) d (omega arith)) i

pub cut_whole : (bytes : List ℕ) (n : ℕ) → n ≤ 8 * length bytes → AreByteNumbers (take (div_ceil n 8) bytes) → n % 8 ≡ 0 → take (div_ceil n 8) bytes ≡ packed (take n (bits_of bytes))
cut_whole bytes n l small e =
    let count : div_ceil n 8 ≡ n / 8 = omega arith in
    let whole : n ≡ 8 * (n / 8) = omega arith in
    let parts : take (n / 8) bytes ++ drop (n / 8) bytes ≡ bytes = take-append-drop (n / 8) bytes in
    let small_front : AreByteNumbers (take (n / 8) bytes) = subst (λ (k : ℕ). AreByteNumbers (take k bytes)) count small in
    let all = cut_all (take (n / 8) bytes) (drop (n / 8) bytes) (n / 8) (length-take-le (n / 8) bytes (omega arith)) small_front in
    ap (λ (k : ℕ). take k bytes) count ∙ sym (ap (λ (k : ℕ). packed (take k (bits_of bytes))) whole ∙ ap (λ (bs : List ℕ). packed (take (8 * (n / 8)) (bits_of bs))) (sym parts) ∙ all)

pub cut_part : (bytes : List ℕ) (n byte d cut : ℕ) → n ≤ 8 * length bytes → AreByteNumbers (set (take (div_ceil n 8) bytes) (n / 8) cut) → 0 < n % 8 →
    byte ≡ get_or (take (div_ceil n 8) bytes) (n / 8) d → cut ≡ number_of 8 (take (n % 8) (low_bits 8 byte)) →
    set (take (div_ceil n 8) bytes) (n / 8) cut ≡ packed (take n (bits_of bytes))
cut_part bytes n byte d cut l small some is e =
    let count : div_ceil n 8 ≡ n / 8 + 1 = omega arith in
    let parted : n ≡ 8 * (n / 8) + n % 8 = omega arith in
    let found : byte ≡ get_or bytes (n / 8) d = is ∙ get_or-take (div_ceil n 8) bytes (n / 8) d (omega arith) in
    let parts : take (n / 8) bytes ++ byte ∷ drop (n / 8 + 1) bytes ≡ bytes = ap (λ (b : ℕ). take (n / 8) bytes ++ b ∷ drop (n / 8 + 1) bytes) found ∙ ap (λ (bs : List ℕ). take (n / 8) bytes ++ bs) (sym (drop_more bytes (n / 8) d (omega arith))) ∙ take-append-drop (n / 8) bytes in
    let long : length (take (n / 8) bytes) ≡ n / 8 = length-take-le (n / 8) bytes (omega arith) in
    let front : take (div_ceil n 8) bytes ≡ take (n / 8) bytes ++ byte ∷ [] = ap (λ (k : ℕ). take k bytes) count ∙ take_more bytes (n / 8) d (omega arith) ∙ ap (λ (b : ℕ). take (n / 8) bytes ++ b ∷ []) (sym found) in
    let now : set (take (div_ceil n 8) bytes) (n / 8) cut ≡ take (n / 8) bytes ++ cut ∷ [] = ap (λ (bs : List ℕ). set bs (n / 8) cut) front ∙ set_at (take (n / 8) bytes) byte [] cut (n / 8) long in
    let all = cut_is (take (n / 8) bytes) (drop (n / 8 + 1) bytes) byte (n % 8) (n / 8) long (small_front (take (n / 8) bytes) (cut ∷ []) (subst AreByteNumbers now small)) (omega arith) some in
    now ∙ ap (λ (b : ℕ). take (n / 8) bytes ++ b ∷ []) e ∙
    sym (ap (λ (k : ℕ). packed (take k (bits_of bytes))) parted ∙ ap (λ (bs : List ℕ). packed (take (8 * (n / 8) + n % 8) (bits_of bs))) (sym parts) ∙ all)

pub no_bytes : packed [] ≡ []
unfolding bytes_of
no_bytes = refl

-- all bits of bytes
pub whole_bytes : (bytes : List ℕ) → AreByteNumbers bytes → bytes ≡ packed (bits_of bytes)
whole_bytes bytes small =
    let count : byte_count (length (bits_of bytes)) ≡ length bytes = omega (arith, length-bits_of bytes) in
    sym (ap (λ (n : ℕ). bytes_of n (bits_of bytes)) count ∙ ap (bytes_of (length bytes)) (sym (append-nil (bits_of bytes))) ∙ bytes_of-bits_of bytes [] small)

-- the next eight bits, or all where there are fewer
pub packs_part : (rest : List Bool) (mid : ℕ) → 0 < length rest → mid ≡ min (length rest) 8 → packed rest ≡ number_of 8 (take mid rest) ∷ packed (drop mid rest)
packs_part rest mid l e =
    let same : min 8 (length rest) ≡ mid = omega arith in
    let front : take mid rest ≡ take 8 rest = ap (λ (n : ℕ). take n rest) (sym same) ∙ take_min 8 rest in
    let after : drop mid rest ≡ drop 8 rest = ap (λ (n : ℕ). drop n rest) (sym same) ∙ drop_min 8 rest in
    rw (front, after, number_of-take 8 rest) (packs_next rest l)

pub packs_chunk : {A : Type 0} (set : A → Bool) (rest chunk after : List A) → rest ≡ chunk ++ after → length chunk ≡ min 8 (length rest) → 0 < length rest →
    packed (map set rest) ≡ number_of 8 (map set chunk) ∷ packed (map set after)
packs_chunk set rest chunk after parts size some =
    rw (packs_part (map set rest) (length chunk) (omega (arith, length-map rest set)) (omega (arith, length-map rest set)), take-map set (length chunk) rest, drop-map set (length chunk) rest, parts, take_at chunk after (length chunk) refl, drop_at chunk after (length chunk) refl) refl

-- the last bit, taken off
pub popped : (bits : List Bool) (last : ℕ) (o : Option Bool) → length bits ≡ last + 1 → o ≡ slice_get bits last → bits ≡ take last bits ++ option_to_list o
popped bits last o l e =
    let there : o ≡ Some (get_or bits last false) = e ∙ slice_get-get_or bits last false (omega arith) in
    rw there (sym (take_all (last + 1) bits (omega arith)) ∙ take_more bits last false (omega arith))

pub some_last : (bits : List Bool) (last : ℕ) (o : Option Bool) → length bits ≡ last + 1 → o ≡ slice_get bits last → (IsSome o → 0 < length bits) × (0 < length bits → IsSome o)
some_last bits last o l e =
    let there : o ≡ Some (get_or bits last false) = e ∙ slice_get-get_or bits last false (omega arith) in
    (λ _. omega arith, λ _. rw there refl)

-- the bit at a place
pub bit_read : (bytes : List ℕ) (n i byte : ℕ) (bits : List Bool) → n ≤ 8 * length bytes → i < n → take n (bits_of bytes) ≡ bits → byte ≡ get_or bytes (i / 8) byte →
    Some (eqb (bit_and (byte / 2 ^ (7 - i % 8)) 1) 1) ≡ slice_get bits i
bit_read bytes n i byte bits room l e is =
    let whole : 8 * (i / 8) + i % 8 ≡ i = omega arith in
    let long : length bits ≡ n = ap length (sym e) ∙ kept_count bytes n room in
    let there : get_or (bits_of bytes) (8 * (i / 8) + i % 8) false ≡ eqb (bit_at (get_or bytes (i / 8) 0) (7 - i % 8)) 1 = bit_there bytes (i / 8) (i % 8) false (omega arith) (omega arith) in
    let found : get_or bits i false ≡ eqb (bit_at (get_or bytes (i / 8) 0) (7 - i % 8)) 1 =
    ap (λ (bs : List Bool). get_or bs i false) (sym e) ∙ get_or-take n (bits_of bytes) i false l ∙ ap (λ (j : ℕ). get_or (bits_of bytes) j false) (sym whole) ∙ there in
    let same : byte ≡ get_or bytes (i / 8) 0 = get_or_read bytes (i / 8) byte (omega arith) is 0 in
    let read : bit_and (byte / 2 ^ (7 - i % 8)) 1 ≡ bit_at (get_or bytes (i / 8) 0) (7 - i % 8) = shr_and_one byte (7 - i % 8) ∙ ap (λ (x : ℕ). bit_at x (7 - i % 8)) same in
    ap (λ (x : ℕ). Some (eqb x 1)) read ∙ ap (λ (b : Bool). Some b) (sym found) ∙ sym (slice_get-get_or bits i false (omega arith))

pub part_left : (left bytes : List ℕ) (n byte d cut : ℕ) → left ≡ take (div_ceil n 8) bytes → n ≤ 8 * length bytes → AreByteNumbers (set left (n / 8) cut) → 0 < n % 8 →
    byte ≡ get_or left (n / 8) d → cut ≡ number_of 8 (take (n % 8) (low_bits 8 byte)) → set left (n / 8) cut ≡ packed (take n (bits_of bytes))
part_left left bytes n byte d cut e l small some is same =
    subst (λ (xs : List ℕ). AreByteNumbers (set xs (n / 8) cut) → byte ≡ get_or xs (n / 8) d → set xs (n / 8) cut ≡ packed (take n (bits_of bytes))) (sym e)
    (λ s i. cut_part bytes n byte d cut l s some i same) small is

pub whole_left : (left bytes : List ℕ) (n : ℕ) → left ≡ take (div_ceil n 8) bytes → n ≤ 8 * length bytes → AreByteNumbers left → n % 8 ≡ 0 → left ≡ packed (take n (bits_of bytes))
whole_left left bytes n e l small none = e ∙ cut_whole bytes n l (subst AreByteNumbers e small) none

-- ---- equality

alike : (ones others : List Bool) (r : Bool) → Decides r (ones ≡ others) → r ≡ same_bits ones others
alike ones others r d = same_from_decides r (same_bits ones others) d (slice_eq-Decides booleans_Decides ones others (same_bits ones others) refl)

-- as many bits are the same where their bytes are
pub same_by_bytes : (xs ys : List ℕ) (n : ℕ) (ones others : List Bool) (r : Bool) → take n (bits_of xs) ≡ ones → take n (bits_of ys) ≡ others →
    xs ≡ packed (take n (bits_of xs)) → ys ≡ packed (take n (bits_of ys)) → r ≡ pointwise eqb xs ys → r ≡ same_bits ones others
same_by_bytes xs ys n ones others r a b kept kept' e =
    let bytes = slice_eq-Decides unsigned_Decides xs ys r e in
    alike ones others r (
      λ h. sym a ∙ ap (λ (zs : List ℕ). take n (bits_of zs)) (bytes.0 h) ∙ b,
      λ h. bytes.1 (kept ∙ ap packed (a ∙ h ∙ sym b) ∙ sym kept'),
    )

-- another number of bits
pub other_by_count : (m n : ℕ) (ones others : List Bool) → length ones ≡ m → length others ≡ n → (m ≡ n → ⊥) → eqb m n ≡ same_bits ones others
other_by_count m n ones others a b not =
    alike ones others (eqb m n) (
      λ h. absurd (not ((unsigned_Decides m n).0 h)),
      λ h. absurd (not (sym a ∙ ap length h ∙ b)),
    )

-- ---- what lists of bits are written as

-- the number and the bytes, appended one after the other
pub written_bits : (was between now : List Cell) (number body : List ℕ) (bits : List Bool) → length bits ≤ 2147483647 → number ≡ be4 (length bits) → body ≡ packed bits →
    between ≡ was ++ blank (bytes number) → now ≡ between ++ blank (bytes body) → (ts : List Token) × ((bits_image bits).answer ≡ Ok (image_of ts)) × (now ≡ was ++ blank ts)
written_bits was between now number body bits few n b first second =
    let test : nat_lt 2147483647 (length bits) ≡ false = le-ltb 2147483647 (length bits) few in
    (bytes (number ++ body), rw (test, n, b) refl, appended_parts was between now number body first second)

-- ---- equal lists

pub equal_bits : (a b : List Bool) → (same_bits a b ≡ true) ↔ (a ≡ b)
equal_bits a b = slice_eq-Decides booleans_Decides a b (same_bits a b) refl
