-- What a line asks for, computed: its words end at single spaces, and a text is all that is after its space. That a
-- line spells what is computed, that each spelled line is found, and that a line asks for one thing only, are laws
-- (Laws).
use Rattle.std.specs.Prelude.{ℕ, ◌==◌, nat_lt, Bool, false, codes, bytes_eq, List, [], ◌∷◌, Option, Some, None, Result, Ok, Err, option_map, if◌then◌else◌}
use Rattle.hex.specs.Hex.{decode_of}
use Rattle.hex.specs.declared.error.FromHexError.{FromHexError}
use Rattle.pgv_characters.specs.Characters.{space, plus_sign}
use Rattle.pgv_types.specs.declared.oid.Oid.{Oid}
use Rattle.pgv_scalar_text.specs.IntText.{unsigned_value}
use Rattle.pgv_value.specs.Text.{is_utf8}
use Rattle.pgv_session.specs.Spelled.{Request, asks, to_add, to_add_null, to_read, asks_holes, resolves, asks_wire, copies}

-- what is before the first byte of a kind, and after it where there is one
abbrev pub text_before : ℕ → List ℕ → List ℕ
text_before mark [] = []
text_before mark (c ∷ cs) = if c == mark then [] else c ∷ text_before mark cs

abbrev pub text_after : ℕ → List ℕ → Option (List ℕ)
text_after mark [] = None
text_after mark (c ∷ cs) = if c == mark then Some cs else text_after mark cs

-- the first word, which ends at a space or with the line, and what comes after the space
abbrev pub first_word : List ℕ → List ℕ
first_word line = text_before space line

abbrev pub after_word : List ℕ → Option (List ℕ)
after_word line = text_after space line

-- one more character at the front of the first word
abbrev pub at_first : ℕ → List (List ℕ) → List (List ℕ)
at_first c [] = (c ∷ []) ∷ []
at_first c (word ∷ rest) = (c ∷ word) ∷ rest

-- the words between single spaces
abbrev pub words : List ℕ → List (List ℕ)
words [] = [] ∷ []
words (c ∷ cs) = if c == space then [] ∷ words cs else at_first c (words cs)

-- ---- numbers

abbrev pub starts_with_plus : List ℕ → Bool
starts_with_plus [] = false
starts_with_plus (c ∷ cs) = c == plus_sign

abbrev pub with_first : {A : Type 0} → Option A → Option (List A) → Option (List A)
with_first None rest = None
with_first (Some x) None = None
with_first (Some x) (Some xs) = Some (x ∷ xs)

-- digits up to 4294967295
abbrev pub spelled_oid : Option ℕ → Option Oid
spelled_oid None = None
spelled_oid (Some n) = if nat_lt n 4294967296 then Some (record { 0 = n }) else None

abbrev pub oid_named : List ℕ → Option Oid
oid_named word = if is_utf8 word then (if starts_with_plus word then None else spelled_oid (unsigned_value word)) else None

-- what each word names, where each names something
abbrev pub each_named : {A : Type 0} → (List ℕ → Option A) → List (List ℕ) → Option (List A)
each_named named [] = Some []
each_named named (word ∷ rest) = with_first (named word) (each_named named rest)

abbrev pub oids_named : List (List ℕ) → Option (List Oid)
oids_named words = each_named oid_named words

-- ---- what is asked for

abbrev pub hex_bytes : Result (List ℕ) FromHexError → Option (List ℕ)
hex_bytes (Ok bytes) = Some bytes
hex_bytes (Err e) = None

-- `null`, or an even number of hex digits of either case
abbrev pub given_bytes : List ℕ → Option (Option (List ℕ))
given_bytes text = if bytes_eq text (codes "null") then Some None else option_map (λ bytes. Some bytes) (hex_bytes (decode_of text))

abbrev pub added : List ℕ → Option (List ℕ) → Option Request
added name None = None
added name (Some text) = Some (asks name (to_add text))

abbrev pub read_of : List ℕ → Option (List ℕ) → Option Request
read_of name None = None
read_of name (Some text) = option_map (λ part. asks name (to_read part)) (given_bytes text)

abbrev pub copy_request : Option (List ℕ) → Option (List ℕ) → Option Request
copy_request (Some bytes) (Some text) = Some (copies bytes (words text))
copy_request (Some bytes) None = None
copy_request None text = None

-- what comes after the first word, by that word
abbrev pub alone : Request → Option (List ℕ) → Option Request
alone r None = Some r
alone r (Some text) = None

abbrev pub add_line : Option (List ℕ) → Option Request
add_line None = None
add_line (Some text) = added (first_word text) (after_word text)

abbrev pub null_line : Option (List ℕ) → Option Request
null_line None = None
null_line (Some text) = alone (asks (first_word text) to_add_null) (after_word text)

abbrev pub resolve_line : Option (List ℕ) → Option Request
resolve_line None = Some (resolves [])
resolve_line (Some text) = option_map (λ oids. resolves oids) (oids_named (words text))

abbrev pub read_line : Option (List ℕ) → Option Request
read_line None = None
read_line (Some text) = read_of (first_word text) (after_word text)

abbrev pub copy_line : Option (List ℕ) → Option Request
copy_line None = None
copy_line (Some text) = copy_request (hex_bytes (decode_of (first_word text))) (after_word text)

abbrev pub request_by : List ℕ → Option (List ℕ) → Option Request
request_by verb rest =
    if bytes_eq verb (codes "add") then add_line rest else
    if bytes_eq verb (codes "null") then null_line rest else
    if bytes_eq verb (codes "holes") then alone asks_holes rest else
    if bytes_eq verb (codes "resolve") then resolve_line rest else
    if bytes_eq verb (codes "wire") then alone asks_wire rest else
    if bytes_eq verb (codes "read") then read_line rest else
    if bytes_eq verb (codes "copy") then copy_line rest else None

-- what a line asks for, if anything
abbrev pub request : List ℕ → Option Request
request line = request_by (first_word line) (after_word line)
