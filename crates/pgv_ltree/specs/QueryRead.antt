-- What is read from the texts of queries, or why nothing is.
use Rattle.std.specs.Prelude.{ℕ, nat_lt, not, ◌==◌, ◌&&◌, ◌||◌, Bool, true, false, if◌then◌else◌, List, [], ◌∷◌, length, take, drop, Option, Some, None, option_map, Result, Ok, Err, is_ok}
use Rattle.std.specs.List.{list_all, position_or_len, slice_split}
use Rattle.std.specs.Str.{all_ascii_digits}
use Rattle.std.specs.Str.Parse.{digits_value}
use Rattle.pgv_characters.specs.Characters.{exclamation_mark, percent_sign, asterisk, comma, dot, at_sign, left_brace, vertical_bar, right_brace}
use Rattle.pgv_value.specs.declared.tree_error.PgLTreeParseError.TheVariants.{InvalidLtreeLabel}
use Rattle.pgv_value.specs.declared.tree_error.PgLQueryParseError.{PgLQueryParseError}
use Rattle.pgv_value.specs.declared.tree_error.PgLQueryParseError.TheVariants.{EmptyString, UnexpectedCharacter, ParseIntError, LTreeParrseError}
use Rattle.pgv_ltree.specs.TextsInTurn.{first_is, read_each}
use Rattle.pgv_ltree.specs.Labels.{is_label}
use Rattle.pgv_ltree.specs.Queries.{Variant, Level, star, one_of, none_of}
use Rattle.pgv_ltree.specs.QueryText.{begins_with_star, has_mark, is_mark}

-- what is made of what is read
abbrev pub read_as : {A B : Type 0} → (A → B) → Result A PgLQueryParseError → Result B PgLQueryParseError
read_as make (Ok a) = Ok (make a)
read_as make (Err e) = Err e

-- ---- variants

-- the variant of a label and its modifiers
abbrev pub marked : List ℕ → List ℕ → Variant
marked label marks = record { label = label; any_end = has_mark asterisk marks; in_case = has_mark at_sign marks; sublexeme = has_mark percent_sign marks }

abbrev pub variant_of : List ℕ → List ℕ → Result Variant PgLQueryParseError
variant_of label marks = if list_all is_mark marks && is_label label then Ok (marked label marks) else Err (LTreeParrseError InvalidLtreeLabel)

-- how long a variant's label is: up to the first modifier
abbrev pub label_length : List ℕ → ℕ
label_length text = position_or_len is_mark text

abbrev pub variant_read : List ℕ → Result Variant PgLQueryParseError
variant_read text = variant_of (take (label_length text) text) (drop (label_length text) text)

abbrev pub variants_read : List ℕ → Result (List Variant) PgLQueryParseError
variants_read text = read_each variant_read (slice_split (λ c. c == vertical_bar) text)

abbrev pub is_variant_text : List ℕ → Bool
is_variant_text text = is_ok (variant_read text)

-- whether the first part is a variant
abbrev pub begins_with_variant : List ℕ → Bool
begins_with_variant text = first_is is_variant_text (slice_split (λ c. c == vertical_bar) text)

-- ---- stars

-- digits, of a number below 65536
abbrev pub is_count_text : List ℕ → Bool
is_count_text text = all_ascii_digits text && nat_lt 0 (length text) && nat_lt (digits_value 10 text) 65536

abbrev pub count_read : List ℕ → Result ℕ PgLQueryParseError
count_read text = if is_count_text text then Ok (digits_value 10 text) else Err ParseIntError

-- a number that may be missing
abbrev pub bound_read : List ℕ → Result (Option ℕ) PgLQueryParseError
bound_read [] = Ok None
bound_read (c ∷ text) = read_as (λ n. Some n) (count_read (c ∷ text))

-- the text before and after the first of a character
abbrev pub cut : ℕ → List ℕ → Option (List ℕ × List ℕ)
cut d [] = None
cut d (c ∷ text) = if c == d then Some ([], text) else option_map (λ p. (c ∷ p.0, p.1)) (cut d text)

-- the text before a last character
abbrev pub before_last : ℕ → List ℕ → Option (List ℕ)
before_last d [] = None
before_last d (c ∷ []) = if c == d then Some [] else None
before_last d (c ∷ next ∷ text) = option_map (λ front. c ∷ front) (before_last d (next ∷ text))

-- a star of two numbers, of which the one that is read first is refused first
abbrev pub star_of : Result (Option ℕ) PgLQueryParseError → Result (Option ℕ) PgLQueryParseError → Result Level PgLQueryParseError
star_of (Err e) most = Err e
star_of (Ok low) (Err e) = Err e
star_of (Ok low) (Ok high) = Ok (star low high)

abbrev pub is_nil : {A : Type 0} → List A → Bool
is_nil [] = true
is_nil (x ∷ xs) = false

-- two numbers, of which one is there; a further comma isn't one of their characters
abbrev pub between_read : List ℕ → List ℕ → Result Level PgLQueryParseError
between_read least most =
    if has_mark comma most || (is_nil least && is_nil most) then Err UnexpectedCharacter else star_of (bound_read least) (bound_read most)

-- what is between the braces
abbrev pub counts_read : List ℕ → Option (List ℕ × List ℕ) → Result Level PgLQueryParseError
counts_read inner None = read_as (λ n. star (Some n) (Some n)) (count_read inner)
counts_read inner (Some parts) = between_read parts.0 parts.1

abbrev pub inner_read : Option (List ℕ) → Result Level PgLQueryParseError
inner_read None = Err UnexpectedCharacter
inner_read (Some inner) = counts_read inner (cut comma inner)

-- what is between braces, where the text begins and ends with them
abbrev pub braced : List ℕ → Option (List ℕ)
braced [] = None
braced (c ∷ text) = if c == left_brace then before_last right_brace text else None

-- what is after the star
abbrev pub star_read : List ℕ → Result Level PgLQueryParseError
star_read [] = Ok (star None None)
star_read (c ∷ text) = inner_read (braced (c ∷ text))

-- ---- levels and queries

abbrev pub level_read : List ℕ → Result Level PgLQueryParseError
level_read [] = Err EmptyString
level_read (c ∷ text) =
    if c == asterisk then star_read text else
    if c == exclamation_mark then read_as (λ vs. none_of vs) (variants_read text) else
    read_as (λ vs. one_of vs) (variants_read (c ∷ text))

abbrev pub query_read : List ℕ → Result (List Level) PgLQueryParseError
query_read text = read_each level_read (slice_split (λ c. c == dot) text)

-- whether the text is a star, or begins with a variant: what is seen of a level before memory is asked for
abbrev pub begins_level : List ℕ → Bool
begins_level [] = false
begins_level (c ∷ text) =
    if c == asterisk then is_ok (star_read text) else
    if c == exclamation_mark then begins_with_variant text else
    begins_with_variant (c ∷ text)

-- where memory may be asked for: a text that begins with a star takes none, whether it is a star or not
abbrev pub level_allocates : List ℕ → Bool
level_allocates text = not (begins_with_star text) && begins_level text

-- whether the first part is a star, or begins with a variant
abbrev pub begins_with_level : List ℕ → Bool
begins_with_level text = first_is begins_level (slice_split (λ c. c == dot) text)
