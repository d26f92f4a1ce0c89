-- What the texts of dates, times and offsets are made of: fields of digits, and the fraction of a second (PostgreSQL:
-- "Date/Time Input", 8.5.1; "Date/Time Output", 8.5.2).
use Rattle.std.specs.Prelude.{◌≡◌, ℕ, ◌+◌, ◌-◌, ◌*◌, ◌/◌, ◌%◌, ◌^◌, ◌<◌, ◌≤◌, ◌⊎◌, nat_lt, ◌==◌, ◌&&◌, if◌then◌else◌, List, [], ◌∷◌, ◌++◌, map, length, Option, Some, None, option_map, option_and_then, IfSome}
use Rattle.std.specs.List.{AllByRecursion}
use Rattle.std.specs.Char.{is_ascii_digit}
use Rattle.std.specs.Int.Digits.{number_from_digits}
use Rattle.std.specs.Borrow.{Bor}
use Rattle.pgv_characters.specs.Characters.{dot, digit_zero}

-- ---- what is written

-- A number below 100 in two digits.
abbrev pub two_digits : ℕ → List ℕ
two_digits n = (digit_zero + n / 10) ∷ (digit_zero + n % 10) ∷ []

-- A number below 10000 in four digits.
abbrev pub four_digits : ℕ → List ℕ
four_digits n = two_digits (n / 100) ++ two_digits (n % 100)

-- A fraction of a second in nanoseconds: `.` and one to six digits.
pub record IsFraction (text : List ℕ) (nanos : ℕ) : Type 0 where
  pub digits : List ℕ
  pub some : 0 < length digits
  pub few : length digits ≤ 6
  pub each : AllByRecursion (λ d. d < 10) digits
  pub whole : text ≡ dot ∷ map (λ d. digit_zero + d) digits
  pub value : nanos ≡ number_from_digits 10 digits * 10 ^ (9 - length digits)

-- The same, or nothing.
abbrev pub IsFractionIfAny : List ℕ → ℕ → Type 0
IsFractionIfAny text nanos = ((text ≡ []) × (nanos ≡ 0)) ⊎ IsFraction text nanos

-- ---- what is read at the front of a text

-- A value and the text after it.
abbrev pub Front : Type 0 → Type 0
Front A = Option (A × List ℕ)

infixl 10 ◌>>=◌
abbrev pub ◌>>=◌ : {A B : Type 0} → Option A → (A → Option B) → Option B
read >>= f = option_and_then f read

-- The text after this byte.
abbrev pub after_byte : ℕ → List ℕ → Option (List ℕ)
after_byte byte [] = None
after_byte byte (first ∷ rest) = if first == byte then Some rest else None

-- Two digits.
abbrev pub two : List ℕ → Front ℕ
two (high ∷ low ∷ rest) =
    if is_ascii_digit high && is_ascii_digit low then Some ((high - digit_zero) * 10 + (low - digit_zero), rest) else None
two _ = None

-- Two digits of a number below the limit.
abbrev pub two_below : ℕ → List ℕ → Front ℕ
two_below limit text = do
  n ← two text
  if nat_lt n.0 limit then Some n else None

-- Four digits.
abbrev pub four : List ℕ → Front ℕ
four text = do
  high ← two text
  low ← two high.1
  Some (high.0 * 100 + low.0, low.1)

-- What digits are worth, the first of them this unit and each other a tenth of the one before it, down to 1; and the
-- text after them.
abbrev pub worth : ℕ → List ℕ → ℕ × List ℕ
worth unit [] = (0, [])
worth unit (c ∷ cs) =
    if nat_lt 0 unit && is_ascii_digit c then ((c - digit_zero) * unit + (worth (unit / 10) cs).0, (worth (unit / 10) cs).1) else (0, c ∷ cs)

-- A fraction of a second in nanoseconds, or 0 where the text does not begin with `.`.
abbrev pub fraction : List ℕ → Front ℕ
fraction [] = Some (0, [])
fraction (c ∷ []) = if c == dot then None else Some (0, c ∷ [])
fraction (c ∷ d ∷ cs) =
    if c == dot
    then (if is_ascii_digit d then Some ((worth 100_000 (d ∷ cs)).0 * 1000, (worth 100_000 (d ∷ cs)).1) else None)
    else Some (0, c ∷ d ∷ cs)

-- The value, where no text is left after it.
abbrev pub whole : {A : Type 0} → Front A → Option A
whole read = do
  found ← read
  if length found.1 == 0 then Some found.0 else None

-- What a function read at the front, its value seen through `view`.
abbrev pub in_front : {A B : Type 0} → (A → B) → Option (A × Bor (List ℕ)) → Front B
in_front view read = option_map (λ found. (view found.0, found.1.now)) read

-- What is read is this number and the text after it, and it is below the limit.
pub record IsFrontBelow (limit : ℕ) (number : Front ℕ) (read : Option (ℕ × Bor (List ℕ))) : Type 0 where
  pub value : in_front (λ n. n) read ≡ number
  pub below : IfSome read (λ found. found.0 < limit)

-- What is read is this number, and it is below the limit.
pub record IsBelow (limit : ℕ) (number read : Option ℕ) : Type 0 where
  pub value : read ≡ number
  pub below : IfSome read (λ n. n < limit)

-- So much the digits are worth, the first of them this unit: less than ten of it.
pub record AreWorth (unit : ℕ) (text : List ℕ) (number : ℕ) (rest : List ℕ) : Type 0 where
  pub value : (number, rest) ≡ worth unit text
  pub none : unit ≡ 0 → number ≡ 0
  pub below : 0 < unit → number < 10 * unit
