-- What amounts of money are written as and read from (PostgreSQL: "Monetary Types", 8.2): a signed number of the
-- smallest unit of the currency, in eight bytes, the highest first. An amount is seen as that number. The first eight
-- bytes are read, in binary alone (`IsMoney`).
use Rattle.std.specs.Prelude.{◌≡◌, ◌↔◌, ℕ, ◌++◌, nat_lt, if◌then◌else◌, ℤ, FitsSigned, List, length, Option, Some, None, ok_or}
use Rattle.std.specs.Int.{w64, cast_unsigned, to_be_bytes}
use Rattle.pgv_value.specs.Interval.{eight_bytes}
use Rattle.pgv_value.specs.FrameLaws.{AreBytes}
use Rattle.pgv_value.specs.Parsed.{Parsed}
use Rattle.pgv_value.specs.ScalarGrammar.{binary_alone}
use Rattle.pgv_value.specs.ValueView.{Given}
use Rattle.pgv_value.specs.declared.error.CodecError.TheVariants.{Short}

-- the bytes begin with the form of this amount, and anything comes after it
abbrev pub IsMoney : List ℕ → ℤ → Type 0
IsMoney bytes amount = (rest : List ℕ) × (bytes ≡ to_be_bytes w64 (cast_unsigned w64 amount) ++ rest) × FitsSigned w64 amount

-- the amount that is read
abbrev pub money_in_binary : List ℕ → Option ℤ
money_in_binary bytes = if nat_lt (length bytes) 8 then None else Some (eight_bytes bytes)

-- fewer than eight bytes are C15
abbrev pub parse_money : Given → Parsed ℤ
parse_money = binary_alone (λ bytes. ok_or (money_in_binary bytes) Short)

-- an amount is read from bytes iff the bytes begin with its form
unfoldable pub MoneyIsRead : Type 0
MoneyIsRead = (bytes : List ℕ) (amount : ℤ) → AreBytes bytes → (money_in_binary bytes ≡ Some amount) ↔ IsMoney bytes amount
