-- Whole numbers (PostgreSQL: "Numeric Types", 8.1.1; "Object Identifier Types", 8.19).
use mir.Val.{hbits}
use Rattle.std.specs.Prelude.{ℕ, ◌^◌, nat_lt, Bool, ◌||◌, if◌then◌else◌, ℤ, pos, negsuc, List, length, Ok, Err}
use Rattle.std.specs.Int.{Width}
use Rattle.byteorder.specs.Endian.{big_number, twos_complement}
use Rattle.pgv_scalar_text.specs.declared.int.NumberFault.{NumberFault}
use Rattle.pgv_scalar_text.specs.declared.int.NumberFault.TheVariants.{Syntax, OutOfRange}
use Rattle.pgv_value.specs.Parsed.{Parsed}
use Rattle.pgv_value.specs.declared.error.CodecError.{CodecError}
use Rattle.pgv_value.specs.declared.error.CodecError.TheVariants.{WrongLength, Syntax as SyntaxRefused, OutOfRange as RangeRefused}

-- whether a signed number of this width can be the number (`negsuc n` is -(n + 1))
abbrev pub fits_signed : Width → ℤ → Bool
fits_signed w (pos n) = nat_lt n (2 ^ hbits w)
fits_signed w (negsuc n) = nat_lt n (2 ^ hbits w)

-- the number, if this width has it; another is C30
abbrev pub within : Width → ℤ → Parsed ℤ
within w n = if fits_signed w n then Ok n else Err RangeRefused

-- whether there are no bytes, or more than eight
abbrev pub is_wrong_length : List ℕ → Bool
is_wrong_length bytes = nat_lt (length bytes) 1 || nat_lt 8 (length bytes)

-- one to eight bytes of two's complement, the highest first; another number of bytes is C17
abbrev pub whole_number : List ℕ → Parsed ℤ
whole_number bytes =
    if is_wrong_length bytes then Err (WrongLength (length bytes)) else Ok (twos_complement (length bytes) (big_number (length bytes) bytes))

-- the number, if 32 bits without a sign have it; another is C30
abbrev pub within_32 : ℕ → Parsed ℕ
within_32 n = if nat_lt n (2 ^ 32) then Ok n else Err RangeRefused

-- why a text is no number, as the crate of texts says it
abbrev pub refusal_of : NumberFault → CodecError
refusal_of Syntax = SyntaxRefused
refusal_of OutOfRange = RangeRefused
