-- The laws of amounts.
use Rattle.std.proofs.Common.{◌≡◌, ℕ, List, [], ◌∷◌, ◌++◌, length, Option, Some, None, refl, sym, ap, ◌∙◌, subst, arith}
use Rattle.std.proofs.lemmas.Bool.{le-ltb}
use Rattle.std.proofs.lemmas.Option.{same_Some}
use Rattle.std.specs.Prelude.{ℤ, FitsSigned, nat_lt, true, false}
use Rattle.std.specs.Int.{w64, cast_signed, cast_unsigned, from_be_bytes, to_be_bytes}
use Rattle.pgv_value.specs.Interval.{eight_bytes}
use Rattle.pgv_value.specs.FrameLaws.{AreBytes}
use Rattle.pgv_value.specs.OwnBytesLemmas.{eight_again, signed_fits}
use Rattle.pgv_more.proofs.NumericWords.{by_eight, signed_eight}
use Rattle.pgv_more.specs.MoneyCodec.{IsMoney, MoneyIsRead, money_in_binary}

-- eight bytes or more are an amount
opened : (bytes : List ℕ) → nat_lt (length bytes) 8 ≡ false → money_in_binary bytes ≡ Some (eight_bytes bytes)
opened bytes long = rw long refl

-- of fewer there is none
too_few : (bytes : List ℕ) → nat_lt (length bytes) 8 ≡ true → (amount : ℤ) → AreBytes bytes → money_in_binary bytes ≡ Some amount → IsMoney bytes amount
too_few bytes short amount small read =
    let none : money_in_binary bytes ≡ None = rw short refl in
    let wrong : (let o : Option ℤ = None in o) ≡ Some amount = sym none ∙ read in
    absurd (cc)

enough : (a b c d e f g h : ℕ) (rest : List ℕ) (amount : ℤ) → AreBytes (a ∷ b ∷ c ∷ d ∷ e ∷ f ∷ g ∷ h ∷ rest) → money_in_binary (a ∷ b ∷ c ∷ d ∷ e ∷ f ∷ g ∷ h ∷ rest) ≡ Some amount →
    IsMoney (a ∷ b ∷ c ∷ d ∷ e ∷ f ∷ g ∷ h ∷ rest) amount
enough a b c d e f g h rest amount small read =
    let s = small in
    let form = a ∷ b ∷ c ∷ d ∷ e ∷ f ∷ g ∷ h ∷ [] in
    let k = signed_eight a b c d e f g h (s.0, (s.1.0, (s.1.1.0, (s.1.1.1.0, (s.1.1.1.1.0, (s.1.1.1.1.1.0, (s.1.1.1.1.1.1.0, (s.1.1.1.1.1.1.1.0, tt)))))))) in
    let long : nat_lt (length (a ∷ b ∷ c ∷ d ∷ e ∷ f ∷ g ∷ h ∷ rest)) 8 ≡ false = le-ltb _ 8 (omega arith) in
    let n = cast_signed w64 (from_be_bytes w64 form) in
    let found : (let o : Option ℤ = Some n in o) ≡ Some amount = sym (opened (a ∷ b ∷ c ∷ d ∷ e ∷ f ∷ g ∷ h ∷ rest) long) ∙ read in
    let is : n ≡ amount = same_Some n amount found in
    (rest, ap (λ (xs : List ℕ). xs ++ rest) (sym k.1) ∙ ap (λ (m : ℤ). to_be_bytes w64 (cast_unsigned w64 m) ++ rest) is, subst (λ m. FitsSigned w64 m) is k.0)

is_money : (bytes : List ℕ) (amount : ℤ) → AreBytes bytes → money_in_binary bytes ≡ Some amount → IsMoney bytes amount
is_money = by_eight (λ bytes. (amount : ℤ) → AreBytes bytes → money_in_binary bytes ≡ Some amount → IsMoney bytes amount) too_few enough

money_there : (rest : List ℕ) (amount : ℤ) → FitsSigned w64 amount → money_in_binary (to_be_bytes w64 (cast_unsigned w64 amount) ++ rest) ≡ Some amount
money_there rest amount fits =
    let long : nat_lt (length (to_be_bytes w64 (cast_unsigned w64 amount) ++ rest)) 8 ≡ false = le-ltb _ 8 (omega arith) in
    opened (to_be_bytes w64 (cast_unsigned w64 amount) ++ rest) long ∙ ap (λ (n : ℤ). Some n) (eight_again amount (signed_fits w64 amount fits))

pub money_is_read : MoneyIsRead
unfolding MoneyIsRead
money_is_read bytes amount small = (
  λ e. is_money bytes amount small e,
  λ h. ap money_in_binary h.1 ∙ money_there h.0 amount h.2,
)
