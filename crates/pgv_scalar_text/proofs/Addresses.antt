-- The computed address of a text is the one that it writes, and so is the prefix of a network.
use Rattle.std.proofs.Common.{◌≡◌, ℕ, List, [], Option, Some, None, Result, Ok, Err, refl, sym, ap, ◌∙◌, subst, append-nil, lit≤, ◌+◌, ◌-◌, ◌*◌, ◌/◌, ◌%◌, ◌^◌, ◌<◌, ◌≤◌, ◌&&◌, nat_le, ◌==◌, Bool, true, ◌∷◌, length, get_or, map, decimal, arith, inl, inr}
use Rattle.std.proofs.lemmas.Option.{none-some, same_Some}
use Rattle.std.specs.Result.{result_ok}
use Rattle.std.specs.Net.Grammar.{IsDotted, IsColonHex, IsIpText, Parses}
use Rattle.std.specs.Net.Reader.{read_ipv4, read_ipv6}
use Rattle.std.specs.declared.net.ip_addr.IpAddr.{IpAddr}
use Rattle.std.specs.declared.net.ip_addr.IpAddr.TheVariants as Ip
use Rattle.std.proofs.NetLemmas.Ipv4.{read_ipv4_complete, read_ipv4_sound}
use Rattle.std.proofs.NetLemmas.Ipv6.{read_ipv6_complete, read_ipv6_sound, EndsGroups-nil, IsDotted-not_colon_hex}
use Rattle.pgv_scalar_text.specs.AddressText.{address_value, v6_or, AddressIsItsValue, prefix_value}
use Rattle.pgv_scalar_text.specs.FieldText.{whole}
use Rattle.pgv_scalar_text.proofs.DigitFields.{whole_some, digit_is, digit_there}
use Rattle.std.specs.List.{AllByRecursion}
use Rattle.std.specs.Char.{is_ascii_digit}
use Rattle.std.specs.Int.Digits.{number_from_digits}
use Rattle.std.specs.Str.Parse.{digits_value}
use Rattle.std.proofs.lemmas.Bool.{cases_lt, and_from}
use Rattle.std.proofs.lemmas.Bool.Decides.{nat_tests}
use Rattle.std.proofs.lemmas.Fmt.{decimal-digits_value}
use Rattle.std.proofs.lemmas.Str.Parse.{numerals_by_value, tells_digits}
use Rattle.std.proofs.NetLemmas.Options.{cond_some}
use Rattle.pgv_scalar_text.proofs.Fractions.{chosen}
use Rattle.pgv_scalar_text.proofs.ParsedInts.{numeral}

dotted : (text octets : List ℕ) → whole (read_ipv4 text) ≡ Some octets → IsDotted text octets
dotted text octets e =
    let (front, split, is) = read_ipv4_sound text octets [] (whole_some (read_ipv4 text) octets e) in
    subst (λ t. IsDotted t octets) (sym (split ∙ append-nil front)) is

colon_hex : (text segments : List ℕ) → whole (read_ipv6 text) ≡ Some segments → IsColonHex text segments
colon_hex text segments e =
    let (front, split, is) = read_ipv6_sound text segments [] (whole_some (read_ipv6 text) segments e) in
    subst (λ t. IsColonHex t segments) (sym (split ∙ append-nil front)) is

read_four : (text octets : List ℕ) → IsDotted text octets → whole (read_ipv4 text) ≡ Some octets
read_four text octets h = ap whole (rw append-nil at (read_ipv4_complete text octets [] h (lit≤ tt)))

read_six : (text segments : List ℕ) → IsColonHex text segments → whole (read_ipv6 text) ≡ Some segments
read_six text segments h = ap whole (rw append-nil at (read_ipv6_complete text segments [] h EndsGroups-nil))

six_at : (text segments : List ℕ) (four : Option (List ℕ)) → whole (read_ipv4 text) ≡ four → IsColonHex text segments → v6_or (Some segments) four ≡ Some (Ip.V6 (record { segments = segments }))
six_at text segments None e h = refl
six_at text segments (Some octets) e h = absurd (IsDotted-not_colon_hex text octets segments (dotted text octets e) h)

pub address_there : (text : List ℕ) (a : IpAddr) → IsIpText text a → address_value text ≡ Some a
address_there text (Ip.V4 a) h = ap (v6_or (whole (read_ipv6 text))) (read_four text a.octets h)
address_there text (Ip.V6 a) h =
    ap (λ six. v6_or six (whole (read_ipv4 text))) (read_six text a.segments h) ∙ six_at text a.segments (whole (read_ipv4 text)) refl h

by_six : (text : List ℕ) (a : IpAddr) (six : Option (List ℕ)) → whole (read_ipv6 text) ≡ six → v6_or six None ≡ Some a → IsIpText text a
by_six text a None e f = absurd (none-some a f)
by_six text a (Some segments) e f = subst (IsIpText text) (same_Some _ a f) (colon_hex text segments e)

by_four : (text : List ℕ) (a : IpAddr) (four : Option (List ℕ)) → whole (read_ipv4 text) ≡ four → v6_or (whole (read_ipv6 text)) four ≡ Some a → IsIpText text a
by_four text a None e f = by_six text a (whole (read_ipv6 text)) refl f
by_four text a (Some octets) e f = subst (IsIpText text) (same_Some _ a f) (dotted text octets e)

pub address_is : (text : List ℕ) (a : IpAddr) → address_value text ≡ Some a → IsIpText text a
address_is text a e = by_four text a (whole (read_ipv4 text)) refl e

none_at : (text : List ℕ) (found : Option IpAddr) → address_value text ≡ found → ((a : IpAddr) → ¬ (IsIpText text a)) → None ≡ found
none_at text None e h = refl
none_at text (Some a) e h = absurd (h a (address_is text a e))

-- what `parse` gives is the computed address
pub parsed_address : {E : Type 0} (text : List ℕ) (r : Result IpAddr E) → Parses IsIpText text r → result_ok r ≡ address_value text
parsed_address text (Ok a) h = sym (address_there text a h)
parsed_address text (Err e) h = none_at text (address_value text) refl h ∙ refl

pub address_is_its_value : AddressIsItsValue
address_is_its_value text address = (address_is text address, address_there text address)

-- ---- the decimal number after the address of a network

-- digits without a leading zero are what `decimal` writes of their number
spelled : (n : ℕ) (ds : List ℕ) → AllByRecursion (λ d. d < 10) ds → 0 < length ds → (get_or (map (λ d. 48 + d) ds) 0 0 ≡ 48 → length (map (λ d. 48 + d) ds) ≡ 1) → n ≡ number_from_digits 10 ds → n < 2 ^ 64 → decimal n ≡ map (λ d. 48 + d) ds
spelled n ds each some alone value small =
    let bs = map (λ d. 48 + d) ds in
    let (is, same) = numeral bs ds each some refl in
    let value_is : n ≡ digits_value 10 bs = value ∙ sym same in
    let fits : digits_value 10 bs < 2 ^ 64 = omega arith in
    ap decimal value_is ∙ decimal-digits_value (numerals_by_value _ tells_digits) bs is.1 is.0 alone fits

one_digit : (n : ℕ) → n < 10 → decimal n ≡ (48 + n) ∷ []
one_digit n h = spelled n (n ∷ []) (h, tt) (omega arith) (λ e. refl) (omega arith) (omega arith)

two_digits : (a b : ℕ) → 0 < a → a < 10 → b < 10 → decimal (a * 10 + b) ≡ (48 + a) ∷ (48 + b) ∷ []
two_digits a b some ha hb = spelled (a * 10 + b) (a ∷ b ∷ []) (ha, (hb, tt)) (omega arith) (λ e. absurd (omega arith)) (omega arith) (omega arith)

three_digits : (b c : ℕ) → b < 10 → c < 10 → decimal (100 + b * 10 + c) ≡ 49 ∷ (48 + b) ∷ (48 + c) ∷ []
three_digits b c hb hc = spelled (100 + b * 10 + c) (1 ∷ b ∷ c ∷ []) (omega arith, (hb, (hc, tt))) (omega arith) (λ e. absurd (omega arith)) (omega arith) (omega arith)

read_one : (n : ℕ) → n < 10 → prefix_value ((48 + n) ∷ []) ≡ Some n
read_one n h =
    let value : 48 + n - 48 ≡ n = omega arith in
    chosen (is_ascii_digit (48 + n)) (Some (48 + n - 48)) None (digit_there n h) ∙ ap Some value

leading : (a : ℕ) (rest : Bool) → 0 < a → a < 10 → rest ≡ true → (nat_le 49 (48 + a) && nat_le (48 + a) 57 && rest) ≡ true
leading a rest some h e = rw e (grind (arith, nat_tests))

read_two : (a b : ℕ) → 0 < a → a < 10 → b < 10 → prefix_value ((48 + a) ∷ (48 + b) ∷ []) ≡ Some (a * 10 + b)
read_two a b some ha hb =
    let value : (48 + a - 48) * 10 + (48 + b - 48) ≡ a * 10 + b = omega arith in
    chosen _ (Some ((48 + a - 48) * 10 + (48 + b - 48))) None (leading a (is_ascii_digit (48 + b)) some ha (digit_there b hb)) ∙ ap Some value

read_three : (b c : ℕ) → b < 10 → c < 10 → prefix_value (49 ∷ (48 + b) ∷ (48 + c) ∷ []) ≡ Some (100 + b * 10 + c)
read_three b c hb hc =
    let value : 100 + (48 + b - 48) * 10 + (48 + c - 48) ≡ 100 + b * 10 + c = omega arith in
    chosen _ (Some (100 + (48 + b - 48) * 10 + (48 + c - 48))) None (and_from (is_ascii_digit (48 + b)) (is_ascii_digit (48 + c)) (digit_there b hb) (digit_there c hc)) ∙ ap Some value

pub prefix_read : (n : ℕ) → n < 200 → prefix_value (decimal n) ≡ Some n
prefix_read n h =
    elim (cases_lt n 10) [
      | inl small ↦ ap prefix_value (one_digit n small) ∙ read_one n small
      | inr more ↦
          elim (cases_lt n 100) [
            | inl below ↦
                let value : n / 10 * 10 + n % 10 ≡ n = omega arith in
                ap prefix_value (ap decimal (sym value) ∙ two_digits (n / 10) (n % 10) (omega arith) (omega arith) (omega arith)) ∙ read_two (n / 10) (n % 10) (omega arith) (omega arith) (omega arith) ∙ ap Some value
            | inr above ↦
                let value : 100 + (n - 100) / 10 * 10 + (n - 100) % 10 ≡ n = omega arith in
                ap prefix_value (ap decimal (sym value) ∙ three_digits ((n - 100) / 10) ((n - 100) % 10) (omega arith) (omega arith)) ∙ read_three ((n - 100) / 10) ((n - 100) % 10) (omega arith) (omega arith) ∙ ap Some value
          ]
    ]

leads : (a : ℕ) (rest : Bool) → (nat_le 49 a && nat_le a 57 && rest) ≡ true → (49 ≤ a) × (a ≤ 57) × (rest ≡ true)
leads a rest e = (grind (arith, nat_tests), grind (arith, nat_tests), grind (arith, nat_tests))

three_parts : (a : ℕ) (x y : Bool) → (a == 49 && x && y) ≡ true → (a ≡ 49) × (x ≡ true) × (y ≡ true)
three_parts a x y e = (grind (arith, nat_tests), grind (arith, nat_tests), grind (arith, nat_tests))

from_48 : (c : ℕ) → 48 ≤ c → 48 + (c - 48) ≡ c
from_48 c h = omega arith

pub prefix_is : (text : List ℕ) (n : ℕ) → prefix_value text ≡ Some n → text ≡ decimal n
prefix_is [] n e = absurd (none-some n e)
prefix_is (a ∷ []) n e =
    let (test, value) = cond_some _ _ _ e in
    let (low, high) = digit_is a test in
    ap (λ x. x ∷ []) (sym (from_48 a low)) ∙ sym (one_digit (a - 48) (omega arith)) ∙ ap decimal value
prefix_is (a ∷ b ∷ []) n e =
    let (test, value) = cond_some _ _ _ e in
    let (a0, a1, digit) = leads a (is_ascii_digit b) test in
    let (b0, b1) = digit_is b digit in
    ap (λ x. x ∷ b ∷ []) (sym (from_48 a (omega arith))) ∙ ap (λ x. (48 + (a - 48)) ∷ x ∷ []) (sym (from_48 b b0)) ∙ sym (two_digits (a - 48) (b - 48) (omega arith) (omega arith) (omega arith)) ∙ ap decimal value
prefix_is (a ∷ b ∷ c ∷ []) n e =
    let (test, value) = cond_some _ _ _ e in
    let (one, digit_b, digit_c) = three_parts a (is_ascii_digit b) (is_ascii_digit c) test in
    let (b0, b1) = digit_is b digit_b in
    let (c0, c1) = digit_is c digit_c in
    ap (λ x. x ∷ b ∷ c ∷ []) one ∙ ap (λ x. 49 ∷ x ∷ c ∷ []) (sym (from_48 b b0)) ∙ ap (λ x. 49 ∷ (48 + (b - 48)) ∷ x ∷ []) (sym (from_48 c c0)) ∙ sym (three_digits (b - 48) (c - 48) (omega arith) (omega arith)) ∙ ap decimal value
prefix_is (a ∷ b ∷ c ∷ d ∷ text) n e = absurd (none-some n e)
