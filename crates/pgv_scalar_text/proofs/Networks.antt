-- The computed network of a text is the one that it writes.
use Rattle.std.proofs.Common.{◌≡◌, ◌≢◌, ℕ, ◌+◌, ◌<◌, ◌≤◌, ◌==◌, Bool, true, false, List, [], ◌∷◌, ◌++◌, length, drop, Some, option_map, decimal, refl, sym, ap, ◌∙◌, subst, arith, inl, inr, cond, ne_eqb, eqb-true, eq-eqb, leb-true, le-leb, append-nil, append_assoc, length-append, take_at, drop_at}
use Rattle.std.specs.Prelude.{codes, not}
use Rattle.std.specs.List.{AllByRecursion, position_or_len, before_first, after_first}
use Rattle.std.specs.Char.{digit_value}
use Rattle.std.specs.Str.Parse.{AllDigits}
use Rattle.std.specs.Net.Grammar.{IsDotted, IsGroupsAfter, IsColonHex, IsIpText}
use Rattle.std.specs.declared.net.ip_addr.IpAddr.{IpAddr}
use Rattle.std.specs.declared.net.ip_addr.IpAddr.TheVariants as Ip
use Rattle.std.proofs.lemmas.Fmt.{decimal_is_IsNumeral}
use Rattle.std.proofs.lemmas.List.Sums.{split_at_first, passes_at_first, prefix_len-le-length}
use Rattle.std.proofs.lemmas.Bool.{false≢true}
use Rattle.std.proofs.Props.{props}
use mathlib.Core.HLevel.{is_prop→PathP}
use Rattle.std.specs.declared.net.ipv4_addr.Ipv4Addr.{Ipv4Addr}
use Rattle.std.specs.declared.net.ipv6_addr.Ipv6Addr.{Ipv6Addr}
use Rattle.std.proofs.NetLemmas.Options.{cond_some, and_then_some, map_some}
use Rattle.pgv_scalar_text.specs.AddressText.{full_prefix, IsPrefixText, address_value, prefix_value}
use Rattle.pgv_scalar_text.specs.NetworkText.{Network, network_of, network_value, IsNetworkText, NetworkIsItsValue, OneNetwork}
use Rattle.pgv_scalar_text.specs.declared.network.Ipv4Network.{Ipv4Network}
use Rattle.pgv_scalar_text.specs.declared.network.Ipv6Network.{Ipv6Network}
use Rattle.pgv_scalar_text.specs.declared.network.IpNetwork.{IpNetwork}
use Rattle.pgv_scalar_text.specs.declared.network.IpNetwork.TheVariants as Versions
use Rattle.pgv_scalar_text.proofs.Addresses.{address_is, address_there, prefix_is, prefix_read}
use Rattle.pgv_scalar_text.proofs.DigitFields.{then_read}
use Rattle.pgv_scalar_text.proofs.Computed.{computed_by, one_by}
use Rattle.pgv_scalar_text.proofs.Fractions.{chosen, refused}

-- No `/`, which is 47, is in the text of an address.
abbrev Slashless : List ℕ → Type 0
Slashless = AllByRecursion (λ c. c ≢ 47)

joined : (xs ys : List ℕ) → Slashless xs → Slashless ys → Slashless (xs ++ ys)
joined [] ys h k = k
joined (x ∷ xs) ys h k = (h.0, joined xs ys h.1 k)

digits_only : (radix : ℕ) (ds : List ℕ) → radix ≤ 16 → AllDigits radix ds → Slashless ds
digits_only radix [] few h = tt
digits_only radix (c ∷ cs) few h = (other c (omega (arith, h.0)), digits_only radix cs few h.1)
  where
    other : (c : ℕ) → digit_value c < 16 → c ≢ 47
    other c small slash =
        let big : digit_value 47 < 16 = rw slash at small in
        omega arith

decimal_only : (n : ℕ) → n < 256 → Slashless (decimal n)
decimal_only n h = digits_only 10 (decimal n) (omega arith) (decimal_is_IsNumeral n (omega arith)).0.1

before_slash : (n : ℕ) → n < 47 → n ≢ 47
before_slash n h e = omega arith

after_slash : (n : ℕ) → 47 < n → n ≢ 47
after_slash n h e = omega arith

dot : Slashless (codes ".")
dot = (before_slash 46 (omega arith), tt)

colon : Slashless (codes ":")
colon = (after_slash 58 (omega arith), tt)

dotted : (text octets : List ℕ) → IsDotted text octets → Slashless text
dotted text octets h =
    let (a, b, c, d) = h.fit in
    let first = joined (decimal h.a) (codes ".") (decimal_only h.a a) dot in
    let second = joined (decimal h.a ++ codes "." ++ decimal h.b) (codes ".") (joined (decimal h.a ++ codes ".") (decimal h.b) first (decimal_only h.b b)) dot in
    let third = joined (decimal h.a ++ codes "." ++ decimal h.b ++ codes "." ++ decimal h.c) (codes ".") (joined (decimal h.a ++ codes "." ++ decimal h.b ++ codes ".") (decimal h.c) second (decimal_only h.c c)) dot in
    subst Slashless (sym h.spelled) (joined (decimal h.a ++ codes "." ++ decimal h.b ++ codes "." ++ decimal h.c ++ codes ".") (decimal h.d) third (decimal_only h.d d))

groups : (ipv4 : Bool) (lead text segments : List ℕ) → Slashless lead → IsGroupsAfter ipv4 lead text segments → Slashless text
groups ipv4 lead text [] l h = subst Slashless (sym h) tt
groups ipv4 lead text (s ∷ segments) l (inl (group, rest, split, is, more)) =
    subst Slashless (sym split) (joined (lead ++ group) rest (joined lead group l (digits_only 16 group (omega arith) is.0.0.1)) (groups ipv4 (codes ":") rest segments colon more))
groups ipv4 lead text (s ∷ segments) l (inr (last, octets, allowed, split, is, same)) =
    subst Slashless (sym split) (joined lead last l (dotted last octets is))

colon_hex : (text segments : List ℕ) → IsColonHex text segments → Slashless text
colon_hex text segments (inl all) = groups true [] text segments tt all.0
colon_hex text segments (inr h) =
    let front = joined h.head_text (codes "::") (groups false [] h.head_text h.head tt h.head_groups) (after_slash 58 (omega arith), (after_slash 58 (omega arith), tt)) in
    subst Slashless (sym h.spelled) (joined (h.head_text ++ codes "::") h.tail_text front (groups true [] h.tail_text h.tail tt h.tail_groups))

slashless : (text : List ℕ) (a : IpAddr) → IsIpText text a → Slashless text
slashless text (Ip.V4 a) h = dotted text a.octets h
slashless text (Ip.V6 a) h = colon_hex text a.segments h

-- ---- where the first slash is

no_slash : (xs : List ℕ) → Slashless xs → position_or_len (λ c. c == 47) xs ≡ length xs
no_slash [] h = refl
no_slash (x ∷ xs) h =
    let e : length (x ∷ xs) ≡ 1 + length xs = omega arith in
    ap (λ b. cond (not b) (1 + position_or_len (λ c. c == 47) xs) 0) (ne_eqb x 47 h.0) ∙ ap (λ n. 1 + n) (no_slash xs h.1) ∙ sym e

first_slash : (xs ys : List ℕ) → Slashless xs → position_or_len (λ c. c == 47) (xs ++ 47 ∷ ys) ≡ length xs
first_slash [] ys h = refl
first_slash (x ∷ xs) ys h =
    let e : length (x ∷ xs) ≡ 1 + length xs = omega arith in
    ap (λ b. cond (not b) (1 + position_or_len (λ c. c == 47) (xs ++ 47 ∷ ys)) 0) (ne_eqb x 47 h.0) ∙ ap (λ n. 1 + n) (first_slash xs ys h.1) ∙ sym e

front_is : (xs ys : List ℕ) → Slashless xs → before_first (λ c. c == 47) (xs ++ 47 ∷ ys) ≡ xs
front_is xs ys h = take_at xs (47 ∷ ys) (position_or_len (λ c. c == 47) (xs ++ 47 ∷ ys)) (sym (first_slash xs ys h))

rest_is : (xs ys : List ℕ) → Slashless xs → after_first (λ c. c == 47) (xs ++ 47 ∷ ys) ≡ ys
rest_is xs ys h =
    let e : length (xs ++ 47 ∷ []) ≡ position_or_len (λ c. c == 47) (xs ++ 47 ∷ ys) + 1 = length-append xs (47 ∷ []) ∙ ap (λ n. n + 1) (sym (first_slash xs ys h)) in
    ap (drop (position_or_len (λ c. c == 47) (xs ++ 47 ∷ ys) + 1)) (sym (append_assoc xs (47 ∷ []) ys)) ∙ drop_at (xs ++ 47 ∷ []) ys _ e

slash_test : (xs ys : List ℕ) → Slashless xs → (position_or_len (λ c. c == 47) (xs ++ 47 ∷ ys) == length (xs ++ 47 ∷ ys)) ≡ false
slash_test xs ys h =
    let e = first_slash xs ys h in
    let f = length-append xs (47 ∷ ys) in
    ne_eqb _ _ (λ g. omega (arith, e, f, g))

-- ---- networks

same_four : (a b : Ipv4Network) → a.ip ≡ b.ip → a.prefix ≡ b.prefix → a ≡ b
same_four a b e f = λ i. record {
  ip = e i;
  prefix = f i;
  prefix_in = is_prop→PathP (λ j. f j ≤ 32) (λ j. hlevel props) a.prefix_in b.prefix_in i;
}

same_six : (a b : Ipv6Network) → a.ip ≡ b.ip → a.prefix ≡ b.prefix → a ≡ b
same_six a b e f = λ i. record {
  ip = e i;
  prefix = f i;
  prefix_in = is_prop→PathP (λ j. f j ≤ 128) (λ j. hlevel props) a.prefix_in b.prefix_in i;
}

four_same : (a b : Ipv4Addr) → Ip.V4 a ≡ Ip.V4 b → a ≡ b
four_same a b e = cc

six_same : (a b : Ipv6Addr) → Ip.V6 a ≡ Ip.V6 b → a ≡ b
six_same a b e = cc

same_network : (a b : IpNetwork) → network_of a ≡ network_of b → a ≡ b
same_network (Versions.V4 a) (Versions.V4 b) e = ap Versions.V4 (same_four a b (four_same a.ip b.ip (ap (λ n. n.address) e)) (ap (λ n. n.prefix) e))
same_network (Versions.V4 a) (Versions.V6 b) e =
    let f : Ip.V4 a.ip ≡ Ip.V6 b.ip = ap (λ n. n.address) e in
    absurd (cc)
same_network (Versions.V6 a) (Versions.V4 b) e =
    let f : Ip.V6 a.ip ≡ Ip.V4 b.ip = ap (λ n. n.address) e in
    absurd (cc)
same_network (Versions.V6 a) (Versions.V6 b) e = ap Versions.V6 (same_six a b (six_same a.ip b.ip (ap (λ n. n.address) e)) (ap (λ n. n.prefix) e))

network_at : (address : IpAddr) (prefix : ℕ) → prefix ≤ full_prefix address → (a : IpNetwork) × (network_of a ≡ record { address = address; prefix = prefix })
network_at (Ip.V4 ip) prefix h = (Versions.V4 (record { ip = ip; prefix = prefix; prefix_in = h }), refl)
network_at (Ip.V6 ip) prefix h = (Versions.V6 (record { ip = ip; prefix = prefix; prefix_in = h }), refl)

full_small : (address : IpAddr) → full_prefix address ≤ 128
full_small (Ip.V4 ip) = omega arith
full_small (Ip.V6 ip) = omega arith

abbrev with_prefix : IpAddr → ℕ → Network
with_prefix address prefix = record { address = address; prefix = prefix }

abbrev with_full : IpAddr → Network
with_full address = with_prefix address (full_prefix address)

is_at : (text prefix_text address_text : List ℕ) (address : IpAddr) (prefix : ℕ) → prefix ≤ full_prefix address → text ≡ address_text ++ prefix_text → IsIpText address_text address → IsPrefixText prefix_text address prefix → (a : IpNetwork) × IsNetworkText text a × (network_of a ≡ record { address = address; prefix = prefix })
is_at text prefix_text address_text address prefix fits split is is_prefix =
    let (a, same) = network_at address prefix fits in
    (a, (address_text, prefix_text, split, subst (IsIpText address_text) (sym (ap (λ n. n.address) same)) is, subst (λ n. IsPrefixText prefix_text n.address n.prefix) (sym same) is_prefix), same)

at_slash : (text : List ℕ) → (position_or_len (λ c. c == 47) text == length text) ≡ false → text ≡ before_first (λ c. c == 47) text ++ 47 ∷ after_first (λ c. c == 47) text
at_slash text test =
    let most = prefix_len-le-length (λ c. not (c == 47)) text in
    let other : position_or_len (λ c. c == 47) text ≢ length text = λ e. false≢true (sym test ∙ eq-eqb _ _ e) in
    let less : position_or_len (λ c. c == 47) text < length text = omega (arith, most, other) in
    let slash = eqb-true _ _ (passes_at_first (λ c. c == 47) text 0 less) in
    split_at_first (λ c. c == 47) text 0 less ∙ ap (λ c. before_first (λ c. c == 47) text ++ c ∷ after_first (λ c. c == 47) text) slash

sound_at : (text : List ℕ) (found : Network) (b : Bool) → (position_or_len (λ c. c == 47) text == length text) ≡ b → network_value text ≡ Some found → (a : IpNetwork) × IsNetworkText text a × (network_of a ≡ found)
sound_at text found true test e =
    let some : option_map (λ address. record { address = address; prefix = full_prefix address }) (address_value text) ≡ Some found = sym (chosen _ _ _ test) ∙ e in
    map_some _ (address_value text) found some λ address read value.
    let (a, is, same) = is_at text [] text address (full_prefix address) (omega arith) (sym (append-nil text)) (address_is text address read) (inl (refl, refl)) in
    (a, is, same ∙ value)
sound_at text found false test e =
    let some = sym (refused _ _ _ test) ∙ e in
    and_then_some _ (address_value (before_first (λ c. c == 47) text)) _ some λ address read e₁.
    and_then_some _ (prefix_value (after_first (λ c. c == 47) text)) _ e₁ λ prefix number e₂.
    let (fits, value) = cond_some _ _ _ e₂ in
    let front = before_first (λ c. c == 47) text in
    let rest = after_first (λ c. c == 47) text in
    let small : prefix ≤ full_prefix address = leb-true prefix (full_prefix address) fits in
    let split : text ≡ front ++ 47 ∷ decimal prefix = at_slash text test ∙ ap (λ t. front ++ 47 ∷ t) (prefix_is rest prefix number) in
    let (a, is, same) = is_at text (47 ∷ decimal prefix) front address prefix small split (address_is front address read) (inr (refl, small)) in
    (a, is, same ∙ value)

sound : (text : List ℕ) (found : Network) → network_value text ≡ Some found → (a : IpNetwork) × IsNetworkText text a × (network_of a ≡ found)
sound text found e = sound_at text found (position_or_len (λ c. c == 47) text == length text) refl e

complete : (a : IpNetwork) (text : List ℕ) → IsNetworkText text a → network_value text ≡ Some (network_of a)
complete a text (address, rest, split, is, inl (none, full)) =
    let whole : text ≡ address = split ∙ ap (λ t. address ++ t) none ∙ append-nil address in
    let ip = (network_of a).address in
    let all = eq-eqb _ _ (no_slash address (slashless address ip is)) in
    let found : option_map (λ x. with_full x) (address_value address) ≡ Some (with_full ip) = ap (option_map (λ x. with_full x)) (address_there address ip is) in
    ap network_value whole ∙ chosen _ _ _ all ∙ found ∙ ap (λ p. Some (with_prefix ip p)) (sym full)
complete a text (address, rest, split, is, inr (spelled, small)) =
    let ip = (network_of a).address in
    let prefix = (network_of a).prefix in
    let digits = decimal prefix in
    let whole : text ≡ address ++ 47 ∷ digits = split ∙ ap (λ t. address ++ t) spelled in
    let free = slashless address ip is in
    let most = full_small ip in
    let read : address_value (before_first (λ c. c == 47) (address ++ 47 ∷ digits)) ≡ Some ip = ap address_value (front_is address digits free) ∙ address_there address ip is in
    let number : prefix_value (after_first (λ c. c == 47) (address ++ 47 ∷ digits)) ≡ Some prefix = ap prefix_value (rest_is address digits free) ∙ prefix_read prefix (omega arith) in
    ap network_value whole ∙ refused _ _ _ (slash_test address digits free)
    ∙ then_read _ (address_value (before_first (λ c. c == 47) (address ++ 47 ∷ digits))) ip _ read
    (then_read _ (prefix_value (after_first (λ c. c == 47) (address ++ 47 ∷ digits))) prefix _ number
    (chosen _ _ _ (le-leb prefix (full_prefix ip) small)))

pub network_is_its_value : NetworkIsItsValue
network_is_its_value = computed_by IsNetworkText network_of same_network network_value sound complete

pub one_network : OneNetwork
unfolding OneNetwork
one_network = one_by IsNetworkText network_of same_network network_value network_is_its_value
