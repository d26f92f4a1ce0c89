-- Offsets from UTC.
use mir.Syntax.{w32}
use mir.Val.{SFits, of_z, to_z}
use Rattle.std.proofs.Common.{◌≡◌, ℕ, ◌<◌, ◌≤◌, ◌-◌, ◌-ℤ◌, negsuc, length, get_or, Result, Ok, Err, ◌==◌, Bool, true, false, ℤ, pos, neg_ℤ, List, [], ◌∷◌, ◌++◌, Option, Some, None, option_map, is_some, refl, sym, ap, ◌∙◌, subst, arith, inl, inr, eqb-true, cond}
use Rattle.std.specs.List.{slice_range}
use Rattle.std.specs.Result.{IfOk, IsOk, result_ok}
use Rattle.std.proofs.lemmas.Int.{ints, to_z_pos, to_z-of_z}
use Rattle.std.proofs.lemmas.List.{take_all}
use Rattle.jiff_core.specs.Calendar.{IsBetween}
use Rattle.std.proofs.lemmas.Option.{none-some, same_Some}
use Rattle.std.proofs.lemmas.Bool.{false≢true, and_parts}
use Rattle.std.proofs.NetLemmas.Options.{and_then_some, map_some}
use Rattle.jiff_core.specs.declared.offset.Offset.{Offset}
use Rattle.jiff_core.specs.Timestamp.{IsOffsetSeconds}
use Rattle.pgv_scalar_text.specs.FieldText.{after_byte, two_below, two_digits, whole}
use Rattle.pgv_scalar_text.specs.DateTimeText.{IsSecondsText, IsMinutesText, IsHoursText, IsOffsetText, IsIgnored, seconds_value, minutes_value, hours_value, offset_value, is_ignored}
use Rattle.pgv_scalar_text.proofs.DigitFields.{then_read, after_is, below_read, below_is, whole_some}
use Rattle.pgv_scalar_text.proofs.Fractions.{Stops, nothing_stops, plus_stops, minus_stops}

-- ---- what is written is read

seconds_read : (text : List ℕ) (second : ℕ) → IsSecondsText text second → seconds_value text ≡ Some second
seconds_read text second (inl none) = ap seconds_value none.0 ∙ ap Some (sym none.1)
seconds_read text second (inr some) =
    ap seconds_value some.1 ∙ ap whole (below_read 60 second [] (omega arith) some.0)

minutes_read : (text : List ℕ) (seconds : ℕ) → IsMinutesText text seconds → minutes_value text ≡ Some seconds
minutes_read text seconds (inl none) = ap minutes_value none.0 ∙ ap Some (sym none.1)
minutes_read text seconds (inr (minute, second, rest, small, spelled, is, value)) =
    ap minutes_value spelled
    ∙ then_read _ (two_below 60 (two_digits minute ++ rest)) (minute, rest) _ (below_read 60 minute rest (omega arith) small)
    (then_read _ (seconds_value rest) second _ (seconds_read rest second is) (ap Some (sym value)))

hours_read : (text : List ℕ) (seconds : ℕ) → IsHoursText text seconds → hours_value text ≡ Some seconds
hours_read text seconds (hour, minutes, rest, small, spelled, is, value) =
    ap hours_value spelled
    ∙ then_read _ (two_below 24 (two_digits hour ++ rest)) (hour, rest) _ (below_read 24 hour rest (omega arith) small)
    (then_read _ (minutes_value rest) minutes _ (minutes_read rest minutes is) (ap Some (sym value)))

pub offset_read : (offset : Offset) (text : List ℕ) → IsOffsetText text offset → offset_value text ≡ Some offset.seconds
offset_read offset text (seconds, rest, is, inl (spelled, value)) =
    ap offset_value spelled ∙ ap (option_map pos) (hours_read rest seconds is) ∙ ap Some (sym value)
offset_read offset text (seconds, rest, is, inr (spelled, value)) =
    ap offset_value spelled ∙ ap (option_map (λ n. neg_ℤ (pos n))) (hours_read rest seconds is) ∙ ap Some (sym value)

-- an offset is no part of a time in front of it
pub offset_stops : (offset : Offset) (text : List ℕ) → IsOffsetText text offset → Stops text
offset_stops offset text (seconds, rest, is, inl (spelled, value)) = subst Stops (sym spelled) (plus_stops rest)
offset_stops offset text (seconds, rest, is, inr (spelled, value)) = subst Stops (sym spelled) (minus_stops rest)

-- ---- what is read is written

seconds_is : (text : List ℕ) (second : ℕ) → seconds_value text ≡ Some second → IsSecondsText text second
seconds_is [] second e = inl (refl, sym (same_Some 0 second e))
seconds_is (c ∷ cs) second e =
    and_then_some _ (after_byte 58 (c ∷ cs)) _ e λ rest colon e₁.
    let read = whole_some (two_below 60 rest) second e₁ in
    let is = below_is 60 rest [] second read in
    inr (is.0, after_is 58 (c ∷ cs) rest colon ∙ ap (λ t. 58 ∷ t) is.1)

minutes_is : (text : List ℕ) (seconds : ℕ) → minutes_value text ≡ Some seconds → IsMinutesText text seconds
minutes_is [] seconds e = inl (refl, sym (same_Some 0 seconds e))
minutes_is (c ∷ cs) seconds e =
    and_then_some _ (after_byte 58 (c ∷ cs)) _ e λ rest colon e₁.
    and_then_some _ (two_below 60 rest) _ e₁ λ minute read e₂.
    and_then_some _ (seconds_value minute.1) _ e₂ λ second some e₃.
    let is = below_is 60 rest minute.1 minute.0 read in
    inr (minute.0, second, minute.1, is.0, after_is 58 (c ∷ cs) rest colon ∙ ap (λ t. 58 ∷ t) is.1, seconds_is minute.1 second some, sym (same_Some _ seconds e₃))

hours_is : (text : List ℕ) (seconds : ℕ) → hours_value text ≡ Some seconds → IsHoursText text seconds
hours_is text seconds e =
    and_then_some _ (two_below 24 text) _ e λ hour read e₁.
    and_then_some _ (minutes_value hour.1) _ e₁ λ minutes some e₂.
    let is = below_is 24 text hour.1 hour.0 read in
    (hour.0, minutes, hour.1, is.0, is.1, minutes_is hour.1 minutes some, sym (same_Some _ seconds e₂))

seconds_lt : (text : List ℕ) (second : ℕ) → IsSecondsText text second → second < 60
seconds_lt text second (inl none) = omega (arith, none.1)
seconds_lt text second (inr some) = some.0

minutes_lt : (text : List ℕ) (seconds : ℕ) → IsMinutesText text seconds → seconds < 3600
minutes_lt text seconds (inl none) = omega (arith, none.1)
minutes_lt text seconds (inr (minute, second, rest, small, spelled, is, value)) =
    let h = seconds_lt rest second is in
    omega (arith, small, value, h)

hours_lt : (text : List ℕ) (seconds : ℕ) → IsHoursText text seconds → seconds < 86_400
hours_lt text seconds (hour, minutes, rest, small, spelled, is, value) =
    let h = minutes_lt rest minutes is in
    omega (arith, small, value, h)

abbrev pub HasOffset : List ℕ → ℤ → Type 0
HasOffset text seconds = (offset : Offset) × IsOffsetText text offset × (offset.seconds ≡ seconds)

east : (n : ℕ) → n < 86_400 → IsOffsetSeconds (pos n)
east n h = (omega (arith, ints), omega (arith, ints))

west : (n : ℕ) → n < 86_400 → IsOffsetSeconds (neg_ℤ (pos n))
west n h = (omega (arith, ints), omega (arith, ints))

at_minus : (sign : ℕ) (rest : List ℕ) (seconds : ℤ) (b : Bool) → (sign == 45) ≡ b → cond b (option_map (λ n. neg_ℤ (pos n)) (hours_value rest)) None ≡ Some seconds → HasOffset (sign ∷ rest) seconds
at_minus sign rest seconds false test e = absurd (none-some seconds e)
at_minus sign rest seconds true test e =
    map_some _ (hours_value rest) seconds e λ n read value.
    let is = hours_is rest n read in
    let same = eqb-true sign 45 test in
    (record { seconds = neg_ℤ (pos n); in_range = west n (hours_lt rest n is) }, (n, rest, is, inr (ap (λ c. c ∷ rest) same, refl)), value)

at_plus : (sign : ℕ) (rest : List ℕ) (seconds : ℤ) (b : Bool) → (sign == 43) ≡ b → cond b (option_map pos (hours_value rest)) (cond (sign == 45) (option_map (λ n. neg_ℤ (pos n)) (hours_value rest)) None) ≡ Some seconds → HasOffset (sign ∷ rest) seconds
at_plus sign rest seconds false test e = at_minus sign rest seconds (sign == 45) refl e
at_plus sign rest seconds true test e =
    map_some _ (hours_value rest) seconds e λ n read value.
    let is = hours_is rest n read in
    let same = eqb-true sign 43 test in
    (record { seconds = pos n; in_range = east n (hours_lt rest n is) }, (n, rest, is, inl (ap (λ c. c ∷ rest) same, refl)), value)

pub offset_is : (text : List ℕ) (seconds : ℤ) → offset_value text ≡ Some seconds → HasOffset text seconds
offset_is [] seconds e = absurd (none-some seconds e)
offset_is (sign ∷ rest) seconds e = at_plus sign rest seconds (sign == 43) refl e

-- ---- an offset that is ignored

pub ignored_stops : (text : List ℕ) → IsIgnored text → Stops text
ignored_stops text (inl none) = subst Stops (sym none) nothing_stops
ignored_stops text (inr (rest, seconds, spelled, is)) = subst Stops (sym spelled) (plus_stops rest)

pub ignored_read : (text : List ℕ) → IsIgnored text → is_ignored text ≡ true
ignored_read text (inl none) = ap is_ignored none
ignored_read text (inr (rest, seconds, spelled, is)) = ap is_ignored spelled ∙ ap is_some (hours_read rest seconds is)

hours_there : (rest : List ℕ) (read : Option ℕ) → hours_value rest ≡ read → is_some read ≡ true → (seconds : ℕ) × IsHoursText rest seconds
hours_there rest None e some = absurd (false≢true some)
hours_there rest (Some seconds) e some = (seconds, hours_is rest seconds e)

pub ignored_is : (text : List ℕ) → is_ignored text ≡ true → IsIgnored text
ignored_is [] e = inl refl
ignored_is (sign ∷ rest) e =
    let (test, some) = and_parts (sign == 43) (is_some (hours_value rest)) e in
    let (seconds, is) = hours_there rest (hours_value rest) refl some in
    inr (rest, seconds, ap (λ c. c ∷ rest) (eqb-true sign 43 test), is)

-- ---- what is made of a sign and what is after it

offset_plus : (text : List ℕ) → 1 ≤ length text → get_or text 0 0 ≡ 43 → offset_value text ≡ option_map pos (hours_value (slice_range text 1 (length text)))
offset_plus [] le e = absurd (omega (arith, le))
offset_plus (x ∷ xs) le e =
    ap (λ y. offset_value (y ∷ xs)) e ∙ ap (λ t. option_map pos (hours_value t)) (sym (take_all (length (x ∷ xs) - 1) xs (omega arith)))

offset_minus : (text : List ℕ) → 1 ≤ length text → get_or text 0 0 ≡ 45 → offset_value text ≡ option_map (λ n. neg_ℤ (pos n)) (hours_value (slice_range text 1 (length text)))
offset_minus [] le e = absurd (omega (arith, le))
offset_minus (x ∷ xs) le e =
    ap (λ y. offset_value (y ∷ xs)) e ∙ ap (λ t. option_map (λ n. neg_ℤ (pos n)) (hours_value t)) (sym (take_all (length (x ∷ xs) - 1) xs (omega arith)))

pub east_fits : (n : ℕ) → n < 86_400 → SFits w32 (pos n)
east_fits n lt = omega (arith, ints)

pub west_fits : (n : ℕ) → n < 86_400 → SFits w32 (pos 0 -ℤ to_z w32 n)
west_fits n lt = rw (to_z_pos w32 n (omega arith)) (omega (arith, ints))

-- the number that is passed is the one that is meant
east_is : (n : ℕ) → n < 86_400 → to_z w32 n ≡ pos n
east_is n lt = to_z_pos w32 n (omega arith)

west_is : (n : ℕ) → n < 86_400 → to_z w32 (of_z w32 (pos 0 -ℤ to_z w32 n)) ≡ neg_ℤ (pos n)
west_is n lt = to_z-of_z w32 (pos 0 -ℤ to_z w32 n) (west_fits n lt) ∙ rw (to_z_pos w32 n (omega arith)) (omega (arith, ints))

-- an offset of so many seconds
made : {E : Type 0} (r : Result Offset E) (found : Option Offset) (z y : ℤ) → z ≡ y → IsBetween (negsuc 93_598) (pos 93_599) y → (IsBetween (negsuc 93_598) (pos 93_599) z → IsOk r) →
    IfOk r (λ o. o.seconds ≡ z) → found ≡ result_ok r → option_map (λ (o : Offset). o.seconds) found ≡ Some y
made (Ok o) found z y same within succeeds value is = ap (option_map (λ (o : Offset). o.seconds)) is ∙ ap Some (value ∙ same)
made (Err e) found z y same within succeeds value is = absurd (false≢true (succeeds (rw same within)))

pub plus_made : {E : Type 0} (text : List ℕ) (n : ℕ) (r : Result Offset E) (found : Option Offset) → 1 ≤ length text → get_or text 0 0 ≡ 43 →
    Some n ≡ hours_value (slice_range text 1 (length text)) → n < 86_400 →
    (IsBetween (negsuc 93_598) (pos 93_599) (to_z w32 n) → IsOk r) → IfOk r (λ o. o.seconds ≡ to_z w32 n) → found ≡ result_ok r → option_map (λ (o : Offset). o.seconds) found ≡ offset_value text
plus_made text n r found le sign hours lt succeeds value is =
    made r found (to_z w32 n) (pos n) (east_is n lt) (omega (arith, ints), omega (arith, ints)) succeeds value is ∙ (ap (option_map pos) hours ∙ sym (offset_plus text le sign))

pub minus_made : {E : Type 0} (text : List ℕ) (n : ℕ) (r : Result Offset E) (found : Option Offset) → 1 ≤ length text → get_or text 0 0 ≡ 45 →
    Some n ≡ hours_value (slice_range text 1 (length text)) → n < 86_400 →
    (IsBetween (negsuc 93_598) (pos 93_599) (to_z w32 (of_z w32 (pos 0 -ℤ to_z w32 n))) → IsOk r) → IfOk r (λ o. o.seconds ≡ to_z w32 (of_z w32 (pos 0 -ℤ to_z w32 n))) → found ≡ result_ok r →
    option_map (λ (o : Offset). o.seconds) found ≡ offset_value text
minus_made text n r found le sign hours lt succeeds value is =
    made r found (to_z w32 (of_z w32 (pos 0 -ℤ to_z w32 n))) (neg_ℤ (pos n)) (west_is n lt) (omega (arith, ints), omega (arith, ints)) succeeds value is
    ∙ (ap (option_map (λ n. neg_ℤ (pos n))) hours ∙ sym (offset_minus text le sign))

pub plus_none : (text : List ℕ) → 1 ≤ length text → get_or text 0 0 ≡ 43 → None ≡ hours_value (slice_range text 1 (length text)) → None ≡ offset_value text
plus_none text le sign hours = ap (option_map pos) hours ∙ sym (offset_plus text le sign)

pub minus_none : (text : List ℕ) → 1 ≤ length text → get_or text 0 0 ≡ 45 → None ≡ hours_value (slice_range text 1 (length text)) → None ≡ offset_value text
minus_none text le sign hours = ap (option_map (λ n. neg_ℤ (pos n))) hours ∙ sym (offset_minus text le sign)

pub ignored_nothing : (text : List ℕ) → length text < 1 → true ≡ is_ignored text
ignored_nothing [] lt = refl
ignored_nothing (x ∷ xs) lt = absurd (omega (arith, lt))

pub ignored_plus : (text : List ℕ) → 1 ≤ length text → get_or text 0 0 ≡ 43 → is_some (hours_value (slice_range text 1 (length text))) ≡ is_ignored text
ignored_plus [] le e = absurd (omega (arith, le))
ignored_plus (x ∷ xs) le e =
    ap (λ t. is_some (hours_value t)) (take_all (length (x ∷ xs) - 1) xs (omega arith)) ∙ ap (λ y. is_ignored (y ∷ xs)) (sym e)
