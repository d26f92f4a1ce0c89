use Rattle.std.proofs.Common.{◌≡◌, ◌+◌, ◌-◌, ◌<◌, ◌≤◌, length, get_or, ap, sym, subst, ◌∙◌, arith, sum, take, drop, map, replicate, ℕ, List, ◌++◌, length-take, length-drop}
use Rattle.std.proofs.lemmas.List.{take-map, drop-map, drop-drop, length-map}
use Rattle.pgv_types.specs.Ty.{Ty}
use Rattle.pgv_buf.specs.declared.fill.Slot.{Slot}
use Rattle.pgv_buf.specs.TokensView.{kept_of}
use Rattle.pgv_buf.specs.Fill.{slot_types}
use Rattle.pgv_buf.specs.Patches.{put_each, Within, choices}
use Rattle.pgv_buf.specs.Gaps.{places_after}
use Rattle.pgv_buf.proofs.Gaps.{sum_here, after-split, length-after}
use Rattle.pgv_buf.proofs.WrittenRuns.{run_choices, types_here, within_run, told_run}
use Rattle.pgv_buf.proofs.fill.write_slots.Goals as goal

-- a run of n slots is n kept slots
run_kept : (slots : List Slot) (next n : ℕ) (t : Ty) → next + n ≤ length slots → run_choices t (take n (drop next slots)) ≡ choices (replicate n t) (take n (map kept_of (drop next slots)))
run_kept slots next n t h =
    let e : length (take n (drop next slots)) ≡ n = omega (arith, length-take n (drop next slots), length-drop next slots) in
    ap (λ k. choices (replicate k t) (map kept_of (take n (drop next slots)))) e ∙ ap (λ ks. choices (replicate n t) ks) (sym (take-map kept_of n (drop next slots)))

rest_kept : (slots : List Slot) (next n : ℕ) → map kept_of (drop (next + n) slots) ≡ drop n (map kept_of (drop next slots))
rest_kept slots next n = ap (λ ys. map kept_of ys) (sym (drop-drop n next slots)) ∙ sym (drop-map kept_of n (drop next slots))

length-run : (slots : List Slot) (next n : ℕ) → next + n ≤ length slots → length (take n (map kept_of (drop next slots))) ≡ n
length-run slots next n h = omega (arith, length-take n (map kept_of (drop next slots)), length-map (drop next slots) kept_of, length-drop next slots)

length-gaps : (q : ℕ) (gaps : List ℕ) (next n : ℕ) → next + n ≤ length gaps → length (places_after q (take n (drop next gaps))) ≡ n
length-gaps q gaps next n h = omega (arith, length-after q (take n (drop next gaps)), length-take n (drop next gaps), length-drop next gaps)

within_both :
    (gaps : List ℕ) (slots : List Slot) (types : List Ty) (counts : List ℕ) (q next i m : ℕ) (t : Ty) →
    i < length types → i < length counts → t ≡ get_or types i t → next + get_or counts i 0 ≤ length slots → length gaps ≡ length slots →
    Within m (places_after q (drop next gaps)) (choices (slot_types (drop i types) (drop i counts)) (map kept_of (drop next slots))) →
    Within m (places_after q (take (get_or counts i 0) (drop next gaps))) (run_choices t (take (get_or counts i 0) (drop next slots)))
    × Within m (places_after (q + sum (take (get_or counts i 0) (drop next gaps))) (drop (next + get_or counts i 0) gaps)) (choices (slot_types (drop (i + 1) types) (drop (i + 1) counts)) (map kept_of (drop (next + get_or counts i 0) slots)))
within_both gaps slots types counts q next i m t l k e fits same h =
    let n : ℕ = get_or counts i 0 in
    let w = within_run m n (places_after q (take n (drop next gaps))) (places_after (q + sum (take n (drop next gaps))) (drop (next + n) gaps)) t (slot_types (drop (i + 1) types) (drop (i + 1) counts)) (map kept_of (drop next slots))
    (length-gaps q gaps next n (omega arith)) (length-run slots next n fits)
    (subst (λ ps. Within m ps (choices (replicate n t ++ slot_types (drop (i + 1) types) (drop (i + 1) counts)) (map kept_of (drop next slots)))) (after-split q next n gaps)
    (subst (λ ts. Within m (places_after q (drop next gaps)) (choices ts (map kept_of (drop next slots)))) (types_here types counts i t l k e) h)) in
    (rw (run_kept slots next n t fits) w.0, rw (rest_kept slots next n) w.1)

told_after :
    (gaps : List ℕ) (slots : List Slot) (types : List Ty) (counts : List ℕ) (q next i : ℕ) (t : Ty) (b b' target : List ℕ) →
    i < length types → i < length counts → t ≡ get_or types i t → next + get_or counts i 0 ≤ length slots → length gaps ≡ length slots →
    put_each (places_after q (drop next gaps)) (choices (slot_types (drop i types) (drop i counts)) (map kept_of (drop next slots))) b ≡ target →
    b' ≡ put_each (places_after q (take (get_or counts i 0) (drop next gaps))) (run_choices t (take (get_or counts i 0) (drop next slots))) b →
    put_each (places_after (q + sum (take (get_or counts i 0) (drop next gaps))) (drop (next + get_or counts i 0) gaps)) (choices (slot_types (drop (i + 1) types) (drop (i + 1) counts)) (map kept_of (drop (next + get_or counts i 0) slots))) b' ≡ target
told_after gaps slots types counts q next i t b b' target l k e fits same h f =
    let n : ℕ = get_or counts i 0 in
    rw (rest_kept slots next n)
    (told_run n (places_after q (take n (drop next gaps))) (places_after (q + sum (take n (drop next gaps))) (drop (next + n) gaps)) t (slot_types (drop (i + 1) types) (drop (i + 1) counts)) (map kept_of (drop next slots)) b b' target
    (length-gaps q gaps next n (omega arith)) (length-run slots next n fits)
    (ap (λ ps. put_each ps (choices (replicate n t ++ slot_types (drop (i + 1) types) (drop (i + 1) counts)) (map kept_of (drop next slots))) b) (sym (after-split q next n gaps))
    ∙ (ap (λ ts. put_each (places_after q (drop next gaps)) (choices ts (map kept_of (drop next slots))) b) (sym (types_here types counts i t l k e)) ∙ h))
    (f ∙ ap (λ ws. put_each (places_after q (take n (drop next gaps))) ws b) (run_kept slots next n t fits)))

pub write_run-place-requires-clause-within : goal.write_run-place-requires-clause-within
write_run-place-requires-clause-within c =
    let l : c.loop-i.i < length c.args.types.now = omega (arith, c.loop-i-test.true, c.requires.arguments) in
    let s : sum (drop c.loop-i.i c.args.counts.now) ≡ get_or c.args.counts.now c.loop-i.i 0 + sum (drop (c.loop-i.i + 1) c.args.counts.now) = sum_here c.args.counts.now c.loop-i.i c.loop-i-test.true in
    let k : (c.loop-i.next + get_or c.args.counts.now c.loop-i.i 0) - c.loop-i.next ≡ get_or c.args.counts.now c.loop-i.i 0 = omega arith in
    rw k (within_both c.args.gaps.now c.args.slots.now c.args.types.now c.args.counts.now c.loop-i.place c.loop-i.next c.loop-i.i (length c.loop-i.bytes.items) c.index-types-i.result
    l c.loop-i-test.true c.index-types-i.is (omega (arith, s, c.loop-i.invariant.left)) c.loop-i.invariant.gaps c.loop-i.invariant.within).0

pub loop-i-preserved : goal.loop-i-preserved
loop-i-preserved c =
    let l : c.loop-i.i < length c.args.types.now = omega (arith, c.loop-i-test.true, c.requires.arguments) in
    let s : sum (drop c.loop-i.i c.args.counts.now) ≡ get_or c.args.counts.now c.loop-i.i 0 + sum (drop (c.loop-i.i + 1) c.args.counts.now) = sum_here c.args.counts.now c.loop-i.i c.loop-i-test.true in
    let fits : c.loop-i.next + get_or c.args.counts.now c.loop-i.i 0 ≤ length c.args.slots.now = omega (arith, s, c.loop-i.invariant.left) in
    let k : (c.loop-i.next + get_or c.args.counts.now c.loop-i.i 0) - c.loop-i.next ≡ get_or c.args.counts.now c.loop-i.i 0 = omega arith in
    let last : c.write_run-place.result ≡ c.loop-i.place + sum (take (get_or c.args.counts.now c.loop-i.i 0) (drop c.loop-i.next c.args.gaps.now)) = c.write_run-place.ensures.last ∙ ap (λ n. c.loop-i.place + sum (take n (drop c.loop-i.next c.args.gaps.now))) k in
    rw last (record {
      told = told_after c.args.gaps.now c.args.slots.now c.args.types.now c.args.counts.now c.loop-i.place c.loop-i.next c.loop-i.i c.index-types-i.result c.loop-i.bytes.items c.write_run-place.new.bytes.items _
          l c.loop-i-test.true c.index-types-i.is fits c.loop-i.invariant.gaps c.loop-i.invariant.told
          (c.write_run-place.ensures.items ∙ ap (λ n. put_each (places_after c.loop-i.place (take n (drop c.loop-i.next c.args.gaps.now))) (run_choices c.index-types-i.result (take n (drop c.loop-i.next c.args.slots.now))) c.loop-i.bytes.items) k);
      within = rw c.write_run-place.ensures.len (within_both c.args.gaps.now c.args.slots.now c.args.types.now c.args.counts.now c.loop-i.place c.loop-i.next c.loop-i.i (length c.loop-i.bytes.items) c.index-types-i.result
          l c.loop-i-test.true c.index-types-i.is fits c.loop-i.invariant.gaps c.loop-i.invariant.within).1;
      left = omega (arith, s, c.loop-i.invariant.left);
      many = c.requires.arguments;
      gaps = c.loop-i.invariant.gaps;
    })
