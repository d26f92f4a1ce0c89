use Rattle.std.proofs.Common.{◌≡◌, ◌<◌, ◌≤◌, ◌+◌, ◌-◌, ◌∙◌, ◌∷◌, ℕ, List, ap, drop, inl, inr, length, refl, sym, take, arith}
use Rattle.std.specs.List.{slice_index, slice_range}
use Rattle.std.proofs.lemmas.List.{length-drop, take_all, take-append-drop}
use Rattle.std.proofs.Math.Nat.{sub-zero}
use Rattle.std.proofs.lemmas.Str.{IsCharBoundary-after_ascii}
use Rattle.pgv_text.specs.declared.scanner.Cell.{Cell}
use Rattle.pgv_text.specs.declared.scanner.Cell.TheVariants.{Keep}
use Rattle.pgv_text.specs.declared.scanner.Class.{Class}
use Rattle.pgv_text.specs.declared.scanner.Class.TheVariants.{Other}
use Rattle.pgv_text.specs.declared.scanner.Place.{Place}
use Rattle.pgv_text.specs.declared.scanner.Place.TheVariants.{Outside, Quoted}
use Rattle.pgv_text.specs.declared.scanner.TextForm.{TextForm}
use Rattle.pgv_text.specs.Scan.{cell, class}
use Rattle.pgv_text.proofs.Stops.{ends_unread, kept_one, kept_run, split_at, stop_is_ascii, stop_onward, stops_at}
use Rattle.pgv_text.proofs.Copies.{copies_there, ends_unstopped, found_stop, kept_stop, kept_stop_one}
use Rattle.pgv_text.specs.Forms.{form_of}
use Rattle.pgv_text.proofs.scanner.next_stop.Goals as goal

-- the rest after a byte, as it is cut off
rest_whole : (bytes : List ℕ) (i : ℕ) → slice_range bytes (i + 1) (length bytes) ≡ drop (i + 1) bytes
rest_whole bytes i = take_all (length bytes - (i + 1)) (drop (i + 1) bytes) (omega (arith, length-drop (i + 1) bytes))

run_within : (bytes : List ℕ) (i n : ℕ) → i < length bytes → n ≤ length (slice_range bytes (i + 1) (length bytes)) → i + (1 + n) ≤ length bytes
run_within bytes i n lt le = omega (arith, lt, le, ap length (rest_whole bytes i), length-drop (i + 1) bytes)

front : (bytes : List ℕ) (i : ℕ) → slice_range bytes 0 i ≡ take i bytes
front bytes i = ap (λ (n : ℕ). take n bytes) (sub-zero i)

-- where it stops, the byte is ASCII
low_there : (form : TextForm) (place : Place) (bytes text : List ℕ) (i : ℕ) (k : Class) (there : Cell) → bytes ≡ text → k ≡ class (form_of form) (slice_index bytes i) → there ≡ cell (form_of form) place k →
    ((next : Place) → there ≡ Keep next → ⊥) → slice_index text i < 128
low_there form place bytes text i k there same is_class is stops =
    stop_is_ascii form place (slice_index text i) there (is ∙ ap (cell (form_of form) place) (is_class ∙ ap (λ xs. class (form_of form) (slice_index xs i)) same)) stops

pub range_from-requires : goal.range_from-requires
range_from-requires c =
    let value = c.as_bytes-bytes.ensures.value in
    λ h. IsCharBoundary-after_ascii c.args.text.now c.loop-index.index c.utf8.text (rw value at c.loop-index-test.true)
    (low_there c.args.form c.loop-index.place _ c.args.text.now c.loop-index.index _ c.cell_of-cell.result value c.class_of.ensures c.cell_of-cell.ensures c.in_default-cell.not-Keep)

-- the cut before it
pub range-requires : goal.range-requires
range-requires c =
    let low =
    low_there c.args.form c.loop-index.place _ c.args.text.now c.loop-index.index _ c.cell_of-cell.result c.as_bytes-bytes.ensures.value c.class_of.ensures c.cell_of-cell.ensures c.in_default-cell.not-Keep in
    record {
      start_le_end = omega arith;
      start_boundary = λ h. absurd (omega (arith, h));
      end_boundary = (omega (arith, c.loop-index-test.true, c.as_bytes-bytes.ensures), λ l k. absurd (omega (arith, low, k)));
    }

-- a usual byte and those after it, outside quotes and inside them
pub loop-index-preserved-in-Start : goal.loop-index-preserved-in-Start
loop-index-preserved-in-Start c =
    let form = form_of c.args.form in
    let i = c.loop-index.index in
    let text = c.args.text.now in
    let value = c.as_bytes-bytes.ensures.value in
    let lt : i < length text = rw value at c.loop-index-test.true in
    let other : class form (slice_index text i) ≡ Other = ap (λ t. class form (slice_index t i)) (sym value) ∙ c.is_never_special.ensures c.if-is_never_special.true c.args.form in
    let outside : cell form c.loop-index.place Other ≡ Keep Outside = elim c.in-Start.is [ inl e ↦ rw e refl | inr e ↦ rw e refl ] in
    let keeps = ap (cell form c.loop-index.place) other ∙ outside in
    let whole = rest_whole c.as_bytes-bytes.result.now i ∙ ap (drop (i + 1)) value in (
      run_within c.as_bytes-bytes.result.now i c.usual_in_front.result c.loop-index-test.true c.usual_in_front.ensures.within,
      c.loop-index.invariant.1
          ∙ kept_run c.args.form c.loop-index.place Outside c.usual_in_front.result text i lt keeps (λ rest e. rw (e, sym whole) (c.usual_in_front.ensures.outside c.args.form)),
      c.loop-index.invariant.2
          ∙ kept_stop c.args.form c.loop-index.place Outside c.usual_in_front.result text i lt keeps (λ rest e. rw (e, sym whole) (c.usual_in_front.ensures.stops_outside c.args.form)),
    )

pub loop-index-preserved-in-Quoted : goal.loop-index-preserved-in-Quoted
loop-index-preserved-in-Quoted c =
    let form = form_of c.args.form in
    let i = c.loop-index.index in
    let text = c.args.text.now in
    let value = c.as_bytes-bytes.ensures.value in
    let lt : i < length text = rw value at c.loop-index-test.true in
    let other : class form (slice_index text i) ≡ Other = ap (λ t. class form (slice_index t i)) (sym value) ∙ c.is_never_special.ensures c.if-is_never_special.true c.args.form in
    let keeps = ap (cell form c.loop-index.place) other ∙ ap (λ p. cell form p Other) c.in-Quoted.is in
    let whole = rest_whole c.as_bytes-bytes.result.now i ∙ ap (drop (i + 1)) value in (
      run_within c.as_bytes-bytes.result.now i c.usual_in_front-in-Quoted.result c.loop-index-test.true c.usual_in_front-in-Quoted.ensures.within,
      rw c.in-Quoted.is
          (c.loop-index.invariant.1
          ∙ kept_run c.args.form c.loop-index.place Quoted c.usual_in_front-in-Quoted.result text i lt keeps (λ rest e. rw (e, sym whole) (c.usual_in_front-in-Quoted.ensures.quoted c.args.form))),
      rw c.in-Quoted.is
          (c.loop-index.invariant.2
          ∙ kept_stop c.args.form c.loop-index.place Quoted c.usual_in_front-in-Quoted.result text i lt keeps (λ rest e. rw (e, sym whole) (c.usual_in_front-in-Quoted.ensures.stops_quoted c.args.form))),
    )

-- another byte that is kept
pub loop-index-preserved : goal.loop-index-preserved
loop-index-preserved c =
    let form = form_of c.args.form in
    let i = c.loop-index.index in
    let text = c.args.text.now in
    let value = c.as_bytes-bytes.ensures.value in
    let lt : i < length text = rw value at c.loop-index-test.true in
    let keeps : cell form c.loop-index.place (class form (slice_index text i)) ≡ Keep c.in-Keep.next
    = ap (cell form c.loop-index.place) (ap (λ t. class form (slice_index t i)) (sym value) ∙ sym c.class_of.ensures) ∙ (sym c.cell_of-cell.ensures ∙ c.in-Keep.is) in (
      omega (arith, c.loop-index-test.true),
      c.loop-index.invariant.1 ∙ kept_one c.args.form c.loop-index.place c.in-Keep.next text i lt keeps,
      c.loop-index.invariant.2 ∙ kept_stop_one c.args.form c.loop-index.place c.in-Keep.next text i lt keeps,
    )

-- where it stops
pub returns-in_default-cell : goal.returns-in_default-cell
returns-in_default-cell c =
    let form = form_of c.args.form in
    let i = c.loop-index.index in
    let text = c.args.text.now in
    let place = c.loop-index.place in
    let rest = c.range_from.result.now in
    let value = c.as_bytes-bytes.ensures.value in
    let byte = slice_index c.as_bytes-bytes.result.now i in
    let split : drop i text ≡ byte ∷ rest = split_at text rest i (rw value at c.loop-index-test.true) c.range_from.ensures.value ∙ ap (λ t. slice_index t i ∷ rest) (sym value) in
    let is : c.cell_of-cell.result ≡ cell form place (class form byte) = c.cell_of-cell.ensures ∙ ap (cell form place) c.class_of.ensures in
    let before = c.range.ensures.value ∙ front text i in
    let stopped = found_stop form c.args.place place text (drop i text) rest byte c.cell_of-cell.result c.loop-index.invariant.2 split is c.in_default-cell.not-Keep in
    record {
      whole = sym (take-append-drop i text) ∙ rw (split, before) refl;
      onward = stop_onward c.args.form c.args.place place text (take i text) c.range.result.now (drop i text) rest byte c.cell_of-cell.result c.loop-index.invariant.1 before split is;
      stops_there = stops_at c.cell_of-cell.result c.in_default-cell.not-Keep;
      first = (place, stopped, is);
      copies = copies_there form c.args.place place text rest byte c.cell_of-cell.result stopped is;
    }

-- where it doesn't
pub returns : goal.returns
returns c =
    let le : length c.args.text.now ≤ c.loop-index.index = rw c.as_bytes-bytes.ensures.value at c.loop-index-test.false in (
      ends_unread c.args.form c.args.place c.loop-index.place c.args.text.now _ c.loop-index.index le c.loop-index.invariant.1,
      ends_unstopped c.args.form c.args.place c.loop-index.place c.args.text.now c.loop-index.index le c.loop-index.invariant.2,
    )
