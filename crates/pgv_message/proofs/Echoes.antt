-- Parameters that are sent back as a row are read back from it.
use Rattle.std.proofs.Common.{◌≡◌, ℕ, ◌<◌, ◌≤◌, Bool, true, false, List, [], length, get_or, Some, Ok, refl, sym, ap, ◌∙◌, subst, append-nil, arith}
use Rattle.std.specs.Prelude.{◌||◌, not, is_none, flat_map}
use Rattle.std.specs.List.{slice_get}
use Rattle.std.proofs.lemmas.List.{length-map}
use Rattle.pgv_types.specs.Ty.{Ty}
use Rattle.pgv_types.specs.declared.oid.Oid.{Oid}
use Rattle.pgv_buf.specs.Proper.{Proper}
use Rattle.pgv_buf.specs.Tokens.{shown}
use Rattle.pgv_value.specs.FrameBinary.{Part, field_bytes}
use Rattle.pgv_value.specs.Outcome.{Outcome, reading_of}
use Rattle.pgv_value.proofs.Outcomes.{answer_of}
use Rattle.pgv_value.specs.ValueView.{Given as Value}
use Rattle.pgv_value.specs.declared.value.PgValueFormat.TheVariants.{Binary}
use Rattle.pgv_codec.specs.Encoding.{Encoding}
use Rattle.pgv_row.specs.ColumnView.{Column}
use Rattle.pgv_row.specs.RowView.{Row, value_at_column}
use Rattle.pgv_row.specs.RowValues.{may_read, raw_value, column_value}
use Rattle.pgv_wire.specs.Arguments.{Argument, framed, all_cells}
use Rattle.pgv_wire.specs.History.{Call, added_in, after_calls}
use Rattle.pgv_wire.specs.MainSentence.{MainSentence, HoldsAfter}
use Rattle.pgv_wire.specs.ArgumentParts.{AreImages, ReadAs, OfImages}
use Rattle.pgv_message.specs.Frames.{bind_of}
use Rattle.pgv_message.specs.Echo.{ColumnsComeBack, ComeBack}
use Rattle.pgv_value.proofs.ReadFronts.{are_bytes}
use Rattle.pgv_message.proofs.Frames.{frames_are, bind_is, arguments_fit}

accepted : (b c : Bool) → c ≡ true → not (b || c) ≡ false
accepted true c e = refl
accepted false c e = rw e refl

module _ {A M : Type 0} (encoding : A → Encoding) (accepts : Ty → Bool) (parse : Value → Outcome M) (kept : A → M) (fits : A → Ty → List Oid → Type 0) where
  -- what is read from the value at a place
  value_read : (row : Row) (place : ℕ) (v : Value) (m : M) → value_at_column row place ≡ Some v → accepts v.type_info ≡ true → (parse v).answer ≡ Ok m → (column_value accepts parse row place).answer ≡ Ok m
  unfolding column_value raw_value
  value_read row place v m there accepted_is read =
      let may : not (may_read accepts v) ≡ false = accepted (is_none v.bytes) (accepts v.type_info) accepted_is in
      rw (there, may, read) refl

  there : (columns : List Column) (parts : List Part) (place : ℕ) (c : Column) (part : Part) → slice_get columns place ≡ Some c → slice_get parts place ≡ Some part →
      value_at_column (record { columns = columns; parts = parts }) place ≡ Some (record { bytes = part; type_info = c.type_info; format = c.format })
  there columns parts place c part column_is part_is = rw (column_is, part_is) refl

  come_back : (calls : List Call) (held : HoldsAfter encoding (reading_of parse) kept fits calls) → ColumnsComeBack encoding accepts parse kept fits calls held.parts
  come_back calls held columns c place a g v added framed_is given_is column_is binary accepts_is fits_is =
      let back = held.come_back place a g v c.type_info added framed_is given_is fits_is in
      value_read (record { columns = columns; parts = held.parts }) place (record { bytes = back.0; type_info = c.type_info; format = c.format }) (kept v)
      (there columns held.parts place c back.0 column_is back.1) accepts_is (rw binary (answer_of (parse (record { bytes = back.0; type_info = c.type_info; format = Binary })).answer (kept v) back.2))

  pub comes_back : (arguments : List Argument) (bytes : List ℕ) → MainSentence encoding (reading_of parse) kept fits → ((calls : List Call) → framed (after_calls [] calls) ≡ added_in calls) →
      ((i : ℕ) → get_or bytes i 0 < 256) → bytes ≡ shown (all_cells arguments) → Proper (all_cells arguments) → OfImages arguments → ComeBack encoding accepts parse kept fits arguments
  unfolding MainSentence
  comes_back arguments bytes main only_added below is proper images calls portal statement sent results after_is oids_fit sent_by =
      let added : framed arguments ≡ added_in calls = ap framed after_is ∙ only_added calls in
      let held = main calls images.0 (subst (AreImages images.0) added images.1) (subst (λ (xs : List Argument). Proper (all_cells xs)) after_is proper) oids_fit in
      let read : ReadAs (shown (all_cells arguments)) held.parts [] = subst (λ (xs : List Argument). ReadAs (shown (all_cells xs)) held.parts []) (sym after_is) held.read in
      let frames = frames_are bytes held.parts [] (are_bytes bytes below) (subst (λ (xs : List ℕ). ReadAs xs held.parts []) (sym is) read) in
      let shown_is : shown (all_cells arguments) ≡ flat_map field_bytes held.parts = sym is ∙ frames.0 ∙ append-nil (flat_map field_bytes held.parts) in
      let many : length held.parts ≡ length arguments = held.as_many ∙ ap length (sym added) ∙ length-map arguments _ in
      let fit : length arguments ≤ 65535 = arguments_fit portal statement sent arguments results sent_by in
      let same : bind_of portal statement held.parts results ≡ sent = rw (← shown_is, many) (bind_is portal statement sent arguments results sent_by) in
      record {
        parts = held.parts;
        sent_is = sym same;
        as_many = held.as_many;
        row = record { whole = refl; wide = refl; width_fits = omega (arith, many, fit); each = frames.1 };
        come_back = come_back calls held;
      }
