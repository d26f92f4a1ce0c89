-- Any list of calls on a record encoder, and the record that they leave (PostgreSQL: "Composite Types"; record_send).
use Rattle.std.specs.Prelude.{◌≡◌, List, [], ◌∷◌, ◌++◌, refl}
use Rattle.std.proofs.Common.{sym, subst, append_assoc}
use Rattle.std.proofs.lemmas.List.{append-nil}
use Rattle.pgv_buf.specs.Tokens.{Token, Cell}
use Rattle.pgv_codec.specs.FieldLemmas.{HasFields, no_fields, more_fields, all_fields}
use Rattle.pgv_codec.specs.Encoding.{counted_field, record_image}
use Rattle.pgv_value.specs.Outcome.{Outcome}
use Rattle.pgv_codec.specs.Appending.{Encoded}
use Rattle.pgv_codec.specs.Record.{RecordWriting, begun, so_far, AddsField}
use Rattle.pgv_codec.specs.declared.buffer.IsNull.TheVariants.{No}

-- an accepted field, by its tokens, or a refused one
pub data FieldCall : Type 0 where
  adds_field : Outcome (List Token) → FieldCall
  field_is_refused : FieldCall

-- what a call leaves, as the encoder's contract has it
abbrev pub Leaves : RecordWriting → FieldCall → RecordWriting → Type 0
Leaves was (adds_field f) now = AddsField (counted_field was.count f) was now
Leaves was field_is_refused now = now ≡ was

abbrev pub LeaveAll : RecordWriting → List FieldCall → RecordWriting → Type 0
LeaveAll was [] now = now ≡ was
LeaveAll was (call ∷ calls) now = (between : RecordWriting) × Leaves was call between × LeaveAll between calls now

-- the accepted fields, in order
abbrev pub accepted_fields : List FieldCall → List (Outcome (List Token))
accepted_fields [] = []
accepted_fields (adds_field f ∷ calls) = f ∷ accepted_fields calls
accepted_fields (field_is_refused ∷ calls) = accepted_fields calls

-- After any list of calls, the buffer is what stood before `new`, and the record of the accepted fields.
abbrev pub RecordIsItsAccepted : Type 0
RecordIsItsAccepted = (was : List Cell) (calls : List FieldCall) (now : RecordWriting) → LeaveAll (begun was) calls now → Encoded No (record_image (accepted_fields calls)) was (so_far now)

fields_after : (was : List Cell) (fs : List (Outcome (List Token))) (w now : RecordWriting) (calls : List FieldCall) → HasFields was fs w → LeaveAll w calls now → HasFields was (fs ++ accepted_fields calls) now
fields_after was fs w now [] h e =
    subst (λ (gs : List (Outcome (List Token))). HasFields was gs now) (sym (append-nil fs)) (subst (λ (v : RecordWriting). HasFields was fs v) (sym e) h)
fields_after was fs w now (adds_field f ∷ calls) h l =
    let more = more_fields f h l.1 in
    subst (λ (gs : List (Outcome (List Token))). HasFields was gs now) (append_assoc fs (f ∷ []) (accepted_fields calls)) (fields_after was (fs ++ f ∷ []) l.0 now calls more l.2)
fields_after was fs w now (field_is_refused ∷ calls) h l =
    fields_after was fs l.0 now calls (subst (λ (v : RecordWriting). HasFields was fs v) (sym l.1) h) l.2

pub record_is_its_accepted : RecordIsItsAccepted
record_is_its_accepted was calls now l = all_fields (fields_after was [] (begun was) now calls (no_fields refl) l) refl
