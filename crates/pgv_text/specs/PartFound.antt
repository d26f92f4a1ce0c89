-- The value of a part that was found, with the text that it may have been put into; and a part whose bytes are in the
-- text.
use Rattle.std.specs.Prelude.{◌≡◌, ◌⊎◌, ◌<◌, ◌≤◌, ◌++◌, ◌∷◌, Bool, true, false, ℕ, List, drop, length, take, Option, Some, None}
use Rattle.pgv_text.specs.declared.parts.Part.{Part}
use Rattle.pgv_text.specs.declared.parts.Part.TheVariants.{Nothing, Plain, Unquoted}
use Rattle.pgv_text.specs.declared.scanner.Cell.{Cell}
use Rattle.pgv_text.specs.declared.scanner.Cell.TheVariants.{Part as Ends, End, Keep, Pass}
use Rattle.pgv_text.specs.declared.scanner.Place.{Place}
use Rattle.pgv_text.specs.declared.scanner.Place.TheVariants.{Outside, Quoted, Start}
use Rattle.pgv_text.specs.declared.scanner.Stop.{Stop}
use Rattle.pgv_text.specs.declared.scanner.TextForm.{TextForm}
use Rattle.pgv_text.specs.Forms.{form_of}
use Rattle.pgv_text.specs.Copies.{IsStopFrom, as_it_is, copies_after, copies_by, copies_from, stop_at}
use Rattle.pgv_text.specs.Scan.{Rest, grown, read, read_by, stops, value_here}

abbrev pub part_value : Part → List ℕ → Option (List ℕ)
part_value Nothing text = None
part_value (Plain run) text = Some run.now
part_value Unquoted text = Some text

-- after these bytes of a part this stop goes on
abbrev pub goes_on : TextForm → List ℕ → Stop → Option Rest
goes_on form part s = grown part (read_by (form_of form) s.byte s.rest.now (λ q. read (form_of form) q s.rest.now) s.cell)

-- So many bytes in front are kept, outside and inside quotes: both what is read and the stop are those of the rest.
pub record AreUsual (bytes : List ℕ) (count : ℕ) : Type 0 where
  pub within : count ≤ length bytes
  pub outside : (form : TextForm) → read (form_of form) Outside bytes ≡ grown (take count bytes) (read (form_of form) Outside (drop count bytes))
  pub quoted : (form : TextForm) → read (form_of form) Quoted bytes ≡ grown (take count bytes) (read (form_of form) Quoted (drop count bytes))
  pub stops_outside : (form : TextForm) → stop_at (form_of form) Outside bytes ≡ stop_at (form_of form) Outside (drop count bytes)
  pub stops_quoted : (form : TextForm) → stop_at (form_of form) Quoted bytes ≡ stop_at (form_of form) Quoted (drop count bytes)

-- From this place on each byte is kept, so that the text isn't in the form.
abbrev pub HasNoStop : TextForm → Place → List ℕ → Type 0
HasNoStop form place text = (read (form_of form) place text ≡ None) × (stop_at (form_of form) place text ≡ None)

-- From this place on this is the next byte that isn't kept, with what is before and after it: what is read goes on
-- there, and which parts are copied.
pub record IsNextStop (form : TextForm) (place : Place) (text : List ℕ) (s : Stop) : Type 0 where
  pub whole : text ≡ s.run.now ++ s.byte ∷ s.rest.now
  pub onward : read (form_of form) place text ≡ goes_on form s.run.now s
  pub stops_there : stops s.cell ≡ true
  pub first : IsStopFrom (form_of form) place text s
  pub copies : copies_after (form_of form) place text ≡ copies_by (form_of form) s.rest.now (λ q. copies_after (form_of form) q s.rest.now) s.cell

-- from this place on a part is the run before this stop, where it ends: by a comma, or by the bracket
abbrev pub IsPartFrom : TextForm → Place → List ℕ → Stop → Type 0
IsPartFrom form place text s = (read (form_of form) place text ≡ goes_on form s.run.now s) × ((s.cell ≡ Ends) ⊎ (s.cell ≡ End))

-- the part in front has these bytes, up to this stop
abbrev pub IsEndOf : TextForm → List ℕ → List ℕ → Stop → Type 0
IsEndOf form text part s = read (form_of form) Start text ≡ goes_on form part s

-- a part doesn't go on
abbrev pub halts : Cell → Bool
halts (Keep place) = false
halts (Pass place) = false
halts _ = true

-- The part from this place on is the run before this stop, with what is copied after it.
pub record IsRun (form : TextForm) (place : Place) (text : List ℕ) (s : Stop) : Type 0 where
  pub part : IsPartFrom form place text s
  pub shorter : length s.rest.now < length text
  pub copies : copies_after (form_of form) place text ≡ copies_from (form_of form) s.rest.now

-- The part in front has these bytes and ends at this stop, with what is copied after it.
pub record IsUnquoted (form : TextForm) (text part : List ℕ) (s : Stop) : Type 0 where
  pub end : IsEndOf form text part s
  pub shorter : length s.rest.now < length text
  pub halts_there : halts s.cell ≡ true
  pub copies : copies_after (form_of form) Start text ≡ copies_by (form_of form) s.rest.now (λ q. copies_after (form_of form) q s.rest.now) s.cell

-- The part in front, with the text that it may have been put into, and the stop where it ends; what is in the text as
-- it is isn't put there.
pub record IsPartInFront (form : TextForm) (text : List ℕ) (part : Part) (out : List ℕ) (s : Stop) : Type 0 where
  pub bytes : List ℕ
  pub found : IsUnquoted form text bytes s
  pub value : part_value part out ≡ value_here (form_of form) text bytes
  pub copied : part ≡ Unquoted → as_it_is (form_of form) text ≡ false
