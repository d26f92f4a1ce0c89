-- The steps of the line `copy`.
use Rattle.std.proofs.Common.{◌≡◌, ◌≢◌, ◌++◌, ◌∙◌, sym, ap, subst, Bool, ℕ, List, [], ◌∷◌, inl, inr, refl, Option, Some, None, append-nil}
use Rattle.std.specs.Prelude.{option_map, zip, string_bytes, Result, Ok, Err, IfOk, IsSome, codes}
use Rattle.std.specs.declared.alloc.AllocError.{AllocError}
use Rattle.hex.specs.Hex.{encode_lower}
use Rattle.pgv_buf.specs.Tokens.{shown, blank}
use Rattle.pgv_wire.specs.Arguments.{Framed}
use Rattle.std.specs.declared.string.String.{String}
use Rattle.std.specs.declared.alloc.Global.{Global}
use Rattle.pgv_value.specs.Codes.{code_of}
use Rattle.pgv_value.specs.Outcome.{Fails, after, in_place}
use Rattle.pgv_value.specs.ValueView.{Given}
use Rattle.pgv_value.specs.FrameBinary.{Part}
use Rattle.pgv_value.specs.declared.error.CodecError.{CodecError}
use Rattle.pgv_value.specs.declared.error.CodecError.TheVariants.{Memory}
use Rattle.pgv_value.specs.declared.value.PgValueFormat.TheVariants.{Binary as InBinary}
use Rattle.pgv_value.specs.Parsed.{Parsed}
use Rattle.pgv_copy.specs.CopyBinary.{Step, after_header, reader_before, step, next_row, row_takes}
use Rattle.pgv_copy.specs.CopyView.{Copying}
use Rattle.pgv_session.specs.CopiedView.{infos, ShowsField, ShowsRow}
use Rattle.pgv_session.specs.Lines.{with_first}
use Rattle.pgv_session.specs.Session.{all_with, fields_shown, fields_refused, refusal_or, row_shown, Yields, EndsWith, CopiesFrom, ReadsFrame, refused, RefusedAs}
use Rattle.pgv_session.specs.ToldView.{ShowsBytes}
use Rattle.pgv_session.specs.Types.{LineType}
use Rattle.pgv_session.specs.declared.value.Told.{Told}
use Rattle.pgv_session.specs.declared.value.Told.TheVariants.{Said, Refused}
use Rattle.pgv_session.proofs.Wording.{put_first}

abbrev pub Text : Type 0
Text = String Global

-- ---- fields

read_said : (f : Option Framed) (why : Option CodecError) (bytes : List ℕ) (text : Text) → ReadsFrame f why (Some bytes) (string_bytes text) → IsSome f →
    option_map (λ g. encode_lower (shown (blank g.1))) f ≡ Some (string_bytes text)
read_said None why bytes text h s = absurd cc
read_said (Some g) why bytes text h s = ap (λ (t : List ℕ). Some t) (sym h)

read_refused : (f : Option Framed) (why : Option CodecError) (bytes answer : List ℕ) → ReadsFrame f why (Some bytes) answer → f ≡ None →
    (option_map (λ g. encode_lower (shown (blank g.1))) f ≡ None) × RefusedAs why answer
read_refused None why bytes answer h n = (refl, h)
read_refused (Some g) why bytes answer h n = absurd cc

field_read : (row : LineType) (bytes : List ℕ) (told : Told) → ShowsBytes row bytes told → ShowsField row (Some bytes) told
field_read row bytes (Said text) h = read_said (row.value InBinary (Some bytes)) (row.refusal InBinary (Some bytes)) bytes text h.0 h.1
field_read row bytes (Refused text) h = read_refused (row.value InBinary (Some bytes)) (row.refusal InBinary (Some bytes)) bytes (string_bytes text) h.0 h.1

pub field_shows : (row : LineType) (part : Part) (bytes : List ℕ) (r : Result Told AllocError) → part ≡ Some bytes → IfOk r (ShowsBytes row bytes) → IfOk r (ShowsField row part)
field_shows row part bytes (Err x) e h = tt
field_shows row part bytes (Ok told) e h = subst (λ (p : Part). ShowsField row p told) (sym e) (field_read row bytes told h)

-- the fields of a row are these texts, and those of the fields that are left, if all are shown; else the refusal is
-- that of the fields that are left
pub record AreSoFar (columns : List LineType) (row : List Given) (texts : List (List ℕ)) (columns_left : List LineType) (left : List Given) : Type 0 where
  pub shown_so_far : option_map (λ ts. texts ++ ts) (fields_shown (zip columns_left left)) ≡ fields_shown (zip columns row)
  pub refused_later : fields_refused (zip columns_left left) ≡ fields_refused (zip columns row)

unchanged : (texts : Option (List (List ℕ))) → option_map (λ ts. [] ++ ts) texts ≡ texts
unchanged None = refl
unchanged (Some ts) = refl

pub none_so_far : (columns : List LineType) (row : List Given) → AreSoFar columns row [] columns row
none_so_far columns row = record { shown_so_far = unchanged (fields_shown (zip columns row)); refused_later = refl }

module _ (columns : List LineType) (row : List Given) (texts : List (List ℕ)) (column : LineType) (value : Given) (columns_left : List LineType) (left : List Given) (h : AreSoFar columns row texts (column ∷ columns_left) (value ∷ left)) where
  pub field_more : (texts' : List (List ℕ)) (text : Text) → ShowsField column value.bytes (Said text) → texts' ≡ texts ++ string_bytes text ∷ [] → AreSoFar columns row texts' columns_left left
  field_more texts' text s t = record {
    shown_so_far =
        rw t (put_first texts (string_bytes text) (fields_shown (zip columns_left left))
        ∙ (ap (λ (f : Option (List ℕ)). option_map (λ ts. texts ++ ts) (with_first f (fields_shown (zip columns_left left)))) (sym s) ∙ h.shown_so_far));
    refused_later =
        ap (λ (f : Option (List ℕ)). refusal_or (column.refusal InBinary value.bytes) f (λ _. fields_refused (zip columns_left left))) (sym s) ∙ h.refused_later;
  }

  pub field_stops : (text : Text) → ShowsField column value.bytes (Refused text) → ShowsRow columns row (Refused text)
  field_stops text s =
      let none : None ≡ fields_shown (zip columns row)
      = ap (λ (f : Option (List ℕ)). option_map (λ ts. texts ++ ts) (with_first f (fields_shown (zip columns_left left)))) (sym s.0) ∙ h.shown_so_far in
      let why : column.refusal InBinary value.bytes ≡ fields_refused (zip columns row)
      = ap (λ (f : Option (List ℕ)). refusal_or (column.refusal InBinary value.bytes) f (λ _. fields_refused (zip columns_left left))) (sym s.0) ∙ h.refused_later in
      (ap (option_map (all_with (codes " "))) (sym none), subst (λ (e : Option CodecError). RefusedAs e (string_bytes text)) why s.1)

zip_nothing : (columns : List LineType) → ◌≡◌ {A = List (LineType × Given)} (zip columns []) []
zip_nothing [] = refl
zip_nothing (c ∷ cs) = refl

all_shown : (columns : List LineType) (row : List Given) (texts : List (List ℕ)) (fields : List (LineType × Given)) → fields ≡ [] → option_map (λ ts. texts ++ ts) (fields_shown fields) ≡ fields_shown (zip columns row) →
    row_shown columns row ≡ Some (all_with (codes " ") texts)
all_shown columns row texts fields e h =
    let whole : Some texts ≡ fields_shown (zip columns row) = ap (λ (ts : List (List ℕ)). Some ts) (sym (append-nil texts)) ∙ (ap (λ (fs : List (LineType × Given)). option_map (λ ts. texts ++ ts) (fields_shown fs)) (sym e) ∙ h) in
    ap (option_map (all_with (codes " "))) (sym whole)

-- no column is left
pub no_column : (columns : List LineType) (row : List Given) (texts : List (List ℕ)) (columns_left : List LineType) (left : List Given) → columns_left ≡ [] → AreSoFar columns row texts columns_left left → row_shown columns row ≡ Some (all_with (codes " ") texts)
no_column columns row texts columns_left left e h = all_shown columns row texts (zip columns_left left) (ap (λ cs. zip cs left) e) h.shown_so_far

-- no value is left
pub no_value : (columns : List LineType) (row : List Given) (texts : List (List ℕ)) (columns_left : List LineType) (left : List Given) → left ≡ [] → AreSoFar columns row texts columns_left left → row_shown columns row ≡ Some (all_with (codes " ") texts)
no_value columns row texts columns_left left e h = all_shown columns row texts (zip columns_left left) (ap (zip columns_left) e ∙ zip_nothing columns_left) h.shown_so_far

-- ---- rows

yields_more : (columns : List LineType) (a b c : Copying) (texts : List (List ℕ)) (row : List Given) (text : List ℕ) → Yields columns a texts b → step b ≡ Ok (Some row, c) → row_shown columns row ≡ Some text → Yields columns a (texts ++ text ∷ []) c
yields_more columns a b c [] row text h s t = (row, c, subst (λ (r : Copying). step r ≡ Ok (Some row, c)) h s, t, refl)
yields_more columns a b c (x ∷ xs) row text h s t = (h.0, h.1, h.2, h.3, yields_more columns h.1 b c xs row text h.4 s t)

pub row_more : (columns : List LineType) (rest : List ℕ) (texts texts' : List (List ℕ)) (b c : Copying) (row : List Given) (text : Text) → Yields columns (reader_before (infos columns) rest) texts b → step b ≡ Ok (Some row, c) →
    ShowsRow columns row (Said text) → texts' ≡ texts ++ string_bytes text ∷ [] → Yields columns (reader_before (infos columns) rest) texts' c
row_more columns rest texts texts' b c row text y s t p =
    subst (λ (ts : List (List ℕ)). Yields columns (reader_before (infos columns) rest) ts c) (sym p) (yields_more columns (reader_before (infos columns) rest) b c texts row (string_bytes text) y s t)

pub ends : (columns : List LineType) (bytes rest : List ℕ) (texts : List (List ℕ)) (reader : Copying) (answer : List ℕ) → after_header bytes ≡ Ok rest → Yields columns (reader_before (infos columns) rest) texts reader →
    EndsWith columns texts (step reader) answer → CopiesFrom columns (after_header bytes) answer
ends columns bytes rest texts reader answer hd y a = subst (λ (r : Parsed (List ℕ)). CopiesFrom columns r answer) (sym hd) (texts, reader, y, a)

pub row_stops : (columns : List LineType) (bytes rest : List ℕ) (texts : List (List ℕ)) (reader next : Copying) (row : List Given) (text : Text) → after_header bytes ≡ Ok rest → Yields columns (reader_before (infos columns) rest) texts reader →
    step reader ≡ Ok (Some row, next) → ShowsRow columns row (Refused text) → CopiesFrom columns (after_header bytes) (string_bytes text)
row_stops columns bytes rest texts reader next row text hd y s t =
    ends columns bytes rest texts reader (string_bytes text) hd y (subst (λ (x : Step). EndsWith columns texts x (string_bytes text)) (sym s) t)

-- an error of a call that is not out of memory is the step's
step_fails : (s : Step) (takes : Bool) (e : CodecError) → Fails e (after takes (in_place s)) → e ≢ Memory → s ≡ Err e
step_fails (Ok x) takes e (inl h) n = absurd cc
step_fails (Err d) takes e (inl h) n = cc
step_fails (Ok x) takes e (inr (inl h)) n = absurd (let no : ◌≡◌ {A = Result (Option (List Given) × Copying) (Option CodecError)} (Ok x) (Err None) = h.0 in cc)
step_fails (Err d) takes e (inr (inl h)) n = absurd (let no : ◌≡◌ {A = Result (Option (List Given) × Copying) (Option CodecError)} (Err (Some d)) (Err None) = h.0 in cc)
step_fails s takes e (inr (inr h)) n = absurd (n h.0)

pub stream_refused : (columns : List LineType) (bytes rest : List ℕ) (texts : List (List ℕ)) (reader : Copying) (e : CodecError) (r : Result Text AllocError) → after_header bytes ≡ Ok rest → Yields columns (reader_before (infos columns) rest) texts reader →
    Fails e (next_row reader) → IfOk r (λ text. e ≢ Memory) → IfOk r (λ text. string_bytes text ≡ refused (code_of e)) → IfOk r (λ text. CopiesFrom columns (after_header bytes) (string_bytes text))
stream_refused columns bytes rest texts reader e (Err x) hd y s n t = tt
stream_refused columns bytes rest texts reader e (Ok text) hd y s n t =
    ends columns bytes rest texts reader (string_bytes text) hd y (subst (λ (x : Step). EndsWith columns texts x (string_bytes text)) (sym (step_fails (step reader) (row_takes 0 reader) e s n)) t)
