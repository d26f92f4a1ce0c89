-- Rows that are read after each piece are the rows of the joined bytes.
use Rattle.std.proofs.Common.{◌≡◌, ℕ, Bool, true, false, List, [], ◌∷◌, ◌++◌, length, map, Option, Some, None, Ok, refl, sym, ap, ◌∙◌, subst, append_assoc, append-nil}
use Rattle.std.specs.Prelude.{flat_map}
use Rattle.std.specs.List.{AllByRecursion}
use Rattle.std.proofs.lemmas.Option.{same_Some}
use Rattle.pgv_types.specs.Ty.{Ty}
use Rattle.pgv_value.specs.FrameBinary.{Part, row_bytes}
use Rattle.pgv_value.specs.Parsed.{Parsed}
use Rattle.pgv_value.specs.ValueView.{Given}
use Rattle.pgv_value.proofs.Outcomes.{ok_is}
use Rattle.pgv_copy.specs.CopyBinary.{Step, after_header, reader_before, reader_ended, step}
use Rattle.pgv_copy.specs.CopyPieces.{CopyInPiecesIsItsRows, NoRow, PiecesAreOneStream, ReadRows, Stays, further, joined, next_of, WhatCameStays}
use Rattle.pgv_copy.specs.CopyStream.{IsRow, trailer, values}
use Rattle.pgv_copy.specs.CopyView.{Copying}
use Rattle.pgv_copy.proofs.StreamParts.{header_there, row_there, trailer_there}
use Rattle.pgv_copy.proofs.Stays.{what_came_stays}

-- ---- rows with more behind them

ok_stays : {A : Type 0} (f : A → A) (r later : Parsed A) (x : A) → r ≡ Ok x → Stays f r later → later ≡ Ok (f x)
ok_stays {A} f r later x is h = subst (λ (q : Parsed A). Stays f q later) is h

rows_stay : (types : List Ty) (in_header after : Bool) (bytes left more : List ℕ) (rows : List (List Given)) → ReadRows types in_header bytes rows after left → ReadRows types in_header (bytes ++ more) rows after (left ++ more)
unfolding WhatCameStays
rows_stay types in_header after bytes left more [] r = (r.0, ap (λ (xs : List ℕ). xs ++ more) r.1)
rows_stay types in_header after bytes left more (row ∷ rows) r = (
  r.0 ++ more,
  ok_stays (further more) (next_of types in_header bytes) (next_of types in_header (bytes ++ more)) (Some row, reader_before types r.0) r.1 (what_came_stays types in_header bytes more),
  rows_stay types false after r.0 left more rows r.2,
)

rows_joined : (types : List Ty) (in_header mid after : Bool) (bytes kept left : List ℕ) (first later : List (List Given)) →
    ReadRows types in_header bytes first mid kept → ReadRows types mid kept later after left → ReadRows types in_header bytes (first ++ later) after left
rows_joined types in_header mid after bytes kept left [] later r more =
    subst (λ (b : Bool). ReadRows types b bytes later after left) (sym r.0) (subst (λ (xs : List ℕ). ReadRows types mid xs later after left) (sym r.1) more)
rows_joined types in_header mid after bytes kept left (row ∷ first) later r more = (r.0, r.1, rows_joined types false mid after r.0 kept left first later r.2 more)

pub pieces_are : PiecesAreOneStream
unfolding PiecesAreOneStream
pieces_are types in_header after held left [] rows r =
    subst (λ (xs : List (List Given)). ReadRows types in_header (held ++ []) xs after left) (sym r.0) (r.1, append-nil held ∙ r.2)
pieces_are types in_header after held left (piece ∷ pieces) rows r =
    let first : List (List Given) = r.0 in
    let later : List (List Given) = r.1 in
    let mid : Bool = r.2 in
    let kept : List ℕ = r.3 in
    let rest : List ℕ = joined pieces in
    let front = rows_stay types in_header mid (held ++ piece) kept rest first r.5 in
    let back = pieces_are types mid after kept left pieces later r.6 in
    let whole = rows_joined types in_header mid after ((held ++ piece) ++ rest) (kept ++ rest) left first later front back in
    subst (λ (xs : List (List Given)). ReadRows types in_header (held ++ (piece ++ rest)) xs after left) (sym r.4)
    (subst (λ (bytes : List ℕ). ReadRows types in_header bytes (first ++ later) after left) (append_assoc held piece rest) whole)

-- ---- where all rows are read that are there

no_row : (s : Step) (row : List Given) (reader : Copying) → s ≡ Ok (Some row, reader) → NoRow s → ⊥
no_row s row reader is none = let no : (let o : Option (List Given) = Some row in o) ≡ None = subst NoRow is none in absurd cc

same_row : (types : List Ty) (x y : List Given) (a b : List ℕ) → (let s : Step = Ok (Some x, reader_before types a) in s) ≡ Ok (Some y, reader_before types b) → (x ≡ y) × (a ≡ b)
same_row types x y a b e =
    let pair = ok_is {A = Option (List Given) × Copying} (Some x, reader_before types a) (Some y, reader_before types b) e in (
      same_Some {A = List Given} x y (ap (λ (p : Option (List Given) × Copying). p.0) pair),
      same_Some {A = List ℕ} a b (ap (λ (p : Option (List Given) × Copying). p.1.left) pair),
    )

record AreSame (types : List Ty) (given wanted : List (List Given)) (now then : Step) : Type 0 where
  rows : given ≡ wanted
  ends : now ≡ then

only : (types : List Ty) (in_header a b : Bool) (bytes left other : List ℕ) (given wanted : List (List Given)) → ReadRows types in_header bytes given a left → NoRow (next_of types a left) →
    ReadRows types in_header bytes wanted b other → NoRow (next_of types b other) → AreSame types given wanted (next_of types a left) (next_of types b other)
only types in_header a b bytes left other [] [] r none s none_then =
    record { rows = refl; ends = ap (λ (h : Bool). next_of types h left) (sym r.0) ∙ ap (next_of types in_header) (sym r.1 ∙ s.1) ∙ ap (λ (h : Bool). next_of types h other) s.0 }
only types in_header a b bytes left other [] (row ∷ wanted) r none s none_then =
    let is : next_of types a left ≡ next_of types in_header bytes = ap (λ (h : Bool). next_of types h left) (sym r.0) ∙ ap (next_of types in_header) (sym r.1) in
    absurd (no_row (next_of types a left) row (reader_before types s.0) (is ∙ s.1) none)
only types in_header a b bytes left other (row ∷ given) [] r none s none_then =
    let is : next_of types b other ≡ next_of types in_header bytes = ap (λ (h : Bool). next_of types h other) (sym s.0) ∙ ap (next_of types in_header) (sym s.1) in
    absurd (no_row (next_of types b other) row (reader_before types r.0) (is ∙ r.1) none_then)
only types in_header a b bytes left other (row ∷ given) (want ∷ wanted) r none s none_then =
    let same = same_row types row want r.0 s.0 (sym r.1 ∙ s.1) in
    let rest : ReadRows types false r.0 wanted b other = subst (λ (xs : List ℕ). ReadRows types false xs wanted b other) (sym same.1) s.2 in
    let more = only types false a b r.0 left other given wanted r.2 none rest none_then in
    record { rows = ap (λ (x : List Given). x ∷ given) same.0 ∙ ap (λ (xs : List (List Given)). want ∷ xs) more.rows; ends = more.ends }

-- ---- a whole stream

stream_rows : (types : List Ty) (rows : List (List Part)) (tail : List ℕ) → AllByRecursion (IsRow (length types)) rows → ReadRows types false (flat_map row_bytes rows ++ tail) (map (values types) rows) false tail
stream_rows types [] tail each = (refl, refl)
stream_rows types (row ∷ rows) tail each =
    let next : List ℕ = flat_map row_bytes rows ++ tail in
    (next, ap (λ (bytes : List ℕ). step (reader_before types bytes)) (append_assoc (row_bytes row) (flat_map row_bytes rows) tail) ∙ row_there types row next each.0, stream_rows types rows tail each.1)

begun : (types : List Ty) (bytes rest : List ℕ) → after_header bytes ≡ Ok rest → next_of types true bytes ≡ step (reader_before types rest)
begun types bytes rest e = rw e refl

record WholeRows (types : List Ty) (bytes : List ℕ) (rows : List (List Given)) : Type 0 where
  after : Bool
  left : List ℕ
  read : ReadRows types true bytes rows after left
  ends : next_of types after left ≡ Ok (None, reader_ended types)

whole_rows : (types : List Ty) (bytes : List ℕ) (rows : List (List Part)) (rest follows : List ℕ) → after_header bytes ≡ Ok rest → rest ≡ flat_map row_bytes rows ++ (trailer ++ follows) → AllByRecursion (IsRow (length types)) rows →
    WholeRows types bytes (map (values types) rows)
whole_rows types bytes [] rest follows head is each =
    record { after = true; left = bytes; read = (refl, refl); ends = begun types bytes rest head ∙ ap (λ (xs : List ℕ). step (reader_before types xs)) is ∙ trailer_there types follows }
whole_rows types bytes (row ∷ rows) rest follows head is each =
    let tail : List ℕ = trailer ++ follows in
    let read = stream_rows types (row ∷ rows) tail each in
    record {
      after = false;
      left = tail;
      read = (read.0, begun types bytes rest head ∙ ap (λ (xs : List ℕ). step (reader_before types xs)) is ∙ read.1, read.2);
      ends = trailer_there types follows;
    }

pub in_pieces : CopyInPiecesIsItsRows
unfolding CopyInPiecesIsItsRows PiecesAreOneStream
in_pieces types pieces rows follows given after left stream read none =
    let rest : List ℕ = flat_map row_bytes rows ++ (trailer ++ follows) in
    let head : after_header (joined pieces) ≡ Ok rest = ap after_header stream.whole ∙ header_there stream.head rest stream.begins in
    let whole = whole_rows types (joined pieces) rows rest follows head refl stream.each in
    let ends : NoRow (next_of types whole.after whole.left) = subst NoRow (sym whole.ends) refl in
    let same = only types true after whole.after (joined pieces) left whole.left given (map (values types) rows) (pieces_are types true after [] left pieces given read) none whole.read ends in
    (same.rows, same.ends ∙ whole.ends)
