-- What is computed of a line is what it asks for.
use Rattle.std.proofs.Common.{◌≡◌, ◌++◌, ◌∙◌, sym, ap, subst, ℕ, List, [], ◌∷◌, refl, Option, Some, None, Result, Ok, Err}
use Rattle.std.specs.Prelude.{codes, option_map, IfOk}
use Rattle.std.specs.declared.alloc.AllocError.{AllocError}
use Rattle.std.proofs.lemmas.Option.{same_Some}
use Rattle.hex.specs.Hex.{decode_of}
use Rattle.hex.specs.declared.error.FromHexError.{FromHexError}
use Rattle.pgv_types.specs.declared.oid.Oid.{Oid}
use Rattle.pgv_more.specs.ByteaText.{ArePairs}
use Rattle.pgv_session.specs.declared.line.Request.{Request as Parsed}
use Rattle.pgv_session.specs.RequestsView.{request_seen}
use Rattle.pgv_session.specs.Lines.{first_word, after_word, words, oids_named, given_bytes, added, read_of, alone, add_line, null_line, resolve_line, read_line, copy_request, copy_line, hex_bytes, request}
use Rattle.pgv_session.specs.Spelled.{Request, asks, to_add, to_add_null, to_read, asks_holes, resolves, asks_wire, copies, IsName, SpellsNames, SpellsOids, SpellsPart, Spells, Asks}
use Rattle.pgv_session.proofs.SplitLines.{joined, whole, split_joined, word_or, before_has_none, none_after}
use Rattle.pgv_session.proofs.OidWords.{oids_are, oids_found}
use Rattle.pgv_session.proofs.HexTexts.{part_is, part_given, hex_is, hex_given, hex_is_name}
use Rattle.pgv_session.proofs.NameTexts.{names_are, names_found}
use Rattle.pgv_session.specs.LineLaws.{OneRequest, RequestIsItsSpelling}

-- ---- what is found is spelled

alone_spelled : (line verb : List ℕ) (asked r : Request) (rest : Option (List ℕ)) → line ≡ joined 32 verb rest → alone asked rest ≡ Some r → (line ≡ verb) × (asked ≡ r)
alone_spelled line verb asked r None l h = (l, same_Some asked r h)
alone_spelled line verb asked r (Some text) l h = absurd cc

added_spelled : (line text : List ℕ) (r : Request) (body : Option (List ℕ)) → line ≡ codes "add " ++ text → text ≡ joined 32 (first_word text) body → added (first_word text) body ≡ Some r → Spells r line
added_spelled line text r None l split h = absurd cc
added_spelled line text r (Some body) l split h =
    subst (λ (asked : Request). Spells asked line) (same_Some (asks (first_word text) (to_add body)) r h)
    (before_has_none 32 text, l ∙ ap (λ (xs : List ℕ). codes "add " ++ xs) split)

add_spelled : (line : List ℕ) (r : Request) (rest : Option (List ℕ)) → line ≡ joined 32 (codes "add") rest → add_line rest ≡ Some r → Spells r line
add_spelled line r None l h = absurd cc
add_spelled line r (Some text) l h = added_spelled line text r (after_word text) l (whole 32 text) h

null_spelled : (line : List ℕ) (r : Request) (rest : Option (List ℕ)) → line ≡ joined 32 (codes "null") rest → null_line rest ≡ Some r → Spells r line
null_spelled line r None l h = absurd cc
null_spelled line r (Some text) l h =
    let is = alone_spelled text (first_word text) (asks (first_word text) to_add_null) r (after_word text) (whole 32 text) h in
    subst (λ (asked : Request). Spells asked line) is.1 (before_has_none 32 text, l ∙ ap (λ (xs : List ℕ). codes "null " ++ xs) is.0)

resolve_of : (line text : List ℕ) (r : Request) (oids : Option (List Oid)) → line ≡ codes "resolve " ++ text → oids_named (words text) ≡ oids → option_map (λ oids. resolves oids) oids ≡ Some r → Spells r line
resolve_of line text r None l n h = absurd cc
resolve_of line text r (Some oids) l n h = subst (λ (asked : Request). Spells asked line) (same_Some (resolves oids) r h) (32 ∷ text, oids_are oids text n, l)

resolve_spelled : (line : List ℕ) (r : Request) (rest : Option (List ℕ)) → line ≡ joined 32 (codes "resolve") rest → resolve_line rest ≡ Some r → Spells r line
resolve_spelled line r None l h = subst (λ (asked : Request). Spells asked line) (same_Some (resolves []) r h) ([], refl, l)
resolve_spelled line r (Some text) l h = resolve_of line text r (oids_named (words text)) l refl h

part_spelled : (line name text : List ℕ) (r : Request) (part : Option (Option (List ℕ))) → IsName name → line ≡ codes "read " ++ (name ++ 32 ∷ text) → given_bytes text ≡ part →
    option_map (λ p. asks name (to_read p)) part ≡ Some r → Spells r line
part_spelled line name text r None n l g h = absurd cc
part_spelled line name text r (Some part) n l g h = subst (λ (asked : Request). Spells asked line) (same_Some (asks name (to_read part)) r h) (text, n, part_is text part g, l)

read_spelled_by : (line text : List ℕ) (r : Request) (body : Option (List ℕ)) → line ≡ codes "read " ++ text → text ≡ joined 32 (first_word text) body → read_of (first_word text) body ≡ Some r → Spells r line
read_spelled_by line text r None l split h = absurd cc
read_spelled_by line text r (Some body) l split h =
    part_spelled line (first_word text) body r (given_bytes body) (before_has_none 32 text) (l ∙ ap (λ (xs : List ℕ). codes "read " ++ xs) split) refl h

read_spelled : (line : List ℕ) (r : Request) (rest : Option (List ℕ)) → line ≡ joined 32 (codes "read") rest → read_line rest ≡ Some r → Spells r line
read_spelled line r None l h = absurd cc
read_spelled line r (Some text) l h = read_spelled_by line text r (after_word text) l (whole 32 text) h

copied_spelled : (line text : List ℕ) (r : Request) (decoded : Result (List ℕ) FromHexError) (body : Option (List ℕ)) → line ≡ codes "copy " ++ text → text ≡ joined 32 (first_word text) body →
    decode_of (first_word text) ≡ decoded → copy_request (hex_bytes decoded) body ≡ Some r → Spells r line
copied_spelled line text r (Err e) body l split d h = absurd cc
copied_spelled line text r (Ok bytes) None l split d h = absurd cc
copied_spelled line text r (Ok bytes) (Some names) l split d h =
    subst (λ (asked : Request). Spells asked line) (same_Some (copies bytes (words names)) r h)
    (first_word text, names, hex_is (first_word text) bytes d, names_are (words names) names refl, l ∙ ap (λ (xs : List ℕ). codes "copy " ++ xs) split)

copy_spelled : (line : List ℕ) (r : Request) (rest : Option (List ℕ)) → line ≡ joined 32 (codes "copy") rest → copy_line rest ≡ Some r → Spells r line
copy_spelled line r None l h = absurd cc
copy_spelled line r (Some text) l h = copied_spelled line text r (decode_of (first_word text)) (after_word text) l (whole 32 text) refl h

spelled : (line : List ℕ) (r : Request) → request line ≡ Some r → Spells r line
spelled line r h =
    let verb = first_word line in
    let rest = after_word line in
    let put : (name : List ℕ) → verb ≡ name → line ≡ joined 32 name rest = λ name e. whole 32 line ∙ ap (λ (word : List ℕ). joined 32 word rest) e in
    word_or verb (codes "add") (add_line rest) _ r (λ e s. add_spelled line r rest (put _ e) s)
    (word_or verb (codes "null") (null_line rest) _ r (λ e s. null_spelled line r rest (put _ e) s)
    (word_or verb (codes "holes") (alone asks_holes rest) _ r
    (λ e s. let is = alone_spelled line (codes "holes") asks_holes r rest (put _ e) s in subst (λ (asked : Request). Spells asked line) is.1 is.0)
    (word_or verb (codes "resolve") (resolve_line rest) _ r (λ e s. resolve_spelled line r rest (put _ e) s)
    (word_or verb (codes "wire") (alone asks_wire rest) _ r
    (λ e s. let is = alone_spelled line (codes "wire") asks_wire r rest (put _ e) s in subst (λ (asked : Request). Spells asked line) is.1 is.0)
    (word_or verb (codes "read") (read_line rest) _ r (λ e s. read_spelled line r rest (put _ e) s)
    (word_or verb (codes "copy") (copy_line rest) None r (λ e s. copy_spelled line r rest (put _ e) s) (λ s. absurd cc))))))) h

-- ---- what is spelled is found

add_found : (name text : List ℕ) → IsName name → add_line (Some (name ++ 32 ∷ text)) ≡ Some (asks name (to_add text))
add_found name text n = let parts = split_joined 32 name (Some text) (none_after 32 name n) in rw (parts.0, parts.1) refl

null_found : (name : List ℕ) → IsName name → null_line (Some name) ≡ Some (asks name to_add_null)
null_found name n = let parts = split_joined 32 name None (none_after 32 name n) in rw (parts.0, parts.1) refl

read_found : (name text : List ℕ) (part : Option (List ℕ)) → IsName name → SpellsPart part text → read_line (Some (name ++ 32 ∷ text)) ≡ Some (asks name (to_read part))
read_found name text part n s = let parts = split_joined 32 name (Some text) (none_after 32 name n) in rw (parts.0, parts.1, part_given text part s) refl

copy_found : (bytes : List ℕ) (names : List (List ℕ)) (text rest : List ℕ) → ArePairs bytes text → SpellsNames names rest → copy_line (Some (text ++ 32 ∷ rest)) ≡ Some (copies bytes names)
copy_found bytes names text rest s n =
    let parts = split_joined 32 text (Some rest) (none_after 32 text (hex_is_name bytes text s)) in
    rw (parts.0, parts.1, hex_given text bytes s, names_found names rest n) refl

resolve_found : (oids : List Oid) (text : List ℕ) → SpellsOids oids text → request (codes "resolve" ++ text) ≡ Some (resolves oids)
resolve_found [] text s = ap (λ (xs : List ℕ). request (codes "resolve" ++ xs)) s
resolve_found (oid ∷ oids) text s = ap (λ (xs : List ℕ). request (codes "resolve" ++ xs)) s.4 ∙ ap (option_map (λ os. resolves os)) (oids_found s.0 oid oids s.1 s.2 s.3)

found : (r : Request) (line : List ℕ) → Spells r line → request line ≡ Some r
found (asks name (to_add text)) line s = ap request s.1 ∙ add_found name text s.0
found (asks name to_add_null) line s = ap request s.1 ∙ null_found name s.0
found asks_holes line s = ap request s
found (resolves oids) line s = ap request s.2 ∙ resolve_found oids s.0 s.1
found asks_wire line s = ap request s
found (copies bytes names) line s = ap request s.4 ∙ copy_found bytes names s.0 s.1 s.2 s.3
found (asks name (to_read part)) line s = ap request s.3 ∙ read_found name s.0 part s.1 s.2

-- ---- exactly

asked_is : (line : List ℕ) (asked : Option Request) → request line ≡ asked → Asks line asked
asked_is line None e = λ r s. let some = found r line s in cc
asked_is line (Some r) e = spelled line r e

none_found : (line : List ℕ) (some : Option Request) → request line ≡ some → Asks line None → request line ≡ None
none_found line None e h = e
none_found line (Some r) e h = absurd (h r (spelled line r e))

asked_found : (line : List ℕ) (asked : Option Request) → Asks line asked → request line ≡ asked
asked_found line None h = none_found line (request line) refl h
asked_found line (Some r) s = found r line s

pub request_exactly : RequestIsItsSpelling
unfolding RequestIsItsSpelling
request_exactly line asked = (asked_is line asked, asked_found line asked)

pub one_asked : OneRequest
unfolding OneRequest
one_asked line asked other a b = sym (asked_found line asked a) ∙ asked_found line other b

-- what is parsed of a line is what it asks for
pub meant : (line : List ℕ) (r : Result (Option Parsed) AllocError) → IfOk r (λ found. option_map request_seen found ≡ request line) → IfOk r (λ found. Asks line (option_map request_seen found))
meant line (Ok parsed) h = asked_is line (option_map request_seen parsed) (sym h)
meant line (Err e) h = tt
