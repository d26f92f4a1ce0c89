-- What any list of calls leaves.
use Rattle.std.proofs.Common.{◌≡◌, ℕ, List, [], ◌∷◌, ◌++◌, take, drop, refl, sym, ◌∙◌, ap, subst, append_assoc, append-nil, map, replicate}
use Rattle.std.proofs.lemmas.Grind.{flat_map-append}
use Rattle.std.proofs.lemmas.List.{map-append}
use Rattle.pgv_types.specs.Ty.{Ty}
use Rattle.pgv_types.specs.declared.oid.Oid.{Oid}
use Rattle.pgv_buf.specs.Tokens.{tokens_holes, tokens_slots, tokens_hole_types, Cell, bytes, tokens_width, blank, plain, shown, width, hole_types_of}
use Rattle.pgv_buf.specs.Fill.{filled_cells}
use Rattle.pgv_buf.proofs.CellSteps.{shown-bytes}
use Rattle.pgv_buf.specs.Proper.{shown-append, first_type, rest_of}
use Rattle.pgv_wire.specs.Arguments.{Argument, Framed, framed, all_cells, types_in, filled_frame, filled_arguments}
use Rattle.pgv_wire.specs.History.{LeftBySome, WrittenEarly, left_by, with_added, with_filled, Call, adds, fills, is_refused, blanks, after_calls, LastFilling, last_filling_by, last_filling, bytes_by, added_in, joined_frames, framed_types, lengths_in, ArePlain, joined_bytes}
use Rattle.pgv_wire.proofs.ArgumentLists.{late_is_early, types-framed}
use Rattle.pgv_wire.proofs.Framed.{framed-filled, framed-blanks, joined-plain, left-added, left-filled, framed-left}

-- a second filling answers as if it were the only one
pub filled_over : (fs : List Framed) (ps ps' : List Ty) (os os' : List Oid) → filled_arguments (framed (filled_arguments fs ps os)) ps' os' ≡ filled_arguments fs ps' os'
filled_over fs ps ps' os os' = ap (λ f. filled_arguments f ps' os') (framed-filled fs ps os)

stands-shown : (h : LastFilling) → shown (all_cells (left_by h)) ≡ bytes_by h
stands-shown h =
    let a = filled_arguments h.filled h.types h.oids in
    ap shown (flat_map-append (λ (x : Argument). x.1) a (blanks h.since))
    ∙ (shown-append (all_cells a) (all_cells (blanks h.since)) ∙ ap (λ r. r ++ shown (all_cells (blanks h.since))) (late_is_early h.filled h.types h.oids))

after_calls-left : (calls : List Call) (args : List Argument) (h : LastFilling) → args ≡ left_by h → after_calls args calls ≡ left_by (last_filling_by h calls)
after_calls-left [] args h e = e
after_calls-left (adds f ∷ calls) args h e = after_calls-left calls (args ++ (f.0, blank f.1) ∷ []) (with_added h f) (left-added args h f e)
after_calls-left (fills ps os ∷ calls) args h e = after_calls-left calls (filled_arguments (framed args) ps os) (with_filled h ps os) (left-filled args h ps os e)
after_calls-left (is_refused ∷ calls) args h e = after_calls-left calls args h e

-- the arguments after any list of calls
pub left_told : (calls : List Call) → after_calls [] calls ≡ left_by (last_filling calls)
left_told calls = after_calls-left calls [] (record { filled = []; types = []; oids = []; since = [] }) refl

-- what a filling and later additions have left shows what is written early
pub written_early : (args : List Argument) → LeftBySome args → WrittenEarly args
written_early args l = (
  l.0,
  framed-left args l.0 l.1.arguments_are,
  l.1.as_many_types,
  l.1.as_many_oids,
  ap (λ a. shown (all_cells a)) l.1.arguments_are ∙ stands-shown l.0,
)

pub history_told : (calls : List Call) → shown (all_cells (after_calls [] calls)) ≡ bytes_by (last_filling calls)
history_told calls = ap (λ a. shown (all_cells a)) (left_told calls) ∙ stands-shown (last_filling calls)

-- ---- what doesn't depend on what is filled in

after_calls-framed : (calls : List Call) (args : List Argument) → framed (after_calls args calls) ≡ framed args ++ added_in calls
after_calls-framed [] args = sym (append-nil (framed args))
after_calls-framed (adds f ∷ calls) args =
    after_calls-framed calls (args ++ (f.0, blank f.1) ∷ [])
    ∙ (ap (λ (r : List Framed). r ++ added_in calls) (map-append (λ (x : Argument). (x.0, plain x.1)) args ((f.0, blank f.1) ∷ []) ∙ ap (λ (r : List Framed). framed args ++ r) (framed-blanks (f ∷ [])))
    ∙ append_assoc (framed args) (f ∷ []) (added_in calls))
after_calls-framed (fills ps os ∷ calls) args =
    after_calls-framed calls (filled_arguments (framed args) ps os) ∙ ap (λ (r : List Framed). r ++ added_in calls) (framed-filled (framed args) ps os)
after_calls-framed (is_refused ∷ calls) args = after_calls-framed calls args

pub only_added : (calls : List Call) → framed (after_calls [] calls) ≡ added_in calls
only_added calls = after_calls-framed calls []

pub holes_told : (calls : List Call) → hole_types_of (all_cells (after_calls [] calls)) ≡ tokens_hole_types (joined_frames (added_in calls))
holes_told calls =
    let args : List Argument = after_calls [] calls in
    ap tokens_hole_types (joined-plain args) ∙ ap (λ (f : List Framed). tokens_hole_types (joined_frames f)) (only_added calls)

pub width_told : (calls : List Call) → width (all_cells (after_calls [] calls)) ≡ tokens_width (joined_frames (added_in calls))
width_told calls =
    let args : List Argument = after_calls [] calls in
    ap tokens_width (joined-plain args) ∙ ap (λ (f : List Framed). tokens_width (joined_frames f)) (only_added calls)

pub types_told : (calls : List Call) → types_in (after_calls [] calls) ≡ framed_types (added_in calls)
types_told calls = types-framed (after_calls [] calls) ∙ ap framed_types (only_added calls)

lengths-framed : (args : List Argument) → lengths_in args ≡ map (λ f. tokens_width f.1) (framed args)
lengths-framed [] = refl
lengths-framed (a ∷ args) = ap (λ (r : List ℕ). width a.1 ∷ r) (lengths-framed args)

pub lengths_kept : (args : List Argument) (ps : List Ty) (os : List Oid) → lengths_in (filled_arguments (framed args) ps os) ≡ lengths_in args
lengths_kept args ps os =
    lengths-framed (filled_arguments (framed args) ps os)
    ∙ (ap (λ (fs : List Framed). map (λ f. tokens_width f.1) fs) (framed-filled (framed args) ps os) ∙ sym (lengths-framed args))

-- ---- frames without holes and slots

filled_bytes : (ps : List Ty) (os : List Oid) (xs : List ℕ) → shown (filled_cells ps os (bytes xs)) ≡ xs
filled_bytes ps os [] = refl
filled_bytes ps os (x ∷ xs) = ap (λ r. x ∷ r) (filled_bytes ps os xs)

plain_blank : (fs : List Framed) (xss : List (List ℕ)) → ArePlain fs xss → shown (all_cells (blanks fs)) ≡ joined_bytes xss
plain_blank [] [] h = refl
plain_blank [] (xs ∷ xss) h = absurd h
plain_blank (f ∷ fs) [] h = absurd h
plain_blank (f ∷ fs) (xs ∷ xss) h =
    shown-append (blank f.1) (all_cells (blanks fs))
    ∙ (ap (λ (r : List ℕ). r ++ shown (all_cells (blanks fs))) (ap (λ r. shown (blank r)) h.0 ∙ shown-bytes xs) ∙ ap (λ (r : List ℕ). xs ++ r) (plain_blank fs xss h.1))

plain_left : (fs since : List Framed) (ps : List Ty) (os : List Oid) (xss : List (List ℕ)) → ArePlain (fs ++ since) xss → shown (all_cells (filled_arguments fs ps os ++ blanks since)) ≡ joined_bytes xss
plain_left [] since ps os xss h = plain_blank since xss h
plain_left (f ∷ fs) since ps os [] h = absurd h
plain_left (f ∷ fs) since ps os (xs ∷ xss) h =
    let first : List Cell = filled_frame (first_type ps) (take (tokens_holes f.1) os) f.1 in
    let others : List Cell = all_cells (filled_arguments fs (rest_of ps) (drop (tokens_holes f.1) os) ++ blanks since) in
    let there : shown first ≡ xs = ap (λ r. shown (filled_frame (first_type ps) (take (tokens_holes f.1) os) r)) h.0 ∙ filled_bytes (replicate (tokens_slots (bytes xs)) (first_type ps)) (take (tokens_holes f.1) os) xs in
    shown-append first others
    ∙ (ap (λ (r : List ℕ). r ++ shown others) there ∙ ap (λ (r : List ℕ). xs ++ r) (plain_left fs since (rest_of ps) (drop (tokens_holes f.1) os) xss h.1))

pub plain_told : (calls : List Call) (xss : List (List ℕ)) → ArePlain (added_in calls) xss → shown (all_cells (after_calls [] calls)) ≡ joined_bytes xss
plain_told calls xss h =
    let l : LastFilling = last_filling calls in
    let same : added_in calls ≡ l.filled ++ l.since = sym (only_added calls) ∙ framed-left (after_calls [] calls) l (left_told calls) in
    ap (λ a. shown (all_cells a)) (left_told calls) ∙ plain_left l.filled l.since l.types l.oids xss (subst (λ (f : List Framed). ArePlain f xss) same h)
