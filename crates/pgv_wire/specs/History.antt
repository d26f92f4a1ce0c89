-- Any list of calls on arguments, and what they leave. The state of `PgArguments` is a list of arguments. An accepted
-- addition appends one, shown as in `blank`. A filling shows each argument as `early` writes it. So the bytes are the
-- frames at the last filling, written early with what it was given, and then the other frames blank. A law says so over
-- every list of calls (`bytes_by`). Of running arguments it is known that there are such types and OIDs, of the right
-- number (`WrittenEarly`), and not which. That they are the last filling's is what that law and the filling's own
-- contract say.
use Rattle.std.specs.Prelude.{◌≡◌, ℕ, List, [], ◌∷◌, ◌++◌, map, length, ⊤}
use Rattle.std.specs.List.{flat_map}
use Rattle.pgv_types.specs.Ty.{Ty}
use Rattle.pgv_types.specs.declared.oid.Oid.{Oid}
use Rattle.pgv_buf.specs.Tokens.{Token, bytes, blank, shown, width, tokens_holes}
use Rattle.pgv_wire.specs.Arguments.{Argument, Framed, framed, all_cells, early, filled_arguments}

-- an accepted addition, an accepted filling, or a call that was refused
pub data Call : Type 0 where
  adds : Framed → Call
  fills : List Ty → List Oid → Call
  is_refused : Call

-- arguments that are not filled yet
abbrev pub blanks : List Framed → List Argument
blanks = map (λ f. (f.0, blank f.1))

-- as the calls' contracts have it
abbrev pub after_calls : List Argument → List Call → List Argument
after_calls args [] = args
after_calls args (adds f ∷ calls) = after_calls (args ++ (f.0, blank f.1) ∷ []) calls
after_calls args (fills ps os ∷ calls) = after_calls (filled_arguments (framed args) ps os) calls
after_calls args (is_refused ∷ calls) = after_calls args calls

-- the arguments at the last filling, what it was given, and those added since
pub record LastFilling : Type 0 where
  pub filled : List Framed
  pub types : List Ty
  pub oids : List Oid
  pub since : List Framed

abbrev pub with_added : LastFilling → Framed → LastFilling
with_added h f = record { filled = h.filled; types = h.types; oids = h.oids; since = h.since ++ f ∷ [] }

abbrev pub with_filled : LastFilling → List Ty → List Oid → LastFilling
with_filled h ps os = record { filled = h.filled ++ h.since; types = ps; oids = os; since = [] }

abbrev pub last_filling_by : LastFilling → List Call → LastFilling
last_filling_by h [] = h
last_filling_by h (adds f ∷ calls) = last_filling_by (with_added h f) calls
last_filling_by h (fills ps os ∷ calls) = last_filling_by (with_filled h ps os) calls
last_filling_by h (is_refused ∷ calls) = last_filling_by h calls

abbrev pub last_filling : List Call → LastFilling
last_filling calls = last_filling_by (record { filled = []; types = []; oids = []; since = [] }) calls

-- the bytes: those at the last filling written early, the others blank
abbrev pub bytes_by : LastFilling → List ℕ
bytes_by h = early h.filled h.types h.oids ++ shown (all_cells (blanks h.since))

-- the arguments: those at the last filling as it left them, and the others blank
abbrev pub left_by : LastFilling → List Argument
left_by h = filled_arguments h.filled h.types h.oids ++ blanks h.since

-- the accepted additions, in order, whatever was filled or refused between
abbrev pub added_in : List Call → List Framed
added_in [] = []
added_in (adds f ∷ calls) = f ∷ added_in calls
added_in (fills ps os ∷ calls) = added_in calls
added_in (is_refused ∷ calls) = added_in calls

-- their tokens, one after another
abbrev pub joined_frames : List Framed → List Token
joined_frames = flat_map (λ f. f.1)

abbrev pub framed_types : List Framed → List Ty
framed_types = map (λ f. f.0)

-- arguments that a filling with as many types and OIDs as arguments and holes, and additions since, have left
pub record LeftBy (args : List Argument) (h : LastFilling) : Type 0 where
  pub arguments_are : args ≡ left_by h
  pub as_many_types : length h.types ≡ length h.filled
  pub as_many_oids : length h.oids ≡ tokens_holes (joined_frames h.filled)

abbrev pub LeftBySome : List Argument → Type 0
LeftBySome args = (h : LastFilling) × LeftBy args h

-- there are types and OIDs with which the bytes are the first n frames, written early, as many as these have
-- arguments and holes, and then the others blank; there are no other frames
abbrev pub WrittenEarly : List Argument → Type 0
WrittenEarly args =
    (h : LastFilling) × (framed args ≡ h.filled ++ h.since) × (length h.types ≡ length h.filled) × (length h.oids ≡ tokens_holes (joined_frames h.filled)) × (shown (all_cells args) ≡ bytes_by h)

-- the lengths of arguments
abbrev pub lengths_in : List Argument → List ℕ
lengths_in = map (λ a. width a.1)

-- frames without holes and slots, which are these bytes
abbrev pub ArePlain : List Framed → List (List ℕ) → Type 0
ArePlain [] [] = ⊤
ArePlain [] (xs ∷ xss) = ⊥
ArePlain (f ∷ fs) [] = ⊥
ArePlain (f ∷ fs) (xs ∷ xss) = (f.1 ≡ bytes xs) × ArePlain fs xss

abbrev pub joined_bytes : List (List ℕ) → List ℕ
joined_bytes = flat_map (λ xs. xs)
