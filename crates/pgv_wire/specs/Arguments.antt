-- A list of arguments, each a type and the cells of its frame, and what it is written as with parameter types and OIDs
-- (PostgreSQL: "Message Formats", Bind; "Extended Query").
-- Early writing (`early`): each frame is written with its own parameter type and its share of the OIDs, in order.
use Rattle.std.specs.Prelude.{◌≡◌, ℕ, List, [], ◌∷◌, ◌++◌, map, take, drop, replicate, true, Some, Result, Ok, Err, ⊤}
use Rattle.std.specs.List.{flat_map}
use Rattle.pgv_types.specs.Ty.{Ty}
use Rattle.pgv_types.specs.declared.oid.Oid.{Oid}
use Rattle.pgv_buf.specs.Tokens.{Token, tokens_holes, tokens_slots, Cell, blank, plain, slot_count}
use Rattle.pgv_buf.specs.Fill.{filled_cells}
use Rattle.pgv_buf.specs.Proper.{first_type, rest_of}
use Rattle.pgv_value.specs.Outcome.{Outcome, Fails, after}
use Rattle.pgv_value.specs.declared.error.CodecError.{CodecError}
use Rattle.pgv_codec.specs.Encoding.{Encoding, frame}
use Rattle.pgv_codec.specs.Writing.{write}

abbrev pub Argument : Type 0
Argument = Ty × List Cell

abbrev pub all_cells : List Argument → List Cell
all_cells = flat_map (λ a. a.1)

abbrev pub types_in : List Argument → List Ty
types_in = map (λ a. a.0)

abbrev pub counts_in : List Argument → List ℕ
counts_in = map (λ a. slot_count a.1)

-- ---- written early

-- a type and the tokens of a frame
abbrev pub Framed : Type 0
Framed = Ty × List Token

abbrev pub framed : List Argument → List Framed
framed = map (λ a. (a.0, plain a.1))

-- each frame with its own parameter type and its share of the OIDs
abbrev pub early : List Framed → List Ty → List Oid → List ℕ
early [] ps os = []
early (a ∷ args) ps os = write (Some (first_type ps)) (take (tokens_holes a.1) os) a.1 ++ early args (rest_of ps) (drop (tokens_holes a.1) os)

-- a frame that shows what it is written as
abbrev pub filled_frame : Ty → List Oid → List Token → List Cell
filled_frame p os f = filled_cells (replicate (tokens_slots f) p) os f

-- so each frame, with its own parameter type and its share of the OIDs
abbrev pub filled_arguments : List Framed → List Ty → List Oid → List Argument
filled_arguments [] ps os = []
filled_arguments (f ∷ fs) ps os = (f.0, filled_frame (first_type ps) (take (tokens_holes f.1) os) f.1) ∷ filled_arguments fs (rest_of ps) (drop (tokens_holes f.1) os)

-- an argument is added at the end, not yet filled
abbrev pub Added : Outcome (List Token) → Ty → List Argument → List Argument → Type 0
Added f t was now = (ts : List Token) × (f.answer ≡ Ok ts) × (now ≡ was ++ (t, blank ts) ∷ [])

-- so it is, or it is refused as stated
abbrev pub Adds : Outcome (List Token) → Ty → List Argument → List Argument → Result ⊤ CodecError → Type 0
Adds f t was now (Ok done) = Added f t was now
Adds f t was now (Err e) = Fails e f

-- the frame of a value, for which memory may be asked for from the start
abbrev pub argument_frame : Encoding → Outcome (List Token)
argument_frame e = after true (frame e)
