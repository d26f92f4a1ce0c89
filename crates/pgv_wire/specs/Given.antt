-- What each argument was given last (`LastGiven`): at the last filling, the type of its parameter and its share of the
-- OIDs; or no type and zeros, where no filling came since it was added. Laws: the parts of all arguments are written
-- with these, after any list of calls (`parts_after`). The buffer is read frame by frame, and each part by its own type
-- as what its value keeps, where the value fits (`argument_reads_back`, `ArgumentReadsBack`).
use Rattle.std.specs.Prelude.{◌≡◌, ℕ, List, [], ◌∷◌, ◌++◌, map, take, drop, replicate, Option, Some, None, Ok}
use Rattle.std.specs.List.{slice_get}
use Rattle.pgv_types.specs.Ty.{Ty}
use Rattle.pgv_types.specs.declared.oid.Oid.{Oid}
use Rattle.pgv_buf.specs.Proper.{Proper, first_type, rest_of}
use Rattle.pgv_buf.specs.Tokens.{tokens_holes, shown}
use Rattle.pgv_value.specs.FrameBinary.{Part}
use Rattle.pgv_value.specs.Reading.{Reading}
use Rattle.pgv_value.specs.declared.value.PgValueFormat.TheVariants.{Binary}
use Rattle.pgv_wire.specs.Arguments.{Framed, all_cells}
use Rattle.pgv_codec.specs.Back.{AreOids}
use Rattle.pgv_wire.specs.History.{Call, LastFilling, last_filling, after_calls, added_in}
use Rattle.pgv_codec.specs.Encoding.{Encoding, Image, frame}
use Rattle.pgv_wire.specs.ArgumentParts.{AreImages, ReadAs}
use Rattle.pgv_codec.specs.Writing.{written_part}

pub record LastGiven : Type 0 where
  pub parameter : Option Ty
  pub oids : List Oid

abbrev pub zeros : ℕ → List Oid
zeros n = replicate n (record { 0 = 0 })

-- the arguments at a filling
abbrev pub given_by : List Framed → List Ty → List Oid → List LastGiven
given_by [] ps os = []
given_by (f ∷ fs) ps os =
    record { parameter = Some (first_type ps); oids = take (tokens_holes f.1) os } ∷ given_by fs (rest_of ps) (drop (tokens_holes f.1) os)

-- those that were added since
abbrev pub given_none : List Framed → List LastGiven
given_none = map (λ f. record { parameter = None; oids = zeros (tokens_holes f.1) })

abbrev pub given_in : LastFilling → List LastGiven
given_in h = given_by h.filled h.types h.oids ++ given_none h.since

-- the parts of images, each written with what its argument was given
abbrev pub parts_given : List Image → List LastGiven → List Part
parts_given [] gs = []
parts_given (i ∷ is) [] = []
parts_given (i ∷ is) (g ∷ gs) = written_part i g.parameter g.oids ∷ parts_given is gs

-- Whatever was added, refused and filled: the bytes are frames, one after another, with nothing left; and where the
-- argument at a place was added for a value, the part of its frame is read in binary as what the value keeps, under
-- each type that fits with the OIDs that the argument was given.
unfoldable pub ArgumentReadsBack : {A M : Type 0} → (A → Encoding) → Reading M → (A → M) → (A → Ty → List Oid → Type 0) → Type 0
ArgumentReadsBack {A} encoding reading kept fits =
    (calls : List Call) (is : List Image) (place : ℕ) (a : Framed) (g : LastGiven) (v : A) (t : Ty) →
    AreImages is (added_in calls) → Proper (all_cells (after_calls [] calls)) → AreOids (last_filling calls).oids →
    slice_get (added_in calls) place ≡ Some a → (frame (encoding v)).answer ≡ Ok a.1 → slice_get (given_in (last_filling calls)) place ≡ Some g → fits v t g.oids →
    (parts : List Part) × (part : Part) × ReadAs (shown (all_cells (after_calls [] calls))) parts [] × (slice_get parts place ≡ Some part) × (reading t Binary part ≡ Some (kept v))
