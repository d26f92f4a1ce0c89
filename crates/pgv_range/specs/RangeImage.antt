-- What a range is written as (PostgreSQL: "Range Types", 8.17; its source, range_send): the flag byte, and a frame for
-- each bound that there is, the lower first. The flag byte 1 alone is the empty range. A bound without a frame is
-- refused as it says.
use Rattle.std.specs.Prelude.{List, [], ◌∷◌, ◌++◌, true}
use Rattle.std.specs.declared.ops.Bound.{Bound}
use Rattle.std.specs.declared.ops.Bound.TheVariants.{Included, Excluded, Unbounded}
use Rattle.pgv_buf.specs.Tokens.{Token, byte}
use Rattle.pgv_value.specs.Outcome.{Outcome, done, allocates, ◌>>=◌, ◌>>◌}
use Rattle.pgv_codec.specs.Encoding.{Encoding, Image, image_of, frame}
use Rattle.pgv_range.specs.FlagByte.{flags_of}
use Rattle.pgv_range.specs.RangeOf.{RangeOf, empty, bounds}

-- the frame of a bound's value, and nothing where there is none
abbrev pub bound_frame : Bound Encoding → Outcome (List Token)
bound_frame (Included e) = frame e
bound_frame (Excluded e) = frame e
bound_frame Unbounded = done []

-- the lower bound first
unfoldable pub bounds_image : Bound Encoding → Bound Encoding → Outcome Image
bounds_image lower upper = do
  allocates true
  below ← bound_frame lower
  above ← bound_frame upper
  done (image_of (byte (flags_of lower upper) ∷ (below ++ above)))

abbrev pub empty_image : Outcome Image
empty_image = allocates true >> done (image_of (byte 1 ∷ []))

abbrev pub range_image : RangeOf Encoding → Outcome Image
range_image empty = empty_image
range_image (bounds lower upper) = bounds_image lower upper
