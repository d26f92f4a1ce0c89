-- What an encoder did to its buffer.
use Rattle.std.specs.Prelude.{◌≡◌, Bool, true, false, List, ◌++◌, Result, Ok, Err, IfErr, ⊤}
use Rattle.pgv_buf.specs.Tokens.{Token, Cell, blank}
use Rattle.pgv_codec.specs.Encoding.{Image, null_image, image_of}
use Rattle.pgv_codec.specs.declared.buffer.IsNull.{IsNull}
use Rattle.pgv_codec.specs.declared.buffer.IsNull.TheVariants.{Yes, No}
use Rattle.pgv_value.specs.Outcome.{Outcome, Fails}
use Rattle.pgv_value.specs.declared.error.CodecError.{CodecError}
use Rattle.pgv_value.specs.declared.error.CodecError.TheVariants.{Memory}

-- the old cells stay; more may come after them
abbrev pub Extends : List Cell → List Cell → Type 0
Extends was now = (ts : List Cell) × (now ≡ was ++ ts)

-- an error is out of memory, and leaves all as it was
abbrev pub OutOfMemoryUnchanged : {V : Type 0} → Result V CodecError → List Cell → List Cell → Type 0
OutOfMemoryUnchanged result was now = IfErr result (λ e. (e ≡ Memory) × (now ≡ was))

-- exactly these tokens are after what was there, not yet filled
abbrev pub Appended : Outcome (List Token) → List Cell → List Cell → Type 0
Appended o was now = (ts : List Token) × (o.answer ≡ Ok ts) × (now ≡ was ++ blank ts)

-- so it is, or it is refused as stated
abbrev pub Appends : Outcome (List Token) → List Cell → List Cell → Result ⊤ CodecError → Type 0
Appends o was now (Ok done) = Appended o was now
Appends o was now (Err e) = Fails e o

-- exactly the image is after what was there, or nothing where it is null
abbrev pub Encoded : IsNull → Outcome Image → List Cell → List Cell → Type 0
Encoded Yes o was now = (o.answer ≡ Ok null_image) × (now ≡ was)
Encoded No o was now = (ts : List Token) × (o.answer ≡ Ok (image_of ts)) × (now ≡ was ++ blank ts)

-- so it is, or it is refused as stated
abbrev pub Encodes : Outcome Image → List Cell → List Cell → Result IsNull CodecError → Type 0
Encodes o was now (Ok n) = Encoded n o was now
Encodes o was now (Err e) = Fails e o

-- these tokens are after what was there, or nothing is
abbrev pub AtOnce : Bool → Outcome (List Token) → List Cell → List Cell → Type 0
AtOnce true o was now = Appended o was now
AtOnce false o was now = now ≡ was
