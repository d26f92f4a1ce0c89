-- What MAC addresses are written as and read from (PostgreSQL: "Network Address Types", 8.9, macaddr): their six bytes.
-- The size hint is 6.
use Rattle.std.specs.Prelude.{ℕ, ◌==◌, List, length, Option, Some, None, Ok, Err, ok_or, if◌then◌else◌}
use Rattle.pgv_buf.specs.Tokens.{bytes}
use Rattle.pgv_codec.specs.Encoding.{Image, image_of}
use Rattle.pgv_value.specs.Parsed.{Parsed}
use Rattle.pgv_value.specs.ScalarGrammar.{scalar}
use Rattle.pgv_value.specs.ValueView.{Given}
use Rattle.pgv_value.specs.declared.error.CodecError.TheVariants.{WrongLength, Syntax}
use Rattle.pgv_more.specs.MacAddressText.{mac_value}

-- six bytes; another number of them is C17
abbrev pub six : List ℕ → Parsed (List ℕ)
six form = if length form == 6 then Ok form else Err (WrongLength (length form))

abbrev pub mac_image : List ℕ → Option Image
mac_image address = if length address == 6 then Some (image_of (bytes address)) else None

abbrev pub parse_mac : Given → Parsed (List ℕ)
parse_mac = scalar six (λ text. ok_or (mac_value text) Syntax)
