-- How bits are packed, in other words.
use Rattle.std.specs.Prelude.{◌≡◌, ◌↔◌, ℕ, ◌<◌, Bool, false, List, ◌++◌, replicate}
use Rattle.pgv_value.specs.FrameLaws.{AreBytes}
use Rattle.pgv_more.specs.Bits.{bits_of, packed}

-- the bits of the bytes are these, and then fewer than eight zeros
abbrev pub ArePacked : List ℕ → List Bool → Type 0
ArePacked bytes bits = (zeros : ℕ) × (zeros < 8) × (bits_of bytes ≡ bits ++ replicate zeros false)

-- `packed` gives bytes iff the bits are packed into exactly these bytes
unfoldable pub PackedIsOne : Type 0
PackedIsOne = (bits : List Bool) (bytes : List ℕ) → AreBytes bytes → (packed bits ≡ bytes) ↔ ArePacked bytes bits
