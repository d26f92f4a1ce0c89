-- What holds of bytes that lie in the program for ever.
use Rattle.std.specs.Prelude.{◌≡◌, ℕ, List, []}
use base.Fml.{Fml}
use denote.Builtin.{u8}
use denote.RawPtr.{Ptr, block_ptr, block_of, count_of}
use denote.Slice.{elements_shared}

-- p points into a block
abbrev pub IsPlaced : Ptr → Type 0
IsPlaced p = p ≡ block_ptr (block_of p) (count_of p)

-- the bytes xs at p may be read while the program runs, and stay as they are
abbrev pub lasting_owns : Ptr → List ℕ → Fml
lasting_owns p xs = elements_shared u8 xs (block_of p) (count_of p) []
