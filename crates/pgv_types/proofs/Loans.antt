-- Ghost steps of bytes that lie in the program for ever. Assumes `Logic`.
use Rattle.std.proofs.Common.{List, [], ℕ}
use seplogic.Ra.Ura.{Ura}
use base.Logic.{ent, sep}
use types.Logic.{Logic, sem}
use denote.Builtin.{u8}
use denote.RawPtr.{Ptr, block_of, count_of}
use denote.SharingLaws.{contraction}
use denote.Plain.{uint_row_laws}
use denote.Slice.{elements_shared, elements_shr_laws}
use mir.Syntax.{w8}
use Rattle.pgv_types.specs.Ownership.{lasting_owns}

module _ {M : Type 1} {𝓤 : Ura M} (𝓛 : Logic 𝓤) where
  pub lasting_dup : (p : Ptr) (xs : List ℕ) → ent 𝓤 (sem 𝓛 (lasting_owns p xs)) (sep 𝓤 (sem 𝓛 (lasting_owns p xs)) (sem 𝓛 (lasting_owns p xs)))
  lasting_dup p xs = contraction 𝓛 (elements_shared u8 xs (block_of p) (count_of p)) (elements_shr_laws u8 (uint_row_laws w8) xs (block_of p) (count_of p)) []
