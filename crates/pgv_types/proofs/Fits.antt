-- OIDs of four bytes.
use Rattle.std.proofs.Common.{◌≡◌, ℕ, ◌^◌, ◌<◌, Some, ap, ◌∙◌, sym}
use Rattle.std.proofs.lemmas.Bool.{ltb-true}
use Rattle.pgv_types.specs.Ty.{Ty}
use Rattle.pgv_types.specs.Facts.{fits_oid, HasOid32, oid_of}

pub fits_below : (t : Ty) (o : ℕ) → HasOid32 t → oid_of t ≡ Some o → o < 2 ^ 32
fits_below t o h q = ltb-true o (2 ^ 32) (ap fits_oid (sym q) ∙ h)
