-- How many bytes OIDs, formats and pieces have.
use Rattle.std.proofs.Common.{◌≡◌, ℕ, ◌+◌, ◌*◌, ◌<◌, get_or, take, List, [], ◌∷◌, length, refl, arith, length-append}
use Rattle.std.specs.Prelude.{flat_map}
use Rattle.std.proofs.lemmas.List.Folds.{length-flat_map-take}
use Rattle.pgv_types.specs.declared.oid.Oid.{Oid}
use Rattle.pgv_value.specs.declared.value.PgValueFormat.{PgValueFormat}
use Rattle.pgv_value.specs.declared.value.PgValueFormat.TheVariants.{Text, Binary}
use Rattle.pgv_message.specs.declared.pieces.Piece.{Piece}
use Rattle.pgv_message.specs.Pieces.{oid_bytes, format_bytes, piece_bytes}
use Rattle.pgv_message.specs.MessageWriting.{max_body}

pub oids_size : (os : List Oid) → length (flat_map oid_bytes os) ≡ 4 * length os
oids_size [] = refl
oids_size (o ∷ os) = omega (arith, oids_size os, length-append (oid_bytes o) (flat_map oid_bytes os))

pub formats_size : (fs : List PgValueFormat) → length (flat_map format_bytes fs) ≡ 2 * length fs
formats_size [] = refl
formats_size (Text ∷ fs) = omega (arith, formats_size fs)
formats_size (Binary ∷ fs) = omega (arith, formats_size fs)

pub pieces_too_long : (d : Piece) (ps : List Piece) (i size len : ℕ) → i < length ps → len ≡ length (piece_bytes (get_or ps i d)) → size ≡ length (flat_map piece_bytes (take i ps)) → max_body < size + len → max_body < length (flat_map piece_bytes ps)
pieces_too_long d ps i size len lt len_is size_is over = omega (arith, length-flat_map-take piece_bytes ps i d lt, len_is, size_is, over)
