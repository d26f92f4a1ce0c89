-- The bytes of a row, borrowed or shared, and the room for the places of its parts.
use Rattle.std.specs.Prelude.{ℕ, List, vec_capacity}
use Rattle.pgv_row.specs.declared.row.PgPlaces.{PgPlaces}
use Rattle.pgv_row.specs.declared.row.RowBytes.{RowBytes}
use Rattle.pgv_row.specs.declared.row.RowBytes.TheVariants.{Borrowed, Shared}

abbrev pub body_of : RowBytes → List ℕ
body_of (Borrowed bytes) = bytes.now
body_of (Shared bytes) = bytes.now

-- how many places there is room for
abbrev pub capacity : PgPlaces → ℕ
capacity room = vec_capacity room.list
