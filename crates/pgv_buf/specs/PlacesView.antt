-- What contracts see of the fields of a list of places.
use Rattle.std.specs.Prelude.{◌≡◌, ℕ, List}
use Rattle.pgv_buf.specs.declared.places.Places.TheInside.{Inside}
use Rattle.pgv_buf.specs.Layout.{last_from}
use Rattle.pgv_buf.specs.Gaps.{places_after}

abbrev pub places_view : Inside → List ℕ
places_view a = places_after 0 a.gaps.items

-- the last place is kept beside the gaps
abbrev pub IsValid : Inside → Type 0
IsValid a = a.last ≡ last_from 0 (places_after 0 a.gaps.items)
