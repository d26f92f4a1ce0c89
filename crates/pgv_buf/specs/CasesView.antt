-- What contracts see of the cases of a slot.
use Rattle.std.specs.Prelude.{ℕ, List, map}
use Rattle.std.specs.declared.vec.Vec.{Vec}
use Rattle.std.specs.declared.alloc.Global.{Global}
use Rattle.pgv_types.specs.Ty.{Ty}

abbrev pub cases_of : List (Ty × Vec ℕ Global) → List (Ty × List ℕ)
cases_of cs = map (λ c. (c.0, c.1.items)) cs
