-- What contracts see of a reader of COPY in binary.
use Rattle.std.specs.Prelude.{ℕ, List, Option, refl}
use Rattle.std.specs.Coded.{Coded, code_by, coded×, coded_ℕ, coded_list, coded_option}
use Rattle.pgv_types.specs.Ty.{Ty, ty_code}

-- the types of a row's fields, and the bytes that are still to be read, or none after the trailer
pub record Copying : Type 0 where
  pub types : List Ty
  pub left : Option (List ℕ)

-- ---- how the logic stores it

abbrev pub copying_code : Coded Copying
copying_code = code_by (List Ty × Option (List ℕ))
    (coded× (coded_list ty_code) (coded_option (coded_list coded_ℕ)))
    (λ c. (c.types, c.left))
    (λ p. record { types = p.0; left = p.1 })
    (λ _. refl)
