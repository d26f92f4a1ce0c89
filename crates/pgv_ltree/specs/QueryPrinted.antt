-- What queries print (PostgreSQL: appendix F, "ltree", lquery): a query prints its levels joined by `.`. A star prints
-- `*`; `*{n}` where both numbers are n; else `*{n,}`, `*{,m}` or `*{n,m}`. Another level prints its variants joined by
-- `|`, after `!` where it is of none of them. A variant prints its label and then those of `*`, `@` and `%` that it
-- has, in this order. A level without variants prints nothing.
use Rattle.std.specs.Prelude.{ℕ, ◌==◌, Bool, if◌then◌else◌, codes, List, [], ◌∷◌, ◌++◌, map, Option, Some, None}
use Rattle.std.specs.Fmt.{decimal}
use Rattle.std.specs.List.{join_with_byte}
use Rattle.pgv_characters.specs.Characters.{dot, vertical_bar}
use Rattle.pgv_ltree.specs.Queries.{Variant, Level, star, one_of, none_of}

-- a modifier that is set
abbrev pub mark : Bool → List ℕ → List ℕ
mark set text = if set then text else []

-- the modifiers, in one order
abbrev pub printed_marks : Bool → Bool → Bool → List ℕ
printed_marks any_end in_case sublexeme = mark any_end (codes "*") ++ mark in_case (codes "@") ++ mark sublexeme (codes "%")

abbrev pub printed_variant : Variant → List ℕ
printed_variant v = v.label ++ printed_marks v.any_end v.in_case v.sublexeme

abbrev pub printed_variants : List Variant → List ℕ
printed_variants vs = join_with_byte vertical_bar (map printed_variant vs)

-- one number where both are equal
abbrev pub printed_star : Option ℕ → Option ℕ → List ℕ
printed_star None None = codes "*"
printed_star (Some low) None = codes "*{" ++ decimal low ++ codes ",}"
printed_star None (Some high) = codes "*{," ++ decimal high ++ codes "}"
printed_star (Some low) (Some high) = if low == high then codes "*{" ++ decimal low ++ codes "}" else codes "*{" ++ decimal low ++ codes "," ++ decimal high ++ codes "}"

-- without a variant nothing is printed
abbrev pub printed_level : Level → List ℕ
printed_level (star low high) = printed_star low high
printed_level (one_of vs) = printed_variants vs
printed_level (none_of []) = []
printed_level (none_of (v ∷ vs)) = codes "!" ++ printed_variants (v ∷ vs)

abbrev pub printed_query : List Level → List ℕ
printed_query levels = join_with_byte dot (map printed_level levels)
