-- When two types are softly or exactly the same: by their OIDs, by a domain's base (PostgreSQL, "Domain Types"), by
-- their elements, and last by their names. Softly, the first rule that applies decides. Two base OIDs: whether they are
-- equal. One side is declared by its OID: yes. Two elements: whether these are softly the same. Else: whether the
-- catalogue names agree. Exactly is the same without the second rule, and elements are compared exactly.
use Rattle.std.specs.Prelude.{ℕ, ◌==◌, ◌&&◌, ◌||◌, Bool, true, false, if◌then◌else◌, Option, Some, None, List, [], ◌∷◌}
use Rattle.pgv_characters.specs.Characters.{underscore}
use Rattle.pgv_types.specs.Agree.{agree}
use Rattle.pgv_types.specs.Ty.{Ty, builtin, custom, named, by_oid, array_of, Kind, simple, pseudo, domain, composite, array, enumeration, range}
use Rattle.pgv_types.specs.Facts.{base_oid, name_of, element_oid, element_of}

abbrev pub is_by_oid : Ty → Bool
is_by_oid (builtin o) = false
is_by_oid (custom o n k) = false
is_by_oid (named n) = false
is_by_oid (by_oid o) = true
is_by_oid (array_of n) = false

-- What the relations ask of a type beside its element.
pub record TypeLevel : Type 0 where
  pub base : Option ℕ
  pub by_oid : Bool
  pub name : List ℕ

abbrev pub level : Ty → TypeLevel
level t = record { base = base_oid t; by_oid = is_by_oid t; name = name_of t }

-- A type, its element, the element's element and so on.
pub data Levels : Type 0 where
  last : TypeLevel → Levels
  over : TypeLevel → Levels → Levels

abbrev pub built_in_levels : ℕ → Option ℕ → Levels
built_in_levels o None = last (level (builtin o))
built_in_levels o (Some e) = over (level (builtin o)) (last (level (builtin e)))

abbrev pub name_levels : List ℕ → Levels
name_levels [] = last (level (named []))
name_levels (c ∷ cs) = if c == underscore then over (level (named (c ∷ cs))) (name_levels cs) else last (level (named (c ∷ cs)))

abbrev mutual
  pub levels : Ty → Levels
  levels (builtin o) = built_in_levels o (element_oid o)
  levels (custom o n k) = levels_over (level (custom o n k)) k
  levels (named n) = name_levels n
  levels (by_oid o) = last (level (by_oid o))
  levels (array_of n) = over (level (array_of n)) (name_levels n)

  pub levels_over : TypeLevel → Kind → Levels
  levels_over l simple = last l
  levels_over l pseudo = last l
  levels_over l (domain t) = last l
  levels_over l (composite fs) = last l
  levels_over l (array t) = over l (levels t)
  levels_over l (enumeration ls) = last l
  levels_over l (range t) = last l

-- two base OIDs are equal or not
abbrev pub common_base : Option ℕ → Option ℕ → Option Bool
common_base None y = None
common_base (Some a) None = None
common_base (Some a) (Some b) = Some (a == b)

abbrev pub known_or : Option Bool → Bool → Bool
known_or None rest = rest
known_or (Some b) rest = b

-- The first rule that applies: the base OIDs, then, softly, whether one is declared by its OID, then the rest.
abbrev pub decide : Bool → TypeLevel → TypeLevel → Bool → Bool
decide soft a b rest = known_or (common_base a.base b.base) (if soft && (a.by_oid || b.by_oid) then true else rest)

-- The rest: two elements in the same way, else the names.
abbrev pub related : Bool → Levels → Levels → Bool
related soft (last a) (last b) = decide soft a b (agree a.name b.name)
related soft (last a) (over b bs) = decide soft a b (agree a.name b.name)
related soft (over a types) (last b) = decide soft a b (agree a.name b.name)
related soft (over a types) (over b bs) = decide soft a b (related soft types bs)

abbrev pub softly : Ty → Ty → Bool
softly a b = related true (levels a) (levels b)

abbrev pub exactly : Ty → Ty → Bool
exactly a b = related false (levels a) (levels b)

-- The rules as they read, with the relation of the elements given.
abbrev pub elements_or : (Ty → Ty → Bool) → Bool → Option Ty → Option Ty → Bool
elements_or same names None n = names
elements_or same names (Some x) None = names
elements_or same names (Some x) (Some y) = same x y

abbrev pub by_rules : Bool → (Ty → Ty → Bool) → Ty → Ty → Bool
by_rules soft same a b =
    decide soft (level a) (level b) (elements_or same (agree (name_of a) (name_of b)) (element_of a) (element_of b))

abbrev pub rest_related : Bool → Ty → Ty → Bool
rest_related soft a b =
    elements_or (λ x y. related soft (levels x) (levels y)) (agree (name_of a) (name_of b)) (element_of a) (element_of b)
