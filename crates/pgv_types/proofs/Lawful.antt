-- The relations are reflexive and symmetric, and not transitive.
use Rattle.std.proofs.Common.{◌≡◌, ℕ, ◌<◌, ◌==◌, ◌&&◌, ◌||◌, Bool, true, false, cond, Option, Some, None, List, codes, ap, ◌∙◌, sym, refl, arith, option_map}
use Rattle.std.proofs.lemmas.Cmp.{nat_eq_equiv}
use Rattle.pgv_types.specs.Agree.{agree}
use Rattle.pgv_types.proofs.Tells.{agree_tells, agree-refl, agree-sym}
use Rattle.pgv_types.specs.Ty.{Ty, builtin, custom, named, by_oid, simple, domain}
use Rattle.pgv_types.specs.Facts.{base_oid, name_of, element_of, type_size}
use Rattle.pgv_types.specs.Relations.{TypeLevel, level, Levels, last, over, levels, related, decide, known_or, common_base, softly, exactly, by_rules, elements_or, rest_related, is_by_oid}
use Rattle.pgv_types.proofs.Related.{related_is, rest_at, by_bases, past_open}

-- ---- the rules

same_rest : (soft : Bool) (a b : Ty) (m n : Option Ty) → rest_at soft (level a) (level b) (option_map levels m) (option_map levels n) ≡ elements_or (λ x y. related soft (levels x) (levels y)) (agree (name_of a) (name_of b)) m n
same_rest soft a b None n = refl
same_rest soft a b (Some x) None = refl
same_rest soft a b (Some x) (Some y) = refl

pub rules : (soft : Bool) (a b : Ty) → related soft (levels a) (levels b) ≡ by_rules soft (λ x y. related soft (levels x) (levels y)) a b
rules soft a b = related_is soft a b ∙ ap (decide soft (level a) (level b)) (same_rest soft a b (element_of a) (element_of b))

pub by_rest : (soft : Bool) (a b : Ty) → common_base (base_oid a) (base_oid b) ≡ None → (soft && (is_by_oid a || is_by_oid b)) ≡ false → rest_related soft a b ≡ related soft (levels a) (levels b)
by_rest soft a b e h = sym (same_rest soft a b (element_of a) (element_of b)) ∙ past_open soft a b e h

-- ---- reflexive

open_refl : (t r : Bool) → r ≡ true → cond t true r ≡ true
open_refl true r h = refl
open_refl false r h = h

base_refl : (m : Option ℕ) (r : Bool) → r ≡ true → known_or (common_base m m) r ≡ true
base_refl None r h = h
base_refl (Some a) r h = nat_eq_equiv.refl a

decide_refl : (soft : Bool) (a : TypeLevel) (r : Bool) → r ≡ true → decide soft a a r ≡ true
decide_refl soft a r h = base_refl a.base (cond (soft && (a.by_oid || a.by_oid)) true r) (open_refl (soft && (a.by_oid || a.by_oid)) r h)

related_refl : (soft : Bool) (x : Levels) → related soft x x ≡ true
related_refl soft (last a) = decide_refl soft a (agree a.name a.name) (agree-refl a.name)
related_refl soft (over a types) = decide_refl soft a (related soft types types) (related_refl soft types)

pub softly-refl : (t : Ty) → softly t t ≡ true
softly-refl t = related_refl true (levels t)

pub exactly-refl : (t : Ty) → exactly t t ≡ true
exactly-refl t = related_refl false (levels t)

-- ---- symmetric

base_sym : (m n : Option ℕ) → common_base m n ≡ common_base n m
base_sym None None = refl
base_sym None (Some b) = refl
base_sym (Some a) None = refl
base_sym (Some a) (Some b) = ap Some (nat_eq_equiv.symm a b)

or_sym : (a b : Bool) → (a || b) ≡ (b || a)
or_sym true true = refl
or_sym true false = refl
or_sym false true = refl
or_sym false false = refl

decide_sym : (soft : Bool) (a b : TypeLevel) (r s : Bool) → r ≡ s → decide soft a b r ≡ decide soft b a s
decide_sym soft a b r s e =
    ap (decide soft a b) e
    ∙ ap (λ m. known_or m (cond (soft && (a.by_oid || b.by_oid)) true s)) (base_sym a.base b.base)
    ∙ ap (λ t. known_or (common_base b.base a.base) (cond (soft && t) true s)) (or_sym a.by_oid b.by_oid)

related_sym : (soft : Bool) (x y : Levels) → related soft x y ≡ related soft y x
related_sym soft (last a) (last b) = decide_sym soft a b (agree a.name b.name) (agree b.name a.name) (agree-sym a.name b.name)
related_sym soft (last a) (over b bs) = decide_sym soft a b (agree a.name b.name) (agree b.name a.name) (agree-sym a.name b.name)
related_sym soft (over a types) (last b) = decide_sym soft a b (agree a.name b.name) (agree b.name a.name) (agree-sym a.name b.name)
related_sym soft (over a types) (over b bs) = decide_sym soft a b (related soft types bs) (related soft bs types) (related_sym soft types bs)

pub softly-sym : (a b : Ty) → softly a b ≡ softly b a
softly-sym a b = related_sym true (levels a) (levels b)

pub exactly-sym : (a b : Ty) → exactly a b ≡ exactly b a
exactly-sym a b = related_sym false (levels a) (levels b)

-- ---- not transitive: OID 1 and OID 2 are both softly the same as any name

pub softly-breaks : (softly (by_oid 1) (named (codes "foo")) ≡ true) × (softly (named (codes "foo")) (by_oid 2) ≡ true) × (softly (by_oid 1) (by_oid 2) ≡ false)
softly-breaks = (refl, refl, refl)

-- and a custom type that is named as a built-in one is no less that name than it

abbrev int4 : List ℕ
int4 = codes "int4"

pub exactly-breaks : (exactly (builtin 23) (named int4) ≡ true) × (exactly (named int4) (custom 99 int4 simple) ≡ true) × (exactly (builtin 23) (custom 99 int4 simple) ≡ false)
exactly-breaks = (agree-refl int4, agree-refl int4, refl)

-- ---- declared by OID

pub by_oid-soft : (o : ℕ) (t : Ty) → base_oid t ≡ None → softly (by_oid o) t ≡ true
by_oid-soft o t e =
    related_is true (by_oid o) t
    ∙ ap (λ m. known_or (common_base (Some o) m) true) e

-- ---- sizes

pub domain-size : (o : ℕ) (name : List ℕ) (t : Ty) → type_size t < type_size (custom o name (domain t))
domain-size o name t = omega arith

-- ---- two base OIDs decide

pub bases_decide : (soft : Bool) (a b : Ty) (x y : ℕ) → base_oid a ≡ Some x → base_oid b ≡ Some y → related soft (levels a) (levels b) ≡ (x == y)
bases_decide soft a b x y p q =
    sym (by_bases soft a b (x == y) (ap (λ m. common_base m (base_oid b)) p ∙ ap (common_base (Some x)) q))

-- what the laws of the relations and of names say
pub ruleset relation_laws = (softly-refl, exactly-refl, softly-sym, exactly-sym, softly-breaks, exactly-breaks, bases_decide, by_oid-soft, domain-size, agree_tells, agree-refl, agree-sym)
