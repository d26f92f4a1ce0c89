-- The relations, rule by rule.
use Rattle.std.proofs.Common.{◌≡◌, ℕ, ◌==◌, ◌&&◌, ◌||◌, Bool, true, false, cond, Option, Some, None, List, [], ◌∷◌, ap, ◌∙◌, sym, refl, option_map}
use Rattle.pgv_types.specs.Agree.{agree}
use Rattle.pgv_types.specs.Ty.{Ty, builtin, custom, named, by_oid, array_of, Kind, simple, pseudo, domain, composite, array, enumeration, range}
use Rattle.pgv_types.specs.Facts.{base_oid, name_of, element_oid, element_of, element_in}
use Rattle.pgv_types.specs.Relations.{TypeLevel, level, Levels, last, over, levels, levels_over, name_levels, built_in_levels, related, decide, known_or, common_base, is_by_oid}
use Rattle.pgv_types.proofs.Elements.{element_flat, FlatAt}

abbrev pub on_top : TypeLevel → Option Levels → Levels
on_top l None = last l
on_top l (Some ls) = over l ls

top_built_in : (o : ℕ) (m : Option ℕ) → FlatAt m → built_in_levels o m ≡ on_top (level (builtin o)) (option_map levels (option_map builtin m))
top_built_in o None h = refl
top_built_in o (Some e) h = ap (λ m. over (level (builtin o)) (built_in_levels e m)) (sym h)

top_kind : (l : TypeLevel) (k : Kind) → levels_over l k ≡ on_top l (option_map levels (element_in k))
top_kind l simple = refl
top_kind l pseudo = refl
top_kind l (domain t) = refl
top_kind l (composite fs) = refl
top_kind l (array t) = refl
top_kind l (enumeration ls) = refl
top_kind l (range t) = refl

top_name : (b : Bool) (l : TypeLevel) (cs : List ℕ) → cond b (over l (name_levels cs)) (last l) ≡ on_top l (option_map levels (option_map named (cond b (Some cs) None)))
top_name true l cs = refl
top_name false l cs = refl

-- The levels of a type are its own and those of its element.
pub levels_of : (t : Ty) → levels t ≡ on_top (level t) (option_map levels (element_of t))
levels_of (builtin o) = top_built_in o (element_oid o) (element_flat o)
levels_of (custom o n k) = top_kind (level (custom o n k)) k
levels_of (named []) = refl
levels_of (named (c ∷ cs)) = top_name (c == 95) (level (named (c ∷ cs))) cs
levels_of (by_oid o) = refl
levels_of (array_of n) = refl

-- What is asked last: the elements where there are two, else the names.
abbrev pub rest_at : Bool → TypeLevel → TypeLevel → Option Levels → Option Levels → Bool
rest_at soft a b None n = agree a.name b.name
rest_at soft a b (Some x) None = agree a.name b.name
rest_at soft a b (Some x) (Some y) = related soft x y

related_at : (soft : Bool) (a b : TypeLevel) (m n : Option Levels) → related soft (on_top a m) (on_top b n) ≡ decide soft a b (rest_at soft a b m n)
related_at soft a b None None = refl
related_at soft a b None (Some y) = refl
related_at soft a b (Some x) None = refl
related_at soft a b (Some x) (Some y) = refl

pub related_is : (soft : Bool) (a b : Ty) → related soft (levels a) (levels b) ≡ decide soft (level a) (level b) (rest_at soft (level a) (level b) (option_map levels (element_of a)) (option_map levels (element_of b)))
related_is soft a b =
    ap (λ x. related soft x (levels b)) (levels_of a)
    ∙ ap (λ x. related soft (on_top (level a) (option_map levels (element_of a))) x) (levels_of b)
    ∙ related_at soft (level a) (level b) (option_map levels (element_of a)) (option_map levels (element_of b))

module _ (soft : Bool) (a b : Ty) where
  abbrev the_rest : Bool
  the_rest = rest_at soft (level a) (level b) (option_map levels (element_of a)) (option_map levels (element_of b))

  abbrev is_open : Bool
  is_open = soft && (is_by_oid a || is_by_oid b)

  pub by_bases : (same : Bool) → common_base (base_oid a) (base_oid b) ≡ Some same → same ≡ related soft (levels a) (levels b)
  by_bases same e = ap (λ m. known_or m (cond is_open true the_rest)) (sym e) ∙ sym (related_is soft a b)

  past_bases : common_base (base_oid a) (base_oid b) ≡ None → cond is_open true the_rest ≡ related soft (levels a) (levels b)
  past_bases e = ap (λ m. known_or m (cond is_open true the_rest)) (sym e) ∙ sym (related_is soft a b)

  pub when_open : common_base (base_oid a) (base_oid b) ≡ None → is_open ≡ true → true ≡ related soft (levels a) (levels b)
  when_open e h = ap (λ t. cond t true the_rest) (sym h) ∙ past_bases e

  pub past_open : common_base (base_oid a) (base_oid b) ≡ None → is_open ≡ false → the_rest ≡ related soft (levels a) (levels b)
  past_open e h = ap (λ t. cond t true the_rest) (sym h) ∙ past_bases e

  pub by_names_first : common_base (base_oid a) (base_oid b) ≡ None → is_open ≡ false → element_of a ≡ None → agree (name_of a) (name_of b) ≡ related soft (levels a) (levels b)
  by_names_first e h p = ap (λ m. rest_at soft (level a) (level b) (option_map levels m) (option_map levels (element_of b))) (sym p) ∙ past_open e h

  either_way : (m : Option Levels) → agree (name_of a) (name_of b) ≡ rest_at soft (level a) (level b) m None
  either_way None = refl
  either_way (Some x) = refl

  pub by_names_second : common_base (base_oid a) (base_oid b) ≡ None → is_open ≡ false → element_of b ≡ None → agree (name_of a) (name_of b) ≡ related soft (levels a) (levels b)
  by_names_second e h p =
      either_way (option_map levels (element_of a))
      ∙ ap (λ m. rest_at soft (level a) (level b) (option_map levels (element_of a)) (option_map levels m)) (sym p)
      ∙ past_open e h

  pub by_elements : (x y : Ty) → common_base (base_oid a) (base_oid b) ≡ None → is_open ≡ false → element_of a ≡ Some x → element_of b ≡ Some y → related soft (levels x) (levels y) ≡ related soft (levels a) (levels b)
  by_elements x y e h p q =
      ap (λ m. rest_at soft (level a) (level b) (option_map levels m) (Some (levels y))) (sym p)
      ∙ ap (λ m. rest_at soft (level a) (level b) (option_map levels (element_of a)) (option_map levels m)) (sym q)
      ∙ past_open e h
