-- Equality of variants, levels and queries.
use Rattle.std.specs.Cmp.{IsPartialEquivalence, IsEquivalence, bool_eq_equiv, partial_equiv_from_equiv, on_equiv}
use Rattle.std.specs.Prelude.{ℕ, nat_eq, ◌==◌, ◌&&◌, Bool, List, [], Option, None}
use Rattle.std.specs.Bool.{beq}
use Rattle.std.specs.Cmp.Lexicographic.{pointwise, lists_equiv, options_equiv}
use Rattle.std.specs.Option.{option_eq}
use Rattle.std.proofs.lemmas.Cmp.{and_equiv, nat_eq_equiv}
use Rattle.pgv_ltree.specs.SameLabels.{same_label, same_label_equiv}
use Rattle.pgv_ltree.specs.Queries.{Variant, Level, star, one_of, none_of}

-- whether variants have the same label and the same modifiers
abbrev pub same_variant : Variant → Variant → Bool
same_variant v w = same_label v.label w.label && (beq v.any_end w.any_end && (beq v.in_case w.in_case && beq v.sublexeme w.sublexeme))

pub same_variant_equiv : IsEquivalence same_variant
same_variant_equiv =
    and_equiv (on_equiv (λ (v : Variant). v.label) same_label_equiv)
    (and_equiv (on_equiv (λ (v : Variant). v.any_end) bool_eq_equiv) (and_equiv (on_equiv (λ (v : Variant). v.in_case) bool_eq_equiv) (on_equiv (λ (v : Variant). v.sublexeme) bool_eq_equiv)))

pub same_variant_per : IsPartialEquivalence same_variant
same_variant_per = partial_equiv_from_equiv same_variant_equiv

-- a level's kind, its numbers and its variants
abbrev pub kind : Level → ℕ
kind (star low high) = 0
kind (one_of vs) = 1
kind (none_of vs) = 2

abbrev pub least : Level → Option ℕ
least (star low high) = low
least (one_of vs) = None
least (none_of vs) = None

abbrev pub most : Level → Option ℕ
most (star low high) = high
most (one_of vs) = None
most (none_of vs) = None

abbrev pub variants : Level → List Variant
variants (star low high) = []
variants (one_of vs) = vs
variants (none_of vs) = vs

-- whether levels are of the same kind, with the same numbers and the same variants
abbrev pub same_level : Level → Level → Bool
same_level l m = (kind l == kind m) && (option_eq nat_eq (least l) (least m) && (option_eq nat_eq (most l) (most m) && pointwise same_variant (variants l) (variants m)))

pub same_level_equiv : IsEquivalence same_level
same_level_equiv =
    and_equiv (on_equiv kind nat_eq_equiv)
    (and_equiv (on_equiv least (options_equiv nat_eq_equiv)) (and_equiv (on_equiv most (options_equiv nat_eq_equiv)) (on_equiv variants (lists_equiv same_variant_equiv))))

pub same_level_per : IsPartialEquivalence same_level
same_level_per = partial_equiv_from_equiv same_level_equiv

-- whether queries have the same levels
abbrev pub same_query : List Level → List Level → Bool
same_query = pointwise same_level

pub same_query_equiv : IsEquivalence same_query
same_query_equiv = lists_equiv same_level_equiv

pub same_query_per : IsPartialEquivalence same_query
same_query_per = partial_equiv_from_equiv same_query_equiv
