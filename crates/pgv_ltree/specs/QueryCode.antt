-- How the logic stores levels and variants.
use Rattle.std.specs.Prelude.{◌≡◌, ◌⊎◌, ℕ, Bool, List, Option, refl}
use Rattle.std.specs.Coded.{Coded, code_by, coded×, coded⊎, coded_ℕ, coded_list, coded_option, coded_bool}
use Rattle.std.proofs.Common.{inl, inr}
use Rattle.pgv_ltree.specs.Queries.{Variant, Level, star, one_of, none_of}

abbrev pub variant_code : Coded Variant
variant_code = code_by (List ℕ × (Bool × (Bool × Bool)))
    (coded× (coded_list coded_ℕ) (coded× coded_bool (coded× coded_bool coded_bool)))
    (λ v. (v.label, (v.any_end, (v.in_case, v.sublexeme))))
    (λ p. record { label = p.0; any_end = p.1.0; in_case = p.1.1.0; sublexeme = p.1.1.1 })
    (λ _. refl)

abbrev pub StoredLevel : Type 0
StoredLevel = (Option ℕ × Option ℕ) ⊎ (List Variant ⊎ List Variant)

abbrev pub stored_level : Level → StoredLevel
stored_level (star low high) = inl (low, high)
stored_level (one_of vs) = inr (inl vs)
stored_level (none_of vs) = inr (inr vs)

abbrev pub level_from : StoredLevel → Level
level_from (inl p) = star p.0 p.1
level_from (inr (inl vs)) = one_of vs
level_from (inr (inr vs)) = none_of vs

pub stored_again : (l : Level) → level_from (stored_level l) ≡ l
stored_again (star low high) = refl
stored_again (one_of vs) = refl
stored_again (none_of vs) = refl

abbrev pub level_code : Coded Level
level_code = code_by StoredLevel
    (coded⊎ (coded× (coded_option coded_ℕ) (coded_option coded_ℕ)) (coded⊎ (coded_list variant_code) (coded_list variant_code)))
    stored_level level_from stored_again
