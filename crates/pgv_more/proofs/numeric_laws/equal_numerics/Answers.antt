use Rattle.std.proofs.Common.{refl, true, false}
use Rattle.pgv_more.proofs.LawsOfNumerics.{equal_parts}
use Rattle.pgv_more.specs.declared.numeric.PgNumericSign.TheVariants.{Positive, Negative}
use Rattle.pgv_more.specs.declared.numeric.PgNumeric.TheVariants.{NotANumber, Number}
use Rattle.pgv_more.proofs.numeric_laws.equal_numerics.Goals as goal

pub returns : goal.returns
returns c NotANumber NotANumber = (λ e. refl, λ e. refl)
returns c NotANumber (Number sign digits weight scale) = (λ e. absurd (cc), λ e. absurd (cc))
returns c (Number sign digits weight scale) NotANumber = (λ e. absurd (cc), λ e. absurd (cc))
returns c (Number Positive digits weight scale) (Number Positive others other_weight other_scale) =
    equal_parts Positive Positive true digits.items others.items weight other_weight scale other_scale (λ e. refl, λ e. refl)
returns c (Number Negative digits weight scale) (Number Negative others other_weight other_scale) =
    equal_parts Negative Negative true digits.items others.items weight other_weight scale other_scale (λ e. refl, λ e. refl)
returns c (Number Positive digits weight scale) (Number Negative others other_weight other_scale) =
    equal_parts Positive Negative false digits.items others.items weight other_weight scale other_scale (λ e. absurd (cc), λ e. absurd (cc))
returns c (Number Negative digits weight scale) (Number Positive others other_weight other_scale) =
    equal_parts Negative Positive false digits.items others.items weight other_weight scale other_scale (λ e. absurd (cc), λ e. absurd (cc))
