-- What a range text that was read is of.
use Rattle.std.specs.Prelude.{[], ◌∷◌}
use Rattle.pgv_text.specs.declared.nest.RangeText.{RangeText}
use Rattle.pgv_text.specs.declared.nest.RangeText.TheVariants.{Empty, Parts}
use Rattle.pgv_text.specs.ContentText.{RangeContent, empty, parts}
use Rattle.pgv_text.specs.Values.{part_bytes}

abbrev pub range_of : RangeText → RangeContent
range_of Empty = empty
range_of (Parts lower upper lower_included upper_included) =
    parts (record { values = part_bytes lower ∷ part_bytes upper ∷ []; lower = lower_included; upper = upper_included })
