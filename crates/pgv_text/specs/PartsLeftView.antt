-- The parts that are still to come, as a list.
use Rattle.std.specs.Prelude.{ℕ, List, [], Option, Some, None}
use Rattle.std.specs.Option.{option_map}
use Rattle.pgv_text.specs.declared.scanner.TextForm.{TextForm}
use Rattle.pgv_text.specs.declared.scanner.Place.TheVariants.{Start}
use Rattle.pgv_text.specs.Forms.{form_of}
use Rattle.pgv_text.specs.Scan.{read, values_from}

abbrev pub or_none : Option (List (Option (List ℕ))) → List (Option (List ℕ))
or_none None = []
or_none (Some values) = values

-- the values of the bytes that are left, none where there are none
abbrev pub values_left : TextForm → List ℕ → List (Option (List ℕ))
values_left form bytes = or_none (option_map (values_from (form_of form) bytes) (read (form_of form) Start bytes))
