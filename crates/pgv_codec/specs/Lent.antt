-- Values that are read where they lie.
use Rattle.pgv_value.specs.Outcome.{Outcome, lent_value, ◌>>=◌}
use Rattle.pgv_value.specs.ValueView.{Given}

-- what is read of a value by reference: what is read of its copy, for which a custom type is copied
abbrev pub lent : {M : Type 0} → (Given → Outcome M) → Given → Outcome M
lent parse v = do
  copy ← lent_value v
  parse copy
