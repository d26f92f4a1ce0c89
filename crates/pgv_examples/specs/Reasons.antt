-- Why a column was not read: by the number of its refusal, 1 for memory and 13 for null.
use Rattle.std.specs.Prelude.{ℕ, ◌==◌, if◌then◌else◌}
use Rattle.pgv.specs.Words.{ColumnError, NotFound, Decode, code_of}
use Rattle.pgv_examples.specs.declared.errors.Reason.{Reason}
use Rattle.pgv_examples.specs.declared.errors.Reason.TheVariants.{Missing, Null, Refused, Memory}

abbrev pub reason_by : {I : Type 0} → I → ℕ → Reason I
reason_by index number = if number == 1 then Memory else if number == 13 then Null index else Refused index number

abbrev pub reason_of : {I : Type 0} → ColumnError I → Reason I
reason_of (NotFound index place) = Missing index
reason_of (Decode index place source) = reason_by index (code_of source)
