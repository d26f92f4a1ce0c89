-- What the program says of a fault.
use Rattle.std.specs.Prelude.{ℕ, List, codes}
use Rattle.pgv_runner.specs.declared.runner.RunFault.{RunFault}
use Rattle.pgv_runner.specs.declared.runner.RunFault.TheVariants.{Read, Write, Memory}

abbrev pub text_of_fault : RunFault → List ℕ
text_of_fault Read = codes "pgvalue: read failed"
text_of_fault Write = codes "pgvalue: write failed"
text_of_fault Memory = codes "pgvalue: out of memory"
