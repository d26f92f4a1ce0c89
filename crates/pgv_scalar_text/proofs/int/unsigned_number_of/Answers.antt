use Rattle.std.proofs.Common.{Ok, Err}
use Rattle.pgv_scalar_text.proofs.ParsedInts.{unsigned_read_ok, unsigned_fault_read, unsigned_computed}
use Rattle.pgv_scalar_text.proofs.int.unsigned_number_of.Goals as goal

pub returns-in-Ok : goal.returns-in-Ok
returns-in-Ok c =
    let read = unsigned_read_ok c.args.text.now c.in-Ok.number c.in-Ok.ensures.value.0 in
    unsigned_computed c.args.text.now (Ok _) read

pub returns-in-Err : goal.returns-in-Err
returns-in-Err c =
    let read = unsigned_fault_read c.args.text.now c.without_plus.result.now c.is_numeral.result c.fault_of.result (cc) c.is_numeral.ensures c.fault_of.ensures c.in-Err.ensures.value.0 in
    unsigned_computed c.args.text.now (Err c.fault_of.result) read
