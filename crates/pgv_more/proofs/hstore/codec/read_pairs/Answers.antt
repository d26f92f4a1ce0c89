use Rattle.std.proofs.Common.{◌∙◌, ap, map, [], inr}
use Rattle.std.proofs.lemmas.Result.{err_from_is_err_and}
use Rattle.std.specs.Prelude.{option_map, string_bytes}
use Rattle.pgv_more.proofs.HstoreRead.{ends_at_key, ends_at_value, goes_on, inserted, is_done, memory_asked}
use Rattle.pgv_more.specs.Hstore.{pair_of, put_read}
use Rattle.pgv_more.proofs.hstore.codec.read_pairs.Goals as goal

pub returns-in_err-key : goal.returns-in_err-key
returns-in_err-key c =
    let p = err_from_is_err_and c.from_residual.result c.from_residual.ensures.1 in
    rw (p.1, p.2)
    (ends_at_key (map pair_of c.loop.map.entries) c.args.count c.loop.counter c.loop.rest.now (put_read [] c.args.count c.args.form.now) c.in_err-key.field-0.0 c.loop-test.true c.in_err-key.ensures c.loop.invariant)

pub returns-in_err-value : goal.returns-in_err-value
returns-in_err-value c =
    let p = err_from_is_err_and c.from_residual-in_err-value.result c.from_residual-in_err-value.ensures.1 in
    rw (p.1, p.2)
    (ends_at_value (map pair_of c.loop.map.entries) c.args.count c.loop.counter c.loop.rest.now c.in_ok-key.after.now (string_bytes c.in_ok-key.key) (put_read [] c.args.count c.args.form.now) c.in_err-value.field-0.0
    c.loop-test.true c.in_ok-key.ensures c.in_err-value.ensures c.loop.invariant)

pub loop-preserved : goal.loop-preserved
loop-preserved c =
    goes_on (map pair_of c.loop.map.entries) (map pair_of c.put_pair.new.map.entries) c.args.count c.loop.counter c.loop.rest.now c.in_ok-key.after.now c.in_ok-value.after.now (string_bytes c.in_ok-key.key)
    (option_map string_bytes c.in_ok-value.value) (put_read [] c.args.count c.args.form.now) c.loop-test.true c.in_ok-key.ensures c.in_ok-value.ensures
    (ap (map pair_of) c.in_ok-put_pair.ensures ∙ inserted c.loop.map.entries c.in_ok-key.key c.in_ok-value.value) c.loop.invariant

-- there was no memory for a pair that was there
pub returns-in_err-put_pair : goal.returns-in_err-put_pair
returns-in_err-put_pair c =
    let p = err_from_is_err_and c.from_residual-in_err-put_pair.result c.from_residual-in_err-put_pair.ensures.1 in
    let asked = memory_asked (map pair_of c.loop.map.entries) c.args.count c.loop.counter c.loop.rest.now c.in_ok-key.after.now c.in_ok-value.after.now (string_bytes c.in_ok-key.key) (option_map string_bytes c.in_ok-value.value)
    (put_read [] c.args.count c.args.form.now) c.loop-test.true c.in_ok-key.ensures c.in_ok-value.ensures c.loop.invariant in
    rw p.1 (inr (inr (p.2, asked)))

pub returns : goal.returns
returns c = is_done (map pair_of c.loop.map.entries) c.args.count c.loop.counter c.loop.rest.now (put_read [] c.args.count c.args.form.now) c.loop-test.false c.loop.invariant
