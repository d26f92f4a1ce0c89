use Rattle.std.proofs.Common.{◌≡◌, [], ◌++◌, ap, sym, append-nil, rules}
use Rattle.std.specs.Prelude.{map}
use Rattle.std.proofs.lemmas.Result.{err_from_is_err_and}
use Rattle.pgv_codec.proofs.Lists.{both}
use Rattle.pgv_more.proofs.HstoreWritten.{all_before, fails_before, more_before, none_before}
use Rattle.pgv_more.specs.Hstore.{pair_of}
use Rattle.pgv_codec.proofs.Extensions.{extends_further, on_err}
use Rattle.pgv_more.proofs.hstore.codec.write_pairs.Goals as goal

pub loop-key-init : goal.loop-key-init
loop-key-init c =
    let all : c.into_iter-key-iterator.result ≡ c.args.hstore.now.entries = search rules in
    ([], sym (append-nil c.args.out.now), rw all (none_before (map pair_of c.args.hstore.now.entries)))

pub loop-key-preserved : goal.loop-key-preserved
loop-key-preserved c =
    let was = c.loop-key.invariant in
    let f = c.in_ok-write_pair.ensures.exact in
    let p = pair_of (c.in-Some.key.now, c.in-Some.value.now) in (
      was.0 ++ f.0,
      both c.args.out.now c.loop-key.out c.write_pair.new.out was.0 f.0 was.1 f.2,
      more_before (map pair_of c.args.hstore.now.entries) (map pair_of c.loop-key.key-iterator) (map pair_of c.next.new.self) p was.0 f.0 (ap (map pair_of) c.in-Some.ensures.steps) f.1 was.2,
    )

pub returns-in_err-write_pair-clause-exact : goal.returns-in_err-write_pair-clause-exact
returns-in_err-write_pair-clause-exact c =
    let k = err_from_is_err_and c.from_residual.result c.from_residual.ensures.1 in
    let was = c.loop-key.invariant in
    rw (k.1, k.2)
    (fails_before (map pair_of c.args.hstore.now.entries) (map pair_of c.loop-key.key-iterator) (map pair_of c.next.new.self) (pair_of (c.in-Some.key.now, c.in-Some.value.now)) was.0 c.in_err-write_pair.field-0.0
    (ap (map pair_of) c.in-Some.ensures.steps) c.in_err-write_pair.ensures.exact was.2)

pub returns-clause-exact : goal.returns-clause-exact
returns-clause-exact c =
    let was = c.loop-key.invariant in
    (was.0, all_before (map pair_of c.args.hstore.now.entries) (map pair_of c.loop-key.key-iterator) was.0 (ap (map pair_of) c.in-None.ensures.steps.0) was.2, was.1)

pub returns-in_err-write_pair-clause-appended : goal.returns-in_err-write_pair-clause-appended
returns-in_err-write_pair-clause-appended c =
    let was = c.loop-key.invariant in
    on_err c.from_residual.result (extends_further c.args.out.now c.loop-key.out c.write_pair.new.out (_, was.1) c.in_err-write_pair.ensures.appended)
