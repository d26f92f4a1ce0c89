use Rattle.std.proofs.Common.{◌∙◌, ap, Some}
use Rattle.std.specs.Prelude.{map}
use Rattle.std.proofs.lemmas.Result.{err_from_is_err_and}
use Rattle.pgv_more.proofs.LawsOfHstores.{map_made}
use Rattle.pgv_more.proofs.HstoreRead.{inserted, one_more}
use Rattle.pgv_more.specs.Hstore.{pair_of, text_pair_of}
use Rattle.pgv_more.proofs.hstore.PgHstore.try_from_pairs.Goals as goal

pub loop-key-preserved : goal.loop-key-preserved
loop-key-preserved g c =
    one_more text_pair_of c.loop-key.yielded (c.in-Some.key, c.in-Some.value) (map pair_of c.loop-key.map.entries) (map pair_of c.put_pair.new.map.entries) c.loop-key.invariant
    (ap (map pair_of) c.in_ok-put_pair.ensures ∙ inserted c.loop-key.map.entries c.in-Some.key (Some c.in-Some.value))

pub returns : goal.returns
returns g c =
    let it = c.into_iter-key-iterator in (
      it.result,
      c.loop-key.yielded,
      it.ensures.into_iter_gives,
      (c.next.new.self, (c.loop-key.key-iterator, c.loop-key.yielded_by, c.in-None.ensures.steps)),
      map_made (map text_pair_of c.loop-key.yielded) (map pair_of c.loop-key.map.entries) c.loop-key.invariant,
    )

pub returns-in_err-put_pair : goal.returns-in_err-put_pair
returns-in_err-put_pair g c =
    let it = c.into_iter-key-iterator in
    let p = err_from_is_err_and c.from_residual.result c.from_residual.ensures.1 in
    rw p.1 (it.result, c.loop-key.yielded, (c.in-Some.key, c.in-Some.value), c.next.new.self, it.ensures.into_iter_gives, (c.loop-key.key-iterator, c.loop-key.yielded_by, c.in-Some.ensures.steps))
