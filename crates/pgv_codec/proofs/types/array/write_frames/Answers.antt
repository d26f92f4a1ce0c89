use Rattle.std.proofs.Common.{subst}
use Rattle.std.proofs.Common.{true, map}
use Rattle.pgv_value.specs.Outcome.{after}
use Rattle.pgv_codec.specs.Appending.{Appends}
use Rattle.pgv_codec.specs.Encoding.{frames}
use Rattle.pgv_codec.proofs.Lists.{appends_others}
use Rattle.pgv_codec.proofs.types.array.write_frames.Goals as goal

pub returns-clause-exact : goal.returns-clause-exact
returns-clause-exact g c =
    let encoding = g.T.Encode.encoding in
    appends_others encoding c.in_ok-written.written c.args.values.now c.args.out.now c.encode_first.new.out c.write_each.new.out c.write_each.result c.in_ok-written.ensures.ok
    (subst (λ xs. Appends (after true (frames (map encoding xs))) c.encode_first.new.out c.write_each.new.out c.write_each.result) c.split_at.ensures.back c.write_each.ensures.exact)
