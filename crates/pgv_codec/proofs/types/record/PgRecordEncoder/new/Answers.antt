use Rattle.std.proofs.Common.{[], refl, sym, ◌∙◌, ap}
use Rattle.pgv_codec.specs.Record.{so_far}
use Rattle.pgv_codec.proofs.Records.{open_by, writing_is}
use Rattle.pgv_codec.proofs.types.record.PgRecordEncoder.new.Goals as goal

pub invariant_of-result : goal.invariant_of-result
invariant_of-result c = record { «open» = open_by c.mark-mark.result 0 c.push_u32.new.self c.args.out.now [] c.mark-mark.ensures c.in_ok-push_u32.ensures.ok }

pub returns : goal.returns
returns c =
    let w = writing_is c.mark-mark.result 0 c.push_u32.new.self c.args.out.now [] c.mark-mark.ensures c.in_ok-push_u32.ensures.ok in
    ((refl, (λ w. refl), tt), record { same_reference = refl; begun = w; so_far = c.in_ok-push_u32.ensures.ok ∙ sym (ap so_far w); err = tt; refused = tt })
