use Rattle.std.proofs.Common.{◌++◌, ◌+◌, List, refl, ap, ◌∙◌, subst, sym}
use Rattle.pgv_buf.specs.Tokens.{Token, be4, blank}
use Rattle.pgv_value.specs.Outcome.{Outcome, Fails}
use Rattle.pgv_codec.specs.Record.{writing_at}
use Rattle.pgv_codec.specs.Encoding.{field}
use Rattle.pgv_codec.proofs.Records.{parts, counted, open_by, writing_is, field_counted, full_field}
use Rattle.pgv_codec.proofs.types.record.PgRecordEncoder.encode.Goals as goal

pub put_u32-requires : goal.put_u32-requires
put_u32-requires g c =
    let a = c.in_default.ensures.exact in
    let s = c.args.self.now in
    let w = writing_at s.mark s.count s.out.now in
    (w.before, be4 s.count, blank (w.fields ++ a.0), parts s.mark s.count s.out.now c.encode_field.new.out a.0 s.«open» a.2, refl, s.«open».0)

pub invariant_of-self-2 : goal.invariant_of-self-2
invariant_of-self-2 g c =
    let a = c.in_default.ensures.exact in
    let s = c.args.self.now in
    let w = writing_at s.mark s.count s.out.now in
    record {
      «open» = open_by s.mark (s.count + 1) c.put_u32.new.self w.before (w.fields ++ a.0) s.«open».0
          (counted (s.count + 1) w.before c.put_u32.new.self (w.fields ++ a.0) (c.put_u32.ensures w.before (be4 s.count) (blank (w.fields ++ a.0)) (parts s.mark s.count s.out.now c.encode_field.new.out a.0 s.«open» a.2) refl s.«open».0));
    }

pub returns-clause-exact : goal.returns-clause-exact
unfolding writing_at
returns-clause-exact g c =
    let a = c.in_default.ensures.exact in
    let s = c.args.self.now in
    let w = writing_at s.mark s.count s.out.now in
    let f = field g.T.Type.info (g.T.Encode.encoding c.args.value) in (
      a.0,
      ap (λ (o : Outcome (List Token)). o.answer) (field_counted s.count f c.if-self.false) ∙ a.1,
      writing_is s.mark (s.count + 1) c.put_u32.new.self w.before (w.fields ++ a.0) s.«open».0
          (counted (s.count + 1) w.before c.put_u32.new.self (w.fields ++ a.0) (c.put_u32.ensures w.before (be4 s.count) (blank (w.fields ++ a.0)) (parts s.mark s.count s.out.now c.encode_field.new.out a.0 s.«open» a.2) refl s.«open».0)),
    )

pub returns-in-Err-clause-exact : goal.returns-in-Err-clause-exact
unfolding writing_at
returns-in-Err-clause-exact g c =
    let f = field g.T.Type.info (g.T.Encode.encoding c.args.value) in
    subst (λ (o : Outcome (List Token)). Fails c.in-Err.error o) (sym (field_counted c.args.self.now.count f c.if-self.false)) c.in-Err.ensures.exact

pub returns-then-self-clause-exact : goal.returns-then-self-clause-exact
unfolding writing_at
returns-then-self-clause-exact g c = full_field c.args.self.now.count (field g.T.Type.info (g.T.Encode.encoding c.args.value)) c.if-self.true
