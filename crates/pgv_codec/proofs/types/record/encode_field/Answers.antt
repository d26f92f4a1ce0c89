use Rattle.std.proofs.Common.{◌++◌, subst}
use Rattle.std.proofs.lemmas.Result.{err_from_is_err_and}
use Rattle.pgv_types.specs.Ty.{Ty}
use Rattle.pgv_codec.specs.Encoding.{typed, value_type}
use Rattle.pgv_codec.specs.Appending.{Appended}
use Rattle.pgv_buf.specs.Tokens.{blank}
use Rattle.pgv_codec.proofs.Extensions.{extends_further, extends_itself, on_err}
use Rattle.pgv_codec.proofs.Lists.{both, field_asks, field_there, field_unwritten}
use Rattle.pgv_codec.proofs.types.record.encode_field.Goals as goal

pub returns-clause-exact : goal.returns-clause-exact
returns-clause-exact g c =
    let e = g.T.Encode.encoding c.args.value.now in
    let oid : Appended (typed (value_type g.T.Type.info e)) c.args.out.now c.push_type.new.self
    = subst (λ (u : Ty). Appended (typed u) c.args.out.now c.push_type.new.self) c.in_ok-field_type.ensures.ok c.in_ok-push_type.ensures.ok in
    let part = c.in_ok-encode.ensures.exact in
    (oid.0 ++ part.0, field_there g.T.Type.info e oid.0 part.0 oid.1 part.1, both c.args.out.now c.push_type.new.self c.encode.new.self oid.0 part.0 oid.2 part.2)

pub returns-in_err-field_type-clause-exact : goal.returns-in_err-field_type-clause-exact
returns-in_err-field_type-clause-exact g c =
    let p = err_from_is_err_and c.from_residual.result c.from_residual.ensures.1 in
    rw (p.1, p.2) (field_asks g.T.Type.info (g.T.Encode.encoding c.args.value.now))

pub returns-in_err-push_type-clause-exact : goal.returns-in_err-push_type-clause-exact
returns-in_err-push_type-clause-exact g c =
    let p = err_from_is_err_and c.from_residual-in_err-push_type.result c.from_residual-in_err-push_type.ensures.1 in
    rw (p.1, p.2, c.in_err-push_type.ensures.err.0) (field_asks g.T.Type.info (g.T.Encode.encoding c.args.value.now))

pub returns-in_err-encode-clause-exact : goal.returns-in_err-encode-clause-exact
returns-in_err-encode-clause-exact g c =
    let e = g.T.Encode.encoding c.args.value.now in
    let oid : Appended (typed (value_type g.T.Type.info e)) c.args.out.now c.push_type.new.self
    = subst (λ (u : Ty). Appended (typed u) c.args.out.now c.push_type.new.self) c.in_ok-field_type.ensures.ok c.in_ok-push_type.ensures.ok in
    let p = err_from_is_err_and c.from_residual-in_err-encode.result c.from_residual-in_err-encode.ensures.1 in
    rw (p.1, p.2) (field_unwritten g.T.Type.info e oid.0 c.in_err-encode.field-0.0 oid.1 c.in_err-encode.ensures.exact)

pub returns-in_err-field_type-clause-appended : goal.returns-in_err-field_type-clause-appended
returns-in_err-field_type-clause-appended g c = on_err c.from_residual.result (extends_itself c.args.out.now)

pub returns-in_err-push_type-clause-appended : goal.returns-in_err-push_type-clause-appended
returns-in_err-push_type-clause-appended g c = on_err c.from_residual-in_err-push_type.result (rw c.in_err-push_type.ensures.err.1 (extends_itself c.args.out.now))

pub returns-in_err-encode-clause-appended : goal.returns-in_err-encode-clause-appended
returns-in_err-encode-clause-appended g c =
    let oid = c.in_ok-push_type.ensures.ok in
    on_err c.from_residual-in_err-encode.result (extends_further c.args.out.now c.push_type.new.self c.encode.new.self (blank oid.0, oid.2) c.in_err-encode.ensures.appended)
