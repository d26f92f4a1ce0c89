use Rattle.std.proofs.Common.{refl}
use Rattle.pgv_codec.specs.Encoding.{value_type}
use Rattle.pgv_wire.specs.Arguments.{argument_frame}
use Rattle.pgv_wire.proofs.CallSteps.{addition_step, refusal_step, each_step, calls_joined}
use Rattle.pgv_wire.proofs.laws.call_is_a_step.Goals as goal

pub returns : goal.returns
returns g c = record {
  added = addition_step;
  refused = refusal_step;
  unchanged = λ was now same. same;
  each = each_step (λ v. argument_frame (g.T.Encode.encoding v)) (λ v. value_type g.T.Type.info (g.T.Encode.encoding v));
  filled = λ was ps os. refl;
  joined = calls_joined;
}
