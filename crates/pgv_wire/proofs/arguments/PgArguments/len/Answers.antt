use Rattle.std.proofs.Common.{◌≡◌, ◌∙◌, ap, length, arith}
use Rattle.std.proofs.lemmas.List.{length-map}
use Rattle.pgv_wire.specs.Arguments.{Argument}
use Rattle.pgv_wire.proofs.ArgumentLists.{held}
use Rattle.pgv_wire.proofs.arguments.PgArguments.len.Goals as goal

pub returns : goal.returns
returns c =
    let s = held c.args.self.now c.self.invariant c.self.view_is in
    let e : length c.self.inside.types.items ≡ length c.args.self.now = ap length s.types_are ∙ length-map c.args.self.now (λ (a : Argument). a.0) in
    omega (arith, c.len.ensures, c.self.inside.types.ok.0, e)
