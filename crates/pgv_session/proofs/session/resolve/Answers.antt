use Rattle.std.proofs.Common.{arith, ◌≡◌, ◌∙◌, ap, length, sym, refl}
use Rattle.std.specs.Prelude.{⊤}
use Rattle.std.proofs.lemmas.List.{length-map}
use Rattle.pgv_buf.specs.Proper.{length-hole_types_of}
use Rattle.pgv_wire.specs.Arguments.{Argument, all_cells}
use Rattle.pgv_session.proofs.Refusals.{not_resolved}
use Rattle.pgv_value.specs.declared.error.CodecError.TheVariants.{HoleCount}
use Rattle.pgv_session.proofs.session.resolve.Goals as goal

-- another number of OIDs than of holes
pub returns-then-oids-hole_types : goal.returns-then-oids-hole_types
returns-then-oids-hole_types c =
    let holes = ap length c.hole_types.ensures ∙ length-hole_types_of (all_cells c.args.arguments.now) in
    not_resolved {V = ⊤} _ _ c.args.oids.now c.args.arguments.now _ HoleCount c.refusal.result (λ same. absurd (c.if-oids-hole_types.true (same ∙ sym holes))) (λ n. refl) refl c.refusal.ensures.number

-- no other refusal is left
pub returns : goal.returns
returns c =
    let types = ap length c.types.ensures ∙ length-map c.args.arguments.now (λ (a : Argument). a.0) in
    let same : length c.as_slice.result.now ≡ length c.args.arguments.now = omega (arith, c.as_slice.ensures.len, c.in_ok-types.ensures.len, types) in
    not_resolved _ _ c.args.oids.now c.args.arguments.now _ c.in-Err.error c.refusal-in-Err.result (c.in-Err.ensures.ok same) (c.in-Err.ensures.holes same) c.in-Err.ensures.unchanged c.refusal-in-Err.ensures.number
