use Rattle.std.proofs.Common.{◌≡◌, Bool, List, drop, Ok, ap, subst}
use Rattle.std.proofs.lemmas.Result.{err_from_is_err_and}
use Rattle.std.specs.declared.ops.Bound.{Bound}
use Rattle.pgv_types.specs.Ty.{Ty}
use Rattle.pgv_text.specs.NestPieces.{Nest}
use Rattle.pgv_text.specs.PartsView.{copies, nest}
use Rattle.pgv_value.specs.FrameBinary.{Part}
use Rattle.pgv_value.specs.Outcome.{Outcome, Fails}
use Rattle.pgv_value.specs.ValueView.{Given}
use Rattle.pgv_value.specs.declared.error.CodecError.{CodecError}
use Rattle.pgv_codec.proofs.StepOutcomes.{fails_here, fails_then}
use Rattle.pgv_range.specs.RangeGrammar.{bounds_in_text, next_bound}
use Rattle.pgv_range.proofs.codec.read_parts.Goals as goal

module _ {M : Type 0} (parse : Given → Outcome M) (t : Ty) (copied : List Bool) (whole : Nest) where
  start_fails : (included : Bool) (e : CodecError) → included ≡ whole.lower → Fails e (next_bound parse t included copied whole.values) → Fails e (bounds_in_text parse t copied whole)
  unfolding bounds_in_text
  start_fails included e same h =
      fails_here (next_bound parse t whole.lower copied whole.values) _ e (subst (λ (b : Bool). Fails e (next_bound parse t b copied whole.values)) same h)

  -- after a lower bound that is read
  end_fails : (lower upper : Bool) (left : List Bool) (later : List Part) (b : Bound M) (e : CodecError) → lower ≡ whole.lower → upper ≡ whole.upper → left ≡ drop 1 copied →
      (next_bound parse t lower copied whole.values).answer ≡ Ok (b, later) → Fails e (next_bound parse t upper left later) → Fails e (bounds_in_text parse t copied whole)
  unfolding bounds_in_text
  end_fails lower upper left later b e same also after found h =
      let start : (next_bound parse t whole.lower copied whole.values).answer ≡ Ok (b, later) = subst (λ (x : Bool). (next_bound parse t x copied whole.values).answer ≡ Ok (b, later)) same found in
      let end = subst (λ (x : Bool). Fails e (next_bound parse t x (drop 1 copied) later)) also (subst (λ (xs : List Bool). Fails e (next_bound parse t upper xs later)) after h) in
      fails_then (next_bound parse t whole.lower copied whole.values) _ (b, later) e start (fails_here (next_bound parse t whole.upper (drop 1 copied) later) _ e end)

-- the lower bound isn't read
pub returns-in_err-start : goal.returns-in_err-start
returns-in_err-start g c =
    let lower = ap (λ (p : Bool × Bool). p.0) c.includes-lower_included.ensures in
    let p = err_from_is_err_and c.from_residual.result c.from_residual.ensures.1 in
    rw (p.1, p.2) (start_fails g.T.Decode.parse g.T.Type.info (copies c.args.parts) (nest c.args.parts) c.includes-lower_included.result.0 c.in_err-start.field-0.0 lower c.in_err-start.ensures.exact)

-- nor is the upper one
pub returns-in_err-end : goal.returns-in_err-end
returns-in_err-end g c =
    let lower = ap (λ (p : Bool × Bool). p.0) c.includes-lower_included.ensures in
    let upper = ap (λ (p : Bool × Bool). p.1) c.includes-lower_included.ensures in
    let p = err_from_is_err_and c.from_residual-in_err-end.result c.from_residual-in_err-end.ensures.1 in
    rw (p.1, p.2)
    (end_fails g.T.Decode.parse g.T.Type.info (copies c.args.parts) (nest c.args.parts) c.includes-lower_included.result.0 c.includes-lower_included.result.1 (copies c.next_bound_of.new.parts) (nest c.next_bound_of.new.parts).values _ c.in_err-end.field-0.0
    lower upper c.in_ok-start.ensures.copies c.in_ok-start.ensures.exact c.in_err-end.ensures.exact)
