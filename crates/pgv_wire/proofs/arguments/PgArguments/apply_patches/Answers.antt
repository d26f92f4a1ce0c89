use Rattle.std.proofs.Common.{ℕ, List, ◌∙◌, sym, ap, length, sum, arith}
use Rattle.std.proofs.lemmas.List.{length-map}
use Rattle.pgv_buf.specs.Tokens.{plain, hole_count, slot_count, shown}
use Rattle.pgv_buf.specs.Fill.{filled_cells, slot_types}
use Rattle.pgv_wire.specs.Arguments.{Argument, framed, all_cells, counts_in}
use Rattle.pgv_wire.proofs.Counts.{fewer_kept, slots_counted}
use Rattle.pgv_wire.proofs.ArgumentLists.{stands, arguments_are, held, all_filled, late_is_early, sum-counts_in}
use Rattle.pgv_wire.proofs.arguments.PgArguments.apply_patches.Goals as goal

pub fill-requires-clause-arguments : goal.fill-requires-clause-arguments
fill-requires-clause-arguments c =
    let s = held c.args.self.now c.self.invariant c.self.view_is in
    omega (arith, ap length c.as_slice.ensures.value, fewer_kept (counts_in c.args.self.now) c.self.inside.counts.items s.counts_are, length-map c.args.self.now (λ (a : Argument). slot_count a.1), c.if-types-len.false, c.len.ensures)

pub fill-requires-clause-slots : goal.fill-requires-clause-slots
fill-requires-clause-slots c =
    let s = held c.args.self.now c.self.invariant c.self.view_is in
    ap sum c.as_slice.ensures.value ∙ (sym (slots_counted (counts_in c.args.self.now) c.self.inside.counts.items s.counts_are) ∙ (sum-counts_in c.args.self.now ∙ sym (ap slot_count s.cells_are)))

pub fill-requires-clause-holes : goal.fill-requires-clause-holes
fill-requires-clause-holes c =
    let s = held c.args.self.now c.self.invariant c.self.view_is in
    c.if-oids-holes.false ∙ (c.holes.ensures ∙ sym (ap hole_count s.cells_are))

pub invariant_of-self : goal.invariant_of-self
invariant_of-self c = stands (all_filled (held c.args.self.now c.self.invariant c.self.view_is) c.args.types.now c.args.oids.now _ (c.if-types-len.false ∙ c.len.ensures) (c.if-oids-holes.false ∙ c.holes.ensures) (c.fill.ensures ∙ ap (λ (n : List ℕ). filled_cells (slot_types c.args.types.now n) c.args.oids.now (plain c.self.inside.buffer)) c.as_slice.ensures.value))

pub returns-clause-filled : goal.returns-clause-filled
returns-clause-filled c = arguments_are (all_filled (held c.args.self.now c.self.invariant c.self.view_is) c.args.types.now c.args.oids.now _ (c.if-types-len.false ∙ c.len.ensures) (c.if-oids-holes.false ∙ c.holes.ensures) (c.fill.ensures ∙ ap (λ (n : List ℕ). filled_cells (slot_types c.args.types.now n) c.args.oids.now (plain c.self.inside.buffer)) c.as_slice.ensures.value))

pub returns-clause-written : goal.returns-clause-written
returns-clause-written c =
    ap (λ a. shown (all_cells a)) (arguments_are (all_filled (held c.args.self.now c.self.invariant c.self.view_is) c.args.types.now c.args.oids.now _ (c.if-types-len.false ∙ c.len.ensures) (c.if-oids-holes.false ∙ c.holes.ensures) (c.fill.ensures ∙ ap (λ (n : List ℕ). filled_cells (slot_types c.args.types.now n) c.args.oids.now (plain c.self.inside.buffer)) c.as_slice.ensures.value)))
    ∙ late_is_early (framed c.args.self.now) c.args.types.now c.args.oids.now
