use Rattle.std.proofs.lemmas.List.{take-map}
use Rattle.pgv_buf.specs.TokensView.{kept_of}
use Rattle.pgv_buf.proofs.Layouts.{held, valid, cells_are}
use Rattle.pgv_buf.proofs.CellSteps.{cut_at, enough}
use Rattle.pgv_buf.proofs.tokens.Tokens.back.Goals as goal

pub truncate-requires-2 : goal.truncate-requires-2
truncate-requires-2 c = (enough c.args.self.now (held c.args.self.now c.self.invariant c.self.view_is) c.args.mark c.requires.0 c.requires.1 c.requires.2 c.requires.3).0

pub truncate-requires-4 : goal.truncate-requires-4
truncate-requires-4 c = (enough c.args.self.now (held c.args.self.now c.self.invariant c.self.view_is) c.args.mark c.requires.0 c.requires.1 c.requires.2 c.requires.3).1

pub invariant_of-self : goal.invariant_of-self
invariant_of-self c =
    rw (c.truncate.ensures.items, c.truncate-2.ensures, c.truncate-3.ensures.items, c.truncate-4.ensures, c.truncate-5.ensures.items, ← take-map kept_of c.args.mark.slots c.self.inside.slots.items)
    (valid (cut_at c.args.self.now (held c.args.self.now c.self.invariant c.self.view_is) c.args.mark c.requires.0 c.requires.1 c.requires.2 c.requires.3))

pub returns : goal.returns
returns c = λ front rest e f.
    rw (c.truncate.ensures.items, c.truncate-2.ensures, c.truncate-3.ensures.items, c.truncate-4.ensures, c.truncate-5.ensures.items, ← take-map kept_of c.args.mark.slots c.self.inside.slots.items)
    (cells_are (cut_at c.args.self.now (held c.args.self.now c.self.invariant c.self.view_is) c.args.mark front rest e f))
