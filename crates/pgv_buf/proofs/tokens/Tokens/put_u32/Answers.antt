use Rattle.std.proofs.Common.{◌≡◌, ℕ, List, ◌++◌, ◌+◌, ◌≤◌, length, ◌∙◌, ap, subst}
use Rattle.pgv_buf.specs.declared.mark.Mark.{Mark}
use Rattle.pgv_buf.specs.Tokens.{Cell, fixed_bytes, be4}
use Rattle.pgv_buf.specs.Marks.{mark_of}
use Rattle.pgv_buf.specs.Layout.{Layout, Represents}
use Rattle.pgv_buf.specs.Patches.{put}
use Rattle.pgv_buf.proofs.Layouts.{held, valid, cells_are}
use Rattle.pgv_buf.proofs.Patches.{replaced, room}
use Rattle.pgv_buf.proofs.tokens.Tokens.put_u32.Goals as goal

replaced_at :
    {b : List ℕ} {l : Layout} (ts : List Cell) → Represents ts b l → (m : Mark) (v : ℕ) (b' : List ℕ) → b' ≡ put m.bytes (be4 v) b →
    (front : List Cell) (xs : List ℕ) (rest : List Cell) → ts ≡ front ++ fixed_bytes xs ++ rest → length xs ≡ 4 → m ≡ mark_of front →
    Represents (front ++ fixed_bytes (be4 v) ++ rest) b' l
replaced_at {b} {l} ts r m v b' f front xs rest e n g =
    replaced front xs (be4 v) rest (subst (λ us. Represents us b l) e r) n b' (f ∙ ap (λ k. put k.bytes (be4 v) b) g)

room_at :
    {b : List ℕ} {l : Layout} (ts : List Cell) → Represents ts b l → (m : Mark) →
    (front : List Cell) (xs : List ℕ) (rest : List Cell) → ts ≡ front ++ fixed_bytes xs ++ rest → length xs ≡ 4 → m ≡ mark_of front → m.bytes + 4 ≤ length b
room_at {b} {l} ts r m front xs rest e n g = rw g (room front xs rest (subst (λ us. Represents us b l) e r) n)

pub put_number-requires : goal.put_number-requires
put_number-requires c =
    room_at c.args.self.now (held c.args.self.now c.self.invariant c.self.view_is) c.args.mark c.requires.0 c.requires.1 c.requires.2 c.requires.3 c.requires.4 c.requires.5

pub invariant_of-self : goal.invariant_of-self
invariant_of-self c =
    valid (replaced_at c.args.self.now (held c.args.self.now c.self.invariant c.self.view_is) c.args.mark c.args.value _ c.put_number.ensures c.requires.0 c.requires.1 c.requires.2 c.requires.3 c.requires.4 c.requires.5)

pub returns : goal.returns
returns c = λ front xs rest e n g.
    cells_are (replaced_at c.args.self.now (held c.args.self.now c.self.invariant c.self.view_is) c.args.mark c.args.value _ c.put_number.ensures front xs rest e n g)
