use Rattle.std.proofs.Common.{◌≡◌, ◌≤◌, ◌-◌, drop, length, take}
use Rattle.pgv_text.specs.Forms.{form_of}
use Rattle.pgv_text.specs.Copies.{stop_at}
use Rattle.pgv_text.specs.Scan.{grown, read}
use Rattle.pgv_text.proofs.scanner.next_stop.Given as goal

abbrev pub invariant-loop-index : goal.invariant-loop-index
invariant-loop-index l =
    (l.index ≤ length l.bytes)
    × (read (form_of l.form) l.fn.place l.text ≡ grown (take l.index l.text) (read (form_of l.form) l.place (drop l.index l.text)))
    × (stop_at (form_of l.form) l.fn.place l.text ≡ stop_at (form_of l.form) l.place (drop l.index l.text))

abbrev pub decreases-loop-index : goal.decreases-loop-index
decreases-loop-index l = length l.bytes - l.index
