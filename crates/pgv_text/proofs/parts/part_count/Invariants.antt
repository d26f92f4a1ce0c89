use Rattle.std.proofs.Common.{◌≡◌, ◌≤◌, ◌+◌, length}
use denote.Text.{Utf8}
use denote.Shadow.{shadow}
use Rattle.pgv_text.specs.Forms.{form_of}
use Rattle.pgv_text.specs.Scan.{numbered, read}
use Rattle.pgv_text.specs.declared.scanner.Place.TheVariants.{Start}
use Rattle.pgv_text.proofs.parts.part_count.Given as goal

abbrev pub invariant-loop-stop : goal.invariant-loop-stop
invariant-loop-stop l =
    shadow (Utf8 l.left)
    × (numbered l.count (read (form_of l.form) l.place l.left) ≡ numbered 1 (read (form_of l.form) Start l.text))
    × (l.count + length l.left ≤ 1 + length l.text)

abbrev pub decreases-loop-stop : goal.decreases-loop-stop
decreases-loop-stop l = length l.left
