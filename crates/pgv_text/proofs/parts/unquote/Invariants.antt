use Rattle.std.proofs.Common.{◌≡◌, ◌≤◌, length, string_bytes}
use denote.Text.{Utf8}
use denote.Shadow.{shadow}
use Rattle.pgv_text.specs.Forms.{form_of}
use Rattle.pgv_text.specs.Copies.{copies_after}
use Rattle.pgv_text.specs.Scan.{grown, read}
use Rattle.pgv_text.specs.declared.scanner.Place.TheVariants.{Start}
use Rattle.pgv_text.proofs.parts.unquote.Given as goal

abbrev pub invariant-loop-stop : goal.invariant-loop-stop
invariant-loop-stop l = shadow (Utf8 l.left) × (read (form_of l.form) Start l.text ≡ grown (string_bytes l.out) (read (form_of l.form) l.place l.left)) × (length l.left ≤ length l.text)
    × (copies_after (form_of l.form) Start l.text ≡ copies_after (form_of l.form) l.place l.left)

abbrev pub decreases-loop-stop : goal.decreases-loop-stop
decreases-loop-stop l = length l.left
