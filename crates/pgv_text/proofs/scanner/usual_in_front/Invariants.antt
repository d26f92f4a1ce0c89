use Rattle.std.proofs.Common.{◌≡◌, ◌≤◌, ◌-◌, drop, length, take}
use Rattle.pgv_text.specs.Forms.{form_of}
use Rattle.pgv_text.specs.declared.scanner.Place.TheVariants.{Outside, Quoted}
use Rattle.pgv_text.specs.declared.scanner.TextForm.{TextForm}
use Rattle.pgv_text.specs.Copies.{stop_at}
use Rattle.pgv_text.specs.Scan.{grown, read}
use Rattle.pgv_text.proofs.scanner.usual_in_front.Given as goal

-- so many bytes belong to the part's text
abbrev pub invariant-loop-count : goal.invariant-loop-count
invariant-loop-count l =
    (l.count ≤ length l.bytes)
    × ((form : TextForm) → read (form_of form) Outside l.bytes ≡ grown (take l.count l.bytes) (read (form_of form) Outside (drop l.count l.bytes)))
    × ((form : TextForm) → read (form_of form) Quoted l.bytes ≡ grown (take l.count l.bytes) (read (form_of form) Quoted (drop l.count l.bytes)))
    × ((form : TextForm) → stop_at (form_of form) Outside l.bytes ≡ stop_at (form_of form) Outside (drop l.count l.bytes))
    × ((form : TextForm) → stop_at (form_of form) Quoted l.bytes ≡ stop_at (form_of form) Quoted (drop l.count l.bytes))

abbrev pub decreases-loop-count : goal.decreases-loop-count
decreases-loop-count l = length l.bytes - l.count
