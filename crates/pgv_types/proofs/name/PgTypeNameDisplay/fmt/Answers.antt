use Rattle.std.proofs.Common.{◌++◌, refl, ap}
use Rattle.pgv_types.proofs.Printing.{written_both}
use Rattle.pgv_types.proofs.name.PgTypeNameDisplay.fmt.Goals as goal

pub returns-clause-styled : goal.returns-clause-styled
returns-clause-styled g c flush ok =
    let text = c.in_ok-write_str.ensures.styled flush refl in
    let both = c.write_str-2.ensures.styled text.flush ok in
    written_both g.W.Write.write_str_gives _ _ _ _ _ _ text both (ap (λ b. c.args.self.now.text.now ++ b) c.suffix.ensures)
