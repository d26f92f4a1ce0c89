use Rattle.std.proofs.lemmas.Str.{is_utf8-from_IsUtf8}
use Rattle.pgv_types.proofs.characters.Letters.new.Goals as goal

pub invariant_of-result : goal.invariant_of-result
invariant_of-result c = record { is_text = rw c.chars.ensures.rest (is_utf8-from_IsUtf8 c.args.text.now c.utf8.text) }
