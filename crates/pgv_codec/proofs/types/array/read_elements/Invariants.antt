use Rattle.std.proofs.Common.{◌≡◌, is_some, map}
use Rattle.pgv_text.specs.ElementsView.{ahead, distance}
use Rattle.pgv_text.specs.Values.{array_values}
use Rattle.pgv_codec.specs.ArrayGrammar.{array_in_text}
use Rattle.pgv_codec.specs.AtOnce.{with_front}
use Rattle.pgv_codec.proofs.PartLoop.{read_ahead}
use Rattle.pgv_codec.proofs.types.array.read_elements.Given as goal

-- what was read and what is left to read are what the text means
abbrev pub invariant-loop-unquoted : goal.invariant-loop-unquoted
invariant-loop-unquoted g l =
    (with_front (map g.T.Decode.view l.items.items) (read_ahead g.T.Decode.parse g.T.Type.info (ahead l.elements)) ≡ (array_in_text g.T.Decode.parse g.T.Type.info l.text).answer)
    × (is_some (ahead l.elements) ≡ is_some (array_values l.text))

abbrev pub decreases-loop-unquoted : goal.decreases-loop-unquoted
decreases-loop-unquoted g l = distance l.elements
