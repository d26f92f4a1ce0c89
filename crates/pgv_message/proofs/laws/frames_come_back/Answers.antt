use Rattle.std.proofs.Common.{arith, subst}
use Rattle.pgv_buf.specs.Proper.{Proper}
use Rattle.pgv_message.proofs.Echoes.{comes_back}
use Rattle.pgv_message.proofs.laws.frames_come_back.Goals as goal

pub returns : goal.returns
returns g c =
    comes_back g.T.Encode.encoding g.T.Type.accepts g.T.Decode.parse (λ v. g.T.Decode.view (g.T.ReadBack.kept v)) g.T.ReadBack.fits
    c.args.arguments.now c.args.frames.now c.main_sentence.ensures c.only_additions_count.ensures.frames (λ i. omega (arith, c.type_inv.frames i)) c.requires (subst Proper c.buffer-buffer.ensures.frames c.as_slice-bytes.ensures.proper) c.buffer-buffer.ensures.images
