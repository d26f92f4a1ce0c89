use Rattle.std.proofs.Common.{◌≡◌, None, Ok, arith, refl, rules}
use Rattle.pgv_buf.specs.Tokens.{bytes, be4}
use Rattle.pgv_codec.specs.Encoding.{frame, option_encoding}
use Rattle.pgv_codec.proofs.OneFrame.{null_frame}
use Rattle.pgv_session.proofs.value.respond_as.Goals as goal

-- null has a frame
pub returns-in-Null : goal.returns-in-Null
returns-in-Null g c =
    let e = option_encoding g.T.Type.info g.T.Encode.encoding None in
    let is : (frame e).answer ≡ Ok (bytes (be4 4294967295)) = null_frame e (omega arith) refl in
    let told = rw is at c.add_value.ensures in
    search (rules, told)
