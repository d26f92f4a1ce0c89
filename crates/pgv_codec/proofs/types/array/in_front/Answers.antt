use Rattle.std.proofs.Common.{◌≡◌, ◌+◌, drop, Some, Ok, refl}
use Rattle.pgv_types.specs.Ty.{Ty}
use Rattle.pgv_value.specs.Fronts.{value_front}
use Rattle.pgv_value.specs.ValueView.{given}
use Rattle.pgv_value.specs.declared.value.PgValueFormat.TheVariants.{Binary}
use Rattle.pgv_codec.proofs.FrameLoop.{in_front_of}
use Rattle.pgv_codec.proofs.types.array.in_front.Goals as goal

pub returns : goal.returns
returns g c =
    let bytes = c.args.bytes.now in
    let part = c.in_ok-part.part.now in
    let front : (t : Ty) → value_front t Binary bytes ≡ Ok (given t Binary (Some part), drop (4 + c.args.width) bytes) =
    λ t. rw (c.in_ok-part.ensures.is_front, c.in_ok-part.ensures.after) refl in
    in_front_of c.decode_at_once.result g.T.Decode.view g.T.Decode.parse c.args.width bytes part front c.decode_at_once.ensures
