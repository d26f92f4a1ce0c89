use Rattle.pgv_codec.proofs.PlainFits.{field_fits}
use Rattle.pgv_user_types.proofs.laws.record_of_two_fits.Goals as goal

pub returns : goal.returns
returns g c = λ v t oids h. (
  field_fits g.A.Type.info g.A.Encode.encoding g.A.ReadBack.fits g.A.Type.accepts v.0.0 t _ _ h.0,
  field_fits g.B.Type.info g.B.Encode.encoding g.B.ReadBack.fits g.B.Type.accepts v.0.1.0 t _ _ h.1,
)
