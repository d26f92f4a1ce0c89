use Rattle.pgv_codec.proofs.PlainFits.{array_fits, field_fits}
use Rattle.pgv_codec.proofs.laws.nests_fit.Goals as goal

pub returns : goal.returns
returns g c = record {
  none = λ t os. tt;
  some = λ v t os. (λ fit. fit, λ fit. fit);
  list_exactly = λ v t os. (λ fit. fit, λ fit. fit);
  array_exactly = λ v t os. (λ fit. fit, λ fit. fit);
  list = λ v t os h. array_fits g.T.Type.info g.T.Encode.encoding g.T.ReadBack.fits v.items t os h;
  array = λ v t os h. array_fits g.T.Type.info g.T.Encode.encoding g.T.ReadBack.fits v t os h;
  field = λ v t place os h. field_fits g.T.Type.info g.T.Encode.encoding g.T.ReadBack.fits g.T.Type.accepts v t place os h;
}
