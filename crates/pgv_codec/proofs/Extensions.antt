-- A buffer that was only appended to, by one call after another.
use Rattle.std.proofs.Common.{◌≡◌, ◌∙◌, List, [], ◌++◌, true, Result, Ok, Err, IsErrAnd, OnErr, refl, sym, ap, inr, append_assoc, append-nil}
use Rattle.std.proofs.lemmas.Result.{err_from_is_err_and}
use Rattle.pgv_buf.specs.Tokens.{Cell}
use Rattle.pgv_value.specs.Outcome.{Outcome}
use Rattle.pgv_value.specs.declared.error.CodecError.{CodecError}
use Rattle.pgv_value.specs.declared.error.CodecError.TheVariants.{Memory}
use Rattle.pgv_codec.specs.Appending.{Encodes, Extends}
use Rattle.pgv_codec.specs.Encoding.{Image}
use Rattle.pgv_codec.specs.declared.buffer.IsNull.{IsNull}

pub extends_itself : (was : List Cell) → Extends was was
extends_itself was = ([], sym (append-nil was))

pub extends_further : (was mid now : List Cell) → Extends was mid → Extends mid now → Extends was now
extends_further was mid now a b = (a.0 ++ b.0, b.1 ∙ (ap (λ (cells : List Cell). cells ++ b.0) a.1 ∙ append_assoc was a.0 b.0))

pub on_err : {V E P : Type 0} (r : Result V E) → P → OnErr r P
on_err (Ok v) p = tt
on_err (Err e) p = p

-- what an encoder answers where an append ran out of memory
pub ran_out : (o : Outcome Image) (was now : List Cell) (r : Result IsNull CodecError) (of_append : CodecError) → o.may_alloc ≡ true →
    IsErrAnd r (λ e. e ≡ of_append) → of_append ≡ Memory → Encodes o was now r
ran_out o was now r of_append may passed is = let p = err_from_is_err_and r passed in rw (p.1, p.2, is) (inr (inr (refl, may)))
