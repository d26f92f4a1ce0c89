-- A refusal that is not out of memory.
use Rattle.std.proofs.Common.{◌≡◌, ◌≢◌, ◌==◌, true, false, arith, inl, inr, ◌∙◌, sym, ap, subst, refl, List, ℕ}
use Rattle.std.specs.Prelude.{None, option_map, Result, Ok, Err, IfOk, string_bytes}
use Rattle.std.specs.declared.string.String.{String}
use Rattle.std.specs.declared.alloc.AllocError.{AllocError}
use Rattle.std.specs.declared.alloc.Global.{Global}
use Rattle.std.proofs.lemmas.Bool.{false≢true}
use Rattle.std.proofs.lemmas.Bool.Decides.{nat_tests}
use Rattle.pgv_types.specs.Ty.{Ty}
use Rattle.pgv_types.specs.declared.oid.Oid.{Oid}
use Rattle.pgv_value.specs.Codes.{code_of}
use Rattle.pgv_value.specs.declared.error.CodecError.{CodecError}
use Rattle.pgv_value.specs.declared.error.CodecError.TheVariants.{Memory, HoleCount}
use Rattle.pgv_wire.specs.Arguments.{argument_frame}
use Rattle.pgv_codec.specs.Encoding.{Encoding, frame, value_type}
use Rattle.pgv_value.specs.Outcome.{Outcome, Fails, ok_of, why_of}
use Rattle.pgv_session.specs.Types.{framed_as}
use Rattle.pgv_session.specs.Session.{State, AddsLine, Resolves, refused, IsRefusal, RefusedAs}

abbrev pub Text : Type 0
Text = String Global

-- it is told with the number of the refusal that is stated
pub refused_as : {M : Type 0} (o : Outcome M) (e : CodecError) (answer : List ℕ) → Fails e o → e ≢ Memory → IsRefusal answer → answer ≡ refused (code_of e) → (ok_of o.answer ≡ None) × RefusedAs (why_of o.answer) answer
refused_as o e answer (inl h) n refusal told = rw h (refl, (refusal, told))
refused_as o e answer (inr (inl h)) n refusal told = rw h.0 (refl, (refusal, tt))
refused_as o e answer (inr (inr h)) n refusal told = absurd (n h.0)

-- what is refused is not added
pub not_added : (info : Ty) (v : Encoding) (e : CodecError) (was now : State) (r : Result Text AllocError) → Fails e (argument_frame v) → now ≡ was →
    IfOk r (λ text. IsRefusal (string_bytes text)) → IfOk r (λ text. e ≢ Memory) → IfOk r (λ text. string_bytes text ≡ refused (code_of e)) → IfOk r (λ text. AddsLine (framed_as info v) (why_of (frame v).answer) was (string_bytes text) now)
not_added info v e was now (Ok text) fault same refusal n told =
    let h = refused_as (argument_frame v) e (string_bytes text) fault n refusal told in
    subst (λ g. AddsLine g (why_of (frame v).answer) was (string_bytes text) now) (sym (ap (option_map (λ ts. (value_type info v, ts))) h.0)) (h.1, same)
not_added info v e was now (Err x) fault same refusal n told = tt

-- `refused Cn`, of an error
abbrev pub IsTold : CodecError → Text → Type 0
IsTold e text = string_bytes text ≡ refused (code_of e)

told_as : (e f : CodecError) (text : Text) → e ≡ f → IsTold e text → IsTold f text
told_as e f text same told = told ∙ ap (λ (g : CodecError). refused (code_of g)) same

abbrev error_or : {V : Type 0} → CodecError → Result V CodecError → CodecError
error_or d (Ok v) = d
error_or d (Err e) = e

differ : (n m : ℕ) → (n ≡ m → ⊥) → (n == m) ≡ false
differ n m h = grind (arith, nat_tests)

-- other OIDs than there are holes fill nothing
pub not_resolved : {V : Type 0} (n m : ℕ) (oids : List Oid) (was now : State) (e : CodecError) (r : Result Text AllocError) → (n ≡ m → false ≡ true) → (n ≢ m → ◌≡◌ {A = Result V CodecError} (Err e) (Err HoleCount)) → now ≡ was →
    IfOk r (λ text. IsTold e text) → IfOk r (λ text. Resolves (n == m) oids was (string_bytes text) now)
not_resolved n m oids was now e (Err x) h c same told = tt
not_resolved n m oids was now e (Ok text) h c same told = subst (λ b. Resolves b oids was (string_bytes text) now) (sym (differ n m (λ q. false≢true (h q)))) (told_as e HoleCount text (ap (error_or e) (c (λ q. false≢true (h q)))) told, same)
