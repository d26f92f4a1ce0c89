-- A composite is read back as the list of its fields is.
use Rattle.std.specs.Prelude.{◌≡◌, ℕ, List, [], ◌++◌, Option, Some, Result, Ok, Err}
use Rattle.std.proofs.Common.{ap, sym, ◌∙◌, subst, append-nil}
use Rattle.pgv_types.specs.Ty.{Ty}
use Rattle.pgv_types.specs.declared.oid.Oid.{Oid}
use Rattle.pgv_buf.specs.Tokens.{Token}
use Rattle.pgv_value.specs.Outcome.{Outcome, ok_of, reading_of}
use Rattle.pgv_value.specs.declared.error.CodecError.{CodecError}
use Rattle.pgv_codec.specs.RecordGrammar.{Left, parse_record}
use Rattle.pgv_codec.specs.Back.{FieldsBack, ReadsBack}
use Rattle.pgv_codec.specs.RecordBackLemmas.{record_back}
use Rattle.pgv_codec.specs.Encoding.{plainly, record_image}

answer_is : {A : Type 0} (answer : Result A (Option CodecError)) (x : A) → ok_of answer ≡ Some x → answer ≡ Ok x
answer_is (Ok y) x e = cc
answer_is (Err why) x e = absurd cc

pub composite_back : {V F M : Type 0} (fields_of : V → F) (made : F → V) (fields : F → List (Outcome (List Token))) (step : Left → Outcome (M × Left)) (view : F → M) (kept : F → F) (fit : F → Ty → ℕ → List Oid → Type 0) →
    ((f : F) → fields_of (made f) ≡ f) → ((f : F) (further : List (Outcome (List Token))) → FieldsBack step (fields f ++ further) (view (kept f)) (fit f)) →
    ReadsBack (λ v. plainly (record_image (fields (fields_of v)))) (reading_of (parse_record step)) (λ v. view (fields_of (made (kept (fields_of v))))) (λ v t oids. fit (fields_of v) t 0 oids)
composite_back fields_of made fields step view kept fit made_of back v i t p oids e whole small fits_there =
    let f = fields_of v in
    let alone : FieldsBack step (fields f) (view (kept f)) (fit f) = subst (λ fs. FieldsBack step fs (view (kept f)) (fit f)) (append-nil (fields f)) (back f []) in
    record_back alone i t p oids (answer_is (record_image (fields f)).answer i e) whole small fits_there ∙ ap (λ g. Some (view g)) (sym (made_of (kept f)))

pub record_agrees : {fs gs : List (Outcome (List Token))} → fs ≡ gs → plainly (record_image fs) ≡ plainly (record_image gs)
record_agrees same = ap (λ fs. plainly (record_image fs)) same
