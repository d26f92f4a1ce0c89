-- Fields that are read one after another, with those that were read before them.
use Rattle.std.proofs.Common.{◌≡◌, ℕ, suc, ◌<◌, ◌≤◌, List, [], ◌∷◌, ◌++◌, length, get_or, drop, Ok, Err, refl, sym, ap, ◌∙◌, append_assoc, append-nil, drop-cons}
use Rattle.std.proofs.lemmas.List.{drop_all}
use Rattle.pgv_types.specs.Ty.{Ty}
use Rattle.pgv_value.specs.Fronts.{value_front}
use Rattle.pgv_value.specs.declared.error.CodecError.{CodecError}
use Rattle.pgv_value.specs.ValueView.{Given}
use Rattle.pgv_value.specs.declared.value.PgValueFormat.TheVariants.{Binary}
use Rattle.pgv_value.specs.Parsed.{Parsed, ◌>>=◌}
use Rattle.pgv_copy.specs.CopyBinary.{fields}

abbrev pub Row : Type 0
Row = Parsed (List Given × List ℕ)

-- what was read, and what is read after it
abbrev pub continued : List Given → Row → Row
continued done r = r >>= λ more. Ok (done ++ more.0, more.1)

pub nothing_done : (r whole : Row) → r ≡ whole → continued [] r ≡ whole
nothing_done (Ok x) whole e = e
nothing_done (Err x) whole e = e

-- one more field in front
abbrev pub with_first : Given → Row → Row
with_first v r = r >>= λ more. Ok (v ∷ more.0, more.1)

one_more : (done : List Given) (v : Given) (r : Row) → continued (done ++ v ∷ []) r ≡ continued done (with_first v r)
one_more done v (Ok x) = ap (λ (vs : List Given). let row : Row = Ok (vs, x.1) in row) (append_assoc done (v ∷ []) x.0)
one_more done v (Err e) = refl

pub field_there : (t : Ty) (ts : List Ty) (bytes : List ℕ) (v : Given) (rest : List ℕ) → value_front t Binary bytes ≡ Ok (v, rest) → fields (t ∷ ts) bytes ≡ with_first v (fields ts rest)
unfolding fields
field_there t ts bytes v rest found = rw found refl

pub field_missing : (t : Ty) (ts : List Ty) (bytes : List ℕ) (e : CodecError) → value_front t Binary bytes ≡ Err e → fields (t ∷ ts) bytes ≡ Err e
unfolding fields
field_missing t ts bytes e none = rw none refl

pub field_of : (t : Ty) (ts : List Ty) (i : ℕ) → i < length ts → t ≡ get_or ts i t → drop i ts ≡ t ∷ drop (suc i) ts
field_of t ts i lt is = drop-cons ts i t lt ∙ ap (λ (u : Ty). u ∷ drop (suc i) ts) (sym is)

all_read : (done : List Given) (bytes : List ℕ) → continued done (fields [] bytes) ≡ Ok (done, bytes)
unfolding fields
all_read done bytes = rw append-nil refl

pub nothing_left : (done : List Given) (ts : List Ty) (i : ℕ) (bytes : List ℕ) (whole : Row) → length ts ≤ i → continued done (fields (drop i ts) bytes) ≡ whole → whole ≡ Ok (done, bytes)
nothing_left done ts i bytes whole le e = sym e ∙ ap (λ (us : List Ty). continued done (fields us bytes)) (drop_all i ts le) ∙ all_read done bytes

pub goes_on : (done : List Given) (ts : List Ty) (i : ℕ) (t : Ty) (bytes : List ℕ) (v : Given) (rest : List ℕ) (whole : Row) → i < length ts → t ≡ get_or ts i t →
    value_front t Binary bytes ≡ Ok (v, rest) → continued done (fields (drop i ts) bytes) ≡ whole → continued (done ++ v ∷ []) (fields (drop (suc i) ts) rest) ≡ whole
goes_on done ts i t bytes v rest whole lt is found e =
    one_more done v (fields (drop (suc i) ts) rest)
    ∙ ap (continued done) (sym (field_there t (drop (suc i) ts) bytes v rest found))
    ∙ ap (λ (us : List Ty). continued done (fields us bytes)) (sym (field_of t ts i lt is))
    ∙ e

pub ends : (done : List Given) (ts : List Ty) (i : ℕ) (t : Ty) (bytes : List ℕ) (e : CodecError) (whole : Row) → i < length ts → t ≡ get_or ts i t → value_front t Binary bytes ≡ Err e →
    continued done (fields (drop i ts) bytes) ≡ whole → whole ≡ Err e
ends done ts i t bytes d whole lt is none e =
    sym e ∙ ap (λ (us : List Ty). continued done (fields us bytes)) (field_of t ts i lt is) ∙ ap (continued done) (field_missing t (drop (suc i) ts) bytes d none)
