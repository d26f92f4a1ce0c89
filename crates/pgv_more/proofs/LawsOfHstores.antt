-- The laws of what maps are read from.
use Rattle.std.proofs.Common.{◌≡◌, ℕ, zero, suc, ◌<◌, ◌≤◌, ◌^◌, Bool, true, false, cond, List, [], ◌∷◌, ◌++◌, length, Option, Some, None, Result, Ok, Err, refl, sym, ap, ◌∙◌, subst, arith, append_assoc}
use Rattle.std.proofs.lemmas.Bool.{ltb-false}
use Rattle.std.specs.Prelude.{nat_lt, T, if◌then◌else◌}
use Rattle.std.specs.Int.{w32, cast_signed}
use Rattle.std.specs.Cmp.Lexicographic.{nat_list_cmp_total}
use Rattle.std.specs.FinMap.{find, put, is_sorted, nat_cmp-IsAntisymmetric, slice_cmp-IsAntisymmetric}
use Rattle.std.specs.FinMap.Entries.{is_sorted-put, find-put, same_entries}
use Rattle.std.specs.List.{flat_map}
use Rattle.std.specs.Ordering.{eq_by_cmp}
use Rattle.pgv_buf.specs.Tokens.{be4}
use Rattle.pgv_value.proofs.Fronts.{front_exactly}
use Rattle.pgv_value.specs.FrameBinary.{Part, IsFrame, front, frame_fault, max_length}
use Rattle.pgv_value.specs.Fronts.{part_front, u32_front}
use Rattle.pgv_value.specs.FrameLaws.{AreBytes}
use Rattle.pgv_value.specs.Outcome.{Outcome, done}
use Rattle.pgv_value.specs.ReadingSteps.{number}
use Rattle.pgv_value.specs.Text.{is_utf8}
use Rattle.pgv_value.specs.declared.error.CodecError.{CodecError}
use Rattle.pgv_value.specs.declared.error.CodecError.TheVariants.{HstoreLength, Short, Utf8}
use Rattle.pgv_value.proofs.Numbers.{number_is, bytes_after, after_four}
use Rattle.pgv_value.proofs.Outcomes.{answer_is, answers_are, ok_is, held, taken, taken_exactly, tested, found_or}
use Rattle.pgv_more.specs.Hstore.{Pair, order, part_form, pair_form, text_at, as_key, as_value, key_at, map_value, pairs, put_all, put_read, hstore_in_binary}
use Rattle.pgv_more.specs.HstoreBackLemmas.{IsText, IsMapValue, AreMapPairs, hstore_there}
use Rattle.pgv_more.specs.HstoreLaws.{last_value, IsMapOf, IsHstore, HstoreIsRead, OneHstore}

-- ---- a key, a value and a pair that are read stand there

abbrev KeyIs : List ℕ → List ℕ → List ℕ → Type 0
KeyIs form key rest = IsText key × (form ≡ part_form (Some key) ++ rest)

abbrev ValueIs : List ℕ → Part → List ℕ → Type 0
ValueIs form value rest = IsMapValue value × (form ≡ part_form value ++ rest)

text_is : (form part rest : List ℕ) → is_utf8 part ≡ true → IsFrame form (Some part) rest → KeyIs form part rest
text_is form part rest utf8 frame = (record { utf8 = utf8; room = frame.0 }, frame.1 ∙ sym (append_assoc (be4 (length part)) part rest))

text_taken : (form text : List ℕ) → (text_at form).answer ≡ Ok text → (is_utf8 form ≡ true) × (form ≡ text)
text_taken form text e =
    let t = taken_exactly (if is_utf8 form then Ok form else Err Utf8) _ text e in
    let h = held (is_utf8 form) Utf8 (Ok form) t.0 t.1 in
    (h.0, ok_is form t.0 h.1 ∙ answer_is t.0 text t.2)

key_is : (form key rest : List ℕ) → AreBytes form → (key_at form).answer ≡ Ok (key, rest) → KeyIs form key rest
key_is form key rest small e =
    let a = taken_exactly (part_front form) _ (key, rest) e in
    let b = taken (as_key a.0.0) (λ (text : List ℕ). done (text, a.0.1)) (key, rest) a.2 in
    let k = answers_are b.0 key a.0.1 rest b.2 in
    let frame = (front_exactly form a.0.0 a.0.1 small).0 (found_or (front form) (frame_fault form) a.0 a.1) in
    by a.0.0 (subst (λ (r : List ℕ). IsFrame form a.0.0 r) k.1 frame) (b.1 ∙ ap (λ (text : List ℕ). let r : Result (List ℕ) (Option CodecError) = Ok text in r) k.0)
  where
    by : (part : Part) → IsFrame form part rest → (as_key part).answer ≡ Ok key → KeyIs form key rest
    by None frame e = absurd cc
    by (Some part) frame e =
        let t = text_taken part key e in
        subst (λ (text : List ℕ). KeyIs form text rest) t.1 (text_is form part rest t.0 frame)

value_is : (form : List ℕ) (value : Part) (rest : List ℕ) → AreBytes form → (map_value form).answer ≡ Ok (value, rest) → ValueIs form value rest
value_is form value rest small e =
    let a = taken_exactly (part_front form) _ (value, rest) e in
    let b = taken (as_value a.0.0) (λ (v : Part). done (v, a.0.1)) (value, rest) a.2 in
    let k = answers_are b.0 value a.0.1 rest b.2 in
    let frame = (front_exactly form a.0.0 a.0.1 small).0 (found_or (front form) (frame_fault form) a.0 a.1) in
    by a.0.0 (subst (λ (r : List ℕ). IsFrame form a.0.0 r) k.1 frame) (b.1 ∙ ap (λ (v : Part). let r : Result Part (Option CodecError) = Ok v in r) k.0)
  where
    by : (part : Part) → IsFrame form part rest → (as_value part).answer ≡ Ok value → ValueIs form value rest
    by None frame e = subst (λ (v : Part). ValueIs form v rest) (answer_is {A = Part} None value e) (tt, frame)
    by (Some part) frame e =
        let text = taken (text_at part) (λ (t : List ℕ). let o : Outcome Part = done (Some t) in o) value e in
        let t = text_taken part text.0 text.1 in
        let is : KeyIs form text.0 rest = subst (λ (x : List ℕ). KeyIs form x rest) t.1 (text_is form part rest t.0 frame) in
        subst (λ (v : Part). ValueIs form v rest) (answer_is {A = Part} (Some text.0) value text.2) is

abbrev PairsAre : ℕ → List ℕ → List Pair → Type 0
PairsAre n form ps = (rest : List ℕ) × (length ps ≡ n) × AreMapPairs ps × (form ≡ flat_map pair_form ps ++ rest)

-- a key, a value and what is left, one after another
one_after : (form key between : List ℕ) (value : Part) (later : List ℕ) (ps : List Pair) (rest : List ℕ) → form ≡ part_form (Some key) ++ between → between ≡ part_form value ++ later → later ≡ flat_map pair_form ps ++ rest →
    form ≡ flat_map pair_form ((key, value) ∷ ps) ++ rest
one_after form key between value later ps rest k v more =
    let left = flat_map pair_form ps ++ rest in
    k ∙ ap (λ (r : List ℕ). part_form (Some key) ++ r) (v ∙ ap (λ (r : List ℕ). part_form value ++ r) more)
    ∙ sym (append_assoc (pair_form (key, value)) (flat_map pair_form ps) rest ∙ append_assoc (part_form (Some key)) (part_form value) left)

pairs_are : (n : ℕ) (form : List ℕ) (ps : List Pair) → AreBytes form → (pairs n form).answer ≡ Ok ps → PairsAre n form ps
unfolding pairs
pairs_are zero form ps small e = subst (PairsAre 0 form) (answer_is {A = List Pair} [] ps e) (form, refl, tt, refl)
pairs_are (suc n) form ps small e =
    let a = taken (key_at form) _ ps e in
    let k = key_is form a.0.0 a.0.1 small a.1 in
    let small_after = bytes_after (part_form (Some a.0.0)) a.0.1 (subst AreBytes k.1 small) in
    let b = taken (map_value a.0.1) _ ps a.2 in
    let v = value_is a.0.1 b.0.0 b.0.1 small_after b.1 in
    let c = taken (pairs n b.0.1) _ ps b.2 in
    let more = pairs_are n b.0.1 c.0 (bytes_after (part_form b.0.0) b.0.1 (subst AreBytes v.1 small_after)) c.1 in
    let whole = one_after form a.0.0 a.0.1 b.0.0 b.0.1 c.0 more.0 k.1 v.1 more.3 in
    subst (PairsAre (suc n) form) (answer_is ((a.0.0, b.0.0) ∷ c.0) ps c.2) (more.0, ap suc more.1, ((k.0, v.0), more.2), whole)

-- ---- pairs put into a map in turn are what the map of them is

holds : (b : Bool) → T b → b ≡ true
holds true h = refl
holds false h = absurd h

so : (b : Bool) → b ≡ true → T b
so b e = subst T (sym e) tt

sorted_all : (into ps : List Pair) → T (is_sorted order into) → T (is_sorted order (put_all into ps))
sorted_all into [] h = h
sorted_all into (p ∷ ps) h = sorted_all (put order p.0 p.1 into) ps (is_sorted-put order nat_list_cmp_total p.0 p.1 into h)

abbrev or_else : Option Part → Option Part → Option Part
or_else found other = elim found [ None ↦ other | Some value ↦ Some value ]

found_all : (key : List ℕ) (into ps : List Pair) → find order key (put_all into ps) ≡ or_else (last_value key ps) (find order key into)
found_all key into [] = refl
found_all key into (p ∷ ps) = found_all key (put order p.0 p.1 into) ps ∙ by (last_value key ps)
  where
    put_here : (b : Bool) → cond b (Some p.1) (find order key into) ≡ or_else (cond b (Some p.1) None) (find order key into)
    put_here true = refl
    put_here false = refl

    by : (o : Option Part) → or_else o (find order key (put order p.0 p.1 into)) ≡ or_else (or_else o (find order key (p ∷ []))) (find order key into)
    by None = find-put order nat_list_cmp_total key p.0 p.1 into ∙ put_here (eq_by_cmp order key p.0)
    by (Some value) = refl

found : (key : List ℕ) (ps : List Pair) → find order key (put_all [] ps) ≡ last_value key ps
found key ps = found_all key [] ps ∙ itself (last_value key ps)
  where
    itself : (o : Option Part) → or_else o None ≡ o
    itself None = refl
    itself (Some value) = refl

is_map : (ps : List Pair) → IsMapOf ps (put_all [] ps)
is_map ps = record { sorted = holds (is_sorted order (put_all [] ps)) (sorted_all [] ps tt); values = λ key. found key ps }

pub map_made : (ps made : List Pair) → made ≡ put_all [] ps → IsMapOf ps made
map_made ps made e = subst (IsMapOf ps) (sym e) (is_map ps)

one_map : (stood ps : List Pair) → IsMapOf stood ps → put_all [] stood ≡ ps
one_map stood ps h =
    same_entries order nat_list_cmp_total (slice_cmp-IsAntisymmetric nat_cmp-IsAntisymmetric) (put_all [] stood) ps (sorted_all [] stood tt) (so (is_sorted order ps) h.sorted)
    (λ key. found key stood ∙ sym (h.values key))

-- ---- the two directions

-- a number, and as many pairs
counted : (form : List ℕ) (n : ℕ) (later : List ℕ) (ps : List Pair) (rest : List ℕ) → form ≡ be4 n ++ later → later ≡ flat_map pair_form ps ++ rest → length ps ≡ n → form ≡ be4 (length ps) ++ (flat_map pair_form ps ++ rest)
counted form n later ps rest number are count = number ∙ ap (λ (r : List ℕ). be4 n ++ r) are ∙ ap (λ (m : ℕ). be4 m ++ (flat_map pair_form ps ++ rest)) (sym count)

is_hstore : (form : List ℕ) (ps : List Pair) → AreBytes form → (hstore_in_binary form).answer ≡ Ok ps → IsHstore form ps
is_hstore form ps small e =
    let n = taken_exactly (u32_front form) _ ps e in
    let count = number_is form n.0.1 n.0.0 small (found_or (number form) Short n.0 n.1) in
    let few = tested (nat_lt max_length n.0.0) (HstoreLength (cast_signed w32 n.0.0)) (put_read [] n.0.0 n.0.1) ps n.2 in
    let s = taken (pairs n.0.0 n.0.1) _ ps few.1 in
    let are = pairs_are n.0.0 n.0.1 s.0 (after_four n.0.0 form n.0.1 count.1 small) s.1 in
    let most : n.0.0 ≤ max_length = ltb-false max_length n.0.0 few.0 in
    let less : n.0.0 < 2 ^ 31 = omega (arith, most) in
    record {
      stood = s.0;
      rest = are.0;
      whole = counted form n.0.0 n.0.1 s.0 are.0 count.1 are.3 are.1;
      few = subst (λ m. m < 2 ^ 31) (sym are.1) less;
      each = are.2;
      map = subst (IsMapOf s.0) (answer_is (put_all [] s.0) ps s.2) (is_map s.0);
    }

there : (form : List ℕ) (ps : List Pair) → IsHstore form ps → (hstore_in_binary form).answer ≡ Ok ps
there form ps h =
    ap (λ (bytes : List ℕ). (hstore_in_binary bytes).answer) h.whole ∙ hstore_there h.stood h.rest h.few h.each
    ∙ ap (λ (qs : List Pair). let r : Result (List Pair) (Option CodecError) = Ok qs in r) (one_map h.stood ps h.map)

pub hstore_is_read : HstoreIsRead
unfolding HstoreIsRead
hstore_is_read form ps small = (λ e. is_hstore form ps small e, λ h. there form ps h)

pub one_hstore : OneHstore
unfolding OneHstore
one_hstore form first second small a b = answer_is first second (sym (there form first a) ∙ there form second b)
