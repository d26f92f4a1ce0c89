-- Pairs that are read one after another.
use Rattle.std.proofs.Common.{◌≡◌, ℕ, suc, ◌+◌, ◌-◌, ◌<◌, ◌≤◌, nat_lt, Bool, true, false, ◌||◌, List, [], ◌∷◌, ◌++◌, map, Option, Some, None, Result, Ok, Err, refl, sym, ap, ◌∙◌, subst, arith, inl, inr}
use Rattle.std.proofs.lemmas.Bool.{lt-ltb}
use Rattle.std.specs.Prelude.{option_map, string_bytes, if◌then◌else◌}
use Rattle.std.specs.declared.cmp.Ordering.{Ordering}
use Rattle.std.specs.declared.cmp.Ordering.TheVariants.{Less, Equal, Greater}
use Rattle.std.specs.declared.string.String.{String}
use Rattle.std.specs.BTreeMap.{insert_entry}
use Rattle.std.specs.FinMap.{put}
use Rattle.std.specs.FinMap.Entries.{by_order}
use Rattle.std.specs.Ordering.{match_ordering}
use Rattle.std.specs.String.{string_cmp}
use Rattle.pgv_value.specs.FrameBinary.{Part}
use Rattle.pgv_value.specs.Fronts.{part_front}
use Rattle.pgv_value.specs.Outcome.{Outcome, Fails, done, in_place, allocates, after, bind_by, ◌>>=◌, ◌>>◌}
use Rattle.pgv_value.specs.Parsed.{Parsed}
use Rattle.pgv_value.specs.Text.{is_utf8}
use Rattle.pgv_value.specs.declared.error.CodecError.{CodecError}
use Rattle.pgv_value.specs.declared.error.CodecError.TheVariants.{Utf8}
use Rattle.pgv_value.proofs.Outcomes.{taken, taken_exactly}
use Rattle.pgv_codec.proofs.StepOutcomes.{fails_here, fails_then}
use Rattle.pgv_more.specs.Hstore.{Pair, pair_of, order, text_at, as_key, key_at, map_value, pairs, put_all, put_read}

-- ---- what is put into the map is put into its pairs

pub inserted : {Z : Type 0} (es : List (String Z × Option (String Z))) (k : String Z) (v : Option (String Z)) →
    map pair_of (insert_entry string_cmp es k v) ≡ put order (string_bytes k) (option_map string_bytes v) (map pair_of es)
inserted [] k v = refl
inserted {Z} (e ∷ es) k v = by (string_cmp k e.0) (inserted es k v)
  where
    by : (r : Ordering) → map pair_of (insert_entry string_cmp es k v) ≡ put order (string_bytes k) (option_map string_bytes v) (map pair_of es) →
        map pair_of (match_ordering r ((k, v) ∷ e ∷ es) ((e.0, v) ∷ es) (e ∷ insert_entry string_cmp es k v))
        ≡ by_order r (pair_of (k, v) ∷ pair_of e ∷ map pair_of es) (pair_of (e.0, v) ∷ map pair_of es) (pair_of e ∷ put order (string_bytes k) (option_map string_bytes v) (map pair_of es))
    by Less more = refl
    by Equal more = refl
    by Greater more = ap (λ (ps : List Pair). pair_of e ∷ ps) more

-- ---- a pair that is read

-- a text is copied, and so is a key that is there
text_asks : (form text : List ℕ) → (text_at form).answer ≡ Ok text → (text_at form).may_alloc ≡ true
text_asks form text e = by (if is_utf8 form then Ok form else Err Utf8) e
  where
    by : (p : Parsed (List ℕ)) → (in_place p >>= λ t. allocates true >> done t).answer ≡ Ok text → (in_place p >>= λ t. allocates true >> done t).may_alloc ≡ true
    by (Ok t) e = refl
    by (Err d) e = absurd cc

key_asks : (form : List ℕ) (x : List ℕ × List ℕ) → (key_at form).answer ≡ Ok x → (key_at form).may_alloc ≡ true
key_asks form x e =
    let part = taken_exactly (part_front form) _ x e in
    let key = taken (as_key part.0.0) _ x part.2 in
    rw (part.1, key.1, asks part.0.0 key.0 key.1) refl
  where
    asks : (part : Part) (key : List ℕ) → (as_key part).answer ≡ Ok key → (as_key part).may_alloc ≡ true
    asks None key e = absurd cc
    asks (Some form) key e = text_asks form key e

regroup : (into : List Pair) (p : Pair) (r : Result (List Pair) (Option CodecError)) (b c : Bool) →
    (after true (after c (bind_by r b (λ (ps : List Pair). done (p ∷ ps)))) >>= λ ps. done (put_all into ps)) ≡ after true (bind_by r b (λ (ps : List Pair). done (put_all (put order p.0 p.1 into) ps)))
regroup into p (Ok ps) b c = refl
regroup into p (Err why) b c = refl

put_more : (into : List Pair) (k : ℕ) (form between later : List ℕ) (key : List ℕ) (value : Part) → (key_at form).answer ≡ Ok (key, between) → (map_value between).answer ≡ Ok (value, later) →
    put_read into (suc k) form ≡ after true (put_read (put order key value into) k later)
unfolding pairs
put_more into k form between later key value f g =
    rw (f, key_asks form (key, between) f, g) (regroup into (key, value) (pairs k later).answer (pairs k later).may_alloc (map_value between).may_alloc)

no_key : (into : List Pair) (k : ℕ) (form : List ℕ) (e : CodecError) → Fails e (key_at form) → Fails e (put_read into (suc k) form)
unfolding pairs
no_key into k form e h = fails_here (pairs (suc k) form) _ e (fails_here (key_at form) _ e h)

no_value : (into : List Pair) (k : ℕ) (form between key : List ℕ) (e : CodecError) → (key_at form).answer ≡ Ok (key, between) → Fails e (map_value between) → Fails e (put_read into (suc k) form)
unfolding pairs
no_value into k form between key e f h = fails_here (pairs (suc k) form) _ e (fails_then (key_at form) _ (key, between) e f (fails_here (map_value between) _ e h))

-- ---- after memory may have been asked for

after_more : (b : Bool) (o : Outcome (List Pair)) → after b (after true o) ≡ after true o
after_more true o = refl
after_more false o = refl

or_true : (b c : Bool) → c ≡ true → b || c ≡ true
or_true true c is = refl
or_true false c is = is

fails_after : (b : Bool) (o : Outcome (List Pair)) (e : CodecError) → Fails e o → Fails e (after b o)
fails_after b o e (inl h) = inl h
fails_after b o e (inr (inl h)) = inr (inl h)
fails_after b o e (inr (inr h)) = inr (inr (h.0, or_true b o.may_alloc h.1))

-- ---- the loop: it goes on, no key stands in front, no value, there was no memory for a pair, it is done

-- What is in the map, and the pairs that are still to be put into it, are what the whole form says. After the first
-- pair memory was asked for.
abbrev pub IsOf : List Pair → ℕ → ℕ → List ℕ → Outcome (List Pair) → Type 0
IsOf into count i form whole = after (nat_lt 0 i) (put_read into (count - i) form) ≡ whole

-- of one more pair
one_at : (into : List Pair) (count i : ℕ) (form : List ℕ) (whole : Outcome (List Pair)) → i < count → IsOf into count i form whole → after (nat_lt 0 i) (put_read into (suc (count - (i + 1))) form) ≡ whole
one_at into count i form whole lt so_far =
    let k : count - i ≡ suc (count - (i + 1)) = omega arith in
    ap (λ (n : ℕ). after (nat_lt 0 i) (put_read into n form)) (sym k) ∙ so_far

pair_at : (into : List Pair) (count i : ℕ) (form between later : List ℕ) (key : List ℕ) (value : Part) (whole : Outcome (List Pair)) → i < count →
    (key_at form).answer ≡ Ok (key, between) → (map_value between).answer ≡ Ok (value, later) → IsOf into count i form whole → after true (put_read (put order key value into) (count - (i + 1)) later) ≡ whole
pair_at into count i form between later key value whole lt f g so_far =
    sym (after_more (nat_lt 0 i) (put_read (put order key value into) (count - (i + 1)) later))
    ∙ ap (after (nat_lt 0 i)) (sym (put_more into (count - (i + 1)) form between later key value f g)) ∙ one_at into count i form whole lt so_far

pub goes_on : (into now : List Pair) (count i : ℕ) (form between later : List ℕ) (key : List ℕ) (value : Part) (whole : Outcome (List Pair)) → i < count →
    (key_at form).answer ≡ Ok (key, between) → (map_value between).answer ≡ Ok (value, later) → now ≡ put order key value into → IsOf into count i form whole → IsOf now count (i + 1) later whole
goes_on into now count i form between later key value whole lt f g put so_far =
    let more : nat_lt 0 (i + 1) ≡ true = lt-ltb 0 (i + 1) (omega arith) in
    rw (more, put) (pair_at into count i form between later key value whole lt f g so_far)

pub ends_at_key : (into : List Pair) (count i : ℕ) (form : List ℕ) (whole : Outcome (List Pair)) (e : CodecError) → i < count → Fails e (key_at form) → IsOf into count i form whole → Fails e whole
ends_at_key into count i form whole e lt h so_far =
    subst (λ (o : Outcome (List Pair)). Fails e o) (one_at into count i form whole lt so_far) (fails_after (nat_lt 0 i) (put_read into (suc (count - (i + 1))) form) e (no_key into (count - (i + 1)) form e h))

pub ends_at_value : (into : List Pair) (count i : ℕ) (form between key : List ℕ) (whole : Outcome (List Pair)) (e : CodecError) → i < count → (key_at form).answer ≡ Ok (key, between) → Fails e (map_value between) →
    IsOf into count i form whole → Fails e whole
ends_at_value into count i form between key whole e lt f h so_far =
    subst (λ (o : Outcome (List Pair)). Fails e o) (one_at into count i form whole lt so_far)
    (fails_after (nat_lt 0 i) (put_read into (suc (count - (i + 1))) form) e (no_value into (count - (i + 1)) form between key e f h))

pub memory_asked : (into : List Pair) (count i : ℕ) (form between later : List ℕ) (key : List ℕ) (value : Part) (whole : Outcome (List Pair)) → i < count →
    (key_at form).answer ≡ Ok (key, between) → (map_value between).answer ≡ Ok (value, later) → IsOf into count i form whole → whole.may_alloc ≡ true
memory_asked into count i form between later key value whole lt f g so_far =
    ap (λ (o : Outcome (List Pair)). o.may_alloc) (sym (pair_at into count i form between later key value whole lt f g so_far))

none_left : (into : List Pair) (form : List ℕ) → (put_read into 0 form).answer ≡ Ok into
unfolding pairs
none_left into form = refl

pub is_done : (into : List Pair) (count i : ℕ) (form : List ℕ) (whole : Outcome (List Pair)) → count ≤ i → IsOf into count i form whole → whole.answer ≡ Ok into
is_done into count i form whole le so_far =
    let k : count - i ≡ 0 = omega arith in
    ap (λ (o : Outcome (List Pair)). o.answer) (sym so_far) ∙ ap (λ (n : ℕ). (put_read into n form).answer) k ∙ none_left into form

-- ---- pairs that an iterator gives are put in turn

put_all_more : (into ps : List Pair) (p : Pair) → put_all into (ps ++ p ∷ []) ≡ put order p.0 p.1 (put_all into ps)
put_all_more into [] p = refl
put_all_more into (q ∷ ps) p = put_all_more (put order q.0 q.1 into) ps p

map_more : {A : Type 0} (f : A → Pair) (xs : List A) (x : A) → map f (xs ++ x ∷ []) ≡ map f xs ++ f x ∷ []
map_more f [] x = refl
map_more f (y ∷ xs) x = ap (λ (ps : List Pair). f y ∷ ps) (map_more f xs x)

pub one_more : {A : Type 0} (f : A → Pair) (xs : List A) (x : A) (before now : List Pair) → before ≡ put_all [] (map f xs) → now ≡ put order (f x).0 (f x).1 before → now ≡ put_all [] (map f (xs ++ x ∷ []))
one_more f xs x before now so_far e =
    e ∙ ap (put order (f x).0 (f x).1) so_far ∙ sym (put_all_more [] (map f xs) (f x)) ∙ ap (put_all []) (sym (map_more f xs x))
