-- What is written of a map is read back as it.
use Rattle.std.specs.Prelude.{◌≡◌, ℕ, suc, ◌<◌, ◌^◌, nat_le, nat_lt, Bool, true, false, if◌then◌else◌, List, [], ◌∷◌, ◌++◌, length, map, Option, Some, None, Result, Ok, Err, option_map, refl, string_bytes, ⊤}
use Rattle.std.specs.declared.cmp.Ordering.{Ordering}
use Rattle.std.specs.declared.cmp.Ordering.TheVariants.{Less, Equal, Greater}
use Rattle.std.specs.declared.string.String.{String}
use Rattle.std.specs.Cmp.Lexicographic.{nat_list_cmp_total}
use Rattle.std.specs.FinMap.{is_sorted, put}
use Rattle.std.specs.FinMap.Entries.{below_all}
use Rattle.std.specs.Ordering.{is_lt, ordering_reverse}
use Rattle.std.specs.List.{flat_map, list_all}
use Rattle.std.proofs.Common.{ap, sym, ◌∙◌, arith, append_assoc}
use Rattle.std.proofs.lemmas.Bool.{le-leb, le-ltb, ltb-false, eq-eqb, and_parts}
use Rattle.std.specs.Int.{w64, cast_signed}
use Rattle.std.proofs.lemmas.Bool.Decides.{nat_tests}
use Rattle.std.proofs.lemmas.List.{append-nil}
use Rattle.std.proofs.lemmas.Str.{IsUtf8-had, utf8_valid_len-IsUtf8}
use Rattle.pgv_buf.specs.Tokens.{Token, bytes, be4}
use Rattle.pgv_value.proofs.Fronts.{frame_in_front}
use Rattle.pgv_value.specs.FrameBinary.{Part, front, max_length}
use Rattle.pgv_value.specs.Outcome.{ok_of, reading_of, done, allocates, ◌>>=◌, ◌>>◌}
use Rattle.pgv_value.proofs.Outcomes.{answer_is, answer_of, failed, ok_is, taken, taken_exactly}
use Rattle.pgv_value.specs.declared.error.CodecError.TheVariants.{HstoreLength}
use Rattle.pgv_value.specs.Text.{is_utf8}
use Rattle.pgv_value.specs.declared.error.CodecError.{CodecError}
use Rattle.pgv_value.specs.declared.value.PgValueFormat.TheVariants.{Binary}
use Rattle.pgv_value.proofs.Numbers.{number_there}
use Rattle.pgv_codec.specs.Back.{ReadsBack, always}
use Rattle.pgv_codec.specs.ScalarBackLemmas.{part_is}
use Rattle.pgv_codec.specs.Encoding.{Image, image_of, plainly}
use Rattle.pgv_codec.specs.PlainBytes.{bytes-append}
use Rattle.pgv_more.specs.Hstore.{Pair, pair_of, pairs_of, order, part_form, pair_form, hstore_form, part_fits, pair_fits, size_form, part_written, pair_written, pairs_written, in_order, hstore_image, key_at, map_value, pairs, put_all, hstore_in_binary, parse_hstore}
use Rattle.pgv_more.specs.declared.hstore.PgHstore.{PgHstore}

-- ---- a pair is read from its form, whatever comes after it

-- a part that is UTF-8 and has room in a frame
pub record IsText (part : List ℕ) : Type 0 where
  pub utf8 : is_utf8 part ≡ true
  pub room : length part < 2 ^ 31

abbrev pub IsMapValue : Part → Type 0
IsMapValue None = Unit {0}
IsMapValue (Some part) = IsText part

abbrev pub IsMapPair : Pair → Type 0
IsMapPair p = IsText p.0 × IsMapValue p.1

abbrev pub AreMapPairs : List Pair → Type 0
AreMapPairs [] = Unit {0}
AreMapPairs (p ∷ ps) = IsMapPair p × AreMapPairs ps

part_framed : (part : List ℕ) (rest : List ℕ) → IsText part → front (part_form (Some part) ++ rest) ≡ Some (Some part, rest)
part_framed part rest is = frame_in_front (part_form (Some part) ++ rest) (Some part) rest (is.room, append_assoc (be4 (length part)) part rest)

pub key_there : (key rest : List ℕ) → IsText key → (key_at (part_form (Some key) ++ rest)).answer ≡ Ok (key, rest)
key_there key rest is = rw (part_framed key rest is, is.utf8) refl

pub value_there : (value : Part) (rest : List ℕ) → IsMapValue value → (map_value (part_form value ++ rest)).answer ≡ Ok (value, rest)
value_there None rest is = rw (frame_in_front (part_form None ++ rest) None rest refl) refl
value_there (Some value) rest is = rw (part_framed value rest is, is.utf8) refl

pair_then : (n : ℕ) (form between later : List ℕ) (key : List ℕ) (value : Part) (ps : List Pair) → (key_at form).answer ≡ Ok (key, between) → (map_value between).answer ≡ Ok (value, later) →
    (pairs n later).answer ≡ Ok ps → (pairs (suc n) form).answer ≡ Ok ((key, value) ∷ ps)
unfolding pairs
pair_then n form between later key value ps f g h = rw (f, g, h) refl

pub pairs_there : (ps : List Pair) (rest : List ℕ) → AreMapPairs ps → (pairs (length ps) (flat_map pair_form ps ++ rest)).answer ≡ Ok ps
unfolding pairs
pairs_there [] rest is = refl
pairs_there (p ∷ ps) rest is =
    let later = flat_map pair_form ps ++ rest in
    let form : flat_map pair_form (p ∷ ps) ++ rest ≡ part_form (Some p.0) ++ (part_form p.1 ++ later) =
    append_assoc (pair_form p) (flat_map pair_form ps) rest ∙ append_assoc (part_form (Some p.0)) (part_form p.1) later in
    ap (λ (bytes : List ℕ). (pairs (suc (length ps)) bytes).answer) form
    ∙ pair_then (length ps) _ (part_form p.1 ++ later) later p.0 p.1 ps (key_there p.0 (part_form p.1 ++ later) is.0.0) (value_there p.1 later is.0.1) (pairs_there ps rest is.1)

-- what is after its number is put into a map
pub hstore_there : (ps : List Pair) (rest : List ℕ) → length ps < 2 ^ 31 → AreMapPairs ps → (hstore_in_binary (be4 (length ps) ++ (flat_map pair_form ps ++ rest))).answer ≡ Ok (put_all [] ps)
hstore_there ps rest few are =
    let small : nat_lt max_length (length ps) ≡ false = le-ltb _ _ (omega (arith, few)) in
    rw (number_there (length ps) (flat_map pair_form ps ++ rest) (omega (arith, few)), small, pairs_there ps rest are) refl

-- ---- pairs in order are put where they are

is_less : (r : Ordering) → is_lt r ≡ true → r ≡ Less
is_less Less e = refl
is_less Equal e = absurd (cc)
is_less Greater e = absurd (cc)

below_at : (x key : List ℕ) (value : Part) (qs ps : List Pair) → below_all order x (qs ++ (key, value) ∷ ps) ≡ true → is_lt (order x key) ≡ true
below_at x key value [] ps e = (and_parts (is_lt (order x key)) (below_all order x ps) e).0
below_at x key value (q ∷ qs) ps e = below_at x key value qs ps (and_parts (is_lt (order x q.0)) (below_all order x (qs ++ (key, value) ∷ ps)) e).1

put_last : (key : List ℕ) (value : Part) (qs ps : List Pair) → is_sorted order (qs ++ (key, value) ∷ ps) ≡ true → put order key value qs ≡ qs ++ (key, value) ∷ []
put_last key value [] ps e = refl
put_last key value (q ∷ qs) ps e =
    let b = and_parts (below_all order q.0 (qs ++ (key, value) ∷ ps)) (is_sorted order (qs ++ (key, value) ∷ ps)) e in
    let less : order q.0 key ≡ Less = is_less (order q.0 key) (below_at q.0 key value qs ps b.0) in
    let greater : order key q.0 ≡ Greater = nat_list_cmp_total.antisymm key q.0 ∙ ap ordering_reverse less in
    rw (greater, put_last key value qs ps b.1) refl

put_after : (qs ps : List Pair) → is_sorted order (qs ++ ps) ≡ true → put_all qs ps ≡ qs ++ ps
put_after qs [] e = sym (append-nil qs)
put_after qs (p ∷ ps) e =
    let last = put_last p.0 p.1 qs ps e in
    let whole : (qs ++ p ∷ []) ++ ps ≡ qs ++ p ∷ ps = append_assoc qs (p ∷ []) ps in
    ap (λ (rs : List Pair). put_all rs ps) last ∙ put_after (qs ++ p ∷ []) ps (ap (is_sorted order) whole ∙ e) ∙ whole

-- ---- what was written

string_is_text : {Z : Type 0} (s : String Z) → part_fits (Some (string_bytes s)) ≡ true → IsText (string_bytes s)
string_is_text s fits = record {
  utf8 = eq-eqb _ _ (utf8_valid_len-IsUtf8 (string_bytes s) (IsUtf8-had (string_bytes s) s.ok));
  room = grind (arith, nat_tests);
}

is_value : {Z : Type 0} (o : Option (String Z)) → part_fits (option_map string_bytes o) ≡ true → IsMapValue (option_map string_bytes o)
is_value None fits = tt
is_value (Some s) fits = string_is_text s fits

are_pairs : {Z : Type 0} (es : List (String Z × Option (String Z))) → list_all pair_fits (map pair_of es) ≡ true → AreMapPairs (map pair_of es)
are_pairs [] fits = tt
are_pairs (e ∷ es) fits =
    let b = and_parts (pair_fits (pair_of e)) (list_all pair_fits (map pair_of es)) fits in
    let k = and_parts (part_fits (Some (string_bytes e.0))) (part_fits (option_map string_bytes e.1)) b.0 in
    ((string_is_text e.0 k.0, is_value e.1 k.1), are_pairs es b.1)

few_pairs : (n : ℕ) → nat_le n max_length ≡ true → n < 2 ^ 31
few_pairs n e = grind (arith, nat_tests)

part_parts : (part : Part) (ts : List Token) → (part_written part).answer ≡ Ok ts → (part_fits part ≡ true) × (bytes (part_form part) ≡ ts)
unfolding part_written size_form
part_parts None ts e = (refl, answer_is _ ts e)
part_parts (Some part) ts e =
    let a = taken_exactly (size_form (length part)) (λ number. allocates true >> done (bytes (number ++ part))) ts e in
    let k = failed (nat_lt max_length (length part)) (HstoreLength (cast_signed w64 (length part))) (Ok (be4 (length part))) a.0 a.1 in
    (le-leb _ _ (ltb-false max_length (length part) k.0), ap (λ (number : List ℕ). bytes (number ++ part)) (ok_is (be4 (length part)) a.0 k.1) ∙ answer_is _ ts a.2)

pair_parts : (p : Pair) (ts : List Token) → (pair_written p).answer ≡ Ok ts → (pair_fits p ≡ true) × (bytes (pair_form p) ≡ ts)
unfolding pair_written
pair_parts p ts e =
    let a = taken (part_written (Some p.0)) (λ key. part_written p.1 >>= λ value. done (key ++ value)) ts e in
    let b = taken (part_written p.1) (λ value. done (a.0 ++ value)) ts a.2 in
    let key = part_parts (Some p.0) a.0 a.1 in
    let value = part_parts p.1 b.0 b.1 in
    (rw (key.0, value.0) refl, bytes-append (part_form (Some p.0)) (part_form p.1) ∙ (ap (λ (us : List Token). us ++ bytes (part_form p.1)) key.1 ∙ (ap (λ (us : List Token). a.0 ++ us) value.1 ∙ answer_is _ ts b.2)))

pairs_parts : (ps : List Pair) (ts : List Token) → (pairs_written ps).answer ≡ Ok ts → (list_all pair_fits ps ≡ true) × (bytes (flat_map pair_form ps) ≡ ts)
unfolding pairs_written
pairs_parts [] ts e = (refl, answer_is [] ts e)
pairs_parts (p ∷ ps) ts e =
    let a = taken (pair_written p) (λ first. pairs_written ps >>= λ others. done (first ++ others)) ts e in
    let b = taken (pairs_written ps) (λ others. done (a.0 ++ others)) ts a.2 in
    let first = pair_parts p a.0 a.1 in
    let others = pairs_parts ps b.0 b.1 in
    (rw (first.0, others.0) refl, bytes-append (pair_form p) (flat_map pair_form ps) ∙ (ap (λ (us : List Token). us ++ bytes (flat_map pair_form ps)) first.1 ∙ (ap (λ (us : List Token). a.0 ++ us) others.1 ∙ answer_is _ ts b.2)))

-- what is written of a map that is written
record IsMap (ps : List Pair) (i : Image) : Type 0 where
  sorted : is_sorted order ps ≡ true
  few : nat_le (length ps) max_length ≡ true
  fit : list_all pair_fits ps ≡ true
  whole : image_of (bytes (hstore_form ps)) ≡ i

is_in_order : (b : Bool) (u : ⊤) → (let r : Result ⊤ (Option CodecError) = if b then Ok tt else Err None in r) ≡ Ok u → b ≡ true
is_in_order true u e = refl
is_in_order false u e = absurd cc

map_parts : (ps : List Pair) (i : Image) → (hstore_image ps).answer ≡ Ok i → IsMap ps i
unfolding hstore_image size_form
map_parts ps i e =
    let a = taken_exactly (size_form (length ps)) (λ number. allocates true >> (pairs_written ps >>= λ all. in_order ps >> done (image_of (bytes number ++ all)))) i e in
    let k = failed (nat_lt max_length (length ps)) (HstoreLength (cast_signed w64 (length ps))) (Ok (be4 (length ps))) a.0 a.1 in
    let b = taken (pairs_written ps) (λ all. in_order ps >> done (image_of (bytes a.0 ++ all))) i a.2 in
    let c = taken (in_order ps) (λ _. done (image_of (bytes a.0 ++ b.0))) i b.2 in
    let all = pairs_parts ps b.0 b.1 in
    let number : be4 (length ps) ≡ a.0 = ok_is (be4 (length ps)) a.0 k.1 in
    record {
      sorted = is_in_order (is_sorted order ps) c.0 c.1;
      few = le-leb _ _ (ltb-false max_length (length ps) k.0);
      fit = all.0;
      whole =
          ap image_of (bytes-append (be4 (length ps)) (flat_map pair_form ps) ∙ (ap (λ (ts : List Token). bytes (be4 (length ps)) ++ ts) all.1 ∙ ap (λ (n : List ℕ). bytes n ++ b.0) number))
          ∙ answer_is _ i c.2;
    }

pub hstore_back : ReadsBack {A = PgHstore} (λ h. plainly (hstore_image (pairs_of h))) (reading_of parse_hstore) pairs_of always
hstore_back h i t p os e whole small fit =
    let ps = pairs_of h in
    let form = hstore_form ps in
    let m = map_parts ps i (answer_of (hstore_image ps).answer i e) in
    let read = hstore_there ps [] (few_pairs (length ps) m.few) (are_pairs h.0.entries m.fit) in
    let again =
    ap (λ (rest : List ℕ). (hstore_in_binary (be4 (length ps) ++ rest)).answer) (sym (append-nil (flat_map pair_form ps))) ∙ read
    ∙ ap (λ (qs : List Pair). let r : Result (List Pair) (Option CodecError) = Ok qs in r) (put_after [] ps m.sorted) in
    ap (λ (part : Part). reading_of parse_hstore t Binary part) (part_is form i p os (ap (λ (j : Image). let o : Option Image = Some j in o) m.whole)) ∙ ap ok_of again
