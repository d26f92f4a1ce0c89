-- The frames of a list.
use Rattle.std.proofs.Common.{◌≡◌, ℕ, ◌+◌, zero, suc, ◌<◌, ◌≤◌, Bool, true, false, nat_lt, Result, Ok, Err, OnOk, List, [], ◌∷◌, ◌++◌, length, map, Option, Some, None, get_or, take, drop, refl, sym, subst, ◌∙◌, ap, append_assoc, append-nil, add-one, arith, drop-cons, inl, inr, drop-drop}
use Rattle.std.proofs.lemmas.Bool.{le-ltb, lt-ltb}
use Rattle.std.proofs.lemmas.List.{drop_all, length-append, length-drop, length-map, length-take}
use Rattle.std.proofs.Math.Seq.{take-add, take-append_seam, take-suc}
use Rattle.pgv_types.specs.Ty.{Ty}
use Rattle.pgv_types.specs.Facts.{oid_of}
use Rattle.pgv_buf.specs.Tokens.{Token, Cell, hole, bytes, be4, blank}
use Rattle.pgv_buf.specs.Blank.{blank-append}
use Rattle.pgv_value.specs.Outcome.{Outcome, Fails, after, bind_by, done}
use Rattle.pgv_value.specs.declared.error.CodecError.{CodecError}
use Rattle.pgv_value.specs.declared.error.CodecError.TheVariants.{ArrayLength, Memory}
use Rattle.pgv_codec.specs.PlainBytes.{bytes-append}
use Rattle.pgv_codec.specs.Encoding.{Encoding, image_of, frame, frames, typed, header, array_image, written_element, field, value_type}
use Rattle.pgv_codec.specs.Appending.{Appended, Appends}
use Rattle.pgv_codec.specs.AtOnce.{AreFrames, WritesFirst}
use Rattle.std.specs.Prelude.{◌≡◌, ℕ, List, [], ◌∷◌, refl, length}
use Rattle.std.specs.List.{slice_index_or}

-- tokens after tokens
pub both : (was mid now : List Cell) (a b : List Token) → mid ≡ was ++ blank a → now ≡ mid ++ blank b → now ≡ was ++ blank (a ++ b)
both was mid now a b e f = f ∙ (ap (λ r. r ++ blank b) e ∙ (append_assoc was (blank a) (blank b) ∙ ap (λ r. was ++ r) (sym (blank-append a b))))

-- a type that is written by its OID, or as a hole
pub typed_known : (t : Ty) (o : ℕ) → Some o ≡ oid_of t → o < 4294967296 → (typed t).answer ≡ Ok (bytes (be4 o))
typed_known t o e l = let small : nat_lt o 4294967296 ≡ true = lt-ltb _ _ l in rw (← e, small) refl

pub typed_unknown : (t : Ty) → None ≡ oid_of t → (typed t).answer ≡ Ok (hole t ∷ [])
typed_unknown t e = rw (← e) refl

-- the head of an array whose elements' type is written by its OID
pub header_known : (t : Ty) (n o : ℕ) (was now : List Cell) → Some o ≡ oid_of t → o < 4294967296 → now ≡ was ++ blank (bytes (be4 1 ++ (be4 0 ++ (be4 o ++ (be4 n ++ be4 1))))) → Appended (header t n) was now
header_known t n o was now e l h =
    let rest_after = bytes (be4 n) ++ bytes (be4 1) in
    let all : bytes (be4 o ++ (be4 n ++ be4 1)) ≡ bytes (be4 o) ++ rest_after = bytes-append (be4 o) (be4 n ++ be4 1) ∙ ap (λ (ts : List Token). bytes (be4 o) ++ ts) (bytes-append (be4 n) (be4 1)) in
    ((bytes (be4 1) ++ bytes (be4 0)) ++ (bytes (be4 o) ++ rest_after), rw (typed_known t o e l) refl, h ∙ ap (λ (ts : List Token). was ++ blank ((bytes (be4 1) ++ bytes (be4 0)) ++ ts)) all)

-- where it is Ok, exactly what is written is appended
pub written_if_ok : {E : Type 0} (r : Result (Unit {0}) E) (f : Outcome (List Token)) (ts : List Token) (was now : List Cell) → f.answer ≡ Ok ts → OnOk r (now ≡ was ++ blank ts) → OnOk r (Appended f was now)
written_if_ok (Ok u) f ts was now e h = (ts, e, h)
written_if_ok (Err e) f ts was now p h = tt

-- ---- frames

abbrev pub Answer : Type 0
Answer = Result (List Token) (Option CodecError)

-- what was written before, and what is still written
abbrev pub with_front : List Token → Answer → Answer
with_front ts (Ok us) = Ok (ts ++ us)
with_front ts (Err why) = Err why

regroup : (ts f : List Token) (r : Answer) (b : Bool) → with_front ts (bind_by r b (λ (us : List Token). done (f ++ us))).answer ≡ with_front (ts ++ f) r
regroup ts f (Ok us) b = ap (λ (xs : List Token). let r : Answer = Ok xs in r) (sym (append_assoc ts f us))
regroup ts f (Err why) b = refl

pub nothing_before : (r : Answer) → with_front [] r ≡ r
nothing_before (Ok us) = refl
nothing_before (Err why) = refl

module _ {X : Type 0} (encoding : X → Encoding) where
  abbrev pub still : List X → Outcome (List Token)
  still xs = frames (map encoding xs)

  written : (ts : List Token) (x : X) (xs : List X) (f : List Token) → (frame (encoding x)).answer ≡ Ok f → with_front ts (still (x ∷ xs)).answer ≡ with_front (ts ++ f) (still xs).answer
  unfolding frames
  written ts x xs f e = rw e (regroup ts f (still xs).answer (still xs).may_alloc)

  unwritten : (x : X) (xs : List X) (why : Option CodecError) → (frame (encoding x)).answer ≡ Err why → (still (x ∷ xs)).answer ≡ Err why
  unfolding frames
  unwritten x xs why e = rw e refl

  none_left : (still []).answer ≡ Ok []
  unfolding frames
  none_left = refl

  left_is : (xs : List X) (i : ℕ) (x : X) → i < length xs → x ≡ get_or xs i x → drop i xs ≡ x ∷ drop (suc i) xs
  left_is xs i x lt is = drop-cons xs i x lt ∙ ap (λ (y : X). y ∷ drop (suc i) xs) (sym is)

  pub frames_more : (ts : List Token) (xs : List X) (i : ℕ) (x : X) (f : List Token) (total : Answer) → i < length xs → x ≡ get_or xs i x → (frame (encoding x)).answer ≡ Ok f →
      with_front ts (still (drop i xs)).answer ≡ total → with_front (ts ++ f) (still (drop (suc i) xs)).answer ≡ total
  frames_more ts xs i x f total lt is e so_far =
      sym (written ts x (drop (suc i) xs) f e) ∙ (ap (λ (ys : List X). with_front ts (still ys).answer) (sym (left_is xs i x lt is)) ∙ so_far)

  pub frames_done : (ts : List Token) (xs : List X) (i : ℕ) (total : Answer) → length xs ≤ i → with_front ts (still (drop i xs)).answer ≡ total → total ≡ Ok ts
  frames_done ts xs i total le so_far =
      sym so_far ∙ (ap (λ (ys : List X). with_front ts (still ys).answer) (drop_all i xs le) ∙ (ap (with_front ts) none_left ∙ ap (λ (us : List Token). let r : Answer = Ok us in r) (append-nil ts)))

  why_is : (ts : List Token) (xs : List X) (i : ℕ) (x : X) (why : Option CodecError) (total : Answer) → i < length xs → x ≡ get_or xs i x → (frame (encoding x)).answer ≡ Err why →
      with_front ts (still (drop i xs)).answer ≡ total → total ≡ Err why
  why_is ts xs i x why total lt is e so_far =
      sym so_far ∙ (ap (λ (ys : List X). with_front ts (still ys).answer) (left_is xs i x lt is) ∙ ap (with_front ts) (unwritten x (drop (suc i) xs) why e))

  pub frames_fail : (ts : List Token) (xs : List X) (i : ℕ) (x : X) (e : CodecError) (total : Outcome (List Token)) → i < length xs → x ≡ get_or xs i x → Fails e (frame (encoding x)) →
      with_front ts (still (drop i xs)).answer ≡ total.answer → total.may_alloc ≡ true → Fails e total
  frames_fail ts xs i x e total lt is (inl h) so_far free = inl (why_is ts xs i x (Some e) total.answer lt is h so_far)
  frames_fail ts xs i x e total lt is (inr (inl h)) so_far free = inr (inl (why_is ts xs i x None total.answer lt is h.0 so_far, h.1))
  frames_fail ts xs i x e total lt is (inr (inr h)) so_far free = inr (inr (h.0, free))

  -- ---- the first values in a loop of their own

  parted : (f : Answer) (a : Bool) (r : Answer) (b : Bool) (ts : List Token) → (bind_by f a (λ (x : List Token). bind_by r b (λ (y : List Token). done (x ++ y)))).answer ≡ Ok ts →
      (x : List Token) × (y : List Token) × (f ≡ Ok x) × (r ≡ Ok y) × (x ++ y ≡ ts)
  parted (Ok x) a (Ok y) b ts e = (x, y, refl, refl, cc)
  parted (Ok x) a (Err why) b ts e = absurd cc
  parted (Err why) a r b ts e = absurd cc

  in_front : (f us : List Token) (r : Answer) (b : Bool) → with_front (f ++ us) r ≡ (bind_by (with_front us r) b (λ (ys : List Token). done (f ++ ys))).answer
  in_front f us (Ok ns) b = ap (λ (xs : List Token). let r : Answer = Ok xs in r) (append_assoc f us ns)
  in_front f us (Err why) b = refl

  one_more : (f us ts : List Token) (first : Answer) (a : Bool) (others all : Answer) (b : Bool) → first ≡ Ok f → f ++ us ≡ ts → with_front us others ≡ all →
      with_front ts others ≡ (bind_by first a (λ (x : List Token). bind_by all b (λ (y : List Token). done (x ++ y)))).answer
  one_more f us ts first a others all b is together rest = rw (is, ← together, ← rest) (in_front f us others b)

  pub nothing_written : (ts : List Token) → (still []).answer ≡ Ok ts → ts ≡ []
  unfolding frames
  nothing_written ts e = cc

  -- what was written of the first n values, with what is still written of the others, is all
  pub first_written : (n : ℕ) (xs : List X) (ts : List Token) → (still (take n xs)).answer ≡ Ok ts → with_front ts (still (drop n xs)).answer ≡ (still xs).answer
  unfolding frames
  first_written zero xs ts e = rw (nothing_written ts e) (nothing_before (still xs).answer)
  first_written (suc n) [] ts e = rw (nothing_written ts e) (nothing_before (still []).answer)
  first_written (suc n) (x ∷ xs) ts e =
      let p = parted (frame (encoding x)).answer (frame (encoding x)).may_alloc (still (take n xs)).answer (still (take n xs)).may_alloc ts e in
      one_more p.0 p.1 ts (frame (encoding x)).answer (frame (encoding x)).may_alloc (still (drop n xs)).answer (still xs).answer (still xs).may_alloc p.2 p.4 (first_written n xs p.1 p.3)

  others_fail : (e : CodecError) (ts : List Token) (others total : Outcome (List Token)) → with_front ts others.answer ≡ total.answer → total.may_alloc ≡ true → Fails e others → Fails e total
  others_fail e ts others total all free (inl h) = inl (sym all ∙ ap (with_front ts) h)
  others_fail e ts others total all free (inr (inl h)) = inr (inl (sym all ∙ ap (with_front ts) h.0, h.1))
  others_fail e ts others total all free (inr (inr h)) = inr (inr (h.0, free))

  pub appends_others : (n : ℕ) (xs : List X) (was mid now : List Cell) (r : Result (Unit {0}) CodecError) → WritesFirst encoding xs n was mid → Appends (after true (still (drop n xs))) mid now r → Appends (after true (still xs)) was now r
  appends_others n xs was mid now (Ok u) first others =
      (first.1.0 ++ others.0, sym (first_written n xs first.1.0 first.1.1) ∙ ap (with_front first.1.0) others.1, both was mid now first.1.0 others.0 first.1.2 others.2)
  appends_others n xs was mid now (Err e) first others =
      others_fail e first.1.0 (after true (still (drop n xs))) (after true (still xs)) (first_written n xs first.1.0 first.1.1) refl others

  pub first_before : (xs : List X) (was : List Cell) → WritesFirst encoding xs 0 was was
  unfolding frames
  first_before xs was = (omega arith, ([], refl, sym (append-nil was)))

  still_both : (xs ys : List X) (ts us : List Token) → (still xs).answer ≡ Ok ts → (still ys).answer ≡ Ok us → (still (xs ++ ys)).answer ≡ Ok (ts ++ us)
  unfolding frames
  still_both [] ys ts us e f = rw (nothing_written ts e) f
  still_both (x ∷ xs) ys ts us e f =
      let p = parted (frame (encoding x)).answer (frame (encoding x)).may_alloc (still xs).answer (still xs).may_alloc ts e in
      let rest = still_both xs ys p.1 us p.3 f in
      rw (p.2, rest) (ap (λ (xs : List Token). let r : Answer = Ok xs in r) (sym (append_assoc p.0 p.1 us) ∙ ap (λ (zs : List Token). zs ++ us) p.4))

  -- the frames of values after those of others
  pub frames_after : (xs ys : List X) (ps qs : List ℕ) → AreFrames encoding xs ps → AreFrames encoding ys qs → AreFrames encoding (xs ++ ys) (ps ++ qs)
  frames_after xs ys ps qs e f = still_both xs ys (bytes ps) (bytes qs) e f ∙ ap (λ (ts : List Token). let r : Answer = Ok ts in r) (sym (bytes-append ps qs))

  pub no_frames : AreFrames encoding [] []
  unfolding frames
  no_frames = refl

  one_frame : (x : X) (f : List ℕ) → (frame (encoding x)).answer ≡ Ok (bytes f) → AreFrames encoding (x ∷ []) f
  unfolding frames
  one_frame x f e = rw e (ap (λ (ts : List Token). let r : Answer = Ok ts in r) (append-nil (bytes f)))

  -- one frame more, of so many bytes, in place of as many after those of the frames so far
  pub next_frame : (wide so_far : ℕ) (xs : List X) (i : ℕ) (x : X) (f was : List ℕ) → i < length xs → x ≡ get_or xs i x → (frame (encoding x)).answer ≡ Ok (bytes f) →
      length f ≡ wide → so_far + wide ≤ length was → AreFrames encoding (take i xs) (take so_far was) →
      AreFrames encoding (take (i + 1) xs) (take (so_far + wide) (take so_far was ++ (f ++ drop wide (drop so_far was))))
  next_frame wide so_far xs i x f was lt is e long room first =
      let one : take (i + 1) xs ≡ take i xs ++ (x ∷ []) = rw add-one (take-suc xs i x lt ∙ ap (λ (y : X). take i xs ++ (y ∷ [])) (sym is)) in
      let front = take so_far was in
      let others = drop wide (drop so_far was) in
      let all : length (front ++ f) ≡ so_far + wide = omega (arith, length-append front f, long, length-take so_far was) in
      let bytes_are : take (so_far + wide) (front ++ (f ++ others)) ≡ front ++ f =
      rw (← append_assoc) (subst (λ (m : ℕ). take m ((front ++ f) ++ others) ≡ front ++ f) all (take-append_seam (front ++ f) others)) in
      rw (one, bytes_are) (frames_after (take i xs) (x ∷ []) front f first (one_frame x f e))

  -- the frames of the next values after those of the first
  pub then_first : (n m : ℕ) (xs : List X) (was mid now : List Cell) → WritesFirst encoding xs n was mid → WritesFirst encoding (drop n xs) m mid now → WritesFirst encoding xs (n + m) was now
  then_first n m xs was mid now first next = (
    omega (arith, first.0, next.0, length-drop n xs),
    (
      first.1.0 ++ next.1.0,
      ap (λ (ys : List X). (still ys).answer) (take-add n m xs) ∙ still_both (take n xs) (take m (drop n xs)) first.1.0 next.1.0 first.1.1 next.1.1,
      both was mid now first.1.0 next.1.0 first.1.2 next.1.2,
    ),
  )

  -- ---- arrays

  pub array_there : (info : Ty) (xs : List X) (head parts : List Token) → length xs ≤ 2147483647 → (header (written_element info (map encoding xs)) (length xs)).answer ≡ Ok head → (still xs).answer ≡ Ok parts →
      (array_image info (map encoding xs)).answer ≡ Ok (image_of (head ++ parts))
  unfolding array_image
  array_there info xs head parts le head_is parts_are =
      let many : length (map encoding xs) ≡ length xs = length-map xs encoding in
      let small : nat_lt 2147483647 (length xs) ≡ false = le-ltb _ _ le in
      rw (many, small, head_is, parts_are) refl

  -- why a list has no image: it is too long, or memory runs out after that was tested, or a frame is refused
  pub array_long : (info : Ty) (xs : List X) → 2147483647 < length xs → Fails (ArrayLength (length xs)) (array_image info (map encoding xs))
  unfolding array_image
  array_long info xs lt =
      let long : nat_lt 2147483647 (length xs) ≡ true = lt-ltb _ _ lt in
      rw (length-map xs encoding, long) (inl refl)

  pub array_asks : (info : Ty) (xs : List X) → length xs ≤ 2147483647 → Fails Memory (array_image info (map encoding xs))
  unfolding array_image
  array_asks info xs le =
      let small : nat_lt 2147483647 (length xs) ≡ false = le-ltb _ _ le in
      rw (length-map xs encoding, small) (inr (inr (refl, refl)))

  pub array_unwritten : (info : Ty) (xs : List X) (head : List Token) (e : CodecError) → length xs ≤ 2147483647 → (header (written_element info (map encoding xs)) (length xs)).answer ≡ Ok head → Fails e (after true (still xs)) →
      Fails e (array_image info (map encoding xs))
  unfolding array_image
  array_unwritten info xs head e le head_is (inl h) =
      let small : nat_lt 2147483647 (length xs) ≡ false = le-ltb _ _ le in
      inl (rw (length-map xs encoding, small, head_is, h) refl)
  array_unwritten info xs head e le head_is (inr (inl h)) =
      let small : nat_lt 2147483647 (length xs) ≡ false = le-ltb _ _ le in
      inr (inl (rw (length-map xs encoding, small, head_is, h.0) refl, h.1))
  array_unwritten info xs head e le head_is (inr (inr h)) = rw h.0 (array_asks info xs le)

-- ---- fields

pub field_there : (info : Ty) (e : Encoding) (oid part : List Token) → (typed (value_type info e)).answer ≡ Ok oid → (frame e).answer ≡ Ok part → (field info e).answer ≡ Ok (oid ++ part)
unfolding field
field_there info e oid part a b = rw (a, b) refl

pub field_asks : (info : Ty) (e : Encoding) → Fails Memory (field info e)
unfolding field
field_asks info e = inr (inr (refl, refl))

pub field_unwritten : (info : Ty) (e : Encoding) (oid : List Token) (why : CodecError) → (typed (value_type info e)).answer ≡ Ok oid → Fails why (frame e) → Fails why (field info e)
unfolding field
field_unwritten info e oid why a (inl h) = inl (rw (a, h) refl)
field_unwritten info e oid why a (inr (inl h)) = inr (inl (rw (a, h.0) refl, h.1))
field_unwritten info e oid why a (inr (inr h)) = rw h.0 (field_asks info e)

-- ---- four bytes, taken apart

abbrev quad : List ℕ → List ℕ
quad xs = slice_index_or xs 0 0 ∷ slice_index_or xs 1 0 ∷ slice_index_or xs 2 0 ∷ slice_index_or xs 3 0 ∷ []

pub four : (xs : List ℕ) → length xs ≡ 4 → xs ≡ quad xs
four (a ∷ b ∷ c ∷ d ∷ []) long = refl
four [] long = absurd (omega arith)
four (a ∷ []) long = absurd (omega arith)
four (a ∷ b ∷ []) long = absurd (omega arith)
four (a ∷ b ∷ c ∷ []) long = absurd (omega arith)
four (a ∷ b ∷ c ∷ d ∷ e ∷ xs) long = absurd (omega arith)

-- the head of an array, with the OID of the elements' type and their number
abbrev head_of : List ℕ → List ℕ → List ℕ
head_of oid count = be4 1 ++ (be4 0 ++ (oid ++ (count ++ be4 1)))

pub head_is : (oid count xs ys : List ℕ) → length xs ≡ 4 → length ys ≡ 4 → xs ≡ oid → ys ≡ count → head_of (quad xs) (quad ys) ≡ head_of oid count
head_is oid count xs ys long long_too e f =
    ap (λ (zs : List ℕ). head_of zs (quad ys)) (sym (four xs long) ∙ e) ∙ ap (λ (zs : List ℕ). head_of oid zs) (sym (four ys long_too) ∙ f)

-- an array of n zeros more than a front of n, with another list of n in place of the zeros
pub joined : (n : ℕ) (front zeros back a b : List ℕ) → length front ≡ n → length zeros ≡ n → front ≡ a → back ≡ b → take n (front ++ zeros) ++ (back ++ drop n (drop n (front ++ zeros))) ≡ a ++ b
joined n front zeros back a b long same is then =
    let first : take n (front ++ zeros) ≡ front = subst (λ (m : ℕ). take m (front ++ zeros) ≡ front) long (take-append_seam front zeros) in
    let none : drop n (drop n (front ++ zeros)) ≡ [] = drop-drop n n (front ++ zeros) ∙ drop_all (n + n) (front ++ zeros) (omega (arith, length-append front zeros, long, same)) in
    rw (first, none) (ap (λ (xs : List ℕ). front ++ xs) (append-nil back) ∙ (ap (λ (xs : List ℕ). xs ++ back) is ∙ ap (λ (xs : List ℕ). a ++ xs) then))
