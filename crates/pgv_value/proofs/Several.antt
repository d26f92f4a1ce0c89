-- Things one after another, as a loop reads them, and what their bytes are.
use Rattle.std.proofs.Common.{◌≡◌, ℕ, zero, suc, ◌-◌, ◌<◌, ◌≤◌, true, false, List, [], ◌∷◌, ◌++◌, length, Option, Some, None, Ok, Err, Result, refl, sym, ap, ◌∙◌, subst, append_assoc, append-nil, arith, inl, inr}
use Rattle.std.specs.Prelude.{flat_map}
use Rattle.std.specs.List.{AllByRecursion}
use Rattle.pgv_value.specs.FrameLaws.{AreBytes}
use Rattle.pgv_value.specs.declared.error.CodecError.{CodecError}
use Rattle.pgv_value.proofs.Numbers.{bytes_after}
use Rattle.pgv_value.specs.Outcome.{Outcome, Fails, done, bind_by}
use Rattle.pgv_value.specs.Several.{several, ReadsOne, AreSeveral}
use Rattle.pgv_value.proofs.Outcomes.{taken, answer_is, IsOther, free_then, other_then}

-- ---- as a loop reads them

abbrev pub Answer : Type 0 → Type 0
Answer A = Result (List A × List ℕ) (Option CodecError)

module _ {A : Type 0} where
  -- what was read before, and what is still read
  abbrev pub with_front : List A → Answer A → Answer A
  with_front xs (Ok more) = Ok (xs ++ more.0, more.1)
  with_front xs (Err why) = Err why

  pub nothing_before : (r : Answer A) → with_front [] r ≡ r
  nothing_before (Ok more) = refl
  nothing_before (Err why) = refl

  regroup : (xs : List A) (x : A) (r : Answer A) → (b : _) → with_front xs (bind_by r b (λ (more : List A × List ℕ). done (x ∷ more.0, more.1))).answer ≡ with_front (xs ++ x ∷ []) r
  regroup xs x (Ok more) b = ap (λ (ys : List A). let r : Answer A = Ok (ys, more.1) in r) (sym (append_assoc xs (x ∷ []) more.0))
  regroup xs x (Err why) b = refl

module _ {A : Type 0} (one : List ℕ → Outcome (A × List ℕ)) where
  one_read : (xs : List A) (n : ℕ) (bytes : List ℕ) (x : A) (rest : List ℕ) → (one bytes).answer ≡ Ok (x, rest) → with_front xs (several one (suc n) bytes).answer ≡ with_front (xs ++ x ∷ []) (several one n rest).answer
  unfolding several
  one_read xs n bytes x rest found = rw found (regroup xs x (several one n rest).answer (several one n rest).may_alloc)

  one_refused : (n : ℕ) (bytes : List ℕ) (why : Option CodecError) → (one bytes).answer ≡ Err why → (several one (suc n) bytes).answer ≡ Err why
  unfolding several
  one_refused n bytes why missing = rw missing refl

  none_left : (bytes : List ℕ) → (several one 0 bytes).answer ≡ Ok ([], bytes)
  unfolding several
  none_left bytes = refl

  -- the loop is done, goes on, or ends with an error
  pub is_done : (xs : List A) (count i : ℕ) (bytes : List ℕ) (total : Answer A) → count ≤ i → with_front xs (several one (count - i) bytes).answer ≡ total → total ≡ Ok (xs, bytes)
  is_done xs count i bytes total le so_far =
      let none : count - i ≡ 0 = omega arith in
      let last : with_front xs (several one (count - i) bytes).answer ≡ Ok (xs, bytes) = rw (none, none_left bytes) (ap (λ (ys : List A). let r : Answer A = Ok (ys, bytes) in r) (append-nil xs)) in
      sym so_far ∙ last

  pub goes_on : (xs : List A) (count i : ℕ) (bytes : List ℕ) (x : A) (rest : List ℕ) (total : Answer A) → i < count → (one bytes).answer ≡ Ok (x, rest) →
      with_front xs (several one (count - i) bytes).answer ≡ total → with_front (xs ++ x ∷ []) (several one (count - suc i) rest).answer ≡ total
  goes_on xs count i bytes x rest total lt found so_far =
      let left : count - i ≡ suc (count - suc i) = omega arith in
      sym (one_read xs (count - suc i) bytes x rest found) ∙ ap (λ (n : ℕ). with_front xs (several one n bytes).answer) (sym left) ∙ so_far

  pub ends : (xs : List A) (count i : ℕ) (bytes : List ℕ) (why : Option CodecError) (total : Answer A) → i < count → (one bytes).answer ≡ Err why →
      with_front xs (several one (count - i) bytes).answer ≡ total → total ≡ Err why
  ends xs count i bytes why total lt missing so_far =
      let left : count - i ≡ suc (count - suc i) = omega arith in
      sym so_far ∙ ap (λ (n : ℕ). with_front xs (several one n bytes).answer) left ∙ ap (with_front xs) (one_refused (count - suc i) bytes why missing)

  -- where memory may have been asked for before
  pub ends_with : (xs : List A) (count i : ℕ) (bytes : List ℕ) (e : CodecError) (total : Outcome (List A × List ℕ)) → i < count → Fails e (one bytes) →
      with_front xs (several one (count - i) bytes).answer ≡ total.answer → total.may_alloc ≡ true → Fails e total
  ends_with xs count i bytes e total lt (inl h) so_far may = inl (ends xs count i bytes (Some e) total.answer lt h so_far)
  ends_with xs count i bytes e total lt (inr (inl h)) so_far may = inr (inl (ends xs count i bytes None total.answer lt h.0 so_far, h.1))
  ends_with xs count i bytes e total lt (inr (inr h)) so_far may = inr (inr (h.0, may))

  -- ---- what is never asked for or answered

  -- several ask for no memory where one asks for none
  pub never_allocate : ((bytes : List ℕ) → (one bytes).may_alloc ≡ false) → (n : ℕ) (bytes : List ℕ) → (several one n bytes).may_alloc ≡ false
  unfolding several
  never_allocate free zero bytes = refl
  never_allocate free (suc n) bytes = free_then (one bytes) _ (free bytes) (λ first. free_then (several one n first.1) _ (never_allocate free n first.1) (λ more. refl))

  -- several state an error but out of memory where one states another
  pub never_out_of_memory : ((bytes : List ℕ) → IsOther (one bytes).answer) → (n : ℕ) (bytes : List ℕ) → IsOther (several one n bytes).answer
  unfolding several
  never_out_of_memory other zero bytes = tt
  never_out_of_memory other (suc n) bytes = other_then (one bytes) _ (other bytes) (λ first. other_then (several one n first.1) _ (never_out_of_memory other n first.1) (λ more. tt))

-- ---- what their bytes are

module _ {A : Type 0} (Is : A → Type 0) (encode : A → List ℕ) (one : List ℕ → Outcome (A × List ℕ)) (reads : ReadsOne Is encode one) where
  pub are_several : (n : ℕ) (bytes : List ℕ) (list : List A) (rest : List ℕ) → AreBytes bytes → (several one n bytes).answer ≡ Ok (list, rest) → AreSeveral Is encode n bytes list rest
  unfolding several
  are_several zero bytes list rest h e =
      subst (λ (p : List A × List ℕ). AreSeveral Is encode 0 bytes p.0 p.1) (answer_is {A = List A × List ℕ} ([], bytes) (list, rest) e) (record { many = refl; each = tt; whole = refl })
  are_several (suc n) bytes list rest h e =
      let a = taken (one bytes) _ (list, rest) e in
      let b = taken (several one n a.0.1) _ (list, rest) a.2 in
      let first = (reads bytes a.0.0 a.0.1 h).0 a.1 in
      let left : AreBytes a.0.1 = bytes_after (encode a.0.0) a.0.1 (subst AreBytes first.1 h) in
      let more = are_several n a.0.1 b.0.0 b.0.1 left b.1 in
      let many : length b.0.0 ≡ n = more.many in
      subst (λ (p : List A × List ℕ). AreSeveral Is encode (suc n) bytes p.0 p.1) (answer_is {A = List A × List ℕ} (a.0.0 ∷ b.0.0, b.0.1) (list, rest) b.2) (record {
        many = ap suc many;
        each = (first.0, more.each);
        whole = first.1 ∙ ap (λ (xs : List ℕ). encode a.0.0 ++ xs) more.whole ∙ sym (append_assoc (encode a.0.0) (flat_map encode b.0.0) b.0.1);
      })

  several_by : (list : List A) (rest : List ℕ) → AllByRecursion Is list → AreBytes (flat_map encode list ++ rest) → (several one (length list) (flat_map encode list ++ rest)).answer ≡ Ok (list, rest)
  unfolding several
  several_by [] rest each h = refl
  several_by (x ∷ list) rest each h =
      let bytes : List ℕ = flat_map encode (x ∷ list) ++ rest in
      let later : List ℕ = flat_map encode list ++ rest in
      let whole : bytes ≡ encode x ++ later = append_assoc (encode x) (flat_map encode list) rest in
      let found : (one bytes).answer ≡ Ok (x, later) = (reads bytes x later h).1 (each.0, whole) in
      let left : AreBytes later = bytes_after (encode x) later (subst AreBytes whole h) in
      let more : (several one (length list) later).answer ≡ Ok (list, rest) = several_by list rest each.1 left in
      rw (found, more) refl

  pub several_read : (n : ℕ) (bytes : List ℕ) (list : List A) (rest : List ℕ) → AreBytes bytes → AreSeveral Is encode n bytes list rest → (several one n bytes).answer ≡ Ok (list, rest)
  several_read n bytes list rest h s =
      ap (λ (k : ℕ). (several one k bytes).answer) (sym s.many) ∙ ap (λ (xs : List ℕ). (several one (length list) xs).answer) s.whole
      ∙ several_by list rest s.each (subst AreBytes s.whole h)
