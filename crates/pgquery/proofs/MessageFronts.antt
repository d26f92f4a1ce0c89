-- What is found in front of bytes is found whatever comes after them, and splits them.
use Rattle.std.proofs.Common.{◌≡◌, ℕ, ◌-◌, ◌≤◌, Bool, true, false, nat_lt, List, [], ◌∷◌, ◌++◌, length, take, drop, Option, Some, None, Result, Ok, Err, refl, sym, ap, ◌∙◌, subst, append_assoc, arith, length-append}
use Rattle.std.specs.Prelude.{if◌then◌else◌}
use Rattle.std.specs.Int.{w32, from_be_bytes}
use Rattle.std.specs.Io.KnownBytes.{Keeps, prepend_known}
use Rattle.std.proofs.lemmas.Bool.{le-ltb, ltb-false}
use Rattle.std.proofs.lemmas.List.{take-append-drop, take-append-le, drop_at}
use lib.Seq.{drop-append-le}
use Rattle.pgv_value.specs.ReadingSteps.{number}
use Rattle.pgv_message.specs.declared.error.MessageError.{MessageError}
use Rattle.pgv_message.specs.declared.error.MessageError.TheVariants.{BadLength}
use Rattle.pgv_message.specs.Received.{Message, with_body, with_length, message_at_front, found}
use Rattle.pgquery.specs.Incoming.{Come}

-- ---- the bytes in front are found whatever comes after them

abbrev longer : Message → List ℕ → Message
longer m more = record { tag = m.tag; body = m.body; rest = m.rest ++ more }

some_is : {A : Type 0} (b : Bool) (x y : A) → (if b then None else Some x) ≡ Some y → (b ≡ false) × (x ≡ y)
some_is true x y h = absurd cc
some_is false x y h = (refl, cc)

ok_is : {A : Type 0} (b : Bool) (e : MessageError) (r : Result A MessageError) (x : A) → (if b then Err e else r) ≡ Ok x → (b ≡ false) × (r ≡ Ok x)
ok_is true e r x h = absurd cc
ok_is false e r x h = (refl, h)

same_ok : {A E : Type 0} (x y : A) → (let r : Result A E = Ok x in r) ≡ Ok y → x ≡ y
same_ok x y h = cc

number_is : (bytes : List ℕ) (p : ℕ × List ℕ) → number bytes ≡ Some p → (4 ≤ length bytes) × ((from_be_bytes w32 (take 4 bytes), drop 4 bytes) ≡ p)
unfolding number
number_is bytes p h =
    let k = some_is {A = ℕ × List ℕ} (nat_lt (length bytes) 4) _ p h in
    (ltb-false _ _ k.0, k.1)

number_before : (bytes more : List ℕ) (p : ℕ × List ℕ) → number bytes ≡ Some p → number (bytes ++ more) ≡ Some (p.0, p.1 ++ more)
unfolding number
number_before bytes more p h =
    let k = number_is bytes p h in
    let enough : nat_lt (length (bytes ++ more)) 4 ≡ false = le-ltb _ _ (omega (arith, k.0, length-append bytes more)) in
    rw (enough, take-append-le 4 bytes more k.0, drop-append-le 4 bytes more k.0) (ap (λ (q : ℕ × List ℕ). Some (q.0, q.1 ++ more)) k.1)

abbrev of_body : ℕ → ℕ → List ℕ → Message
of_body tag size bytes = record { tag = tag; body = take size bytes; rest = drop size bytes }

body_is : (tag size : ℕ) (bytes : List ℕ) (m : Message) → with_body tag size bytes ≡ Some m → (size ≤ length bytes) × (of_body tag size bytes ≡ m)
body_is tag size bytes m h =
    let k = some_is {A = Message} (nat_lt (length bytes) size) _ m h in
    (ltb-false _ _ k.0, k.1)

body_before : (tag size : ℕ) (bytes more : List ℕ) (m : Message) → with_body tag size bytes ≡ Some m → with_body tag size (bytes ++ more) ≡ Some (longer m more)
body_before tag size bytes more m h =
    let k = body_is tag size bytes m h in
    let enough : nat_lt (length (bytes ++ more)) size ≡ false = le-ltb _ _ (omega (arith, k.0, length-append bytes more)) in
    rw (enough, take-append-le size bytes more k.0, drop-append-le size bytes more k.0) (ap (λ (n : Message). Some (longer n more)) k.1)

length_is : (tag : ℕ) (p : ℕ × List ℕ) (m : Message) → with_length tag (Some p) ≡ Ok (Some m) → (nat_lt p.0 4 ≡ false) × (nat_lt 2147483647 p.0 ≡ false) × (with_body tag (p.0 - 4) p.1 ≡ Some m)
length_is tag p m h =
    let low = ok_is {A = Option Message} (nat_lt p.0 4) (BadLength p.0) _ (Some m) h in
    let high = ok_is {A = Option Message} (nat_lt 2147483647 p.0) (BadLength p.0) _ (Some m) low.1 in
    (low.0, high.0, same_ok {A = Option Message} _ _ high.1)

length_before : (tag : ℕ) (p : ℕ × List ℕ) (more : List ℕ) (m : Message) → with_length tag (Some p) ≡ Ok (Some m) → with_length tag (Some (p.0, p.1 ++ more)) ≡ Ok (Some (longer m more))
length_before tag p more m h =
    let k = length_is tag p m h in
    rw (k.0, k.1) (ap (λ (o : Option Message). let r : Result (Option Message) MessageError = Ok o in r) (body_before tag (p.0 - 4) p.1 more m k.2))

found_before : (bytes more : List ℕ) (m : Message) → message_at_front bytes ≡ Ok (Some m) → message_at_front (bytes ++ more) ≡ Ok (Some (longer m more))
unfolding message_at_front
found_before [] more m h = absurd cc
found_before (tag ∷ bytes) more m h = by (number bytes) refl h
  where
    by : (o : Option (ℕ × List ℕ)) → number bytes ≡ o → with_length tag o ≡ Ok (Some m) → with_length tag (number (bytes ++ more)) ≡ Ok (Some (longer m more))
    by None e k = absurd cc
    by (Some p) e k = ap (with_length tag) (number_before bytes more p e) ∙ length_before tag p more m k

-- ---- what comes after a message

after_it : (bytes : List ℕ) (m : Message) → message_at_front bytes ≡ Ok (Some m) → (front : List ℕ) × (bytes ≡ front ++ m.rest)
unfolding message_at_front
after_it [] m h = absurd cc
after_it (tag ∷ bytes) m h = by (number bytes) refl h
  where
    by : (o : Option (ℕ × List ℕ)) → number bytes ≡ o → with_length tag o ≡ Ok (Some m) → (front : List ℕ) × (tag ∷ bytes ≡ front ++ m.rest)
    by None e k = absurd cc
    by (Some p) e k =
        let size : ℕ = p.0 - 4 in
        let after_length : drop 4 bytes ≡ p.1 = ap (λ (q : ℕ × List ℕ). q.1) (number_is bytes p e).1 in
        let after_body : drop size p.1 ≡ m.rest = ap (λ (n : Message). n.rest) (body_is tag size p.1 m (length_is tag p m k).2).1 in
        let body : take size p.1 ++ m.rest ≡ p.1 = ap (λ (xs : List ℕ). take size p.1 ++ xs) (sym after_body) ∙ take-append-drop size p.1 in
        let whole : take 4 bytes ++ p.1 ≡ bytes = ap (λ (xs : List ℕ). take 4 bytes ++ xs) (sym after_length) ∙ take-append-drop 4 bytes in (
          tag ∷ (take 4 bytes ++ take size p.1),
          ap (λ (xs : List ℕ). tag ∷ xs) (sym whole ∙ ap (λ (xs : List ℕ). take 4 bytes ++ xs) (sym body) ∙ sym (append_assoc (take 4 bytes) (take size p.1) m.rest)),
        )

-- the place of what comes after a message that was found at a place
pub rest_place : (came : List ℕ) (start : ℕ) (m : Message) → message_at_front (drop start came) ≡ Ok (Some m) → drop (length came - length m.rest) came ≡ m.rest
rest_place came start m h =
    let f = after_it (drop start came) m h in
    let front : List ℕ = take start came ++ f.0 in
    let whole : came ≡ front ++ m.rest = sym (take-append-drop start came) ∙ ap (λ (xs : List ℕ). take start came ++ xs) f.1 ∙ sym (append_assoc (take start came) f.0 m.rest) in
    let len : length front ≡ length came - length m.rest = omega (arith, ap length whole, length-append front m.rest) in
    ap (drop (length came - length m.rest)) whole ∙ drop_at front m.rest (length came - length m.rest) len

-- a message that was found in what has come is in front of all that was not read yet
pub comes : (all left : Option (List ℕ)) (xs ys : List ℕ) (tag : ℕ) (body : List ℕ) → Keeps all (prepend_known xs left) → message_at_front xs ≡ found tag body ys → Come (record { tag = tag; body = body } ∷ []) all (prepend_known ys left)
comes None left xs ys tag body keeps is = tt
comes (Some zs) None xs ys tag body keeps is = absurd keeps
comes (Some zs) (Some bs) xs ys tag body keeps is =
    (ys ++ bs, subst (λ (ws : List ℕ). message_at_front ws ≡ found tag body (ys ++ bs)) keeps (found_before xs bs _ is), refl)
