-- A message in front is found, what is found is a message, and a message that is cut off is not found.
use Rattle.std.proofs.Common.{◌≡◌, ℕ, zero, suc, ◌+◌, ◌-◌, ◌<◌, ◌≤◌, Bool, true, false, nat_lt, List, [], ◌∷◌, ◌++◌, length, take, drop, Option, Some, None, Ok, Err, Result, refl, sym, ap, ◌∙◌, subst, append_assoc, arith, length-append}
use Rattle.std.specs.Prelude.{if◌then◌else◌}
use Rattle.std.specs.Int.{w32, to_be_bytes}
use Rattle.std.proofs.lemmas.Bool.{le-ltb, lt-ltb, ltb-false}
use Rattle.std.proofs.lemmas.List.{take_at, drop_at, take-append-drop, length-take-le}
use Rattle.std.proofs.lemmas.Option.{same_Some as same_some}
use Rattle.pgv_value.specs.FrameLaws.{AreBytes}
use Rattle.pgv_value.specs.ReadingSteps.{number}
use Rattle.pgv_value.proofs.Numbers.{number_there, number_is}
use Rattle.pgv_message.specs.declared.error.MessageError.{MessageError}
use Rattle.pgv_message.specs.declared.error.MessageError.TheVariants.{BadLength}
use Rattle.pgv_message.specs.MessageWriting.{measured, max_body}
use Rattle.pgv_message.specs.Received.{Message, with_body, with_length, message_at_front, MessageIsFound, FoundIsMessage, CutIsNotFound}

abbrev Answer : Type 0
Answer = Result (Option Message) MessageError

-- ---- a message is found

sized : (tag size : ℕ) (bytes : List ℕ) → 4 ≤ size → size ≤ 2147483647 → with_length tag (Some (size, bytes)) ≡ Ok (with_body tag (size - 4) bytes)
sized tag size bytes least most =
    let low : nat_lt size 4 ≡ false = le-ltb _ _ least in
    let high : nat_lt 2147483647 size ≡ false = le-ltb _ _ most in
    rw (low, high) refl

by_length : (tag size : ℕ) (bytes : List ℕ) → 4 ≤ size → size ≤ 2147483647 → message_at_front (tag ∷ (to_be_bytes w32 size ++ bytes)) ≡ Ok (with_body tag (size - 4) bytes)
unfolding message_at_front
by_length tag size bytes least most = ap (with_length tag) (number_there size bytes (omega arith)) ∙ sized tag size bytes least most

body_there : (tag size : ℕ) (body rest : List ℕ) → length body ≡ size → with_body tag size (body ++ rest) ≡ Some (record { tag = tag; body = body; rest = rest })
body_there tag size body rest len =
    let enough : nat_lt (length (body ++ rest)) size ≡ false = le-ltb _ _ (omega (arith, length-append body rest)) in
    rw (enough, take_at body rest size len, drop_at body rest size len) refl

pub message_is_found : MessageIsFound
unfolding MessageIsFound
message_is_found tag body rest fits =
    let size : ℕ = length body + 4 in
    let len : length body ≡ size - 4 = omega arith in
    ap (λ (xs : List ℕ). message_at_front (tag ∷ xs)) (append_assoc (to_be_bytes w32 size) body rest)
    ∙ by_length tag size (body ++ rest) (omega arith) (omega arith)
    ∙ ap (λ (f : Option Message). let a : Answer = Ok f in a) (body_there tag (size - 4) body rest len)

-- ---- what is found is a message

chosen : {A : Type 0} (b : Bool) (e : MessageError) (r : Result A MessageError) (x : A) → (if b then Err e else r) ≡ Ok x → (b ≡ false) × (r ≡ Ok x)
chosen true e r x h = absurd cc
chosen false e r x h = (refl, h)

same_ok : {A E : Type 0} (x y : A) → (let r : Result A E = Ok x in r) ≡ Ok y → x ≡ y
same_ok x y h = cc

body_is : (b : Bool) (tag size : ℕ) (bytes : List ℕ) (m : Message) → (if b then None else Some (record { tag = tag; body = take size bytes; rest = drop size bytes })) ≡ Some m →
    (b ≡ false) × ((let m' : Message = record { tag = tag; body = take size bytes; rest = drop size bytes } in m') ≡ m)
body_is true tag size bytes m h = absurd cc
body_is false tag size bytes m h = (refl, same_some {A = Message} _ _ h)

-- the length in front, and the message of that length
length_is : (tag : ℕ) (o : Option (ℕ × List ℕ)) (m : Message) → with_length tag o ≡ Ok (Some m) →
    (size : ℕ) × (bytes : List ℕ) × (o ≡ Some (size, bytes)) × (4 ≤ size) × (size ≤ 2147483647) × (with_body tag (size - 4) bytes ≡ Some m)
length_is tag None m h = absurd cc
length_is tag (Some p) m h =
    let low = chosen {A = Option Message} (nat_lt p.0 4) (BadLength p.0) _ (Some m) h in
    let high = chosen {A = Option Message} (nat_lt 2147483647 p.0) (BadLength p.0) _ (Some m) low.1 in
    (p.0, p.1, refl, ltb-false _ _ low.0, ltb-false _ _ high.0, same_ok {A = Option Message} _ _ high.1)

found_by : (bytes : List ℕ) (tag : ℕ) (m : Message) → AreBytes bytes → with_length tag (number bytes) ≡ Ok (Some m) →
    (m.tag ≡ tag) × (length m.body ≤ max_body) × (bytes ≡ measured m.body ++ m.rest)
found_by bytes tag m h e =
    let k = length_is tag (number bytes) m e in
    let n = number_is bytes k.1 k.0 h k.2 in
    let b = body_is (nat_lt (length k.1) (k.0 - 4)) tag (k.0 - 4) k.1 m k.5 in
    let enough : k.0 - 4 ≤ length k.1 = ltb-false _ _ b.0 in
    let most : k.0 ≤ 2147483647 = k.4 in
    let least : 4 ≤ k.0 = k.3 in
    let len : length (take (k.0 - 4) k.1) ≡ k.0 - 4 = length-take-le (k.0 - 4) k.1 enough in
    let size_is : k.0 ≡ length (take (k.0 - 4) k.1) + 4 = omega (arith, len) in
    let fits : length (take (k.0 - 4) k.1) ≤ max_body = omega (arith, len) in
    let parts : to_be_bytes w32 k.0 ++ k.1 ≡ measured (take (k.0 - 4) k.1) ++ drop (k.0 - 4) k.1 =
    ap (λ (xs : List ℕ). to_be_bytes w32 k.0 ++ xs) (sym (take-append-drop (k.0 - 4) k.1))
    ∙ sym (append_assoc (to_be_bytes w32 k.0) (take (k.0 - 4) k.1) (drop (k.0 - 4) k.1))
    ∙ ap (λ (size : ℕ). (to_be_bytes w32 size ++ take (k.0 - 4) k.1) ++ drop (k.0 - 4) k.1) size_is in
    subst (λ (m' : Message). (m'.tag ≡ tag) × (length m'.body ≤ max_body) × (bytes ≡ measured m'.body ++ m'.rest)) b.1 (refl, fits, n.1 ∙ parts)

pub found_is_message : FoundIsMessage
unfolding FoundIsMessage message_at_front
found_is_message [] tag body rest h e = absurd cc
found_is_message (x ∷ bytes) tag body rest h e =
    let m : Message = record { tag = tag; body = body; rest = rest } in
    let k = found_by bytes x m h.1 e in
    (k.1, ap (λ (xs : List ℕ). x ∷ xs) k.2 ∙ ap (λ (t : ℕ). t ∷ (measured body ++ rest)) (sym k.0))

-- ---- a message that is cut off

few : (tag : ℕ) (bytes : List ℕ) → length bytes < 4 → message_at_front (tag ∷ bytes) ≡ Ok None
unfolding message_at_front number
few tag bytes lt = let short : nat_lt (length bytes) 4 ≡ true = lt-ltb _ _ lt in rw short refl

none_yet : message_at_front [] ≡ Ok None
unfolding message_at_front
none_yet = refl

body_cut : (tag size : ℕ) (bytes : List ℕ) → length bytes < size → with_body tag size bytes ≡ None
body_cut tag size bytes lt = let short : nat_lt (length bytes) size ≡ true = lt-ltb _ _ lt in rw short refl

pub cut_is_not_found : CutIsNotFound
unfolding CutIsNotFound
cut_is_not_found tag body zero fits lt = none_yet
cut_is_not_found tag body (suc zero) fits lt = few tag [] (omega arith)
cut_is_not_found tag body (suc (suc zero)) fits lt = few tag _ (omega arith)
cut_is_not_found tag body (suc (suc (suc zero))) fits lt = few tag _ (omega arith)
cut_is_not_found tag body (suc (suc (suc (suc zero)))) fits lt = few tag _ (omega arith)
cut_is_not_found tag body (suc (suc (suc (suc (suc n))))) fits lt =
    let size : ℕ = length body + 4 in
    let shorter : n < length body = omega (arith, lt) in
    let len : length (take n body) ≡ n = length-take-le n body (omega arith) in
    let cut : length (take n body) < size - 4 = omega (arith, len) in
    by_length tag size (take n body) (omega arith) (omega arith) ∙ ap (λ (f : Option Message). let a : Answer = Ok f in a) (body_cut tag (size - 4) (take n body) cut)
