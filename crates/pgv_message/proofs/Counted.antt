-- A body is read as a list exactly where it is that list.
use Rattle.std.proofs.Common.{◌≡◌, ℕ, ◌<◌, ◌^◌, nat_eq, List, [], ◌++◌, length, Ok, Err, Result, refl, sym, ap, ◌∙◌, subst, append-nil}
use Rattle.std.specs.Prelude.{flat_map, not}
use Rattle.std.specs.Int.{w16, to_be_bytes}
use Rattle.pgv_types.specs.declared.oid.Oid.{Oid}
use Rattle.pgv_value.specs.FrameLaws.{AreBytes}
use Rattle.pgv_value.specs.declared.error.CodecError.{CodecError}
use Rattle.pgv_value.specs.declared.error.CodecError.TheVariants.{WrongLength}
use Rattle.pgv_value.proofs.Numbers.{bytes_after}
use Rattle.pgv_value.specs.Fronts.{u16_front, u32_front}
use Rattle.pgv_value.specs.Outcome.{Outcome, Gives, GivesWhole, done}
use Rattle.pgv_value.specs.Several.{several, ReadsOne}
use Rattle.pgv_value.proofs.ReadFronts.{u16_there, u16_is, u32_there, u32_is, nothing_is}
use Rattle.pgv_value.proofs.Outcomes.{answer_is, taken, taken_exactly, tested, only_memory}
use Rattle.pgv_value.proofs.Several.{are_several, several_read}
use Rattle.pgv_message.specs.Pieces.{oid_bytes}
use Rattle.pgv_message.specs.Counted.{counted, IsCounted, oid_front, IsOid}

module _ {A : Type 0} (Is : A → Type 0) (encode : A → List ℕ) (one : List ℕ → Outcome (A × List ℕ)) (reads : ReadsOne Is encode one) where
  counted_by : (bytes rest : List ℕ) (n : ℕ) (list : List A) → u16_front bytes ≡ Ok (n, rest) → (several one n rest).answer ≡ Ok (list, []) → (counted one bytes).answer ≡ Ok list
  unfolding counted
  counted_by bytes rest n list count found = rw (count, found) refl

  pub is_read : (bytes : List ℕ) (list : List A) → AreBytes bytes → IsCounted Is encode bytes list → (counted one bytes).answer ≡ Ok list
  is_read bytes list h s =
      let body : List ℕ = flat_map encode list in
      let left : AreBytes body = bytes_after (to_be_bytes w16 (length list)) body (subst AreBytes s.whole h) in
      counted_by bytes body (length list) list (ap u16_front s.whole ∙ u16_there (length list) body s.many)
      (several_read Is encode one reads (length list) body list [] left (record { many = refl; each = s.each; whole = sym (append-nil body) }))

  pub is_counted : (bytes : List ℕ) (list : List A) → AreBytes bytes → (counted one bytes).answer ≡ Ok list → IsCounted Is encode bytes list
  unfolding counted
  is_counted bytes list h e =
      let a = taken_exactly (u16_front bytes) _ list e in
      let count = u16_is bytes a.0.1 a.0.0 h a.1 in
      let b = taken (several one a.0.0 a.0.1) _ list a.2 in
      let t = tested (not (nat_eq (length b.0.1) 0)) (WrongLength (length bytes)) (done b.0.0) list b.2 in
      let left : AreBytes a.0.1 = bytes_after (to_be_bytes w16 a.0.0) a.0.1 (subst AreBytes count.1 h) in
      let c = are_several Is encode one reads a.0.0 a.0.1 b.0.0 b.0.1 left b.1 in
      let body : a.0.1 ≡ flat_map encode b.0.0 = c.whole ∙ ap (λ (xs : List ℕ). flat_map encode b.0.0 ++ xs) (nothing_is b.0.1 t.0) ∙ append-nil (flat_map encode b.0.0) in
      subst (IsCounted Is encode bytes) (answer_is {A = List A} b.0.0 list t.1) (record {
        whole = count.1 ∙ ap (λ (xs : List ℕ). to_be_bytes w16 a.0.0 ++ xs) body ∙ ap (λ (n : ℕ). to_be_bytes w16 n ++ flat_map encode b.0.0) (sym c.many);
        many = subst (λ (n : ℕ). n < 2 ^ 16) (sym c.many) count.0;
        each = c.each;
      })

  -- as a reader answers
  module _ {V : Type 0} (view : V → List A) (bytes : List ℕ) where
    pub reads_counted : (result : Result V CodecError) → AreBytes bytes → Gives view (counted one bytes) result → GivesWhole view (counted one bytes) (IsCounted Is encode bytes) result
    reads_counted (Ok v) h gives = (gives, (is_counted bytes (view v) h gives, λ list s. answer_is {A = List A} (view v) list (sym gives ∙ is_read bytes list h s)))
    reads_counted (Err e) h gives = (gives, λ list s. (only_memory (counted one bytes) e list (is_read bytes list h s) gives).0)

-- ---- OIDs

oid_there : (o : Oid) (rest : List ℕ) → IsOid o → (oid_front (oid_bytes o ++ rest)).answer ≡ Ok (o, rest)
unfolding oid_front
oid_there o rest fits = rw (u32_there o.0 rest fits) refl

oid_is : (bytes : List ℕ) (o : Oid) (rest : List ℕ) → AreBytes bytes → (oid_front bytes).answer ≡ Ok (o, rest) → IsOid o × (bytes ≡ oid_bytes o ++ rest)
unfolding oid_front
oid_is bytes o rest h e =
    let a = taken_exactly (u32_front bytes) (λ (n : ℕ × List ℕ). done {M = Oid × List ℕ} (record { 0 = n.0 }, n.1)) (o, rest) e in
    let n = u32_is bytes a.0.1 a.0.0 h a.1 in
    subst (λ (p : Oid × List ℕ). IsOid p.0 × (bytes ≡ oid_bytes p.0 ++ p.1)) (answer_is {A = Oid × List ℕ} (record { 0 = a.0.0 }, a.0.1) (o, rest) a.2) n

pub reads_oid : ReadsOne IsOid oid_bytes oid_front
reads_oid bytes o rest h = (oid_is bytes o rest h, λ s. ap (λ (xs : List ℕ). (oid_front xs).answer) s.1 ∙ oid_there o rest s.0)
