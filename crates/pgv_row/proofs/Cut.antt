-- Where the part of a frame stands in the bytes that the frame is in front of.
use Rattle.std.proofs.Common.{◌≡◌, ℕ, ◌+◌, ◌-◌, ◌≤◌, Bool, true, false, cond, nat_lt, List, length, take, drop, Option, Some, None, refl, sym, ap, ◌∙◌, subst, arith}
use Rattle.std.specs.Prelude.{slice_range}
use Rattle.std.proofs.lemmas.Bool.{ltb-false}
use Rattle.std.proofs.lemmas.List.{length-take-le, length-drop, drop-drop}
use Rattle.std.proofs.lemmas.Option.{same_Some}
use Rattle.pgv_value.specs.FrameBinary.{Part, front, front_length}
use Rattle.pgv_value.proofs.Numbers.{test_failed}

-- the frame in front is four bytes, and then the part
abbrev pub IsCut : List ℕ → Part → List ℕ → Type 0
IsCut bytes None rest = (4 ≤ length bytes) × (rest ≡ drop 4 bytes)
IsCut bytes (Some p) rest = (4 + length p ≤ length bytes) × (p ≡ take (length p) (drop 4 bytes)) × (rest ≡ drop (4 + length p) bytes)

cut_of : (bytes : List ℕ) (n : ℕ) (part : Part) (rest : List ℕ) → 4 ≤ length bytes → (x y z : Bool) → nat_lt (length (drop 4 bytes)) n ≡ z →
    cond {A = Option (Part × List ℕ)} x (Some (None, drop 4 bytes)) (cond y None (cond z None (Some (Some (take n (drop 4 bytes)), drop n (drop 4 bytes))))) ≡ Some (part, rest) → IsCut bytes part rest
cut_of bytes n part rest long true y z short e = subst (λ (p : Part × List ℕ). IsCut bytes p.0 p.1) (same_Some {A = Part × List ℕ} (None, drop 4 bytes) (part, rest) e) (long, refl)
cut_of bytes n part rest long false true z short e = absurd cc
cut_of bytes n part rest long false false true short e = absurd cc
cut_of bytes n part rest long false false false short e =
    let enough : n ≤ length (drop 4 bytes) = ltb-false (length (drop 4 bytes)) n short in
    let len : length (take n (drop 4 bytes)) ≡ n = length-take-le n (drop 4 bytes) enough in
    subst (λ (p : Part × List ℕ). IsCut bytes p.0 p.1) (same_Some {A = Part × List ℕ} (Some (take n (drop 4 bytes)), drop n (drop 4 bytes)) (part, rest) e) (
      omega (arith, len, length-drop 4 bytes),
      ap (λ (m : ℕ). take m (drop 4 bytes)) (sym len),
      drop-drop n 4 bytes ∙ ap (λ (m : ℕ). drop (4 + m) bytes) (sym len),
    )

pub front_cut : (bytes : List ℕ) (part : Part) (rest : List ℕ) → front bytes ≡ Some (part, rest) → IsCut bytes part rest
unfolding front
front_cut bytes part rest e =
    let long = test_failed (nat_lt (length bytes) 4) _ (part, rest) e in
    cut_of bytes (front_length bytes) part rest (ltb-false (length bytes) 4 long.0) _ _ _ refl long.1

-- ---- in bytes of which those from a place on are read

abbrev pub IsCutAt : List ℕ → ℕ → Part → List ℕ → Type 0
IsCutAt body at None rest = (at + 4 ≤ length body) × (rest ≡ drop (at + 4) body) × (length rest + (at + 4) ≡ length body)
IsCutAt body at (Some p) rest =
    (at + 4 + length p ≤ length body) × (p ≡ take (length p) (drop (at + 4) body)) × (rest ≡ drop (at + 4 + length p) body) × (length rest + (at + 4 + length p) ≡ length body)

cut_at : (body : List ℕ) (at : ℕ) (part : Part) (rest : List ℕ) → at ≤ length body → IsCut (drop at body) part rest → IsCutAt body at part rest
cut_at body at None rest le h =
    let rest_is : rest ≡ drop (at + 4) body = h.1 ∙ drop-drop 4 at body in
    let long : 4 ≤ length (drop at body) = h.0 in
    (omega (arith, length-drop at body), rest_is, omega (arith, ap length rest_is, length-drop (at + 4) body, length-drop at body))
cut_at body at (Some p) rest le h =
    let sum : at + (4 + length p) ≡ at + 4 + length p = omega arith in
    let rest_is : rest ≡ drop (at + 4 + length p) body = h.2 ∙ drop-drop (4 + length p) at body ∙ ap (λ (n : ℕ). drop n body) sum in
    let long : 4 + length p ≤ length (drop at body) = h.0 in (
      omega (arith, length-drop at body),
      h.1 ∙ ap (take (length p)) (drop-drop 4 at body),
      rest_is,
      omega (arith, ap length rest_is, length-drop (at + 4 + length p) body, length-drop at body),
    )

pub front_at : (body : List ℕ) (at : ℕ) (part : Part) (rest : List ℕ) → at ≤ length body → front (drop at body) ≡ Some (part, rest) → IsCutAt body at part rest
front_at body at part rest le e = cut_at body at part rest le (front_cut (drop at body) part rest e)

-- ---- as the code computes the places

pub null_found : (body : List ℕ) (at : ℕ) (rest : List ℕ) → at ≤ length body → front (drop at body) ≡ Some (None, rest) → front (drop at body) ≡ Some (None, drop (length body - length rest) body)
null_found body at rest le e =
    let cut = front_at body at None rest le e in
    let end : at + 4 ≡ length body - length rest = omega (arith, cut.2) in
    e ∙ ap (λ (xs : List ℕ). let o : Option (Part × List ℕ) = Some (None, xs) in o) (cut.1 ∙ ap (λ (n : ℕ). drop n body) end)

pub part_found : (body : List ℕ) (at : ℕ) (p rest : List ℕ) → at ≤ length body → front (drop at body) ≡ Some (Some p, rest) →
    front (drop at body) ≡ Some (Some (slice_range body (length body - length rest - length p) (length body - length rest)), drop (length body - length rest) body)
part_found body at p rest le e =
    let cut = front_at body at (Some p) rest le e in
    let end : at + 4 + length p ≡ length body - length rest = omega (arith, cut.3) in
    let start : at + 4 ≡ length body - length rest - length p = omega (arith, cut.3) in
    let size : length p ≡ length body - length rest - (length body - length rest - length p) = omega (arith, cut.3, cut.0) in
    let p_is : p ≡ slice_range body (length body - length rest - length p) (length body - length rest) =
    cut.1 ∙ ap (λ (n : ℕ). take (length p) (drop n body)) start ∙ ap (λ (n : ℕ). take n (drop (length body - length rest - length p) body)) size in
    e ∙ ap (λ (xs : List ℕ). let o : Option (Part × List ℕ) = Some (Some xs, rest) in o) p_is
    ∙ ap (λ (xs : List ℕ). let o : Option (Part × List ℕ) = Some (Some (slice_range body (length body - length rest - length p) (length body - length rest)), xs) in o) (cut.2 ∙ ap (λ (n : ℕ). drop n body) end)
