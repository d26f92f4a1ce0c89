use Rattle.std.proofs.Common.{◌≡◌, ◌*◌, ◌/◌, ℕ, List, ◌++◌, ◌∷◌, [], get_or, drop, set, sym, ◌∙◌, ap, arith, refl}
use Rattle.std.proofs.lemmas.List.{length-drop}
use Rattle.pgv_more.specs.Bits.{number_of, packed}
use Rattle.pgv_more.specs.PackingLemmas.{number_of-nil}
use Rattle.pgv_more.proofs.Kept.{pushed_new, pushed_in, last_byte}
use Rattle.pgv_more.proofs.bit_vec.append_bit.Goals as goal

pub returns-in_ok-push-clause-ok : goal.returns-in_ok-push-clause-ok
returns-in_ok-push-clause-ok c bits e f =
    let byte : c.with_bit.result ≡ number_of 8 (c.args.bit ∷ []) = c.with_bit.ensures [] refl (sym (number_of-nil 8)) in
    c.in_ok-push.ensures.items ∙ ap (λ (xs : List ℕ). xs ++ c.with_bit.result ∷ []) f ∙ ap (λ (n : ℕ). packed bits ++ n ∷ []) byte
    ∙ sym (pushed_new (c.args.count / 8) bits c.args.bit (omega (arith, e)))

pub returns-else-place-eq0-clause-ok : goal.returns-else-place-eq0-clause-ok
returns-else-place-eq0-clause-ok c bits e f =
    let m = c.args.count / 8 in
    let old : c.index.result.now ≡ number_of 8 (drop (8 * m) bits) = c.index.ensures ∙ ap (λ (xs : List ℕ). get_or xs m c.index.result.now) f ∙ last_byte m bits c.index.result.now (omega (arith, e)) (omega (arith, e)) in
    let byte : c.with_bit-else-place-eq0.result ≡ number_of 8 (drop (8 * m) bits ++ c.args.bit ∷ []) = c.with_bit-else-place-eq0.ensures (drop (8 * m) bits) (omega (arith, e, length-drop (8 * m) bits)) old in
    ap (λ (xs : List ℕ). set xs m c.with_bit-else-place-eq0.result) f ∙ ap (λ (n : ℕ). set (packed bits) m n) byte ∙ sym (pushed_in m bits c.args.bit (omega (arith, e)) (omega (arith, e)))
