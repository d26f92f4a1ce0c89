use Rattle.std.proofs.Common.{◌≡◌, ℕ, List, sym, ◌∙◌, ap, arith, rules, ◌++◌, ◌∷◌, [], length, append_assoc}
use Rattle.std.specs.Prelude.{map}
use Rattle.std.specs.Slice.Iter.{chunks_rest}
use Rattle.std.proofs.lemmas.List.{append-nil, length-append, nil_from_length}
use Rattle.pgv_more.specs.Bits.{packed}
use Rattle.pgv_more.proofs.Kept.{packs_chunk, no_bytes}
use Rattle.pgv_more.proofs.bit_vec.bytes_of.Goals as goal

pub loop-chunk-init : goal.loop-chunk-init
loop-chunk-init g c = (search rules, tt, search rules, search rules, search rules)

pub loop-chunk-preserved : goal.loop-chunk-preserved
loop-chunk-preserved g c =
    let set = g.B.Bit.set in
    let chunk = c.in-Some.chunk.now in
    let rest = chunks_rest c.loop-chunk.chunk-iterator in
    let after = chunks_rest c.next.new.self in
    let steps = c.in-Some.ensures.steps in
    let size = c.loop-chunk.invariant.2 in
    let next : c.byte_of.result ∷ packed (map set after) ≡ packed (map set rest) =
    ap (λ (b : ℕ). b ∷ packed (map set after)) c.byte_of.ensures ∙ sym (packs_chunk set rest chunk after steps.1.0 (rw size at steps.1.1) steps.1.2) in (
      search rules,
      tt,
      steps.0 ∙ size,
      ap (λ (xs : List ℕ). xs ++ packed (map set after)) c.in_ok-push.ensures.items
          ∙ append_assoc c.loop-chunk.bytes.items (c.byte_of.result ∷ []) (packed (map set after))
          ∙ ap (λ (xs : List ℕ). c.loop-chunk.bytes.items ++ xs) next ∙ c.loop-chunk.invariant.3,
      omega (arith, ap length steps.1.0, length-append chunk after, c.loop-chunk.invariant.4),
    )

pub returns : goal.returns
returns g c =
    let none : chunks_rest c.loop-chunk.chunk-iterator ≡ [] = nil_from_length (chunks_rest c.loop-chunk.chunk-iterator) c.in-None.ensures.steps.1.0 in
    sym (append-nil c.loop-chunk.bytes.items) ∙ ap (λ (xs : List ℕ). c.loop-chunk.bytes.items ++ xs) (sym (ap (λ bs. packed (map g.B.Bit.set bs)) none ∙ no_bytes)) ∙ c.loop-chunk.invariant.3
