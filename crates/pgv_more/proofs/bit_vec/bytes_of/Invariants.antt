use Rattle.std.proofs.Common.{◌≡◌, ◌++◌, ◌≤◌, length}
use Rattle.std.specs.Prelude.{map}
use Rattle.std.specs.Slice.Iter.{chunks_rest, chunks_size}
use Rattle.pgv_more.specs.Bits.{packed}
use Rattle.pgv_more.proofs.bit_vec.bytes_of.Given as goal

-- the bytes so far, and those of the chunks to come
abbrev pub invariant-loop-chunk : goal.invariant-loop-chunk
invariant-loop-chunk g l =
    (goal.iterator-loop-chunk g).can_next l.chunk-iterator
    × (goal.iterator-loop-chunk g).is_finite l.chunk-iterator
    × (chunks_size l.chunk-iterator ≡ 8)
    × (l.bytes.items ++ packed (map g.B.Bit.set (chunks_rest l.chunk-iterator)) ≡ packed (map g.B.Bit.set l.bits))
    × (length (chunks_rest l.chunk-iterator) ≤ length l.bits)
