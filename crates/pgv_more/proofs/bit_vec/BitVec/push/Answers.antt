use Rattle.std.proofs.Common.{◌≡◌, List, Bool, false, true, sym, ◌∙◌, ap, arith, ◌++◌, ◌∷◌, [], take, length}
use Rattle.std.proofs.lemmas.List.{length_push}
use Rattle.pgv_more.specs.Bits.{bits_of, packed}
use Rattle.pgv_more.proofs.Kept.{kept_bytes, kept_count, closes, shows}
use Rattle.pgv_more.proofs.bit_vec.BitVec.push.Goals as goal

pub append_bit-requires : goal.append_bit-requires
append_bit-requires c = kept_bytes c.self.inside.bytes.items c.self.inside.count c.self.invariant.0 c.self.invariant.1

pub invariant_of-self-2 : goal.invariant_of-self-2
invariant_of-self-2 c =
    let count = kept_count c.self.inside.bytes.items c.self.inside.count c.self.invariant.0 in
    let now = c.in_ok-append_bit.ensures.ok (take c.self.inside.count (bits_of c.self.inside.bytes.items)) (sym count) c.self.invariant.1 in
    closes c.append_bit.new.bytes.items c.in-Some.more (c.args.self.now ++ c.args.bit ∷ []) (now ∙ ap (λ (bits : List Bool). packed (bits ++ c.args.bit ∷ [])) c.self.view_is)
    (omega (arith, c.in-Some.ensures, count, ap length c.self.view_is, length_push c.args.self.now c.args.bit))

pub returns-clause-ok : goal.returns-clause-ok
returns-clause-ok c =
    let count = kept_count c.self.inside.bytes.items c.self.inside.count c.self.invariant.0 in
    let now = c.in_ok-append_bit.ensures.ok (take c.self.inside.count (bits_of c.self.inside.bytes.items)) (sym count) c.self.invariant.1 in
    shows c.append_bit.new.bytes.items c.in-Some.more (c.args.self.now ++ c.args.bit ∷ []) (now ∙ ap (λ (bits : List Bool). packed (bits ++ c.args.bit ∷ [])) c.self.view_is)
    (omega (arith, c.in-Some.ensures, count, ap length c.self.view_is, length_push c.args.self.now c.args.bit))

pub returns-in_default-clause-in_begun_byte : goal.returns-in_default-clause-in_begun_byte
returns-in_default-clause-in_begun_byte c begun few =
    let count = kept_count c.self.inside.bytes.items c.self.inside.count c.self.invariant.0 in
    absurd (omega (arith, c.in_default.ensures, count, ap length c.self.view_is, few))

pub returns-in_err-append_bit-clause-in_begun_byte : goal.returns-in_err-append_bit-clause-in_begun_byte
returns-in_err-append_bit-clause-in_begun_byte c begun few =
    let count = kept_count c.self.inside.bytes.items c.self.inside.count c.self.invariant.0 in
    let same : length c.args.self.now ≡ c.self.inside.count = sym (ap length c.self.view_is) ∙ count in
    let no : false ≡ true = c.in_err-append_bit.ensures.in_begun_byte (rw same at begun) in
    absurd cc
