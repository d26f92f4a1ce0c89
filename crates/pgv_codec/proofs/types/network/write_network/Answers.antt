use Rattle.std.specs.Prelude.{◌≡◌, ℕ, List, ◌∷◌, ◌++◌, refl, length}
use Rattle.std.proofs.Common.{sym, ap, ◌∙◌, rules}
use Rattle.pgv_buf.specs.Tokens.{bytes, blank}
use Rattle.pgv_codec.proofs.Lists.{four}
use Rattle.pgv_codec.proofs.types.network.write_network.Goals as goal

-- the four octets, taken apart, are the address's
pub returns-in_ok-extend_from_slice-in-V4-clause-encodes : goal.returns-in_ok-extend_from_slice-in-V4-clause-encodes
returns-in_ok-extend_from_slice-in-V4-clause-encodes c =
    let long : length c.octets.result ≡ 4 = search rules in
    let all = c.in_ok-extend_from_slice-in-V4.ensures.ok ∙ ap (λ (xs : List ℕ). c.args.out.now ++ blank (bytes (2 ∷ c.args.prefix ∷ 0 ∷ 4 ∷ xs))) (sym (four c.octets.result long)) in
    (bytes (2 ∷ c.args.prefix ∷ 0 ∷ 4 ∷ c.octets.result), rw (c.in-V4.is, sym c.octets.ensures, long) refl, all)
