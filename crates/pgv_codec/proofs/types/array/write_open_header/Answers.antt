use Rattle.std.specs.Prelude.{◌≡◌, ℕ, List, [], ◌∷◌, ◌++◌, refl, length}
use Rattle.std.proofs.Common.{sym, ap, ◌∙◌, rules}
use Rattle.pgv_buf.specs.Tokens.{bytes, be4, blank, hole}
use Rattle.pgv_codec.specs.PlainBytes.{bytes-append}
use Rattle.pgv_codec.proofs.Extensions.{extends_further, extends_itself, on_err}
use Rattle.pgv_codec.proofs.Lists.{four, both, typed_unknown}
use Rattle.pgv_codec.proofs.types.array.write_open_header.Goals as goal

-- one append after the other
pub returns-clause-ok : goal.returns-clause-ok
returns-clause-ok c =
    let was = c.args.out.now in
    let after-flags = c.extend_from_slice.new.self in
    let after-type = c.push_hole.new.self in
    let now = c.extend_from_slice-2.new.self in
    let before = bytes (be4 1) ++ bytes (be4 0) in
    let rest_after = bytes (be4 c.args.count) ++ bytes (be4 1) in
    let flags : after-flags ≡ was ++ blank before = c.in_ok-extend_from_slice.ensures.ok in
    let long : length c.to_be_bytes.result ≡ 4 = search rules in
    let last = c.in_ok-extend_from_slice-2.ensures.ok ∙ ap (λ (xs : List ℕ). after-type ++ blank (bytes (xs ++ be4 1))) (sym (four c.to_be_bytes.result long)) in
    let bounds : now ≡ after-type ++ blank rest_after = last ∙ ap (λ (xs : List ℕ). after-type ++ blank (bytes (xs ++ be4 1))) c.to_be_bytes.ensures ∙ ap (λ xs. after-type ++ blank xs) (bytes-append (be4 c.args.count) (be4 1)) in
    let oid = hole c.args.element ∷ [] in (
      before ++ (oid ++ rest_after),
      rw (typed_unknown c.args.element (sym c.requires)) refl,
      both was after-flags now before (oid ++ rest_after) flags (both after-flags after-type now oid rest_after c.in_ok-push_hole.ensures.ok bounds),
    )

pub returns-in_err-extend_from_slice-clause-appended : goal.returns-in_err-extend_from_slice-clause-appended
returns-in_err-extend_from_slice-clause-appended c = on_err c.from_residual.result (rw c.in_err-extend_from_slice.ensures.err.1 (extends_itself c.args.out.now))

pub returns-in_err-push_hole-clause-appended : goal.returns-in_err-push_hole-clause-appended
returns-in_err-push_hole-clause-appended c =
    on_err c.from_residual-in_err-push_hole.result (rw c.in_err-push_hole.ensures.err.1 (blank (bytes (be4 1) ++ bytes (be4 0)), c.in_ok-extend_from_slice.ensures.ok))

pub returns-in_err-extend_from_slice-2-clause-appended : goal.returns-in_err-extend_from_slice-2-clause-appended
returns-in_err-extend_from_slice-2-clause-appended c =
    let two =
    extends_further c.args.out.now c.extend_from_slice.new.self c.push_hole.new.self (blank (bytes (be4 1) ++ bytes (be4 0)), c.in_ok-extend_from_slice.ensures.ok) (blank (hole c.args.element ∷ []), c.in_ok-push_hole.ensures.ok) in
    on_err c.from_residual-in_err-extend_from_slice-2.result (rw c.in_err-extend_from_slice-2.ensures.err.1 two)
