use Rattle.std.proofs.Common.{rules, ◌≡◌, ◌++◌, ◌∙◌, ap, sym, length, Ok, refl}
use Rattle.std.specs.Prelude.{string_bytes}
use Rattle.pgv_buf.specs.Tokens.{bytes, blank}
use Rattle.pgv_codec.specs.PlainBytes.{appended_parts}
use Rattle.pgv_more.specs.Hstore.{size_form, part_written}
use Rattle.pgv_codec.proofs.Extensions.{extends_itself, on_err}
use Rattle.pgv_more.proofs.hstore.codec.write_text.Goals as goal

pub returns-clause-exact : goal.returns-clause-exact
unfolding part_written
returns-clause-exact c =
    let part = string_bytes c.args.text.now in
    let number = c.in_ok-number.number in
    let is : size_form (length part) ≡ Ok number = ap (λ n. size_form n) (sym (ap length c.as_bytes-text.ensures.value)) ∙ c.in_ok-number.ensures in
    let second : c.extend_from_slice-2.new.self ≡ c.extend_from_slice.new.self ++ blank (bytes part) = search rules in
    (bytes (number ++ part), rw is refl, appended_parts c.args.out.now c.extend_from_slice.new.self c.extend_from_slice-2.new.self number part c.in_ok-extend_from_slice.ensures.ok second)

pub returns-in_err-number-clause-appended : goal.returns-in_err-number-clause-appended
returns-in_err-number-clause-appended c = on_err c.from_residual.result (extends_itself c.args.out.now)

pub returns-in_err-extend_from_slice-clause-appended : goal.returns-in_err-extend_from_slice-clause-appended
returns-in_err-extend_from_slice-clause-appended c = on_err c.from_residual-in_err-extend_from_slice.result (rw c.in_err-extend_from_slice.ensures.err.1 (extends_itself c.args.out.now))

pub returns-in_err-extend_from_slice-2-clause-appended : goal.returns-in_err-extend_from_slice-2-clause-appended
returns-in_err-extend_from_slice-2-clause-appended c =
    on_err c.from_residual-in_err-extend_from_slice-2.result (rw c.in_err-extend_from_slice-2.ensures.err.1 (_, c.in_ok-extend_from_slice.ensures.ok))
