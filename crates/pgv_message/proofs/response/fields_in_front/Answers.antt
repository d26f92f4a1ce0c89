use Rattle.std.proofs.Common.{◌≡◌, ◌-◌, ℕ, suc, List, [], ◌∷◌, length, map, ap, ◌∙◌, arith, inl}
use Rattle.std.specs.Prelude.{vec_len}
use Rattle.std.proofs.lemmas.Bool.{eq-eqb, ne_eqb}
use Rattle.std.proofs.lemmas.List.{map-append}
use Rattle.std.proofs.lemmas.Result.{err_from_is_err_and}
use Rattle.pgv_value.specs.Outcome.{stated}
use Rattle.pgv_message.specs.declared.response.PgField.{PgField}
use Rattle.pgv_message.specs.Notice.{Field, field_view, fields_in}
use Rattle.pgv_message.proofs.Notices.{continued, is_done, goes_on, ends, runs_out, empty_is}
use Rattle.pgv_message.proofs.response.fields_in_front.Goals as goal

pub returns-then-code-eq0 : goal.returns-then-code-eq0
returns-then-code-eq0 c =
    let n : ℕ = length c.args.bytes.now - vec_len c.loop-code.fields in
    ap stated (is_done (map field_view c.loop-code.fields.items) n c.loop-code.rest.now _ c.in-Some.code.now c.in-Some.after.now c.in-Some.ensures.cases.0 (eq-eqb c.in-Some.code.now 0 c.if-code-eq0.true) c.loop-code.invariant.read)

pub returns-in_err-text : goal.returns-in_err-text
returns-in_err-text c =
    let p = err_from_is_err_and c.from_residual.result c.from_residual.ensures.1 in
    let n : ℕ = length c.args.bytes.now - vec_len c.loop-code.fields in
    let m : ℕ = length c.args.bytes.now - suc (vec_len c.loop-code.fields) in
    let n_is : n ≡ suc m = omega (arith, c.loop-code.invariant.fits, c.in-Some.ensures.cases.1) in
    rw (p.1, p.2)
    (inl (ap stated (ends (map field_view c.loop-code.fields.items) n c.loop-code.rest.now _ c.in-Some.code.now m c.in-Some.after.now _ c.in-Some.ensures.cases.0 (ne_eqb c.in-Some.code.now 0 c.if-code-eq0.false) n_is c.in_err-text.ensures.exact c.loop-code.invariant.read)))

pub loop-code-preserved : goal.loop-code-preserved
loop-code-preserved c =
    let before : List PgField = c.loop-code.fields.items in
    let n : ℕ = length c.args.bytes.now - vec_len c.loop-code.fields in
    let m : ℕ = length c.args.bytes.now - vec_len c.push.new.self in
    let n_is : n ≡ suc m = omega (arith, c.loop-code.invariant.fits, c.in-Some.ensures.cases.1, c.in_ok-push.ensures.len) in
    record {
      read =
          ap (λ (fs : List PgField). continued (map field_view fs) (fields_in m c.in_ok-text.after.now)) c.in_ok-push.ensures.items
          ∙ ap (λ (fs : List Field). continued fs (fields_in m c.in_ok-text.after.now)) (map-append field_view before (_ ∷ []))
          ∙ goes_on (map field_view before) n c.loop-code.rest.now _ c.in-Some.code.now m c.in-Some.after.now c.in_ok-text.after.now c.in_ok-text.text.now c.in-Some.ensures.cases.0 (ne_eqb c.in-Some.code.now 0 c.if-code-eq0.false) n_is c.in_ok-text.ensures.exact c.loop-code.invariant.read;
      fits = omega (arith, c.loop-code.invariant.fits, c.in-Some.ensures.cases.1, c.in_ok-push.ensures.len, c.in_ok-text.ensures.shorter);
    }

pub returns : goal.returns
returns c =
    let n : ℕ = length c.args.bytes.now - vec_len c.loop-code.fields in
    inl (ap stated (runs_out (map field_view c.loop-code.fields.items) n c.loop-code.rest.now _ (empty_is c.loop-code.rest.now c.in_default.ensures.cases) c.loop-code.invariant.read))
