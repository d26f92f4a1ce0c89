use Rattle.std.proofs.Common.{◌≡◌, ◌∙◌, ◌∷◌, [], ℕ, suc, drop, drop-cons, map, Some, ap, sym, rules, add-one}
use Rattle.std.specs.Prelude.{string_bytes}
use Rattle.std.proofs.lemmas.List.{map-append}
use Rattle.std.specs.Rc.{rc_str_bytes}
use Rattle.pgv_types.specs.Ty.{Ty}
use Rattle.pgv_catalog.specs.Rows.{named_type, part_type}
use Rattle.pgv_catalog.specs.declared.rows.PgFieldRow.{PgFieldRow}
use Rattle.pgv_catalog.proofs.MadeTypes.{one_field, other_type}
use Rattle.pgv_catalog.proofs.resolve.fields_of_type.Goals as goal
use Rattle.pgv_catalog.proofs.resolve.fields_of_type.Goals.{then-eq+in_ok-field_type+in-Some+in_ok-from_str+in_ok-push, else-eq}

pub loop-row-preserved : goal.loop-row-preserved
loop-row-preserved c =
    let items = c.as_slice-row-items.result.now in
    let i : ℕ = c.loop-row.row-index in
    let row : PgFieldRow = c.row-item.result in
    let split : drop i items ≡ row ∷ drop (suc i) items = drop-cons items i row c.loop-row-test.true ∙ ap (λ (r : PgFieldRow). r ∷ drop (suc i) items) (sym c.row-item.is) in
    let types = c.args.rows.now.types.items in
    let so_far = rw split at c.loop-row.invariant in
    elim c.if-eq.branch [
      | then-eq+in_ok-field_type+in-Some+in_ok-from_str+in_ok-push w ↦
          let t : Ty = w.in-Some.field_type in
          let part : part_type types c.args.known.now row.field_type.0 ≡ Some t = search (rules, w.in_ok-field_type.ensures, w.in-Some.is, w.as_slice.ensures.value) in
          let name : rc_str_bytes w.in_ok-from_str.field-0 ≡ string_bytes row.name = search (rules, w.in_ok-from_str.ensures.ok, w.as_str.ensures.value) in
          let pushed = ap (λ fs. fs.items) w.fields-is ∙ w.in_ok-push.ensures.items in
          rw (add-one, pushed, map-append named_type c.loop-row.fields.items ((w.in_ok-from_str.field-0, t) ∷ []), name) (
          sym (one_field types c.args.known.now c.args.oid.0 (map named_type c.loop-row.fields.items) row (drop (suc i) items) t (search (rules, w.if-eq.true, c.eq.ensures)) part)
          ∙ so_far)
      | else-eq w ↦ rw (add-one, w.fields-is) (sym (other_type types c.args.known.now c.args.oid.0 (map named_type c.loop-row.fields.items) row (drop (suc i) items) (search (rules, w.if-eq.false, c.eq.ensures))) ∙ so_far)
    ]
