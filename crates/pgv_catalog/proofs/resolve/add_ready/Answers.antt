use Rattle.std.proofs.Common.{◌≡◌, ◌≢◌, ◌∙◌, ◌<◌, ◌+◌, ℕ, List, [], ◌∷◌, ◌++◌, true, false, Some, None, take, length, get_or, sym, ap, rules, arith, inl, inr}
use Rattle.std.proofs.lemmas.List.{take_more}
use Rattle.pgv_catalog.specs.Entries.{Entry, type_with_oid}
use Rattle.pgv_catalog.specs.Rows.{IsIn, entry_in}
use Rattle.pgv_catalog.specs.declared.rows.PgTypeRow.{PgTypeRow}
use Rattle.pgv_catalog.proofs.MadeTypes.{all_more, one_more_made}
use Rattle.pgv_catalog.proofs.Waiting.{entry_oid, is_there, one_made}
use Rattle.pgv_catalog.proofs.resolve.add_ready.Goals as goal
use Rattle.pgv_catalog.proofs.resolve.add_ready.Goals.{then-is_none+in_ok-made+in-Some+in_ok-push, then-is_none+in_ok-made+in_default, else-is_none}

pub loop-row-preserved : goal.loop-row-preserved
loop-row-preserved c =
    let rows = c.args.rows.now in
    let types = rows.types.items in
    let known : List Entry = c.loop-row.known in
    let i : ℕ = c.loop-row.row-index in
    let row : PgTypeRow = c.row-item.result in
    let so_far = c.loop-row.invariant in
    let lt : i < length types = search (rules, c.loop-row-test.true, c.as_slice-row-items.ensures.value) in
    let is : row ≡ get_or types i row = search (rules, c.row-item.is, c.as_slice-row-items.ensures.value) in
    let taken : take (i + 1) types ≡ take i types ++ row ∷ [] = take_more types i row lt ∙ ap (λ (r : PgTypeRow). take i types ++ r ∷ []) (sym is) in
    elim c.if-is_none.branch [
      | then-is_none+in_ok-made+in-Some+in_ok-push w ↦
          let made : Entry = w.in-Some.made in
          let there : IsIn row types = is_there types i row lt is in
          let shown : entry_in rows known row ≡ Some made = search (rules, w.in_ok-made.ensures, w.in-Some.is) in
          let none : type_with_oid row.oid.0 known ≡ None = search (rules, c.type_of.ensures, c.is_none.ensures, w.if-is_none.true) in
          let known_is : c.if-is_none.known ≡ known ++ made ∷ [] = search (rules, w.known-is, w.in_ok-push.ensures.items, c.known.view_is) in
          let fewer = one_made types known made row there none (entry_oid rows known row made shown) in
          rw known_is (record {
            each = one_more_made rows [] known made so_far.each (row, there, shown);
            left = omega (arith, fewer, so_far.left);
            fewer = λ _. omega (arith, fewer, so_far.left);
            waiting = λ e. absurd (let wrong : true ≡ false = sym w.added-is ∙ e in cc);
          })
      | then-is_none+in_ok-made+in_default w ↦
          let waits : entry_in rows known row ≡ None = search (rules, w.in_ok-made.ensures, w.in_default.is) in
          rw (w.known-is, w.added-is, taken) (record {
            each = so_far.each;
            left = so_far.left;
            fewer = so_far.fewer;
            waiting = λ e. all_more _ (take i types) row (so_far.waiting e) (inr waits);
          })
      | else-is_none w ↦
          let there : type_with_oid row.oid.0 known ≢ None = search (rules, c.type_of.ensures, c.is_none.ensures, w.if-is_none.false) in
          rw (w.known-is, w.added-is, taken) (record {
            each = so_far.each;
            left = so_far.left;
            fewer = so_far.fewer;
            waiting = λ e. all_more _ (take i types) row (so_far.waiting e) (inl there);
          })
    ]
