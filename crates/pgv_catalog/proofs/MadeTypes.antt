-- Types that are made one after another, of the parts that their rows name.
use Rattle.std.proofs.Common.{◌≡◌, ℕ, true, false, List, [], ◌∷◌, ◌++◌, map, Option, Some, None, refl, sym, ap, subst, append_assoc, append-nil}
use Rattle.std.specs.Prelude.{◌==◌, string_bytes}
use Rattle.std.specs.List.{AllByRecursion}
use Rattle.std.specs.Rc.{rc_str_bytes}
use Rattle.std.specs.declared.alloc.Global.{Global}
use Rattle.std.specs.declared.rc.RcStr.{RcStr}
use Rattle.pgv_types.specs.Shown.{fields_of}
use Rattle.pgv_types.specs.Ty.{Ty, field}
use Rattle.pgv_value.specs.ReadingSteps.{◌>>=◌}
use Rattle.pgv_catalog.specs.Entries.{Entry}
use Rattle.pgv_catalog.specs.Rows.{AreMade, IsOfRows, typed_fields, composite_fields, named_type, part_type}
use Rattle.pgv_catalog.specs.declared.rows.PgCatalogRows.{PgCatalogRows}
use Rattle.pgv_catalog.specs.declared.rows.PgFieldRow.{PgFieldRow}
use Rattle.pgv_catalog.specs.declared.rows.PgTypeRow.{PgTypeRow}

-- ---- fields

abbrev pub Found : Type 0
Found = Option (List (List ℕ × Ty))

pub fields_are : (xs : List (RcStr Global × Ty)) → fields_of xs ≡ typed_fields (map named_type xs)
fields_are [] = refl
fields_are (x ∷ xs) = ap (field (rc_str_bytes x.0) x.1) (fields_are xs)

-- the fields so far, before those of the other rows
abbrev pub with_before : List (List ℕ × Ty) → Found → Found
with_before xs (Some more) = Some (xs ++ more)
with_before xs None = None

pub nothing_before : (found : Found) → with_before [] found ≡ found
nothing_before (Some more) = refl
nothing_before None = refl

regroup : (xs : List (List ℕ × Ty)) (x : List ℕ × Ty) (found : Found) → with_before xs (found >>= λ more. Some (x ∷ more)) ≡ with_before (xs ++ x ∷ []) found
regroup xs x (Some more) = ap (λ (ys : List (List ℕ × Ty)). let o : Found = Some ys in o) (sym (append_assoc xs (x ∷ []) more))
regroup xs x None = refl

module _ (types : List PgTypeRow) (known : List Entry) (oid : ℕ) where
  pub one_field : (xs : List (List ℕ × Ty)) (row : PgFieldRow) (rows : List PgFieldRow) (t : Ty) → (row.of.0 == oid) ≡ true → part_type types known row.field_type.0 ≡ Some t →
      with_before xs (composite_fields types known oid (row ∷ rows)) ≡ with_before (xs ++ (string_bytes row.name, t) ∷ []) (composite_fields types known oid rows)
  one_field xs row rows t same part = rw (same, part) (regroup xs (string_bytes row.name, t) (composite_fields types known oid rows))

  pub other_type : (xs : List (List ℕ × Ty)) (row : PgFieldRow) (rows : List PgFieldRow) → (row.of.0 == oid) ≡ false → with_before xs (composite_fields types known oid (row ∷ rows)) ≡ with_before xs (composite_fields types known oid rows)
  other_type xs row rows other = rw other refl

-- ---- one more type

pub one_more_made : (rows : PgCatalogRows) (before entries : List Entry) (e : Entry) → AreMade rows before entries → IsOfRows rows (before ++ entries) e → AreMade rows before (entries ++ e ∷ [])
one_more_made rows before [] e are is = (subst (λ (list : List Entry). IsOfRows rows list e) (append-nil before) is, tt)
one_more_made rows before (x ∷ entries) e are is =
    (are.0, one_more_made rows (before ++ x ∷ []) entries e are.1 (subst (λ (list : List Entry). IsOfRows rows list e) (sym (append_assoc before (x ∷ []) entries)) is))

pub all_more : {X : Type 0} (P : X → Type 0) (xs : List X) (x : X) → AllByRecursion P xs → P x → AllByRecursion P (xs ++ x ∷ [])
all_more P [] x each is = (is, tt)
all_more P (y ∷ xs) x each is = (each.0, all_more P xs x each.1 is)
