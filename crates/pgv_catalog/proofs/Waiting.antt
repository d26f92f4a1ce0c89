-- Types that wait for a part, and how many are not made yet.
use Rattle.std.proofs.Common.{◌≡◌, ◌⊎◌, ◌<◌, ◌≤◌, ℕ, zero, suc, Bool, true, false, cond, List, [], ◌∷◌, ◌++◌, length, get_or, Option, Some, None, refl, sym, ap, ◌∙◌, subst, inl, inr, arith}
use Rattle.std.specs.Prelude.{◌==◌, ◌||◌, flat_map, is_none, option_map, string_bytes}
use Rattle.std.specs.List.{AllByRecursion}
use Rattle.std.proofs.lemmas.Bool.{eq-eqb, eqb-true}
use Rattle.pgv_types.specs.Facts.{built_in, has_oid}
use Rattle.pgv_types.specs.Ty.{Ty, by_oid}
use Rattle.pgv_value.specs.ReadingSteps.{◌>>=◌}
use Rattle.pgv_catalog.specs.Entries.{Entry, type_with_oid}
use Rattle.pgv_catalog.specs.Rows.{AllAwait, HasParts, IsIn, entry_in, entry_of_row, field_oid, composite_fields, first_of, has_row, kind_by, kind_in, part_type, part_oids, part_oids_by, unmade}
use Rattle.pgv_catalog.specs.declared.rows.PgCatalogRows.{PgCatalogRows}
use Rattle.pgv_catalog.specs.declared.rows.PgFieldRow.{PgFieldRow}
use Rattle.pgv_catalog.specs.declared.rows.PgTypeClass.{PgTypeClass}
use Rattle.pgv_catalog.specs.declared.rows.PgTypeClass.TheVariants.{Simple, Pseudo, Domain, Composite, Array, Enum, Range}
use Rattle.pgv_catalog.specs.declared.rows.PgTypeRow.{PgTypeRow}

-- ---- what is in a list

module _ {A : Type 0} where
  pub is_there : (xs : List A) (i : ℕ) (x : A) → i < length xs → x ≡ get_or xs i x → IsIn x xs
  is_there [] i x lt is = absurd (omega arith)
  is_there (y ∷ ys) zero x lt is = inl is
  is_there (y ∷ ys) (suc i) x lt is = inr (is_there ys i x (omega arith) is)

  in_front : (x : A) (xs ys : List A) → IsIn x xs → IsIn x (xs ++ ys)
  in_front x [] ys h = absurd h
  in_front x (z ∷ xs) ys (inl e) = inl e
  in_front x (z ∷ xs) ys (inr h) = inr (in_front x xs ys h)

  behind : (x : A) (xs ys : List A) → IsIn x ys → IsIn x (xs ++ ys)
  behind x [] ys h = h
  behind x (z ∷ xs) ys h = inr (behind x xs ys h)

  each_is : (P : A → Type 0) (list : List A) (x : A) → AllByRecursion P list → IsIn x list → P x
  each_is P [] x all h = absurd h
  each_is P (y ∷ list) x all (inl e) = subst P (sym e) all.0
  each_is P (y ∷ list) x all (inr h) = each_is P list x all.1 h

-- ---- a part that is still to come

-- the type with this OID is not built in and was not made, and has a row
record IsToCome (rows : List PgTypeRow) (known : List Entry) (oid : ℕ) : Type 0 where
  not_built_in : built_in oid ≡ None
  not_made : type_with_oid oid known ≡ None
  there : has_row rows oid ≡ true

-- a part is still to come
abbrev Awaits : List PgTypeRow → List Entry → List ℕ → Type 0
Awaits rows known parts = (oid : ℕ) × IsIn oid parts × IsToCome rows known oid

to_come_by : (rows : List PgTypeRow) (known : List Entry) (oid : ℕ) (a b : Option Ty) (c : Bool) → built_in oid ≡ a → type_with_oid oid known ≡ b → has_row rows oid ≡ c →
    first_of a (first_of b (cond c None (Some (by_oid oid)))) ≡ None → IsToCome rows known oid
to_come_by rows known oid (Some t) b c is_a is_b is_c e = absurd cc
to_come_by rows known oid None (Some t) c is_a is_b is_c e = absurd cc
to_come_by rows known oid None None false is_a is_b is_c e = absurd cc
to_come_by rows known oid None None true is_a is_b is_c e = record { not_built_in = is_a; not_made = is_b; there = is_c }

to_come : (rows : List PgTypeRow) (known : List Entry) (oid : ℕ) → part_type rows known oid ≡ None → IsToCome rows known oid
to_come rows known oid e = to_come_by rows known oid (built_in oid) (type_with_oid oid known) (has_row rows oid) refl refl refl e

mapped_none : {A B : Type 0} (f : A → B) (o : Option A) → option_map f o ≡ None → o ≡ None
mapped_none f None e = refl
mapped_none f (Some x) e = absurd cc

step_none : {A B : Type 0} (o : Option A) (f : A → Option B) → o >>= f ≡ None → (o ≡ None) ⊎ ((x : A) × (f x ≡ None))
step_none None f e = inl refl
step_none (Some x) f e = inr (x, e)

own_field : (oid : ℕ) (row : PgFieldRow) → (row.of.0 == oid) ≡ true → IsIn row.field_type.0 (field_oid oid row)
own_field oid row same = rw same (inl refl)

awaits_later : (types : List PgTypeRow) (known : List Entry) (front parts : List ℕ) → Awaits types known parts → Awaits types known (front ++ parts)
awaits_later types known front parts a = (a.0, behind a.0 front parts a.1, a.2)

module _ (types : List PgTypeRow) (known : List Entry) (oid : ℕ) where
  fields_by : (row : PgFieldRow) (rows : List PgFieldRow) (same : Bool) → (row.of.0 == oid) ≡ same → (composite_fields types known oid rows ≡ None → Awaits types known (flat_map (field_oid oid) rows)) →
      cond same (part_type types known row.field_type.0 >>= λ t. composite_fields types known oid rows >>= λ more. Some ((string_bytes row.name, t) ∷ more)) (composite_fields types known oid rows) ≡ None →
      Awaits types known (flat_map (field_oid oid) (row ∷ rows))
  fields_by row rows false is next e = awaits_later types known (field_oid oid row) (flat_map (field_oid oid) rows) (next e)
  fields_by row rows true is next e = by (step_none (part_type types known row.field_type.0) _ e)
    where
      by : (part_type types known row.field_type.0 ≡ None) ⊎ ((t : Ty) × ((composite_fields types known oid rows >>= λ more. Some ((string_bytes row.name, t) ∷ more)) ≡ None)) → Awaits types known (flat_map (field_oid oid) (row ∷ rows))
      by (inl none) = (row.field_type.0, in_front row.field_type.0 (field_oid oid row) (flat_map (field_oid oid) rows) (own_field oid row is), to_come types known row.field_type.0 none)
      by (inr more) = awaits_later types known (field_oid oid row) (flat_map (field_oid oid) rows) (next (last (composite_fields types known oid rows) more.0 more.1))
        where
          last : (found : Option (List (List ℕ × Ty))) (t : Ty) → (found >>= λ more. let o : Option (List (List ℕ × Ty)) = Some ((string_bytes row.name, t) ∷ more) in o) ≡ None → found ≡ None
          last None t e = refl
          last (Some list) t e = absurd cc

  fields_await : (rows : List PgFieldRow) → composite_fields types known oid rows ≡ None → Awaits types known (flat_map (field_oid oid) rows)
  fields_await [] e = absurd cc
  fields_await (row ∷ rows) e = fields_by row rows (row.of.0 == oid) refl (fields_await rows) e

one_part : (types : List PgTypeRow) (known : List Entry) (oid : ℕ) → part_type types known oid ≡ None → Awaits types known (oid ∷ [])
one_part types known oid e = (oid, inl refl, to_come types known oid e)

kind_awaits : (class : PgTypeClass) (rows : PgCatalogRows) (known : List Entry) (row : PgTypeRow) → kind_by class rows known row ≡ None → Awaits rows.types.items known (part_oids_by class rows.fields.items row)
kind_awaits Simple rows known row e = absurd cc
kind_awaits Pseudo rows known row e = absurd cc
kind_awaits Domain rows known row e = one_part rows.types.items known row.part.0 (mapped_none _ _ e)
kind_awaits Composite rows known row e = fields_await rows.types.items known row.oid.0 rows.fields.items (mapped_none _ _ e)
kind_awaits Array rows known row e = one_part rows.types.items known row.part.0 (mapped_none _ _ e)
kind_awaits Enum rows known row e = absurd cc
kind_awaits Range rows known row e = one_part rows.types.items known row.part.0 (mapped_none _ _ e)

entry_awaits : (rows : PgCatalogRows) (known : List Entry) (row : PgTypeRow) → entry_in rows known row ≡ None → Awaits rows.types.items known (part_oids rows.fields.items row)
entry_awaits rows known row e = kind_awaits row.class rows known row (mapped_none (entry_of_row row) (kind_in rows known row) e)

-- ---- how many are not made

still_by : (b : Bool) (t : Ty) (rest more : Option Ty) → is_none (cond b (Some t) rest) ≡ false → (is_none rest ≡ false → is_none more ≡ false) → is_none (cond b (Some t) more) ≡ false
still_by true t rest more h next = refl
still_by false t rest more h next = next h

still_made : (oid : ℕ) (known : List Entry) (e : Entry) → is_none (type_with_oid oid known) ≡ false → is_none (type_with_oid oid (known ++ e ∷ [])) ≡ false
still_made oid [] e h = absurd cc
still_made oid (x ∷ known) e h = still_by (has_oid oid x.ty) x.ty (type_with_oid oid known) (type_with_oid oid (known ++ e ∷ [])) h (still_made oid known e)

made_by : (b : Bool) (t : Ty) (more : Option Ty) → is_none more ≡ false → is_none (cond b (Some t) more) ≡ false
made_by true t more h = refl
made_by false t more h = h

now_made : (oid : ℕ) (known : List Entry) (e : Entry) → has_oid oid e.ty ≡ true → is_none (type_with_oid oid (known ++ e ∷ [])) ≡ false
now_made oid [] e is = rw is refl
now_made oid (x ∷ known) e is = made_by (has_oid oid x.ty) x.ty (type_with_oid oid (known ++ e ∷ [])) (now_made oid known e is)

no_more : (b c : Bool) (m n : ℕ) → (b ≡ false → c ≡ false) → n ≤ m → cond c (suc n) n ≤ cond b (suc m) m
no_more true true m n h le = omega (arith, le)
no_more true false m n h le = omega (arith, le)
no_more false true m n h le = absurd (let no : true ≡ false = h refl in cc)
no_more false false m n h le = le

fewer_by : (b c : Bool) (m n : ℕ) → (b ≡ false → c ≡ false) → n < m → cond c (suc n) n < cond b (suc m) m
fewer_by true true m n h lt = omega (arith, lt)
fewer_by true false m n h lt = omega (arith, lt)
fewer_by false true m n h lt = absurd (let no : true ≡ false = h refl in cc)
fewer_by false false m n h lt = lt

pub unmade_after : (list : List PgTypeRow) (known : List Entry) (e : Entry) → unmade (known ++ e ∷ []) list ≤ unmade known list
unmade_after [] known e = omega arith
unmade_after (row ∷ list) known e =
    no_more (is_none (type_with_oid row.oid.0 known)) (is_none (type_with_oid row.oid.0 (known ++ e ∷ []))) (unmade known list) (unmade (known ++ e ∷ []) list)
    (still_made row.oid.0 known e) (unmade_after list known e)

pub one_made : (list : List PgTypeRow) (known : List Entry) (e : Entry) (row : PgTypeRow) → IsIn row list → type_with_oid row.oid.0 known ≡ None → has_oid row.oid.0 e.ty ≡ true →
    unmade (known ++ e ∷ []) list < unmade known list
one_made [] known e row h none is = absurd h
one_made (r ∷ list) known e row (inl same) none is =
    let before : is_none (type_with_oid r.oid.0 known) ≡ true = ap (λ (x : PgTypeRow). is_none (type_with_oid x.oid.0 known)) (sym same) ∙ ap is_none none in
    let after : is_none (type_with_oid r.oid.0 (known ++ e ∷ [])) ≡ false = ap (λ (x : PgTypeRow). is_none (type_with_oid x.oid.0 (known ++ e ∷ []))) (sym same) ∙ now_made row.oid.0 known e is in
    let le = unmade_after list known e in
    rw (before, after) (omega (arith, le))
one_made (r ∷ list) known e row (inr h) none is =
    fewer_by (is_none (type_with_oid r.oid.0 known)) (is_none (type_with_oid r.oid.0 (known ++ e ∷ []))) (unmade known list) (unmade (known ++ e ∷ []) list)
    (still_made r.oid.0 known e) (one_made list known e row h none is)

-- ---- parts without end

either : (b c : Bool) → (b || c) ≡ true → (b ≡ true) ⊎ (c ≡ true)
either true c e = inl refl
either false c e = inr e

record IsRowOf (rows : List PgTypeRow) (oid : ℕ) : Type 0 where
  row : PgTypeRow
  there : IsIn row rows
  own : row.oid.0 ≡ oid

row_of : (rows : List PgTypeRow) (oid : ℕ) → has_row rows oid ≡ true → IsRowOf rows oid
row_of [] oid e = absurd cc
row_of (r ∷ rows) oid e = by (row_of rows oid) (either (r.oid.0 == oid) (has_row rows oid) e)
  where
    by : (has_row rows oid ≡ true → IsRowOf rows oid) → ((r.oid.0 == oid) ≡ true) ⊎ (has_row rows oid ≡ true) → IsRowOf (r ∷ rows) oid
    by next (inl same) = record { row = r; there = inl refl; own = eqb-true r.oid.0 oid same }
    by next (inr more) = let found = next more in record { row = found.row; there = inr found.there; own = found.own }

pub endless : (rows : PgCatalogRows) (known : List Entry) → AllAwait rows known rows.types.items → (row : PgTypeRow) → IsIn row rows.types.items → type_with_oid row.oid.0 known ≡ None →
    (n : ℕ) → HasParts rows row.oid.0 n
endless rows known all row there none zero = tt
endless rows known all row there none (suc n) = by (λ next is_in waits. endless rows known all next is_in waits n) (each_is _ rows.types.items row all there)
  where
    by : ((next : PgTypeRow) → IsIn next rows.types.items → type_with_oid next.oid.0 known ≡ None → HasParts rows next.oid.0 n) →
        ((type_with_oid row.oid.0 known ≡ None → ⊥) ⊎ (entry_in rows known row ≡ None)) → HasParts rows row.oid.0 (suc n)
    by more (inl made) = absurd (made none)
    by more (inr waits) =
        let a = entry_awaits rows known row waits in
        let next = row_of rows.types.items a.0 a.2.there in
        let not_made : type_with_oid next.row.oid.0 known ≡ None = ap (λ (o : ℕ). type_with_oid o known) next.own ∙ a.2.not_made in
        (row, there, refl, (a.0, a.1, a.2.not_built_in, subst (λ (o : ℕ). HasParts rows o n) next.own (more next.row next.there not_made)))

-- ---- the type of a row

mapped_some : {A B : Type 0} (f : A → B) (o : Option A) (y : B) → option_map f o ≡ Some y → (x : A) × (f x ≡ y)
mapped_some f None y e = absurd cc
mapped_some f (Some x) y e = (x, cc)

-- it has the row's OID
pub entry_oid : (rows : PgCatalogRows) (known : List Entry) (row : PgTypeRow) (e : Entry) → entry_in rows known row ≡ Some e → has_oid row.oid.0 e.ty ≡ true
entry_oid rows known row e is =
    let made = mapped_some (entry_of_row row) (kind_in rows known row) e is in
    subst (λ (x : Entry). has_oid row.oid.0 x.ty ≡ true) made.1 (eq-eqb row.oid.0 row.oid.0 refl)
