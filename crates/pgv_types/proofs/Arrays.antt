-- The names of built-in arrays: one test over the whole table.
use Rattle.std.proofs.Common.{◌≡◌, ℕ, ◌==◌, ◌&&◌, Bool, true, false, cond, Option, Some, None, List, [], ◌∷◌, ◌++◌, codes, ap, ◌∙◌, sym, refl, subst, bytes_eq, option_map}
use Rattle.std.proofs.lemmas.Bool.{and_parts}
use Rattle.std.proofs.lemmas.List.{append-nil}
use Rattle.std.proofs.lemmas.Slice.Eq.{bytes_eq-Decides}
use Rattle.std.proofs.lemmas.Option.{none-some}
use Rattle.pgv_types.specs.Ty.{builtin}
use Rattle.pgv_types.specs.Table.{TypeEntry, entries, entry_of, find}
use Rattle.pgv_types.specs.Suffix.{suffix_of}
use Rattle.pgv_types.specs.Facts.{element_oid, entry_element, entry_name, entry_display, name_of, display_of, is_a_type}
use Rattle.pgv_types.proofs.Elements.{element_flat, FlatAt}

abbrev is_named : List ℕ → List ℕ → Option ℕ → Bool
is_named name display None = true
is_named name display (Some x) = bytes_eq name (codes "_" ++ entry_name (entry_of x)) && bytes_eq display (entry_display (entry_of x))

abbrev are_named : List TypeEntry → Bool
are_named [] = true
are_named (e ∷ es) = is_named e.name e.display e.element && are_named es

entries_named : are_named entries ≡ true
entries_named = refl

abbrev NamedFrom : List ℕ → List ℕ → Option ℕ → Type 0
NamedFrom name display None = Unit {0}
NamedFrom name display (Some x) = (name ≡ codes "_" ++ entry_name (entry_of x)) × (display ≡ entry_display (entry_of x))

abbrev NamedAt : Option TypeEntry → Type 0
NamedAt None = Unit {0}
NamedAt (Some e) = NamedFrom e.name e.display e.element

named_from : (name display : List ℕ) (m : Option ℕ) → is_named name display m ≡ true → NamedFrom name display m
named_from name display None h = tt
named_from name display (Some x) h =
    let k = and_parts (bytes_eq name (codes "_" ++ entry_name (entry_of x))) (bytes_eq display (entry_display (entry_of x))) h in
    ((bytes_eq-Decides name (codes "_" ++ entry_name (entry_of x))).0 k.0, (bytes_eq-Decides display (entry_display (entry_of x))).0 k.1)

named_choice : (b : Bool) (e : TypeEntry) (m : Option TypeEntry) → NamedFrom e.name e.display e.element → NamedAt m → NamedAt (cond b (Some e) m)
named_choice true e m h k = h
named_choice false e m h k = k

found_named : (o : ℕ) (es : List TypeEntry) → are_named es ≡ true → NamedAt (find o es)
found_named o [] h = tt
found_named o (e ∷ es) h =
    let k = and_parts (is_named e.name e.display e.element) (are_named es) h in
    named_choice (e.oid == o) e (find o es) (named_from e.name e.display e.element k.0) (found_named o es k.1)

named_when : (m : Option TypeEntry) (x : ℕ) → NamedAt m → entry_element m ≡ Some x → (entry_name m ≡ codes "_" ++ entry_name (entry_of x)) × (entry_display m ≡ entry_display (entry_of x))
named_when None x h q = absurd (none-some x q)
named_when (Some e) x h q = subst (NamedFrom e.name e.display) q h

abbrev mark : Option ℕ → List ℕ
mark m = suffix_of (is_a_type (option_map builtin m))

pub array_names : (o x : ℕ) → element_oid o ≡ Some x → (name_of (builtin o) ≡ codes "_" ++ name_of (builtin x)) × (display_of (builtin o) ≡ display_of (builtin x) ++ codes "[]")
array_names o x q =
    let h = named_when (entry_of o) x (found_named o entries entries_named) q in
    let flat : element_oid x ≡ None = subst FlatAt q (element_flat o) in
    let d = entry_display (entry_of x) in
    let plain : d ++ mark (element_oid x) ≡ d = ap (λ m. d ++ mark m) flat ∙ append-nil d in (
      ap (λ l. l ++ []) h.0,
      ap (λ l. l ++ mark (element_oid o)) h.1 ∙ ap (λ m. d ++ mark m) q ∙ ap (λ l. l ++ codes "[]") (sym plain),
    )
