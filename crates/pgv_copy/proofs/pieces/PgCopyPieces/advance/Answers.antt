use Rattle.std.proofs.Common.{◌≡◌, ◌-◌, ◌≤◌, ℕ, Bool, true, false, List, [], length, drop, take, Option, None, Ok, Err, refl, ap, subst, arith}
use Rattle.std.proofs.lemmas.List.{length-drop}
use Rattle.pgv_types.specs.Ty.{Ty}
use Rattle.pgv_value.specs.ValueView.{Given}
use Rattle.pgv_value.specs.declared.error.CodecError.TheVariants.{Short}
use Rattle.pgv_copy.specs.CopyBinary.{reader_ended}
use Rattle.pgv_copy.specs.CopyPieces.{Advances, IsEnd, IsRowIn, Pieces, next_of}
use Rattle.pgv_copy.specs.declared.pieces.PgCopyNext.TheVariants.{Row, More, End}
use Rattle.pgv_copy.proofs.Ends.{Advanced, advanced, end_within, held_row, whole_end}
use Rattle.pgv_copy.proofs.pieces.PgCopyPieces.advance.Goals as goal

-- of a reader whose end hasn't come
module _ (types : List Ty) (in_header ended : Bool) (bytes : List ℕ) (kept : Option (List Given)) (old : Pieces) (going : ended ≡ false)
    (same : ◌≡◌ {A = Pieces} (record { types = types; in_header = in_header; is_ended = ended; left = bytes; row = kept }) old) where
  more : next_of types in_header bytes ≡ Err Short → Advances old (Ok More) old
  more missing = subst (λ (p : Pieces). Advances p (Ok More) p) same (rw going (missing, refl))

  at_end : (left : List ℕ) → left ≡ [] → next_of types in_header bytes ≡ Ok (None, reader_ended types) →
      Advances old (Ok End) (record { types = types; in_header = false; is_ended = true; left = left; row = None })
  at_end left nothing there =
      subst (λ (p : Pieces). Advances p (Ok End) (record { types = types; in_header = false; is_ended = true; left = left; row = None })) same (rw (going, nothing) (there, refl))

  a_row : (left : List ℕ) (row : Option (List Given)) → Advanced types in_header bytes left row →
      Advances old (Ok Row) (record { types = types; in_header = false; is_ended = ended; left = left; row = row })
  a_row left row a =
      subst (λ (p : Pieces). Advances p (Ok Row) (record { types = types; in_header = false; is_ended = ended; left = left; row = row })) same (rw (going, a.row_is) (a.given, a.read, refl))

-- a part of the bytes up to their end
up_to_end : (next : ℕ) (slice held : List ℕ) → slice ≡ held → take (length slice - next) (drop next slice) ≡ drop next held
up_to_end next slice held is = rw is (whole_end next held)

-- so is the row that is found in it
row_held : (seen types : List Ty) (in_header : Bool) (next : ℕ) (slice held row rest : List ℕ) → seen ≡ types → slice ≡ held →
    IsRowIn seen in_header (take (length slice - next) (drop next slice)) row rest → IsRowIn types in_header (drop next held) row rest
row_held seen types in_header next slice held row rest is same found = rw (is, up_to_end next slice held same) at found

-- what is left is no longer than what is held
end_fits : (next size : ℕ) (held left : List ℕ) → size ≡ length held → IsEnd (drop next held) left → length left ≤ size
end_fits next size held left is end = omega (arith, end_within (drop next held) left end, length-drop next held, is)

pub returns-in-Err-Short-clause-found : goal.returns-in-Err-Short-clause-found
returns-in-Err-Short-clause-found c =
    let s = c.self.inside in
    let seen = up_to_end s.next c.as_slice.result.now s.held.items c.as_slice.ensures.value in
    more s.types.items s.in_header s.is_ended (drop s.next s.held.items) _ c.args.self.now c.if-self.false c.self.view_is (rw (c.as_slice-2.ensures.value, seen, c.in-Err-Short.field-0-is) at c.in-Err-Short.ensures)

pub returns-in_default-clause-found : goal.returns-in_default-clause-found
returns-in_default-clause-found c =
    let s = c.self.inside in
    let seen = up_to_end s.next c.as_slice.result.now s.held.items c.as_slice.ensures.value in
    let there = rw c.in_default.is at c.in-Ok.ensures in
    at_end s.types.items s.in_header s.is_ended (drop s.next s.held.items) _ c.args.self.now c.if-self.false c.self.view_is c.clear.new.self.items c.clear.ensures.items (rw (c.as_slice-2.ensures.value, seen) at there)

pub overflow_sub-row : goal.overflow_sub-row
overflow_sub-row c =
    let s = c.self.inside in
    let r = row_held _ s.types.items s.in_header s.next _ s.held.items c.in-Some.row.now c.in-Some.rest.now c.as_slice-2.ensures.value c.as_slice.ensures.value (rw c.in-Some.is at c.in-Ok.ensures) in
    omega (arith, end_fits s.next c.len.result s.held.items c.in-Some.row.now (omega (arith, c.len.ensures, s.held.ok.0)) r.row_end)

pub overflow_sub-next : goal.overflow_sub-next
overflow_sub-next c =
    let s = c.self.inside in
    let r = row_held _ s.types.items s.in_header s.next _ s.held.items c.in-Some.row.now c.in-Some.rest.now c.as_slice-2.ensures.value c.as_slice.ensures.value (rw c.in-Some.is at c.in-Ok.ensures) in
    omega (arith, end_fits s.next c.len-2.result s.held.items c.in-Some.rest.now (omega (arith, c.len-2.ensures, s.held.ok.0)) r.rest_end)

pub invariant_of-self-2 : goal.invariant_of-self-2
invariant_of-self-2 c =
    let s = c.self.inside in
    let r = row_held _ s.types.items s.in_header s.next _ s.held.items c.in-Some.row.now c.in-Some.rest.now c.as_slice-2.ensures.value c.as_slice.ensures.value (rw c.in-Some.is at c.in-Ok.ensures) in
    held_row s.types.items s.in_header s.next s.held.items c.in-Some.row.now c.in-Some.rest.now c.len.result c.len-2.result c.self.invariant.next_within (omega (arith, c.len.ensures, s.held.ok.0)) (omega (arith, c.len-2.ensures, s.held.ok.0)) r

pub returns-clause-found : goal.returns-clause-found
returns-clause-found c =
    let s = c.self.inside in
    let r = row_held _ s.types.items s.in_header s.next _ s.held.items c.in-Some.row.now c.in-Some.rest.now c.as_slice-2.ensures.value c.as_slice.ensures.value (rw c.in-Some.is at c.in-Ok.ensures) in
    a_row s.types.items s.in_header s.is_ended (drop s.next s.held.items) _ c.args.self.now c.if-self.false c.self.view_is _ _
    (advanced s.types.items s.in_header s.next s.held.items c.in-Some.row.now c.in-Some.rest.now c.len.result c.len-2.result c.self.invariant.next_within (omega (arith, c.len.ensures, s.held.ok.0)) (omega (arith, c.len-2.ensures, s.held.ok.0)) r)

pub returns-clause-shorter : goal.returns-clause-shorter
returns-clause-shorter c =
    let s = c.self.inside in
    let r = row_held _ s.types.items s.in_header s.next _ s.held.items c.in-Some.row.now c.in-Some.rest.now c.as_slice-2.ensures.value c.as_slice.ensures.value (rw c.in-Some.is at c.in-Ok.ensures) in
    let a =
    advanced s.types.items s.in_header s.next s.held.items c.in-Some.row.now c.in-Some.rest.now c.len.result c.len-2.result c.self.invariant.next_within (omega (arith, c.len.ensures, s.held.ok.0)) (omega (arith, c.len-2.ensures, s.held.ok.0)) r in
    λ _. omega (arith, a.shorter, ap (λ (p : Pieces). length p.left) c.self.view_is)
