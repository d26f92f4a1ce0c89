use Rattle.std.proofs.Common.{◌≡◌, ◌+◌, ◌-◌, ℕ, true, false, List, [], ◌∷◌, ◌++◌, length, arith, sym, subst, refl, ◌∙◌, ap, inl, inr, Result, Ok, Err, OnOk, OnErr, is_err}
use Rattle.std.proofs.lemmas.List.{length-map}
use Rattle.std.proofs.lemmas.Result.{err_from_is_err_and}
use Rattle.pgv_types.specs.Ty.{Ty}
use Rattle.pgv_buf.specs.declared.Mark.{Mark}
use Rattle.pgv_buf.specs.Tokens.{Cell, blank, slot_count}
use Rattle.pgv_buf.specs.Marks.{mark_of}
use Rattle.pgv_value.specs.Outcome.{Fails}
use Rattle.pgv_value.specs.declared.error.CodecError.{CodecError}
use Rattle.pgv_value.specs.declared.error.CodecError.TheVariants.{Memory}
use Rattle.pgv_codec.specs.Encoding.{Encoding, frame, value_type}
use Rattle.pgv_codec.proofs.Extensions.{on_err}
use Rattle.pgv_wire.specs.Arguments.{Argument, argument_frame, counts_in}
use Rattle.pgv_wire.specs.Counts.{AreCounts}
use Rattle.pgv_wire.specs.KeptView.{Stands, arguments_of}
use Rattle.pgv_wire.proofs.Counts.{fewer_kept}
use Rattle.pgv_wire.proofs.ArgumentLists.{stands, arguments_are, held, one_more, slot_count-append}
use Rattle.pgv_wire.proofs.Eaches.{not_err}
use Rattle.pgv_wire.proofs.Framed.{of_image}
use Rattle.pgv_wire.proofs.arguments.PgArguments.add_by_ref.Goals as goal

-- the number of slots before and after these cells
counted : (a b : Mark) (n m : ℕ) (was now ts : List Cell) → a ≡ mark_of was → b ≡ mark_of now → now ≡ was ++ ts → n ≡ a.slots → m ≡ b.slots → m ≡ n + slot_count ts
counted a b n m was now ts e f g h k =
    k ∙ (ap (λ (d : Mark). d.slots) f ∙ (ap slot_count g ∙ (slot_count-append was ts ∙ ap (λ x. x + slot_count ts) (sym (h ∙ ap (λ (d : Mark). d.slots) e)))))

slots_are : (n m : ℕ) (ts : List Cell) → m ≡ n + slot_count ts → m - n ≡ slot_count ts
slots_are n m ts e = omega (arith, e)

-- what holds where it is Ok
where_ok : {V E P : Type 0} (r : Result V E) → OnOk r P → is_err r ≡ false → P
where_ok (Ok x) h e = h
where_ok (Err x) h e = absurd cc

-- one more at the end, for which room was made before
pushed : {X : Type 0} (was room now : List X) (x y : X) → now ≡ room ++ x ∷ [] → room ≡ was → x ≡ y → now ≡ was ++ y ∷ []
pushed was room now x y e f g = e ∙ rw (f, g) refl

pub overflow_sub-slots : goal.overflow_sub-slots
overflow_sub-slots g c =
    let a = c.in_default.ensures.exact in
    let more = counted c.mark-mark.result c.mark.result c.slots-2.result c.slots.result c.self.inside.buffer c.encode.new.self (blank a.0) c.mark-mark.ensures c.mark.ensures a.2 c.slots-2.ensures c.slots.ensures in
    omega (arith, more)

-- there are as many arguments as types
as_many : {args : List Argument} {hs : List Ty} {ns : List ℕ} {ts : List Cell} → Stands args hs ns ts → (n : ℕ) → n ≡ length hs → length (counts_in args) ≡ n
as_many {args} {hs} s n e = omega (arith, e, ap length s.types_are, length-map args (λ (a : Argument). a.0), length-map args (λ (a : Argument). slot_count a.1))

pub note_slots-requires : goal.note_slots-requires
note_slots-requires g c =
    let s = held c.args.self.now c.self.invariant c.self.view_is in
    let n : c.len.result ≡ length c.self.inside.types.items = omega (arith, c.len.ensures, c.reserve.ensures.len, c.self.inside.types.ok.0) in
    omega (arith, as_many s c.len.result n, fewer_kept (counts_in c.args.self.now) c.self.inside.counts.items s.counts_are)

pub invariant_of-self-2 : goal.invariant_of-self-2
invariant_of-self-2 g c =
    let a = c.in_default.ensures.exact in
    let s = held c.args.self.now c.self.invariant c.self.view_is in
    let more = counted c.mark-mark.result c.mark.result c.slots-2.result c.slots.result c.self.inside.buffer c.encode.new.self (blank a.0) c.mark-mark.ensures c.mark.ensures a.2 c.slots-2.ensures c.slots.ensures in
    let n : c.len.result ≡ length c.self.inside.types.items = omega (arith, c.len.ensures, c.reserve.ensures.len, c.self.inside.types.ok.0) in
    let noted = where_ok c.note_slots.result c.note_slots.ensures.ok (sym c.is_err.ensures.value ∙ c.if-is_err.false) (counts_in c.args.self.now) s.counts_are (as_many s c.len.result n) in
    stands (one_more s (value_type g.T.Type.info (g.T.Encode.encoding c.args.value.now), a.0) (of_image (g.T.Encode.encoding c.args.value.now) a.0 a.1) _ _ _
    (pushed _ _ _ _ _ c.in_ok-push.ensures.items c.reserve.ensures.items c.in_ok-argument_type.ensures.ok)
    (subst (λ x. AreCounts (counts_in c.args.self.now ++ x ∷ []) c.note_slots.new.counts.items) (slots_are c.slots-2.result c.slots.result (blank a.0) more) noted)
    a.2)

pub returns-clause-exact : goal.returns-clause-exact
returns-clause-exact g c =
    let a = c.in_default.ensures.exact in
    let s = held c.args.self.now c.self.invariant c.self.view_is in
    let more = counted c.mark-mark.result c.mark.result c.slots-2.result c.slots.result c.self.inside.buffer c.encode.new.self (blank a.0) c.mark-mark.ensures c.mark.ensures a.2 c.slots-2.ensures c.slots.ensures in
    let n : c.len.result ≡ length c.self.inside.types.items = omega (arith, c.len.ensures, c.reserve.ensures.len, c.self.inside.types.ok.0) in
    let noted = where_ok c.note_slots.result c.note_slots.ensures.ok (sym c.is_err.ensures.value ∙ c.if-is_err.false) (counts_in c.args.self.now) s.counts_are (as_many s c.len.result n) in (
      a.0,
      a.1,
      arguments_are (one_more s (value_type g.T.Type.info (g.T.Encode.encoding c.args.value.now), a.0) (of_image (g.T.Encode.encoding c.args.value.now) a.0 a.1) _ _ _
          (pushed _ _ _ _ _ c.in_ok-push.ensures.items c.reserve.ensures.items c.in_ok-argument_type.ensures.ok)
          (subst (λ x. AreCounts (counts_in c.args.self.now ++ x ∷ []) c.note_slots.new.counts.items) (slots_are c.slots-2.result c.slots.result (blank a.0) more) noted)
          a.2),
    )

-- ---- refused

-- what a step says where it is an error
where_err : {V E P : Type 0} (r : Result V E) → OnErr r P → is_err r ≡ true → P
where_err (Ok x) h e = absurd cc
where_err (Err x) h e = h

-- out of memory
asks : (e : Encoding) → Fails Memory (argument_frame e)
asks e = inr (inr (refl, refl))

unframed : (e : Encoding) (why : CodecError) → Fails why (frame e) → Fails why (argument_frame e)
unframed e why (inl h) = inl h
unframed e why (inr (inl h)) = inr (inl h)
unframed e why (inr (inr h)) = rw h.0 (asks e)

pub invariant_of-self : goal.invariant_of-self
invariant_of-self g c = rw c.reserve.ensures.items c.self.invariant

pub returns-in_err-reserve-clause-exact : goal.returns-in_err-reserve-clause-exact
returns-in_err-reserve-clause-exact g c =
    let p = err_from_is_err_and c.from_residual.result c.from_residual.ensures.1 in
    rw (p.1, p.2) (asks (g.T.Encode.encoding c.args.value.now))

pub returns-in_err-reserve-clause-unchanged : goal.returns-in_err-reserve-clause-unchanged
returns-in_err-reserve-clause-unchanged g c =
    let same : arguments_of c.reserve.new.self.items c.self.inside.buffer ≡ c.args.self.now = rw c.reserve.ensures.items c.self.view_is in
    on_err c.from_residual.result same

pub invariant_of-self-in_err-argument_type : goal.invariant_of-self-in_err-argument_type
invariant_of-self-in_err-argument_type g c = rw c.reserve.ensures.items c.self.invariant

pub returns-in_err-argument_type-clause-exact : goal.returns-in_err-argument_type-clause-exact
returns-in_err-argument_type-clause-exact g c =
    let p = err_from_is_err_and c.from_residual-in_err-argument_type.result c.from_residual-in_err-argument_type.ensures.1 in
    rw (p.1, p.2) (asks (g.T.Encode.encoding c.args.value.now))

pub returns-in_err-argument_type-clause-unchanged : goal.returns-in_err-argument_type-clause-unchanged
returns-in_err-argument_type-clause-unchanged g c =
    let same : arguments_of c.reserve.new.self.items c.self.inside.buffer ≡ c.args.self.now = rw c.reserve.ensures.items c.self.view_is in
    on_err c.from_residual-in_err-argument_type.result same

-- the buffer goes back to where it was
pub invariant_of-self-in-Err : goal.invariant_of-self-in-Err
invariant_of-self-in-Err g c =
    let undone : c.back.new.self ≡ c.self.inside.buffer = c.back.ensures c.self.inside.buffer c.in-Err.ensures.appended.0 c.in-Err.ensures.appended.1 c.mark-mark.ensures in
    rw (c.reserve.ensures.items, undone) c.self.invariant

pub returns-in-Err-clause-exact : goal.returns-in-Err-clause-exact
returns-in-Err-clause-exact g c = unframed (g.T.Encode.encoding c.args.value.now) c.in-Err.error c.in-Err.ensures.exact

pub returns-in-Err-clause-unchanged : goal.returns-in-Err-clause-unchanged
returns-in-Err-clause-unchanged g c =
    let undone : c.back.new.self ≡ c.self.inside.buffer = c.back.ensures c.self.inside.buffer c.in-Err.ensures.appended.0 c.in-Err.ensures.appended.1 c.mark-mark.ensures in
    let same : arguments_of c.reserve.new.self.items c.back.new.self ≡ c.args.self.now = rw (c.reserve.ensures.items, undone) c.self.view_is in
    same

pub invariant_of-self-then-is_err : goal.invariant_of-self-then-is_err
invariant_of-self-then-is_err g c =
    let a = c.in_default.ensures.exact in
    let undone : c.back-then-is_err.new.self ≡ c.self.inside.buffer = c.back-then-is_err.ensures c.self.inside.buffer (blank a.0) a.2 c.mark-mark.ensures in
    let unnoted = where_err c.note_slots.result c.note_slots.ensures.err (sym c.is_err.ensures.value ∙ c.if-is_err.true) in
    rw (c.reserve.ensures.items, undone, unnoted) c.self.invariant

pub returns-then-is_err-clause-exact : goal.returns-then-is_err-clause-exact
returns-then-is_err-clause-exact g c = asks (g.T.Encode.encoding c.args.value.now)

pub returns-then-is_err-clause-unchanged : goal.returns-then-is_err-clause-unchanged
returns-then-is_err-clause-unchanged g c =
    let a = c.in_default.ensures.exact in
    let undone : c.back-then-is_err.new.self ≡ c.self.inside.buffer = c.back-then-is_err.ensures c.self.inside.buffer (blank a.0) a.2 c.mark-mark.ensures in
    let same : arguments_of c.reserve.new.self.items c.back-then-is_err.new.self ≡ c.args.self.now = rw (c.reserve.ensures.items, undone) c.self.view_is in
    same

-- for the type room was made
pub invariant_of-self-in_err-push : goal.invariant_of-self-in_err-push
invariant_of-self-in_err-push g c = absurd (not_err c.push.result _ (c.push.ensures.succeeds (omega (arith, c.in_ok-reserve.ensures.ok))) c.in_err-push.was)

pub returns-in_err-push-clause-exact : goal.returns-in_err-push-clause-exact
returns-in_err-push-clause-exact g c = absurd (not_err c.push.result _ (c.push.ensures.succeeds (omega (arith, c.in_ok-reserve.ensures.ok))) c.in_err-push.was)

pub returns-in_err-push-clause-unchanged : goal.returns-in_err-push-clause-unchanged
returns-in_err-push-clause-unchanged g c = absurd (not_err c.push.result _ (c.push.ensures.succeeds (omega (arith, c.in_ok-reserve.ensures.ok))) c.in_err-push.was)
