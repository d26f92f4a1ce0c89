use Rattle.std.proofs.Common.{◌≡◌, ◌<◌, length, Ok, Err, refl, ap, arith, add-one, get_or, subst, inl}
use Rattle.std.proofs.lemmas.Result.{err_from_is_err_and}
use Rattle.pgv_types.specs.Ty.{Ty}
use Rattle.pgv_value.specs.Fronts.{value_front}
use Rattle.pgv_value.specs.Outcome.{stated}
use Rattle.pgv_value.specs.declared.value.PgValueFormat.TheVariants.{Binary}
use Rattle.pgv_copy.specs.CopyBinary.{fields}
use Rattle.pgv_copy.proofs.FieldLoop.{nothing_done, nothing_left, goes_on, ends}
use Rattle.pgv_copy.proofs.reader.read_fields.Goals as goal

pub loop-type_info-init : goal.loop-type_info-init
loop-type_info-init c = rw (c.in_ok-reserve.ensures.items, c.requires) (record {
  read = nothing_done (fields c.args.types.now c.args.bytes.now.now) _ refl;
  within = omega arith;
  many = omega (arith, c.in_ok-reserve.ensures.len, ap length c.requires);
  enough = omega (arith, c.in_ok-reserve.ensures.ok);
  kept = c.in_ok-reserve.ensures.capacity;
})

pub loop-type_info-preserved : goal.loop-type_info-preserved
loop-type_info-preserved c =
    let t : Ty = c.type_info-item.result in
    let bytes = c.loop-type_info.bytes.now in
    let lt : c.loop-type_info.type_info-index < length c.args.types.now = c.loop-type_info-test.true in
    let is : t ≡ get_or c.args.types.now c.loop-type_info.type_info-index t = c.type_info-item.is in
    let found : value_front t Binary bytes ≡ Ok (c.in_ok-get.field-0, c.get.new.bytes.now) =
    subst (λ (u : Ty). value_front u Binary bytes ≡ Ok (c.in_ok-get.field-0, c.get.new.bytes.now)) c.in_ok-type_info.ensures.cases c.in_ok-get.ensures.exact in
    rw (c.push_reserved.ensures.items, add-one) (record {
      read =
          goes_on c.loop-type_info.row.items c.args.types.now c.loop-type_info.type_info-index t bytes c.in_ok-get.field-0 c.get.new.bytes.now
          (fields c.args.types.now c.args.bytes.now.now) lt is found c.loop-type_info.invariant.read;
      within = omega (arith, c.loop-type_info.invariant.within, c.in_ok-get.ensures.shorter);
      many = omega (arith, c.push_reserved.ensures.len, c.loop-type_info.invariant.many);
      enough = omega (arith, c.push_reserved.ensures.capacity, c.loop-type_info.invariant.enough);
      kept = omega (arith, c.push_reserved.ensures.capacity, c.loop-type_info.invariant.kept);
    })

pub returns-in_err-get-clause-exact : goal.returns-in_err-get-clause-exact
returns-in_err-get-clause-exact c =
    let p = err_from_is_err_and c.from_residual-in_err-get.result c.from_residual-in_err-get.ensures.1 in
    let t : Ty = c.type_info-item.result in
    let bytes = c.loop-type_info.bytes.now in
    let error = c.in_err-get.field-0.0 in
    let lt : c.loop-type_info.type_info-index < length c.args.types.now = c.loop-type_info-test.true in
    let is : t ≡ get_or c.args.types.now c.loop-type_info.type_info-index t = c.type_info-item.is in
    let none : value_front t Binary bytes ≡ Err error =
    subst (λ (u : Ty). value_front u Binary bytes ≡ Err error) c.in_ok-type_info.ensures.cases c.in_err-get.ensures.exact in
    rw (p.1, p.2) (inl (ap stated (ends c.loop-type_info.row.items c.args.types.now c.loop-type_info.type_info-index t bytes error (fields c.args.types.now c.args.bytes.now.now) lt is none c.loop-type_info.invariant.read)))

pub returns-clause-exact : goal.returns-clause-exact
returns-clause-exact c =
    ap stated
    (nothing_left c.loop-type_info.row.items c.args.types.now c.loop-type_info.type_info-index c.loop-type_info.bytes.now (fields c.args.types.now c.args.bytes.now.now)
    c.loop-type_info-test.false c.loop-type_info.invariant.read)
