use Rattle.std.proofs.Common.{refl, arith}
use Rattle.std.specs.Prelude.{Some}
use Rattle.pgv_row.proofs.Cut.{front_at, null_found, part_found}
use Rattle.pgv_row.proofs.place.place_at.Goals as goal

pub overflow_sub-start : goal.overflow_sub-start
overflow_sub-start c =
    let found = rw (c.split_at.ensures.back, c.in-Some.is) at c.in_ok-part.ensures.exact in
    let cut = front_at c.args.bytes.now c.args.at (Some c.in-Some.part.now) c.in_ok-part.rest.now c.requires found in
    omega (arith, cut.0, cut.3)

pub returns-in-None : goal.returns-in-None
returns-in-None c =
    let found = rw (c.split_at.ensures.back, c.in-None.is) at c.in_ok-part.ensures.exact in
    record {
      part = rw (null_found c.args.bytes.now c.args.at c.in_ok-part.rest.now c.requires found) refl;
      within = tt;
      next = omega arith;
    }

pub returns-in-Some : goal.returns-in-Some
returns-in-Some c =
    let found = rw (c.split_at.ensures.back, c.in-Some.is) at c.in_ok-part.ensures.exact in
    let cut = front_at c.args.bytes.now c.args.at (Some c.in-Some.part.now) c.in_ok-part.rest.now c.requires found in
    record {
      part = rw (part_found c.args.bytes.now c.args.at c.in-Some.part.now c.in_ok-part.rest.now c.requires found) refl;
      within = (omega arith, omega arith);
      next = omega arith;
    }
