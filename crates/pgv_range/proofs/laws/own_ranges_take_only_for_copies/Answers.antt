use Rattle.std.proofs.Common.{refl}
use Rattle.pgv_range.proofs.laws.own_ranges_take_only_for_copies.Goals as goal

pub returns-clause-int4 : goal.returns-clause-int4
returns-clause-int4 c = c.ranges_take_only_for_copies.ensures (λ value. refl)

pub returns-clause-int8 : goal.returns-clause-int8
returns-clause-int8 c = c.ranges_take_only_for_copies-2.ensures (λ value. refl)

pub returns-clause-date : goal.returns-clause-date
returns-clause-date c = c.ranges_take_only_for_copies-3.ensures (λ value. refl)

pub returns-clause-date_time : goal.returns-clause-date_time
returns-clause-date_time c = c.ranges_take_only_for_copies-4.ensures (λ value. refl)

pub returns-clause-timestamp : goal.returns-clause-timestamp
returns-clause-timestamp c = c.ranges_take_only_for_copies-5.ensures (λ value. refl)
