-- `plane_count_of` meets its contract: its tests are those of the definition. Assumes nothing.
use Rattle.std.proofs.Common.{not, ap, arith}
use Rattle.number.specs.Limits.{fewest_planes, most_planes}
use Rattle.verdict.proofs.Between.{whole_part_lem, in_range}
use Rattle.verdict.proofs.PlaneCount.{too_few, too_many, within, not_whole, is_whole}
use Rattle.verdict.proofs.view.plane_count_of.Goals as goal

pub returns-then-not-x : goal.returns-then-not-x
returns-then-not-x c = too_few c.args.x (ap not c.if-not-x.true)

pub returns-then-not-x-2 : goal.returns-then-not-x-2
returns-then-not-x-2 c = too_many c.args.x (ap not c.if-not-x.false) (ap not c.if-not-x-2.true)

pub truncating_f64_to_u64-count-requires : goal.truncating_f64_to_u64-count-requires
truncating_f64_to_u64-count-requires c =
    let x = c.args.x in
    let r = in_range fewest_planes most_planes (omega arith) x (within x (ap not c.if-not-x.false) (ap not c.if-not-x-2.false)) in
    record { lower_bound = r.0; upper_bound = r.1 }

pub overflow_cast-count : goal.overflow_cast-count
overflow_cast-count c =
    let x = c.args.x in
    omega (arith, c.truncating_f64_to_u64-count.ensures, whole_part_lem fewest_planes most_planes (omega arith) x (within x (ap not c.if-not-x.false) (ap not c.if-not-x-2.false)))

pub returns-then-x-count : goal.returns-then-x-count
returns-then-x-count c =
    not_whole c.args.x (ap not c.if-not-x.false) (ap not c.if-not-x-2.false) _ c.truncating_f64_to_u64-count.ensures c.if-x-count.true

pub returns : goal.returns
returns c =
    is_whole c.args.x (ap not c.if-not-x.false) (ap not c.if-not-x-2.false) _ c.truncating_f64_to_u64-count.ensures c.if-x-count.false
