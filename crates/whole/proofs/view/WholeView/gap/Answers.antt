-- `gap` meets its contract: on the grid nothing overflows. Assumes nothing.
use Rattle.whole.proofs.Gaps.{on}
use Rattle.whole.proofs.Gaps.{sum_of_two, sum_of_three, difference, gap_is}
use Rattle.whole.proofs.view.WholeView.gap.Goals as goal

pub overflow_add-result-2 : goal.overflow_add-result-2
overflow_add-result-2 c = sum_of_two (on c.args.self.now.numbers.now c.args.i c.view_length-from.result c.args.p.now c.view_length-from.ensures c.requires.1 c.requires.2)

pub overflow_add-result-4 : goal.overflow_add-result-4
overflow_add-result-4 c = sum_of_three (on c.args.self.now.numbers.now c.args.i c.view_length-from.result c.args.p.now c.view_length-from.ensures c.requires.1 c.requires.2)

pub overflow_sub-result : goal.overflow_sub-result
overflow_sub-result c = difference (on c.args.self.now.numbers.now c.args.i c.view_length-from.result c.args.p.now c.view_length-from.ensures c.requires.1 c.requires.2)

pub returns : goal.returns
returns c =
    gap_is (on c.args.self.now.numbers.now c.args.i c.view_length-from.result c.args.p.now c.view_length-from.ensures c.requires.1 c.requires.2)
