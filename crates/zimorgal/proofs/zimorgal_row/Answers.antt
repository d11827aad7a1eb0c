-- The range of the row fits, so that nothing of it is lost, and its bytes are that very part.
use Rattle.std.proofs.Common.{arith}
use Rattle.zimorgal.proofs.CallLaws.{range_small, range_given}
use Rattle.zimorgal.proofs.zimorgal_row.Goals as goal

pub overflow_add-result : goal.overflow_add-result
overflow_add-result c = omega (arith, range_small c.args.answer.now _ _ c.row_range-range.ensures)

pub returns : goal.returns
returns c =
    let small = range_small c.args.answer.now _ _ c.row_range-range.ensures in
    range_given c.args.answer.now _ _ c.row_range-range.ensures _ (omega (arith, small))
