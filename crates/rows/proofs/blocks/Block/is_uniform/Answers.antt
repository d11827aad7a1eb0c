-- The byte of the block, or its part of the row, lies within the row, and its test is that of the leaves.
use Rattle.std.proofs.Common.{arith}
use Rattle.rows.proofs.Parts.{byte_at, test_at, part_fits, test_part}
use Rattle.rows.proofs.blocks.Block.is_uniform.Goals as goal

pub bounds-self-self : goal.bounds-self-self
bounds-self-self c =
    byte_at c.args.self.row.now _ _ c.args.self.inside c.if-self-le3.true _ c.power-blocks.ensures

pub returns-then-self-le3 : goal.returns-then-self-le3
returns-then-self-le3 c =
    test_at c.args.self.row.now _ _ c.args.self.inside c.if-self-le3.true _ c.power-blocks.ensures _ c.is_block.result
    c.is_block.ensures

pub overflow_mul-start : goal.overflow_mul-start
overflow_mul-start c =
    omega (arith, part_fits c.args.self.row.now _ _ c.args.self.inside c.if-self-le3.false _ c.power-size.ensures)

pub overflow_add-start : goal.overflow_add-start
overflow_add-start c =
    omega (arith, part_fits c.args.self.row.now _ _ c.args.self.inside c.if-self-le3.false _ c.power-size.ensures)

pub slice_bounds-is_filled-end : goal.slice_bounds-is_filled-end
slice_bounds-is_filled-end c =
    part_fits c.args.self.row.now _ _ c.args.self.inside c.if-self-le3.false _ c.power-size.ensures

pub returns : goal.returns
returns c =
    test_part c.args.self.row.now _ _ c.args.self.inside c.if-self-le3.false _ c.power-size.ensures _ c.is_filled.result
    c.is_filled.ensures
