-- The byte of a block, or its part of the row, lies within the row.
use Rattle.std.proofs.Common.{◌-◌, arith}
use lib.Pow.{pow_pos}
use Rattle.rows.proofs.Parts.{byte_at, part_fits}
use Rattle.rows.proofs.blocks.write_block.Goals as goal

pub bounds-row-j : goal.bounds-row-j
bounds-row-j c = byte_at c.args.row.now _ _ c.requires c.if-height-le3.true _ c.power-blocks.ensures

pub bounds-row-j-then-height-le3 : goal.bounds-row-j-then-height-le3
bounds-row-j-then-height-le3 c = byte_at c.args.row.now _ _ c.requires c.if-height-le3.true _ c.power-blocks.ensures

pub overflow_mul-start : goal.overflow_mul-start
overflow_mul-start c = omega (
  arith,
  part_fits c.args.row.now _ _ c.requires c.if-height-le3.false _ c.power-size.ensures,
)

pub overflow_add-start : goal.overflow_add-start
overflow_add-start c = omega (
  arith,
  part_fits c.args.row.now _ _ c.requires c.if-height-le3.false _ c.power-size.ensures,
)

-- a shorter part does too, so a body that fills less falls at its bytes, and not here
pub slice_bounds-fill-end : goal.slice_bounds-fill-end
slice_bounds-fill-end c = omega (
  arith,
  part_fits c.args.row.now _ _ c.requires c.if-height-le3.false _ c.power-size.ensures,
  c.power-size.ensures,
  pow_pos (c.args.height - 3),
)
