-- The test of the bits of the block.
use Rattle.std.proofs.Common.{◌<◌, arith}
use Rattle.rows.proofs.Bytes.{block_test}
use Rattle.rows.proofs.blocks.is_block.Goals as goal

pub returns : goal.returns
returns c =
    let small : c.mask.result < 256 = omega arith in
    block_test _ _ _ _ _ _ c.whole.ensures c.mask.ensures small
