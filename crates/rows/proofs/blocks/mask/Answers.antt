-- A block of a byte has at most eight leaves.
use Rattle.std.proofs.Common.{arith}
use Rattle.rows.proofs.Masks.{mask_size}
use Rattle.rows.proofs.blocks.mask.Goals as goal

pub power-ones-requires : goal.power-ones-requires
power-ones-requires c = omega (arith, mask_size _ _ c.requires _ c.power-size.ensures)
