-- The halves lie within the row where the block does.
use Rattle.rows.proofs.BlockLaws.{halves_inside}
use Rattle.rows.proofs.blocks.Block.halves.Goals as goal

pub invariant_of-right : goal.invariant_of-right
invariant_of-right c = record { inside = (halves_inside _ _ _ c.requires c.args.self.inside).1 }
