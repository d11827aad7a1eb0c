-- The leaves before leaf k are written, and the others are empty.
use Rattle.std.proofs.Common.{get_or}
use Rattle.shares.specs.Constant.{bit}
use Rattle.rows.specs.Blocks.{FirstBlocks}
use Rattle.show.proofs.write_leaves.Given as goal

abbrev pub invariant-loop-k : goal.invariant-loop-k
invariant-loop-k l = FirstBlocks l.row l.height l.k (λ k. bit (get_or l.plan.plain k 0) l.p)
