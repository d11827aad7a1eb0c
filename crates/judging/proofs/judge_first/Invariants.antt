-- `judging::judge_first`: the clauses of the first system that were met so far hold.
use Rattle.std.proofs.Common.{◌-◌, length}
use Rattle.shares.specs.Constant.{constant_levels}
use Rattle.judging.specs.Walk.{Gone}
use Rattle.judging.proofs.judge_first.Given as goal

abbrev pub invariant-loop-command : goal.invariant-loop-command
invariant-loop-command l = Gone constant_levels l.bytes l.leaves l.at l.count

abbrev pub decreases-loop-command : goal.decreases-loop-command
decreases-loop-command l = length l.bytes - l.at
