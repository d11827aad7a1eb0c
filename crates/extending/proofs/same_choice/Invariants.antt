-- `extending::same_choice`: the same of the choice of the first v variables.
use Rattle.shares.specs.Constant.{constant_levels}
use Rattle.extending.specs.Looks.{SameAs}
use Rattle.extending.proofs.same_choice.Given as goal

abbrev pub invariant-loop-v : goal.invariant-loop-v
invariant-loop-v l = SameAs constant_levels l.table l.v l.w l.i l.leaves (record { choice = l.choice; leaves = l.same })
