-- The rows before row v are written, and the others are empty.
use Rattle.std.proofs.Common.{◌≡◌}
use Rattle.shares.specs.Constant.{constant_levels}
use Rattle.plans.specs.Shown.{plan_trees}
use Rattle.rows.specs.Rows.{row_levels, filled_with}
use Rattle.show.proofs.write_rows.Given as goal

abbrev pub invariant-loop-v : goal.invariant-loop-v
invariant-loop-v l = l.answer ≡ filled_with (row_levels constant_levels) l.v (plan_trees l.n l.plan) l.initial.answer
