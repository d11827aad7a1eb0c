-- The entries before the one at hand are shown.
use Rattle.shares.specs.Constant.{constant_levels}
use Rattle.rows.specs.Rows.{row_levels}
use Rattle.show.specs.Plans.{Shows}
use Rattle.show.proofs.write_sub_leaves.Given as goal

abbrev pub invariant-loop-entry : goal.invariant-loop-entry
invariant-loop-entry l = Shows (row_levels constant_levels) l.plan l.entry-index l.p l.row
