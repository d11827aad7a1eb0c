-- `judging::broken_positive`: where the test does not hold at every leaf, the lowest at which it does not is one.
use Rattle.std.proofs.Common.{sym, ap, ◌∙◌}
use Rattle.std.proofs.Math.Bool.{not}
use Rattle.shares.specs.BelowLaws.{first_le}
use Rattle.judging.proofs.WalkLaws.{leaf_lt}
use Rattle.judging.proofs.broken_positive.Goals as goal

pub way_at-way-requires : goal.way_at-way-requires
way_at-way-requires c = (
  c.requires,
  rw c.first_failing-leaf.ensures
      (leaf_lt _ 1024 (first_le 1024 _) (ap not (sym c.everywhere.ensures ∙ c.if-everywhere.false))),
)
