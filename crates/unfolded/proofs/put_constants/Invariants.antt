-- The constants that are no longer among the rest have their parts.
use Rattle.std.proofs.Common.{◌≤◌}
use Rattle.shares.specs.Constant.{constant_levels}
use Rattle.unfolded.specs.Filling.{ConstantParts}
use Rattle.unfolded.proofs.put_constants.Given as goal

abbrev pub invariant-loop-c : goal.invariant-loop-c
invariant-loop-c l = record {
  within : l.c-iterator.rest ≤ l.named;
  parts : ConstantParts constant_levels l.named l.c-iterator.rest l.constants l.initial.table l.table;
}
