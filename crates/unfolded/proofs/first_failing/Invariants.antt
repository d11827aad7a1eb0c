-- The test holds at the leaves of the words before.
use Rattle.std.proofs.Common.{◌≡◌, true, ◌*◌}
use Rattle.shares.specs.Below.{every_below}
use Rattle.shares.specs.Constant.{constant_levels}
use Rattle.unfolded.specs.Unfolded.{row_words, join_at}
use Rattle.unfolded.proofs.first_failing.Given as goal

abbrev pub invariant-loop-word : goal.invariant-loop-word
invariant-loop-word l = every_below (64 * l.word) (join_at (row_words constant_levels) l.table l.join) ≡ true
