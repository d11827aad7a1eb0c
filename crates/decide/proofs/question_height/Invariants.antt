-- The loop of `decide::question_height`: the leaves found give a height that no constant but those left is taller than.
use Rattle.std.proofs.Common.{ℕ, T}
use Rattle.shares.specs.Constant.{constant_levels, bit}
use Rattle.shares.specs.Unlike.{raised}
use Rattle.decide.specs.TallestLaws.{Found}
use Rattle.decide.proofs.question_height.Given as goal

abbrev pub invariant-loop-i : goal.invariant-loop-i
invariant-loop-i l = record {
  among : (k : ℕ) → T (bit l.i-iterator.rest k) → T (bit l.named k);
  found : Found constant_levels l.constants l.named l.i-iterator.rest (raised constant_levels constant_levels l.leaves);
}
