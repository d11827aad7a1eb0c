-- The number is that of the values before the one at hand.
use Rattle.std.proofs.Common.{◌≡◌}
use Rattle.guesses.specs.Guesses.{choice_number}
use Rattle.guesses.proofs.number_of.Given as goal

abbrev pub invariant-loop-value : goal.invariant-loop-value
invariant-loop-value l = l.number ≡ choice_number l.value-index l.fn.values
