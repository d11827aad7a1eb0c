-- The values of the first v variables are guessed.
use Rattle.std.proofs.Common.{◌-◌}
use Rattle.words.specs.Kept.{least_number}
use Rattle.guesses.specs.GuessLaws.{Guessed}
use Rattle.guesses.proofs.least_values.Given as goal

abbrev pub invariant-loop-v : goal.invariant-loop-v
invariant-loop-v l = Guessed (least_number l.passing) l.free (l.free - l.v) l.values l.low l.span
