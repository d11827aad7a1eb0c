-- The leaves before leaf b have their choices.
use Rattle.std.proofs.Common.{ℕ, ◌≡◌, ◌<◌, get_or}
use Rattle.words.specs.Kept.{number_at}
use Rattle.plans.proofs.fill_plain.Given as goal

abbrev pub invariant-loop-b : goal.invariant-loop-b
invariant-loop-b l = (i : ℕ) → i < l.b → get_or l.plain i 0 ≡ number_at l.leaves i
