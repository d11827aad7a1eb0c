-- The loop of `beside::merge_word`: the word is or-ed with itself under the digits from n to p. Where n is 6 or more it
-- stays as it is.
use Rattle.std.proofs.Common.{◌≡◌, ◌≤◌}
use Rattle.beside.specs.Beside.{MergedTo}
use Rattle.beside.proofs.merge_word.Given as goal

abbrev pub invariant-loop-p : goal.invariant-loop-p
invariant-loop-p l = record { merged : l.n ≤ 6 → MergedTo l.n l.p l.x l.r; same : 6 ≤ l.n → l.r ≡ l.x }
