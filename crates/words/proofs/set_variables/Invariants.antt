-- The variables with digits from `from` to p have their words, and every other word is as it was. Assumes nothing.
use Rattle.std.proofs.Common.{◌≡◌, ℕ, ◌+◌, ◌≤◌, ◌<◌, get_or}
use Rattle.words.specs.Clause.{position}
use Rattle.words.specs.Table.{Digits}
use Rattle.words.proofs.set_variables.Given as goal

abbrev pub invariant-loop-p : goal.invariant-loop-p
invariant-loop-p l = record {
  set : (t : ℕ) → t < l.n + l.m → l.from ≤ position l.n l.m t → position l.n l.m t < l.p
      → Digits l.n l.m l.w t (get_or l.terms t 0);
  kept : (t : ℕ) → (t < l.n + l.m → position l.n l.m t < l.from) → get_or l.terms t 0 ≡ get_or l.initial.terms t 0;
}
