-- The loop of `beside::share_words`: the words before this one are shared, and the others are as they were.
use Rattle.std.proofs.Common.{◌≡◌, ℕ, ◌<◌, ◌≤◌, get_or}
use Rattle.beside.specs.Beside.{Shared}
use Rattle.beside.proofs.share_words.Given as goal

abbrev pub invariant-loop-word : goal.invariant-loop-word
invariant-loop-word l = record {
  shared : (j : ℕ) → j < l.word-index → Shared l.n (get_or l.fn.words j 0) (get_or l.words j 0);
  kept : (k : ℕ) → l.word-index ≤ k → get_or l.words k 0 ≡ get_or l.fn.words k 0;
}
