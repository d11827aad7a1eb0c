-- The first i words are those of their disequations, and no other has changed. Assumes nothing.
use Rattle.std.proofs.Common.{◌≡◌, ℕ, ◌+◌, ◌*◌, ◌≤◌, ◌<◌, ◌&&◌, not, get_or}
use Rattle.shares.specs.Constant.{bit}
use Rattle.words.specs.Clause.{clause_test}
use Rattle.entries.specs.Entry.{InAny}
use Rattle.entries.proofs.fill_failing.Given as goal

abbrev pub invariant-loop-i : goal.invariant-loop-i
invariant-loop-i l = record {
  set : (j : ℕ) → j < l.i → (k : ℕ) → k < 64
      → bit (get_or l.rows (32 + j) 0) k
      ≡ (bit l.x k && not (clause_test l.clauses (λ t. bit (get_or l.terms t 0) k) (256 + 4 * j)));
  kept : (k : ℕ) → (32 ≤ k → 32 + l.i ≤ k) → get_or l.rows k 0 ≡ get_or l.initial.rows k 0;
  in_any : InAny l.i l.any l.rows;
}
