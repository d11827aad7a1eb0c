-- The entries that are no longer among the rest are seen to. Assumes nothing.
use Rattle.std.proofs.Common.{ℕ, ◌+◌, ◌*◌, ◌<◌, ◌&&◌, not, T, get_or}
use Rattle.shares.specs.Constant.{bit}
use Rattle.words.specs.Clause.{clause_test}
use Rattle.entries.specs.Entry.{KeptBut}
use Rattle.entries.proofs.keep_all.Given as goal

abbrev pub invariant-loop-i : goal.invariant-loop-i
invariant-loop-i l = record {
  among : (k : ℕ) → T (bit l.i-iterator.rest k) → k < l.count;
  kept : KeptBut l.i-iterator.rest l.count l.turn (λ i k. bit l.x k
      && not (clause_test l.clauses (λ t. bit (get_or l.terms t 0) k) (256 + 4 * i))) l.met l.initial.firsts l.r
      l.firsts;
}
