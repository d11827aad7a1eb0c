-- The bits that are there and those that are left are all. Assumes nothing.
use Rattle.std.proofs.Common.{◌≡◌, ℕ, ◌+◌, ◌<◌, ◌&&◌, ◌||◌, T, get_or}
use Rattle.shares.specs.Constant.{bit}
use Rattle.entries.specs.Entry.{common}
use Rattle.entries.proofs.mark_row.Given as goal

abbrev pub invariant-loop-i : goal.invariant-loop-i
invariant-loop-i l = record {
  among : (k : ℕ) → T (bit l.i-iterator.rest k) → k < l.count;
  all : (k : ℕ) → k < l.count → (bit l.r k
      || (bit l.i-iterator.rest k && common (get_or l.rows (32 + k) 0) (get_or l.rows l.j 0)))
      ≡ (bit l.mark k || common (get_or l.rows (32 + k) 0) (get_or l.rows l.j 0));
}
