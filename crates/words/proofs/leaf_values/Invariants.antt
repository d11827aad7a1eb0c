-- The bits that are there and the values of the constants that are left are all. Assumes nothing.
use Rattle.std.proofs.Common.{◌≡◌, ◌&&◌, ◌||◌, ℕ, ◌≤◌, get_or}
use Rattle.shares.specs.Constant.{bit}
use Rattle.words.proofs.leaf_values.Given as goal

abbrev pub invariant-loop-i : goal.invariant-loop-i
invariant-loop-i l = record {
  within : l.i-iterator.rest ≤ l.named;
  all : (j : ℕ) → (bit l.r j || (bit l.i-iterator.rest j && bit (get_or l.constants j 0) l.leaf))
      ≡ (bit l.named j && bit (get_or l.constants j 0) l.leaf);
}
