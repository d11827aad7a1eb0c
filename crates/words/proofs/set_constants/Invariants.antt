-- The words of the constants that are no longer among the rest are set, and no other has changed. Assumes nothing.
use Rattle.std.proofs.Common.{ℕ, ◌≤◌, T}
use Rattle.shares.specs.Constant.{bit}
use Rattle.words.specs.Table.{ConstantWords}
use Rattle.words.proofs.set_constants.Given as goal

abbrev pub invariant-loop-i : goal.invariant-loop-i
invariant-loop-i l = record {
  within : l.i-iterator.rest ≤ l.named;
  among : (k : ℕ) → T (bit l.i-iterator.rest k) → T (bit l.named k);
  words : ConstantWords l.named l.i-iterator.rest l.values l.initial.terms l.terms;
}
