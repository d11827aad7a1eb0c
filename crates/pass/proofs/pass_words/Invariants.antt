-- The loop of `pass::pass_words`: what is known of the leaf after its first w words, and the table of terms is at some
-- word.
use Rattle.std.proofs.Common.{◌≡◌, ℕ}
use Rattle.words.specs.Table.{Terms}
use Rattle.steps.specs.Tests.{leaf_values}
use Rattle.steps.specs.Steps.{posed, Placed, Amid}
use Rattle.pass.proofs.pass_words.Given as goal

abbrev pub invariant-loop-w : goal.invariant-loop-w
invariant-loop-w l =
    let n = l.question.sizes.free in
    let m = l.question.sizes.own in
    let S = posed l.question in
    record {
      placed : Placed n m l.terms;
      terms : (values v : ℕ) → Terms n m values v l.fn.terms → (u : ℕ) × Terms n m values u l.terms;
      amid : (h v : ℕ) → Terms n m (leaf_values S h l.number) v l.fn.terms
          → Amid S h l.search l.number 0 l.fn.start l.fn.firsts l.fn.rows
          → Amid S h l.search l.number l.w l.r l.firsts l.rows;
      possible : l.r.possible ≡ l.fn.start.possible;
    }
