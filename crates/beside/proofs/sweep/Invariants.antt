-- The loop of `beside::sweep`: what is left after o words, and what is no longer wanted is empty.
use Rattle.std.proofs.Common.{◌≡◌, ℕ, ◌≤◌, get_or}
use Rattle.words.specs.Table.{Terms}
use Rattle.beside.specs.Beside.{Emptied, Swept}
use Rattle.beside.proofs.sweep.Given as goal

abbrev pub invariant-loop-o : goal.invariant-loop-o
invariant-loop-o l =
    let sizes = l.question.sizes in
    record {
      emptied : Emptied (get_or sizes.counts 3 0) l.wanted l.going l.left;
      kept : (k : ℕ) → 32 ≤ k → get_or l.left k 0 ≡ get_or l.fn.left k 0;
      swept : (values : ℕ) → Terms sizes.free sizes.own values l.w l.fn.terms
          → Swept l.question.clauses.now sizes.counts sizes.free sizes.own values l.w l.x l.wanted l.o l.none l.terms
          l.left;
    }
