-- The loop of `beside::take_all`: the words that are no longer among the rest are done.
use Rattle.std.proofs.Common.{◌&&◌, not, ◌+◌, ◌*◌, get_or}
use Rattle.shares.specs.Constant.{bit}
use Rattle.words.specs.Clause.{clause_test}
use Rattle.beside.specs.Beside.{TakenBut}
use Rattle.beside.proofs.take_all.Given as goal

abbrev pub invariant-loop-j : goal.invariant-loop-j
invariant-loop-j l =
    TakenBut l.j-iterator.rest (get_or l.question.sizes.counts 3 0)
    (λ j i. bit l.y i && not (clause_test l.question.clauses.now (λ t. bit (get_or l.terms t 0) i) (640 + 4 * j)))
    l.wanted l.fn.left l.r l.left
