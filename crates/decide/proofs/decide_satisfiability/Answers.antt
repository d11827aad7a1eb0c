-- `decide::decide_satisfiability` meets its contract: two findings.
use Rattle.decide.specs.DecideLaws.{decided_satisfied, decided_unsatisfied}
use Rattle.decide.proofs.decide_satisfiability.Goals as goal

pub returns-then-solve : goal.returns-then-solve
returns-then-solve c k q St kind e = decided_satisfied _ q St _ _ _ (rw e at c.solve.ensures) kind c.if-solve.true

pub returns-else-solve : goal.returns-else-solve
returns-else-solve c k q St kind e = decided_unsatisfied _ q St _ _ _ (rw e at c.solve.ensures) kind c.if-solve.false
