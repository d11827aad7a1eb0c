-- `decide::decide_entailment` meets its contract: four findings.
use Rattle.decide.specs.DecideLaws.{decided_vacuous, decided_unmet, decided_entailed, decided_missed}
use Rattle.decide.proofs.decide_entailment.Goals as goal

pub returns-in-Unsolvable : goal.returns-in-Unsolvable
returns-in-Unsolvable c k q St kind e = decided_vacuous _ q St _ _ kind (rw e at c.in-Unsolvable.ensures)

pub returns-in-Unmet : goal.returns-in-Unmet
returns-in-Unmet c k q St kind e = decided_unmet _ q St _ _ kind (rw e at c.in-Unmet.ensures)

pub returns-in-Missed : goal.returns-in-Missed
returns-in-Missed c k q St kind e = decided_missed _ q St c.survey_leaves.new.firsts c.survey_leaves.new.leaves kind
    c.in-Missed.j (rw e at c.in-Missed.ensures) _ _ _ (rw e at c.solve.ensures)

pub returns-in-Entailed : goal.returns-in-Entailed
returns-in-Entailed c k q St kind e = decided_entailed _ q St _ _ kind (rw e at c.in-Entailed.ensures)
