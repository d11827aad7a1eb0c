-- The answer that each finding is. Assumes nothing.
use Rattle.systems.specs.Answers.{Answer, satisfied, unsatisfied, vacuous, entailed, unmet, missed}
use Rattle.decide.specs.declared.Finding.{Finding}
use Rattle.decide.specs.declared.Finding.TheVariants.{Satisfied, Unsatisfied, Vacuous, Entailed, Unmet, Missed}

-- the answer that each finding is
abbrev pub answer_of : Finding → Answer
answer_of Satisfied = satisfied
answer_of Unsatisfied = unsatisfied
answer_of Vacuous = vacuous
answer_of Entailed = entailed
answer_of Unmet = unmet
answer_of (Missed j) = missed j
