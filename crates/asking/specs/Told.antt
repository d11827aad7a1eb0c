-- What an answer or a refusal tells, number by number. Assumes nothing.
use Rattle.std.specs.Prelude.{ℕ, Result, Ok, Err}
use Rattle.format.specs.Numbers.{fault_number}
use Rattle.decide.specs.Findings.{answer_of}
use Rattle.asking.specs.declared.Answer.{Answer}
use Rattle.asking.specs.declared.Refusal.{Refusal}
use Rattle.asking.specs.declared.Refusal.TheVariants.{Question, ShortAnswer, ShortWork}
use Rattle.asking.specs.Asking.{Outcome, refusal_outcome, answer_outcome}

-- the number of a refusal: that of the fault, 11 (answer buffer too short) or 12 (work area too short)
abbrev pub refusal_number : Refusal → ℕ
refusal_number (Question r) = fault_number r.fault
refusal_number ShortAnswer = 11
refusal_number ShortWork = 12

-- its place: the offset of the fault, 0 for the others
abbrev pub refusal_place : Refusal → ℕ
refusal_place (Question r) = r.place
refusal_place ShortAnswer = 0
refusal_place ShortWork = 0

-- the result that it is
abbrev pub told : Result Answer Refusal → Outcome
told (Ok a) = answer_outcome (answer_of a.finding) a.height
told (Err r) = refusal_outcome (refusal_number r) (refusal_place r)
