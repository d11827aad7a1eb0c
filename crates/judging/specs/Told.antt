-- What the code's results tell, as judgements. Assumes nothing.
use Rattle.std.specs.Prelude.{ℕ, Option, Some, None, Result, Ok, Err}
use Rattle.shares.specs.declared.Way.TheVariants.{Holds}
use Rattle.format.specs.Numbers.{fault_number}
use Rattle.judging.specs.Judging.{Judgement, Refused, Accepted, Broken, Extending}
use Rattle.judging.specs.declared.Failing.{Failing}
use Rattle.judging.specs.declared.BrokenClause.{BrokenClause}
use Rattle.judging.specs.declared.Verdict.{Verdict}
use Rattle.judging.specs.declared.Refusal.{Refusal}

-- a broken clause: of a disequation neither a way nor a leaf is told
abbrev pub said_told : ℕ → Option Failing → Judgement
said_told k None = Broken k Holds 0
said_told k (Some f) = Broken k f.way f.leaf

abbrev pub broken_told : BrokenClause → Judgement
broken_told b = said_told b.number b.failing

abbrev pub verdict_told : Verdict → Judgement
verdict_told Verdict.Accepted = Accepted
verdict_told (Verdict.Broken b) = broken_told b
verdict_told Verdict.Extending = Extending

-- the number and the place of a refusal; of the rows there is no place
abbrev pub refusal_number : Refusal → ℕ
refusal_number (Refusal.Question r) = fault_number r.fault
refusal_number Refusal.RowsLength = 18
refusal_number Refusal.RowsNotZero = 19

abbrev pub refusal_place : Refusal → ℕ
refusal_place (Refusal.Question r) = r.place
refusal_place Refusal.RowsLength = 0
refusal_place Refusal.RowsNotZero = 0

abbrev pub told : Result Verdict Refusal → Judgement
told (Ok v) = verdict_told v
told (Err r) = Refused (refusal_number r) (refusal_place r)
