-- What the code's results tell, by the numbers of their refusals. Assumes nothing.
use Rattle.std.specs.Prelude.{ℕ, Result, Ok, Err}
use Rattle.format.specs.declared.Fault.{Fault}
use Rattle.format.specs.declared.Head.{Head as HeadRead}
use Rattle.format.specs.declared.Taken.{Taken}
use Rattle.format.specs.Format.{Head, Opens, Wrong, Step, Take, Refused}
use Rattle.format.specs.Numbers.{fault_number, kind_value}

-- a fault's number, 0 for none
abbrev pub fault_told : Result Unit Fault → ℕ
fault_told (Ok x) = 0
fault_told (Err f) = fault_number f

-- a head, or its refusal
abbrev pub head_told : Result HeadRead Fault → Head
head_told (Ok h) = Opens (kind_value h.kind) h.free h.own
head_told (Err f) = Wrong (fault_number f)

-- a command with the offset after it, or its refusal
abbrev pub step_told : Result Taken Fault → Step
step_told (Ok t) = Take t.command t.next
step_told (Err f) = Refused (fault_number f)
