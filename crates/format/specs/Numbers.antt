-- The numbers of the code's cases. Assumes nothing.
use Rattle.std.specs.Prelude.{ℕ}
use Rattle.format.specs.declared.Fault.{Fault}
use Rattle.format.specs.declared.Fault.TheVariants.{NoHead, CutShort, UnknownCommand, OutOfPlace, UnfitHead}
use Rattle.format.specs.declared.Fault.TheVariants.{ConstantTooMany, ClauseTooMany, NamesNothing, ForeignClause}
use Rattle.format.specs.declared.Fault.TheVariants.{BytesAfter}
use Rattle.format.specs.declared.Section.{Section}
use Rattle.format.specs.declared.Section.TheVariants.{FirstPositive, FirstDisequation, SecondPositive}
use Rattle.format.specs.declared.Section.TheVariants.{SecondDisequation}
use Rattle.format.specs.declared.Kind.{Kind}
use Rattle.format.specs.declared.Kind.TheVariants.{Satisfiability, Entailment}

-- the number of a fault
abbrev pub fault_number : Fault → ℕ
fault_number NoHead = 1
fault_number CutShort = 2
fault_number UnknownCommand = 3
fault_number OutOfPlace = 4
fault_number UnfitHead = 5
fault_number ConstantTooMany = 6
fault_number ClauseTooMany = 7
fault_number NamesNothing = 8
fault_number ForeignClause = 9
fault_number BytesAfter = 10

-- the number of a kind
abbrev pub kind_value : Kind → ℕ
kind_value Satisfiability = 0
kind_value Entailment = 1

-- the number of a section
abbrev pub section_number : Section → ℕ
section_number FirstPositive = 0
section_number FirstDisequation = 1
section_number SecondPositive = 2
section_number SecondDisequation = 3
