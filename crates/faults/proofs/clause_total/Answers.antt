-- `faults::clause_total` meets its contract: each count is small, so the sum fits. Assumes nothing.
use native.Mathlib.Omega.{arith}
use Rattle.format.specs.declared.Section.TheVariants.{FirstPositive, FirstDisequation, SecondPositive}
use Rattle.format.specs.declared.Section.TheVariants.{SecondDisequation}
use Rattle.faults.proofs.clause_total.Goals as goal

pub overflow_add-result : goal.overflow_add-result
overflow_add-result c = omega (arith, c.requires FirstPositive, c.requires FirstDisequation)

pub overflow_add-result-2 : goal.overflow_add-result-2
overflow_add-result-2 c = omega (arith, c.requires SecondPositive, c.requires SecondDisequation)

pub overflow_add-result-3 : goal.overflow_add-result-3
overflow_add-result-3 c =
    let small = c.requires in
    omega (arith, small FirstPositive, small FirstDisequation, small SecondPositive, small SecondDisequation)
