-- `extending::extends`: the leaves of the rows that look like one of the first b leaves of the constants are looked at.
use Rattle.std.proofs.Common.{◌-◌, ◌^◌, ◌<◌, Some, get_or}
use Rattle.steps.specs.Steps.{posed, PlacedWithin}
use Rattle.extending.specs.Looks.{LeavesLooked}
use Rattle.extending.proofs.extends.Given as goal

abbrev pub invariant-loop-b : goal.invariant-loop-b
invariant-loop-b l = record {
  fits : l.wanted < 2 ^ 64;
  placed : PlacedWithin l.question.sizes.free l.question.sizes.own l.question.sizes.named l.terms;
  looked : LeavesLooked (posed l.question) l.table l.b (2 ^ get_or l.question.sizes.counts 3 0 - 1) (Some l.wanted);
}
