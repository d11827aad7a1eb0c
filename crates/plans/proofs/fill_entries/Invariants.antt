-- The first e disequations have their sub-leaves and choices, and there is room for the others.
use Rattle.std.proofs.Common.{◌≡◌, length}
use Rattle.plans.specs.Pairs.{Filled}
use Rattle.plans.specs.PairLaws.{Taken}
use Rattle.plans.proofs.fill_entries.Given as goal

abbrev pub invariant-loop-e : goal.invariant-loop-e
invariant-loop-e l = record {
  taken : Taken l.outline l.firsts l.e l.taken;
  filled : Filled l.outline l.firsts l.e l.entries;
  room : length l.entries ≡ 32;
}
