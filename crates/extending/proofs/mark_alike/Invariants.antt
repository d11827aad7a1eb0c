-- `extending::mark_alike`: the choices below the leaves of the constants before a are marked.
use Rattle.std.proofs.Common.{◌≡◌, length}
use Rattle.shares.specs.Constant.{constant_levels}
use Rattle.extending.specs.Extending.{choice_at}
use Rattle.extending.specs.Looks.{Added}
use Rattle.extending.specs.MarkLaws.{AlikeTo}
use Rattle.extending.proofs.mark_alike.Given as goal

abbrev pub invariant-loop-a : goal.invariant-loop-a
invariant-loop-a l = record {
  long : length l.present ≡ 64;
  marked : Added (choice_at constant_levels l.table l.free) (AlikeTo constant_levels l.keys l.b l.a) l.initial.present
      l.present;
}
