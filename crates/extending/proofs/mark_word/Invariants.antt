-- `extending::mark_word`: the choices at the given leaves that are no longer among the rest are marked.
use Rattle.std.proofs.Common.{◌≡◌, ℕ, ◌^◌, ◌<◌, length}
use Rattle.shares.specs.Constant.{constant_levels}
use Rattle.extending.specs.Looks.{Added, BitOf}
use Rattle.extending.specs.MarkLaws.{Done, word_choice}
use Rattle.extending.proofs.mark_word.Given as goal

abbrev pub invariant-loop-rest : goal.invariant-loop-rest
invariant-loop-rest l = record {
  fits : l.rest < 2 ^ 64;
  long : length l.present ≡ 64;
  within : (k : ℕ) → BitOf l.rest k → BitOf l.leaves k;
  marked : Added (word_choice constant_levels l.table l.free l.w l.leaves) (Done l.leaves l.rest) l.initial.present
      l.present;
}

abbrev pub decreases-loop-rest : goal.decreases-loop-rest
decreases-loop-rest l = l.rest
