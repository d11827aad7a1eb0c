-- `extending::put_keys`: the values at the first b leaves are put.
use Rattle.std.proofs.Common.{◌≡◌, ℕ, ◌<◌, length, get_or}
use Rattle.shares.specs.Constant.{constant_levels}
use Rattle.words.specs.Choices.{values_at}
use Rattle.extending.proofs.put_keys.Given as goal

abbrev pub invariant-loop-b : goal.invariant-loop-b
invariant-loop-b l = record {
  long : length l.keys ≡ 64;
  put : (a : ℕ) → a < l.b → get_or l.keys a 0 ≡ values_at constant_levels l.constants l.named constant_levels a;
}
