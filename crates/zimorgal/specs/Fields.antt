-- When the fields of a result fit the bytes of its number. Assumes nothing.
use Rattle.std.specs.Prelude.{◌^◌, ◌<◌}
use Rattle.asking.specs.Asking.{Outcome}

-- each field fits its bytes
pub record InBytes (o : Outcome) : Type 0 where
  pub verdict : o.verdict < 2 ^ 8
  pub refusal : o.refusal < 2 ^ 8
  pub place : o.place < 2 ^ 16
  pub height : o.height < 2 ^ 8
  pub reason : o.reason < 2 ^ 8
  pub number : o.number < 2 ^ 8
