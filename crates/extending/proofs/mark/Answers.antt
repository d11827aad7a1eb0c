-- `extending::mark`: one bit set adds one choice.
use Rattle.std.proofs.Common.{arith}
use Rattle.extending.specs.MarkLaws.{added_one}
use Rattle.extending.proofs.mark.Goals as goal

pub returns : goal.returns
returns c = added_one c.args.present.now c.args.choice (omega arith)
