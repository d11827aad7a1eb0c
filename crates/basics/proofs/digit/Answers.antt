-- The shifted number's lowest bit, as the definition says. Assumes nothing.
use Rattle.std.proofs.Common.{ap, eqb, ◌/◌, ◌^◌}
use Rattle.std.proofs.lemmas.Nat.{and_mask}
use Rattle.shares.specs.Constant.{bit}
use Rattle.basics.proofs.digit.Goals as goal

pub returns : goal.returns
unfolding bit
returns c = ap (λ y. eqb y 1) (and_mask (c.args.x / 2 ^ c.args.p) 1)
