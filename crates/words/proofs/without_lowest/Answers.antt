-- A word and the number before it have all bits in common but the lowest that is set and those below. Assumes nothing.
use Rattle.std.proofs.Common.{arith}
use Rattle.std.proofs.lemmas.Nat.{and_le_l}
use Rattle.words.specs.LowestLaws.{without_bit}
use Rattle.words.proofs.without_lowest.Goals as goal

pub returns : goal.returns
returns c = (and_le_l c.args.x _, without_bit c.args.x c.ranges.x.fits (λ e. omega (arith, c.requires)))
