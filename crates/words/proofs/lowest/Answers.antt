-- The zeros below the lowest bit that is set. Assumes nothing.
use Rattle.words.specs.LowestLaws.{zeros_first}
use Rattle.words.proofs.lowest.Goals as goal

pub returns : goal.returns
returns c = zeros_first 64 c.args.x
