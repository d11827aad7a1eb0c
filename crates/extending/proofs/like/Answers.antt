-- `extending::like`: where the digit is false, the bits that are not set.
use Rattle.extending.specs.WordLaws.{like_unset}
use Rattle.extending.proofs.like.Goals as goal

pub returns-else-digit : goal.returns-else-digit
returns-else-digit c k h = like_unset c.args.x k _ c.ranges.x.fits h c.if-digit.false
