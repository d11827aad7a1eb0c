-- `extending::unless_same`: the word as it is, or with one bit taken out.
use Rattle.extending.specs.WordLaws.{unless_kept, unless_out}
use Rattle.extending.proofs.unless_same.Goals as goal

pub returns-then-x-y : goal.returns-then-x-y
returns-then-x-y c k h = let a = c.args in unless_kept a.x a.y a.r a.j k c.if-x-y.true

pub returns : goal.returns
returns c k h =
    let a = c.args in
    unless_out a.x a.y a.r a.j k c.ranges.x.fits c.ranges.y.fits c.if-x-y.false c.requires h
