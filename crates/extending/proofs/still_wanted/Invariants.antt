-- `extending::still_wanted`: the first j words are done.
use Rattle.extending.specs.WordLaws.{StillTo}
use Rattle.extending.proofs.still_wanted.Given as goal

abbrev pub invariant-loop-j : goal.invariant-loop-j
invariant-loop-j l = StillTo l.x l.wanted l.left l.j l.r
