-- `extending::still_wanted`: one word more takes out its own bit, unless it has all of x.
use Rattle.std.proofs.Common.{◌≡◌, arith, length-take, get_or-take}
use Rattle.extending.specs.WordLaws.{still_start, still_more}
use Rattle.extending.proofs.still_wanted.Goals as goal

pub loop-j-init : goal.loop-j-init
loop-j-init c = still_start c.args.x c.args.wanted c.args.left.now

pub loop-j-preserved : goal.loop-j-preserved
loop-j-preserved c =
    let a = c.args in
    let l = c.loop-j in
    let here = get_or-take a.count a.left.now l.j 0 (omega (arith, length-take a.count a.left.now)) in
    still_more a.x a.wanted a.left.now l.j l.r c.unless_same-r.result (rw here at c.unless_same-r.ensures) l.invariant

pub returns : goal.returns
returns c = let e : c.loop-j.j ≡ c.args.count = omega (arith, length-take c.args.count c.args.left.now) in
    rw e at c.loop-j.invariant
