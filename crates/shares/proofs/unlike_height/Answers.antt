-- Each test raises what was found before. The masks are computed. Assumes nothing.
use Rattle.std.proofs.Common.{refl}
use Rattle.shares.specs.Constant.{constant_levels, number_of}
use Rattle.shares.specs.Unlike.{inner_mask, raised}
use Rattle.shares.proofs.UnlikeLaws.{raised_more}
use Rattle.shares.proofs.unlike_height.Goals as goal

pub returns : goal.returns
unfolding raised inner_mask number_of
returns c =
    let d = c.args.leaves in
    let one = raised_more constant_levels 0 d refl c.above-one.ensures in
    let two = raised_more constant_levels 1 d one c.above-two.ensures in
    let three = raised_more constant_levels 2 d two c.above-three.ensures in
    let four = raised_more constant_levels 3 d three c.above-four.ensures in
    raised_more constant_levels 4 d four c.above.ensures
