-- The rows, the part that is always full and the constants, put one after the other.
use Rattle.std.proofs.Common.{arith}
use Rattle.shares.specs.Constant.{constant_levels}
use Rattle.unfolded.specs.UnfoldedLaws.{unfolded_all}
use Rattle.unfolded.proofs.unfold.Goals as goal

pub returns : goal.returns
returns c =
    unfolded_all constant_levels (omega arith) c.args.rows.now c.args.constants.now c.args.named c.requires.0
    c.requires.2
    c.put_rows.ensures c.put_full.ensures c.put_constants.ensures
