-- `pass::copy_leaf` meets its contract.
use Rattle.std.proofs.Common.{arith}
use Rattle.pass.specs.LeafLaws.{put_entry, copied}
use Rattle.pass.proofs.copy_leaf.Goals as goal

pub returns : goal.returns
returns c =
    let a = c.args in
    copied a.number a.like a.seen a.plains.now _
    (put_entry a.number a.plains.now a.like a.plains.now (omega arith))
