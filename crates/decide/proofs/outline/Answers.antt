-- `decide::outline` meets its contract: each part is the question's.
use Rattle.std.proofs.Common.{get_or, arith}
use Rattle.decide.specs.OutlineLaws.{room_most, count_sized, outline_sized}
use Rattle.decide.proofs.outline.Goals as goal

pub room_of-requires : goal.room_of-requires
room_of-requires c = let (q, S) = c.requires in count_sized _ q S

pub splits-requires : goal.splits-requires
splits-requires c =
    let (q, S) = c.requires in
    omega (arith, c.room_of.ensures, room_most c.args.search (get_or c.args.sizes.counts 1 0), count_sized _ q S)

pub returns : goal.returns
returns c q S = outline_sized _ q S c.args.search _ _ _ c.room_of.ensures c.splits.ensures c.extra_of.ensures
