-- The halves have room at the height that the open pairs leave, and the stack has their pair on top.
use mathlib.Core.Path.{refl, ap, ◌∙◌}
use Prim.Native.Nat.{◌-◌}
use Rattle.shares.specs.Constant.{constant_levels}
use Rattle.constants.specs.StackedLaws.{halves_room, steps_close, steps_stop}
use Rattle.constants.proofs.close_pair.Goals as goal

pub pair_item-requires-clause-constant_levels_bound : goal.pair_item-requires-clause-constant_levels_bound
pair_item-requires-clause-constant_levels_bound c =
    halves_room constant_levels c.args.items.now c.args.scan c.requires.0 c.requires.1
    _ c.is_pair.ensures c.if-not-is_pair.false _ _ refl refl _
    (c.levels_below.ensures ∙ ap (λ s. constant_levels - s.pairs) c.closed_scan-next.ensures)

pub returns : goal.returns
returns c σ S room =
    rw (c.pair_item.ensures, c.closed_scan-next.ensures, c.equal_leaves.ensures)
    (steps_close constant_levels c.args.items.now _ σ S _ c.is_pair.ensures c.if-not-is_pair.false _ _ refl refl _
    (c.levels_below.ensures ∙ ap (λ s. constant_levels - s.pairs) c.closed_scan-next.ensures) room)

pub returns-then-not-is_pair : goal.returns-then-not-is_pair
returns-then-not-is_pair c σ S room =
    steps_stop constant_levels c.args.items.now _ σ S _ c.is_pair.ensures c.if-not-is_pair.true
