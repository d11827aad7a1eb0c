-- Each sign, by the law of the stack with it on top.
use Rattle.std.proofs.Common.{refl, ap, ◌∙◌, true, false, ◌-◌, ◌^◌, arith}
use Rattle.std.specs.Prelude.{Some}
use Rattle.shares.specs.Constant.{constant_levels}
use Rattle.constants.specs.PairLaws.{ones_room}
use Rattle.constants.specs.StackedLaws.{steps_open, steps_leaf, steps_same}
use Rattle.constants.proofs.take_sign.Goals as goal

pub returns-in-40 : goal.returns-in-40
returns-in-40 c σ S room =
    steps_same constant_levels _ σ _ _ c.open_pair.ensures.items (ap Some c.open_pair.ensures.scan)
    (steps_open constant_levels c.args.items.now _ σ S room _ c.in-40.is)

pub returns-in-111 : goal.returns-in-111
returns-in-111 c σ S room =
    steps_same constant_levels _ σ _ _ c.put_leaf.ensures.items (ap Some c.put_leaf.ensures.scan)
    (steps_leaf constant_levels c.args.items.now _ σ S room _ false 0 c.in-111.is refl)

pub returns-in-42 : goal.returns-in-42
returns-in-42 c σ S room =
    steps_same constant_levels _ σ _ _ c.put_leaf-in-42.ensures.items (ap Some c.put_leaf-in-42.ensures.scan)
    (steps_leaf constant_levels c.args.items.now _ σ S room _ true _ c.in-42.is
    (c.full_leaves.ensures ∙ ap (λ k. 2 ^ (2 ^ k) - 1) c.levels_below.ensures))

pub put_leaf-requires-in-42 : goal.put_leaf-requires-in-42
put_leaf-requires-in-42 c = (
  omega (arith, c.requires.1.top, c.requires.2),
  rw c.full_leaves.ensures (ones_room _ constant_levels (omega (arith, c.levels_below.ensures))),
)
