-- A leaf more is a block more of the row.
use Rattle.std.proofs.Common.{ℕ, ◌-◌, ◌^◌, ◌≤◌, ◌<◌, Bool, List, length, get_or, sym, ap, ◌∙◌, subst, arith}
use Rattle.std.proofs.Math.Dec.{lit≤}
use Rattle.shares.specs.Constant.{constant_levels, bit}
use Rattle.shares.specs.BlockLaws.{block_lt}
use Rattle.rows.specs.Rows.{row_levels, row_bytes}
use Rattle.rows.proofs.RowLaws.{zeros_length}
use Rattle.rows.specs.Blocks.{Inside}
use Rattle.rows.proofs.BlockLaws.{leaf_inside, blocks_none, blocks_next, blocks_all}
use Rattle.show.proofs.LeafLaws.{leaves_taken}
use Rattle.show.proofs.write_leaves.Goals as goal

-- digit p of the choice at each leaf
abbrev digits : List ℕ → ℕ → ℕ → Bool
digits plain p k = bit (get_or plain k 0) p

pub loop-k-init : goal.loop-k-init
loop-k-init c = rw c.requires.1 (blocks_none _ (digits c.args.plan.now.plain c.args.p) (row_bytes constant_levels))

pub change_block-requires : goal.change_block-requires
change_block-requires c =
    let plan = c.args.plan.now in
    let l = c.loop-k in
    let within : plan.low ≤ row_levels constant_levels = omega arith in
    let below : l.k < 2 ^ plan.low = omega (arith, leaves_taken plan.low plan.plain c.requires.0 (omega arith)) in
    let bytes = l.auto.row ∙ ap length c.requires.1 ∙ zeros_length (row_bytes constant_levels) in (
      subst (Inside (row_levels constant_levels - plan.low) l.k) (sym bytes)
          (leaf_inside (lit≤ tt) (lit≤ tt) within below),
      blocks_next _ (digits plan.plain c.args.p) _ l.row l.invariant,
    )

pub returns : goal.returns
returns c i h =
    let plan = c.args.plan.now in
    let within : plan.low ≤ row_levels constant_levels = omega arith in
    blocks_all _ (digits plan.plain c.args.p) _ c.loop-k.row c.loop-k.invariant i
    (omega (arith, block_lt within h, leaves_taken plan.low plan.plain c.requires.0 (omega arith)))
