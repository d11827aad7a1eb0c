-- A row more is written into the part of the answer that is its own.
use Rattle.std.proofs.Common.{ℕ, ◌≡◌, ◌+◌, ◌*◌, ◌-◌, ◌<◌, ◌∙◌, arith}
use Rattle.shares.specs.Constant.{constant_levels}
use Rattle.plans.specs.Shown.{plan_trees}
use Rattle.rows.specs.Rows.{row_levels, row_bytes, row_count}
use Rattle.rows.proofs.RowLaws.{filled_emptied, filled_none, filled_next, filled_more}
use Rattle.show.proofs.write_rows.Goals as goal

part_size : (k : ℕ) → k + row_bytes constant_levels - k ≡ row_bytes constant_levels
part_size k = omega arith

pub loop-v-init : goal.loop-v-init
loop-v-init c =
    let a = c.args in
    rw c.empty_rows.ensures (filled_none (row_levels constant_levels) (plan_trees a.n a.plan) a.answer.now)

pub write_row-requires-clause-row_value : goal.write_row-requires-clause-row_value
write_row-requires-clause-row_value c =
    let a = c.args in
    let l = c.loop-v in
    let next : l.v < row_count = omega arith in (
      filled_next (row_levels constant_levels) (plan_trees a.n a.plan) _ l.v _ l.answer next
          (part_size (l.v * row_bytes constant_levels)) l.invariant,
      omega arith,
    )

pub loop-v-preserved : goal.loop-v-preserved
loop-v-preserved c =
    let a = c.args in
    let l = c.loop-v in
    let next : l.v < row_count = omega arith in
    filled_more (row_levels constant_levels) (plan_trees a.n a.plan) _ l.v _ l.answer next
    (part_size (l.v * row_bytes constant_levels)) l.invariant _ c.write_row.ensures

pub returns : goal.returns
returns c =
    let a = c.args in
    let all : c.loop-v.v ≡ a.n = omega arith in
    rw (all, c.empty_rows.ensures) at c.loop-v.invariant
    ∙ filled_emptied (row_levels constant_levels) (plan_trees a.n a.plan) a.answer.now a.n
