-- A row that shows every entry is that of the tree.
use Rattle.std.proofs.Common.{length, ap, ◌∙◌}
use Rattle.std.proofs.Math.Dec.{lit≤}
use Rattle.shares.specs.Constant.{constant_levels}
use Rattle.rows.specs.Rows.{row_levels, row_bytes}
use Rattle.rows.proofs.RowLaws.{zeros_length}
use Rattle.show.specs.PlanLaws.{shows_plain, shows_all}
use Rattle.show.proofs.write_row.Goals as goal

pub write_sub_leaves-requires-clause-row_len : goal.write_sub_leaves-requires-clause-row_len
write_sub_leaves-requires-clause-row_len c = (
  c.write_leaves.auto.row ∙ ap length c.requires.row_value.0 ∙ zeros_length (row_bytes constant_levels),
  c.requires.row_value.1,
  shows_plain (row_levels constant_levels) _ c.requires.showable _ _ c.write_leaves.ensures,
)

pub returns : goal.returns
returns c =
    shows_all (row_levels constant_levels) _ c.requires.showable _ (lit≤ tt) _
    (c.write_sub_leaves.auto.row ∙ c.write_leaves.auto.row ∙ ap length c.requires.row_value.0
    ∙ zeros_length (row_bytes constant_levels))
    (λ j. (c.type_inv.row j).fits) c.write_sub_leaves.ensures
