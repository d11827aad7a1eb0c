-- Bit by bit.
use Rattle.std.proofs.Common.{ap, ◌∙◌}
use Rattle.shares.specs.Tree.{is_way}
use Rattle.shares.specs.declared.Way.TheVariants.{Holds}
use Rattle.unfolded.specs.UnfoldedLaws.{join_bits}
use Rattle.unfolded.proofs.join_word.Goals as goal

pub returns : goal.returns
returns c i l =
    let a = c.args in
    let parts = c.part_words-parts in
    c.test_word.ensures i l ∙ ap (is_way Holds) (join_bits 16 a.table.now a.join a.w parts.result parts.ensures i l)
