-- The leaf is a bit of one word of each part.
use Rattle.std.proofs.Common.{◌≡◌, ap, ◌∙◌, ◌+◌, ◌*◌, ◌/◌, ◌%◌, arith}
use Rattle.unfolded.specs.Unfolded.{join_way}
use Rattle.unfolded.specs.UnfoldedLaws.{join_bits}
use Rattle.unfolded.proofs.way_at.Goals as goal

pub returns : goal.returns
returns c =
    let a = c.args in
    let parts = c.part_words-parts in
    let here : 64 * (a.leaf / 64) + a.leaf % 64 ≡ a.leaf = omega arith in
    c.way_at.ensures a.join.form _ _ _ c.ways_word-ways.ensures
    ∙ join_bits 16 a.table.now a.join (a.leaf / 64) parts.result parts.ensures (a.leaf % 64) (omega arith)
    ∙ ap (join_way 16 a.table.now a.join) here
