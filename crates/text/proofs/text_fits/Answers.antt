-- No text is longer than the longest, and another is counted.
use Rattle.std.proofs.Common.{ℕ, ◌≤◌, leb, length, sym, ap, ◌∙◌, le-leb, arith}
use Rattle.shares.specs.Constant.{constant_levels}
use Rattle.rows.specs.Rows.{row_levels}
use Rattle.text.specs.Texts.{row_text}
use Rattle.text.specs.TextLaws.{row_text_length}
use Rattle.text.proofs.Answers.{row_text_lem}
use Rattle.text.proofs.text_fits.Goals as goal

pub returns-then-room-ge-LONGEST_TEXT : goal.returns-then-room-ge-LONGEST_TEXT
returns-then-room-ge-LONGEST_TEXT c =
    let row = c.args.row.now in
    let short : length (row_text (row_levels constant_levels) row) ≤ c.args.room =
    omega (arith, row_text_length (row_levels constant_levels) row) in
    sym (le-leb _ _ short)

pub returns : goal.returns
returns c =
    ap (λ (n : ℕ). leb n c.args.room) (c.text_length.ensures.0 ∙ ap length (row_text_lem _ c.args.row.now))
