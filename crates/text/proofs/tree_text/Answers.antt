-- The three returns, by the tests before them.
use Rattle.text.proofs.Answers.{room, written, too_long, not_a_row}
use Rattle.text.proofs.tree_text.Goals as goal

pub returns-then-row-ne-ROW_BYTES : goal.returns-then-row-ne-ROW_BYTES
returns-then-row-ne-ROW_BYTES c =
    let (answer, buffer) =
    not_a_row _ c.args.row.now c.args.buffer.now c.if-row-ne-ROW_BYTES.true in
    record { answer = answer; buffer = buffer }

pub returns-then-not-text_fits : goal.returns-then-not-text_fits
returns-then-not-text_fits c =
    let (answer, buffer) =
    too_long _ c.args.row.now c.args.buffer.now c.if-row-ne-ROW_BYTES.false _
    c.text_fits.ensures c.if-not-text_fits.true in
    record { answer = answer; buffer = buffer }

pub write_text-requires-clause-room : goal.write_text-requires-clause-room
write_text-requires-clause-room c =
    room _ c.args.row.now c.args.buffer.now c.if-row-ne-ROW_BYTES.false _ c.text_fits.ensures c.if-not-text_fits.false

pub returns : goal.returns
returns c =
    let (answer, buffer) =
    written _ c.args.row.now c.args.buffer.now c.if-row-ne-ROW_BYTES.false _ c.text_fits.ensures
    c.if-not-text_fits.false
    _ _ c.write_text.ensures in
    record { answer = answer; buffer = buffer }
