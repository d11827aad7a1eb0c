-- The length of the text of a block: a leaf has one sign, and a pair its halves' signs between brackets.
use Rattle.std.proofs.Common.{arith}
use Rattle.rows.proofs.BlockLaws.{halves_inside}
use Rattle.text.proofs.Steps.{leaf_counted, above, pair_counted}
use Rattle.text.proofs.+text_length.Goals as goal

pub returns-then-first_sign-ne40 : goal.returns-then-first_sign-ne40
returns-then-first_sign-ne40 t c =
    leaf_counted c.args.row.now _ _ c.requires _ c.first_sign.ensures c.if-first_sign-ne40.true

pub halves-requires : goal.halves-requires
halves-requires t c = above c.args.row.now _ _ c.requires _ c.first_sign.ensures c.if-first_sign-ne40.false

pub text_length-requires : goal.text_length-requires
text_length-requires t c =
    let (row, height, number) = c.halves.ensures.left in
    let high = above c.args.row.now _ _ c.requires _ c.first_sign.ensures c.if-first_sign-ne40.false in
    (omega (arith, high, height), rw (height, number) (halves_inside _ _ _ high c.requires).0)

pub text_length-requires-2 : goal.text_length-requires-2
text_length-requires-2 t c =
    let (row, height, number) = c.halves.ensures.right in
    let high = above c.args.row.now _ _ c.requires _ c.first_sign.ensures c.if-first_sign-ne40.false in
    (omega (arith, high, height), rw (height, number) (halves_inside _ _ _ high c.requires).1)

pub returns : goal.returns
returns t c =
    let (left-row, left-height, left-number) = c.halves.ensures.left in
    let (right-row, right-height, right-number) = c.halves.ensures.right in
    pair_counted c.args.row.now _ _ c.requires _ c.first_sign.ensures c.if-first_sign-ne40.false
    _ _ (rw (left-height, left-number) at c.text_length.ensures)
    (rw (right-height, right-number) at c.text_length-2.ensures)
