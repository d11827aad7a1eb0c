-- The text of a block is written: a leaf's sign, or the texts of both halves between brackets.
use Rattle.std.proofs.Common.{arith}
use Rattle.rows.proofs.BlockLaws.{halves_inside}
use Rattle.text.proofs.Steps.{at_room, leaf_put, above, left_room, right_room, last_room, pair_put}
use Rattle.text.proofs.+write_text.Goals as goal

pub bounds-buffer-at : goal.bounds-buffer-at
bounds-buffer-at t c = at_room c.args.row.now _ _ c.requires.inside c.args.at c.args.buffer.now c.requires.room

pub returns-then-sign-ne40 : goal.returns-then-sign-ne40
returns-then-sign-ne40 t c =
    leaf_put c.args.row.now _ _ c.requires.inside _ c.first_sign-sign.ensures c.if-sign-ne40.true _ _

pub halves-requires : goal.halves-requires
halves-requires t c = above c.args.row.now _ _ c.requires.inside _ c.first_sign-sign.ensures c.if-sign-ne40.false

pub write_text-middle-requires : goal.write_text-middle-requires
write_text-middle-requires t c =
    let (row, height, number) = c.halves.ensures.left in
    let high = above c.args.row.now _ _ c.requires.inside _ c.first_sign-sign.ensures c.if-sign-ne40.false in (
      omega (arith, high, height),
      (
        rw (height, number) (halves_inside _ _ _ high c.requires.inside).0,
        rw (height, number)
            (left_room c.args.row.now _ _ c.requires.inside _ c.first_sign-sign.ensures c.if-sign-ne40.false
            c.args.buffer.now _ c.requires.room),
      ),
    )

pub write_text-end-requires : goal.write_text-end-requires
write_text-end-requires t c =
    let (left-row, left-height, left-number) = c.halves.ensures.left in
    let (row, height, number) = c.halves.ensures.right in
    let high = above c.args.row.now _ _ c.requires.inside _ c.first_sign-sign.ensures c.if-sign-ne40.false in (
      omega (arith, high, height),
      (
        rw (height, number) (halves_inside _ _ _ high c.requires.inside).1,
        rw (height, number)
            (right_room c.args.row.now _ _ c.requires.inside _ c.first_sign-sign.ensures c.if-sign-ne40.false
            c.args.buffer.now _ c.requires.room _ _ (rw (left-height, left-number) at c.write_text-middle.ensures)),
      ),
    )

pub bounds-buffer-end : goal.bounds-buffer-end
bounds-buffer-end t c =
    let (left-row, left-height, left-number) = c.halves.ensures.left in
    let (right-row, right-height, right-number) = c.halves.ensures.right in
    last_room c.args.row.now _ _ c.requires.inside _ c.first_sign-sign.ensures c.if-sign-ne40.false
    c.args.buffer.now _ c.requires.room _ _ (rw (left-height, left-number) at c.write_text-middle.ensures)
    _ _ (rw (right-height, right-number) at c.write_text-end.ensures)

pub returns : goal.returns
returns t c =
    let (left-row, left-height, left-number) = c.halves.ensures.left in
    let (right-row, right-height, right-number) = c.halves.ensures.right in
    pair_put c.args.row.now _ _ c.requires.inside _ c.first_sign-sign.ensures c.if-sign-ne40.false
    c.args.buffer.now _ c.requires.room _ _ (rw (left-height, left-number) at c.write_text-middle.ensures)
    _ _ (rw (right-height, right-number) at c.write_text-end.ensures)

pub overflow_add-result-2 : goal.overflow_add-result-2
overflow_add-result-2 t c = omega (arith, (returns t c).end, c.requires.room, c.well_formed)
