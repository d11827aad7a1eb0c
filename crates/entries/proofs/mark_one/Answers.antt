-- An empty word marks nothing, another one what it has in common. Assumes nothing.
use Rattle.std.proofs.Common.{arith}
use Rattle.shares.specs.Shifts.{power_shift}
use Rattle.entries.specs.MarkLaws.{marked_none, marked_more}
use Rattle.entries.proofs.mark_one.Goals as goal

pub returns-then-rows-j-eq0 : goal.returns-then-rows-j-eq0
returns-then-rows-j-eq0 c = marked_none _ _ _ _ _ c.requires.2 c.if-rows-j-eq0.true

pub returns : goal.returns
returns c =
    let a = c.args in
    rw (power_shift a.j (omega arith))
    (marked_more a.j a.count a.marks.wanted a.marks.here a.rows.now c.mark_of-mark.result c.still_wanted.result
    c.requires.2 (omega arith)
    (omega arith) c.if-rows-j-eq0.false c.mark_of-mark.ensures c.still_wanted.ensures)
