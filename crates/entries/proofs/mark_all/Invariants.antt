-- The marks that are no longer among the rest are seen to. Assumes nothing.
use Rattle.entries.specs.Entry.{MarkedBut}
use Rattle.entries.proofs.mark_all.Given as goal

abbrev pub invariant-loop-j : goal.invariant-loop-j
invariant-loop-j l =
    MarkedBut l.j-iterator.rest l.second_count l.first_count l.fn.marks.wanted l.fn.marks.here l.initial.rows l.r.wanted
    l.r.here l.rows
