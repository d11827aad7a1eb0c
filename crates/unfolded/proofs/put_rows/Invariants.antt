-- The words before are put, and no other has changed.
use Rattle.words.specs.Stored.{Stored}
use Rattle.rows.specs.Rows.{row_leaf}
use Rattle.unfolded.specs.Filling.{WordOf}
use Rattle.unfolded.proofs.put_rows.Given as goal

abbrev pub invariant-loop-w : goal.invariant-loop-w
invariant-loop-w l = Stored 0 l.w (WordOf (row_leaf l.rows)) l.initial.table l.table
