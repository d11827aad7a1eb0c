-- The words before are put, and no other has changed.
use Rattle.shares.specs.Constant.{constant_levels}
use Rattle.words.specs.Stored.{Stored}
use Rattle.unfolded.specs.Filling.{WordOf, constant_leaf}
use Rattle.unfolded.proofs.put_constant.Given as goal

abbrev pub invariant-loop-w : goal.invariant-loop-w
invariant-loop-w l = Stored l.start l.w (WordOf (constant_leaf constant_levels l.x)) l.initial.table l.table
