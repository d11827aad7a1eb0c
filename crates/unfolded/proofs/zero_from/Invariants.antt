-- No bit of the words passed is set exactly if their bytes are 0.
use Rattle.std.proofs.Common.{◌≡◌, ◌↔◌, ◌*◌}
use Rattle.unfolded.specs.Unfolded.{ZeroBytes}
use Rattle.unfolded.proofs.zero_from.Given as goal

abbrev pub invariant-loop-w : goal.invariant-loop-w
invariant-loop-w l = l.all ≡ 0 ↔ ZeroBytes l.rows (8 * l.start) (8 * l.w)
