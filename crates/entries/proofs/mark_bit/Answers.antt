-- A bit is added where the words have one in common. Assumes nothing.
use Rattle.std.proofs.Common.{sym, ◌∙◌, arith}
use Rattle.shares.specs.Shifts.{power_shift}
use Rattle.entries.specs.BitLaws.{bit_added}
use Rattle.entries.proofs.mark_bit.Goals as goal

pub returns-then-have_common : goal.returns-then-have_common
returns-then-have_common c =
    rw (power_shift c.args.i (omega arith)) (bit_added _ _ _ (sym c.have_common.ensures ∙ c.if-have_common.true))
