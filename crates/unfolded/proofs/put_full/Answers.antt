-- The words of the part are all ones.
use Rattle.std.proofs.Common.{true, ◌^◌, ◌-◌, arith}
use Rattle.shares.specs.BitParts.{bit_ones}
use Rattle.unfolded.specs.Filling.{WordOf}
use Rattle.unfolded.proofs.Words.{stored_fill}
use Rattle.unfolded.proofs.put_full.Goals as goal

pub returns : goal.returns
returns c =
    rw c.from-start.ensures
    (stored_fill 208 16 (2 ^ 64 - 1) c.args.table.now (omega (arith, c.told-table)) (WordOf (λ i. true)) c.fill.new.self
    (rw c.from-start.ensures at (c.fill.ensures.after (λ y e. e)))
    (λ j. bit_ones 64))
