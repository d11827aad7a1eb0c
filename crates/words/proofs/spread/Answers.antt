-- All bits of a word of ones are set, and none of 0. Assumes nothing.
use Rattle.std.proofs.Common.{sym, ◌∙◌}
use Rattle.shares.specs.BitLaws.{bit_zero}
use Rattle.shares.specs.BitParts.{bit_ones}
use Rattle.words.proofs.spread.Goals as goal

pub returns-then-b : goal.returns-then-b
returns-then-b c i h = bit_ones 64 i h ∙ sym c.if-b.true

pub returns-else-b : goal.returns-else-b
returns-else-b c i h = bit_zero i ∙ sym c.if-b.false
