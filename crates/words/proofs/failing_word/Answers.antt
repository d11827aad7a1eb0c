-- The bits of x but those at which the clause holds. Assumes nothing.
use Rattle.std.proofs.Common.{ap, ◌∙◌, ◌&&◌}
use Rattle.shares.specs.Constant.{bit}
use Rattle.shares.specs.BitLaws.{bit_of_and}
use Rattle.words.specs.ClauseLaws.{not_bits}
use Rattle.words.proofs.failing_word.Goals as goal

pub returns : goal.returns
returns c i h =
    bit_of_and _ _ i ∙ ap (◌&&◌ (bit c.args.x i))
    (not_bits c.clause_word.result i _ c.clause_word.type_inv h (c.clause_word.ensures i h))
