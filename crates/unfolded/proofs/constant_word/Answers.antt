-- The halves of the word are those of two leaves.
use Rattle.std.proofs.Common.{ap, ◌∙◌, ◌+◌, ◌/◌, ◌^◌, arith}
use Rattle.shares.specs.BitParts.{bit_shift}
use Rattle.shares.specs.Constant.{constant_levels, bit}
use Rattle.unfolded.specs.Filling.{constant_leaf}
use Rattle.unfolded.specs.UnfoldedLaws.{word_halves}
use Rattle.unfolded.proofs.constant_word.Goals as goal

pub returns : goal.returns
returns c =
    let a = c.args in
    let low = c.spread-low in
    let high = c.spread-high in
    word_halves (constant_leaf constant_levels a.x) a.w (low.result / 2 ^ 32) (high.result / 2 ^ 32)
    (omega (arith, low.type_inv))
    (λ i l. bit_shift low.result 32 i ∙ low.ensures (32 + i) (omega arith) ∙ c.digit.ensures
    ∙ ap (bit a.x) (omega arith))
    (λ i l. bit_shift high.result 32 i ∙ high.ensures (32 + i) (omega arith) ∙ c.digit-2.ensures
    ∙ ap (bit a.x) (omega arith))
