-- The low six digits are those of i, the others those of w. Assumes nothing.
use Rattle.std.proofs.Common.{◌≡◌, sym, ap, ◌∙◌, ◌+◌, ◌-◌, ◌*◌, arith}
use Rattle.shares.specs.Constant.{bit}
use Rattle.shares.specs.BitParts.{bit_high}
use Rattle.words.proofs.DigitMasks.{mask_digit}
use Rattle.words.proofs.digit_word.Goals as goal

pub returns-then-p-lt6 : goal.returns-then-p-lt6
returns-then-p-lt6 c i h = mask_digit c.args.p c.args.w i c.if-p-lt6.true h

pub returns : goal.returns
returns c i h =
    let a = c.args in
    let e : 6 + (a.p - 6) ≡ a.p = omega arith in
    c.spread.ensures i h ∙ c.digit.ensures
    ∙ sym (bit_high 6 a.w i h (a.p - 6)) ∙ ap (λ z. bit z (6 + (a.p - 6))) (omega arith) ∙ ap (bit (64 * a.w + i)) e
