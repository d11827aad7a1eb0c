-- `steps::missed_word` meets its contract.
use Rattle.std.proofs.Common.{refl, sym, ap, ◌∙◌, ◌&&◌, not, ◌+◌, ◌*◌, arith, eq-eqb}
use Rattle.shares.specs.Test.{of_true}
use Rattle.shares.specs.Constant.{bit}
use Rattle.shares.specs.BitLaws.{bit_zero}
use Rattle.shares.specs.Shifts.{power_shift, power_bit}
use Rattle.steps.specs.Steps.{posed}
use Rattle.steps.specs.Tests.{second_differs}
use Rattle.steps.proofs.missed_word.Goals as goal

pub returns-then-x-eq0 : goal.returns-then-x-eq0
returns-then-x-eq0 c values t bits =
    let a = c.args in (
      t,
      λ i l. bit_zero i ∙ sym (ap (λ b. b && not (second_differs (posed a.question.now) values a.j (64 * a.w + i)))
          (sym (bits i l) ∙ ap (λ x. bit x i) c.if-x-eq0.true ∙ bit_zero i)),
    )

pub returns : goal.returns
returns c values t bits =
    let a = c.args in
    let M = c.missing.ensures.by_index values t in (
      M.0,
      λ i l.
          M.1.each a.j c.requires.1 (of_true
          (ap (λ x. bit x a.j) (power_shift a.j (omega (arith, a.question.now.readable.few))) ∙ power_bit a.j a.j
          ∙ eq-eqb a.j a.j refl)) i l
          ∙ ap (λ b. b && not (second_differs (posed a.question.now) values a.j (64 * a.w + i))) (bits i l),
    )
