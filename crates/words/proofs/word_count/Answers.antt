-- A power of two by a shift. Assumes nothing.
use Rattle.std.proofs.Common.{◌≡◌, ◌∙◌, ap, ◌-◌, ◌^◌, arith}
use Rattle.shares.specs.Shifts.{power_shift}
use Rattle.words.specs.Choices.{word_count}
use Rattle.words.proofs.word_count.Goals as goal

pub returns : goal.returns
unfolding word_count
returns c =
    let k : c.saturating_sub.result ≡ c.args.d - 6 = omega (arith, c.saturating_sub.ensures) in
    power_shift c.saturating_sub.result (omega arith) ∙ ap (λ n. 2 ^ n) k
