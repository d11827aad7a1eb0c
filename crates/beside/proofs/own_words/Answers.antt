-- `beside::own_words` meets its contract.
use Rattle.std.proofs.Common.{◌≡◌, ◌+◌, ◌-◌, ◌*◌, ◌^◌, sym, ap, ◌∙◌, arith, mul-one, pow-add}
use Rattle.words.specs.Choices.{word_count}
use Rattle.beside.proofs.own_words.Goals as goal

pub returns-then-n-lt6 : goal.returns-then-n-lt6
unfolding word_count
returns-then-n-lt6 c =
    let e : c.args.n - 6 ≡ 0 = omega arith in
    ap (λ k. c.word_count.result * 2 ^ k) e ∙ mul-one c.word_count.result ∙ c.word_count.ensures

pub returns : goal.returns
unfolding word_count
returns c =
    let a = c.args in
    let e : a.m + (a.n - 6) ≡ a.n + a.m - 6 = omega arith in
    ap (λ k. k * 2 ^ (a.n - 6)) c.power.ensures ∙ sym (pow-add 2 a.m (a.n - 6)) ∙ ap (λ k. 2 ^ k) e
