-- The bytes that are filled are those of the rows.
use Rattle.std.proofs.Common.{ℕ, ◌++◌, replicate, drop, ap, ◌∙◌, rules}
use Rattle.std.proofs.lemmas.List.{length-take-le}
use Rattle.shares.specs.Constant.{constant_levels}
use Rattle.rows.specs.Rows.{answer_bytes, zeros}
use Rattle.rows.specs.Emptied.{emptied}
use Rattle.show.proofs.empty_rows.Goals as goal

pub returns : goal.returns
unfolding emptied zeros
returns c =
    let answer = c.args.answer.now in
    ap (λ l. l ++ drop (answer_bytes constant_levels) answer)
    (c.fill.ensures.after (λ y e. search rules)
    ∙ ap (λ (n : ℕ). replicate n 0) (length-take-le (answer_bytes constant_levels) answer c.requires))
