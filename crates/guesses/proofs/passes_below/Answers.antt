-- The first choice of the word lies so far before `end`: by 64 or more, or by fewer.
use Rattle.std.proofs.Common.{◌*◌, arith}
use Rattle.guesses.specs.GuessLaws.{passes_behind, passes_within}
use Rattle.guesses.proofs.passes_below.Goals as goal

pub returns-then-end-start-ge64 : goal.returns-then-end-start-ge64
returns-then-end-start-ge64 c =
    let a = c.args in
    passes_behind a.passing.choices (64 * a.passing.word) a.end c.if-end-start-ge64.true

pub returns : goal.returns
returns c =
    let a = c.args in
    passes_within a.passing.choices (64 * a.passing.word) a.end (omega arith) c.if-end-start-ge64.false
