-- The test holds where it fails in none of the three ways. Assumes nothing.
use Rattle.std.proofs.Common.{rules}
use Rattle.words.specs.ClauseLaws.{holds_word}
use Rattle.words.proofs.test_word.Goals as goal

pub returns : goal.returns
returns c i h =
    let a = c.args in
    holds_word a.form a.a a.b a.c _ c.ways_word-ways.ensures (search rules) (search rules) (search rules) i h
