-- How a test comes out, bit by bit. Assumes nothing.
use Rattle.words.specs.ClauseLaws.{sum_words, apart_words}
use Rattle.words.proofs.ways_word.Goals as goal

pub returns-then-form-eq0 : goal.returns-then-form-eq0
returns-then-form-eq0 c =
    let a = c.args in
    sum_words a.a a.b a.c c.ranges.a.fits c.ranges.b.fits c.ranges.c.fits a.form c.if-form-eq0.true

pub returns : goal.returns
returns c =
    let a = c.args in
    apart_words a.a a.b a.c c.ranges.a.fits c.ranges.b.fits c.ranges.c.fits a.form c.if-form-eq0.false
