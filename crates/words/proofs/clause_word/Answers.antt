-- The test of the clause's three parts. Assumes nothing.
use Rattle.words.specs.Clause.{clause_test}
use Rattle.words.proofs.clause_word.Goals as goal

pub returns : goal.returns
unfolding clause_test
returns c i h = cc (c.test_word.ensures i h)
