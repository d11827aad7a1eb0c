-- A variable is the digit of its digit. Assumes nothing.
use Rattle.words.specs.TermLaws.{position_free, position_own, has_digit}
use Rattle.words.proofs.variable_at.Goals as goal

pub returns-then-p-n : goal.returns-then-p-n
returns-then-p-n c = let a =
    c.args in rw (← (position_free a.n a.m a.p c.if-p-n.true)) (has_digit a.n a.m a.p c.requires.1)

pub returns : goal.returns
returns c = let a = c.args in rw (← (position_own a.n a.m a.p c.if-p-n.false)) (has_digit a.n a.m a.p c.requires.1)
