-- `extending::same_choice`: a choice of v variables is below 2 to the v, and one variable more is one digit more.
use Rattle.std.proofs.Common.{◌+◌, ◌*◌, arith}
use Rattle.std.proofs.Math.Pow.{pow_mono}
use Rattle.shares.specs.Constant.{constant_levels}
use Rattle.extending.specs.MarkLaws.{choice_lt, same_start, same_more}
use Rattle.extending.proofs.same_choice.Goals as goal

pub loop-v-init : goal.loop-v-init
loop-v-init c = let a = c.args in same_start constant_levels a.table.now a.w a.i a.leaves c.requires.2

pub with_digit-choice-requires : goal.with_digit-choice-requires
with_digit-choice-requires c =
    let a = c.args in
    let l = c.loop-v in
    omega (
      arith,
      l.invariant.choice,
      choice_lt constant_levels a.table.now l.v (64 * a.w + a.i),
      pow_mono {i = l.v} {j = 12} (omega arith),
    )

pub loop-v-preserved : goal.loop-v-preserved
loop-v-preserved c =
    let a = c.args in
    let l = c.loop-v in
    same_more constant_levels a.table.now a.w a.i a.leaves c.requires.2 l.v l.choice l.same
    c.word_of-x.result c.like-same.result c.with_digit-choice.result c.digit-digit.result
    c.word_of-x.ensures c.digit-digit.ensures c.with_digit-choice.ensures c.like-same.ensures l.invariant
