-- A turn puts the part of one constant.
use Rattle.std.proofs.Common.{arith}
use Rattle.shares.specs.Constant.{constant_levels}
use Rattle.words.specs.LowestLaws.{set_below}
use Rattle.unfolded.specs.UnfoldedLaws.{parts_more}
use Rattle.unfolded.proofs.put_constants.Goals as goal

pub bounds-constants-c : goal.bounds-constants-c
bounds-constants-c c = set_below 32 c.loop-c.c-iterator.rest _ (omega arith) c.in-Some.ensures.steps.set

pub put_constant-requires : goal.put_constant-requires
put_constant-requires c = set_below 32 c.loop-c.c-iterator.rest _ (omega arith) c.in-Some.ensures.steps.set

pub loop-c-preserved : goal.loop-c-preserved
loop-c-preserved c =
    let l = c.loop-c in
    let t = c.in-Some.ensures.steps in
    record {
      within = omega (arith, t.less);
      parts = parts_more constant_levels (omega arith) _ _ l.c-iterator.rest _ c.in-Some.c t.out c.put_constant.ensures
          l.invariant.parts;
    }
