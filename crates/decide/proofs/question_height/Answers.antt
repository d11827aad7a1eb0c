-- `decide::question_height` meets its contract.
use Rattle.std.proofs.Common.{◌≡◌, ap, ◌∙◌, subst, T, max, arith}
use Rattle.shares.specs.Test.{and_left}
use Rattle.shares.specs.Constant.{constant_levels, bit}
use Rattle.shares.specs.Unlike.{raised}
use Rattle.shares.proofs.UnlikeLaws.{unlike_height, raised_none, raised_or}
use Rattle.words.specs.LowestLaws.{set_below}
use Rattle.decide.specs.TallestLaws.{found_none, found_more, found_all}
use Rattle.decide.proofs.question_height.Goals as goal

pub loop-i-init : goal.loop-i-init
loop-i-init c =
    let e : c.into_iter-i-iterator.result.rest ≡ c.args.named = cc in
    rw e (record { among = λ k t. t; found = rw (raised_none constant_levels constant_levels) (found_none _ _ _) })

pub bounds-constants-i : goal.bounds-constants-i
bounds-constants-i c = set_below 32 c.args.named _ c.requires.0 (c.loop-i.invariant.among _ c.in-Some.ensures.steps.set)

pub overflow_cast-constants : goal.overflow_cast-constants
overflow_cast-constants c = omega (
  arith,
  c.requires.1 c.in-Some.i (c.loop-i.invariant.among _ c.in-Some.ensures.steps.set),
)

pub loop-i-preserved : goal.loop-i-preserved
loop-i-preserved c =
    let l = c.loop-i in
    let t = c.in-Some.ensures.steps in
    let higher =
    raised_or constant_levels constant_levels l.leaves c.unlike-leaves.result
    ∙ ap (max (raised constant_levels constant_levels l.leaves))
    (ap (raised constant_levels constant_levels) c.unlike-leaves.ensures ∙ unlike_height constant_levels _) in
    record {
      among = λ k s. l.invariant.among k (and_left (bit l.i-iterator.rest k) _ (subst T (t.out k) s));
      found = rw higher (found_more constant_levels c.args.constants.now c.args.named l.i-iterator.rest _ _ c.in-Some.i
          (l.invariant.among _ t.set) t.out l.invariant.found);
    }

pub returns : goal.returns
returns c =
    let l = c.loop-i in
    c.unlike_height.ensures
    ∙ found_all constant_levels c.args.constants.now c.args.named _ (λ i t. set_below 32 c.args.named i c.requires.0 t)
    (rw c.in-None.ensures.steps at l.invariant.found)
