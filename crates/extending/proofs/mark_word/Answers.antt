-- `extending::mark_word`: the lowest leaf of the rest is one of those with its choice, so each turn makes the rest
-- smaller.
use Rattle.std.proofs.Common.{◌+◌, ◌-◌, ◌*◌, ◌^◌, arith, rules}
use Rattle.std.proofs.lemmas.Nat.{and_le_l}
use Rattle.std.proofs.Math.Pow.{pow_mono}
use Rattle.shares.specs.Constant.{constant_levels}
use Rattle.words.specs.LowestLaws.{lowest_set}
use Rattle.extending.specs.MarkLaws.{choice_lt, less_rest, rest_more, word_start, word_more, word_done}
use Rattle.extending.proofs.mark_word.Goals as goal

pub loop-rest-init : goal.loop-rest-init
loop-rest-init c =
    let a = c.args in
    record {
      fits = c.ranges.leaves.fits;
      long = c.told-present;
      within = λ k b. b;
      marked = word_start constant_levels a.table.now a.free a.w a.leaves a.present.now;
    }

pub same_choice-same-requires : goal.same_choice-same-requires
same_choice-same-requires c =
    let l = c.loop-rest in (
      c.requires.0,
      c.requires.1,
      (lowest_set l.rest c.lowest.result l.invariant.fits c.loop-rest-test.true c.lowest.ensures).0,
    )

pub mark-requires : goal.mark-requires
mark-requires c =
    let a = c.args in
    omega (
      arith,
      c.same_choice-same.ensures.choice,
      choice_lt constant_levels a.table.now a.free (64 * a.w + c.lowest.result),
      pow_mono {i = a.free} {j = 12} c.requires.0,
    )

pub loop-rest-smaller : goal.loop-rest-smaller
loop-rest-smaller c =
    let l = c.loop-rest in
    let same = c.same_choice-same in
    let here = lowest_set l.rest c.lowest.result l.invariant.fits c.loop-rest-test.true c.lowest.ensures in
    less_rest l.rest same.result.leaves c.lowest.result (omega arith) here (same.ensures.itself here)

pub loop-rest-preserved : goal.loop-rest-preserved
loop-rest-preserved c =
    let a = c.args in
    let l = c.loop-rest in
    let same = c.same_choice-same in
    let here = lowest_set l.rest c.lowest.result l.invariant.fits c.loop-rest-test.true c.lowest.ensures in
    record {
      fits = omega (arith, and_le_l l.rest ((2 ^ 64 - 1) - same.result.leaves), l.invariant.fits);
      long = search rules;
      within = λ k b. rest_more a.leaves l.rest same.result.leaves k l.invariant.within b;
      marked = word_more constant_levels a.table.now a.free a.w a.leaves l.rest c.lowest.result same.result.choice
          same.result.leaves a.present.now l.present _
          (omega arith) here l.invariant.within same.ensures l.invariant.marked c.mark.ensures;
    }

pub returns : goal.returns
returns c =
    let a = c.args in
    let l = c.loop-rest in
    word_done constant_levels a.table.now a.free a.w a.leaves l.rest a.present.now l.present c.loop-rest-test.false
    l.invariant.marked
