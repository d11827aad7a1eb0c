-- A turn sets the word of one constant. Assumes nothing.
use Rattle.std.proofs.Common.{◌≡◌, ◌∙◌, subst, T, arith}
use Rattle.shares.specs.Test.{and_left}
use Rattle.shares.specs.Constant.{bit}
use Rattle.words.specs.TableLaws.{words_none, words_more, terms_changed}
use Rattle.words.specs.LowestLaws.{set_below}
use Rattle.words.proofs.set_constants.Goals as goal

pub loop-i-init : goal.loop-i-init
loop-i-init c =
    let e : c.into_iter-i-iterator.result.rest ≡ c.args.named = cc in
    rw e (record { within = omega arith; among = λ k t. t; words = words_none _ _ _ })

pub bounds-terms-i : goal.bounds-terms-i
bounds-terms-i c = omega (arith, set_below 32 c.loop-i.i-iterator.rest _ (omega arith) c.in-Some.ensures.steps.set)

pub loop-i-preserved : goal.loop-i-preserved
loop-i-preserved c =
    let l = c.loop-i in
    let t = c.in-Some.ensures.steps in
    let here = set_below 32 l.i-iterator.rest _ (omega arith) t.set in
    record {
      within = omega (arith, t.less);
      among = λ k s. l.invariant.among k (and_left (bit l.i-iterator.rest k) _ (subst T (t.out k) s));
      words = words_more _ l.i-iterator.rest _ _ _ l.terms c.in-Some.i c.spread.result (omega arith) l.invariant.among
          t.set t.out
          (λ k h. c.spread.ensures k h ∙ c.digit.ensures) l.invariant.words;
    }

pub returns : goal.returns
returns c n m old w h wo wv =
    let l = c.loop-i in
    terms_changed n m c.args.named c.args.values old w c.args.terms.now l.terms h wo wv
    (rw c.in-None.ensures.steps at l.invariant.words)
