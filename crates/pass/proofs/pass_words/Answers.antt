-- `pass::pass_words` meets its contract.
use Rattle.std.proofs.Common.{◌≡◌, refl, ◌∙◌, arith}
use Rattle.words.specs.Choices.{word_count}
use Rattle.steps.specs.Steps.{posed}
use Rattle.pass.specs.LeafLaws.{amid_done}
use Rattle.pass.proofs.pass_words.Goals as goal

pub loop-w-init : goal.loop-w-init
loop-w-init c = record { placed = c.requires.2; terms = λ values v t. (v, t); amid = λ h v t A. A; possible = refl }

pub returns-then-is_done-clause-by_index_2 : goal.returns-then-is_done-clause-by_index_2
returns-then-is_done-clause-by_index_2 c h v t A =
    let a = c.args in
    let l = c.loop-w in
    amid_done (posed a.question.now) h a.search a.number l.w (word_count a.question.now.sizes.free) l.r l.firsts l.rows
    (omega (arith, c.loop-w-test.true, c.word_count-w-end.ensures))
    (c.is_done.ensures c.if-is_done.true) (l.invariant.amid h v t A)

pub pass_word-r-requires : goal.pass_word-r-requires
pass_word-r-requires c =
    let (values, v, t) = c.loop-w.invariant.placed in (
      c.requires.0,
      c.requires.1,
      omega (arith, c.loop-w-test.true, c.word_count-w-end.ensures),
      (values, c.move_terms.ensures values v t),
    )

pub loop-w-preserved : goal.loop-w-preserved
loop-w-preserved c =
    let l = c.loop-w in
    let moved = c.move_terms.ensures in
    let passed = c.pass_word-r.ensures in
    record {
      placed = let (values, v, t) = l.invariant.placed in (values, l.w, passed.by_index values (moved values v t));
      terms = λ values v t. (let (u, s) =
          l.invariant.terms values v t in (l.w, passed.by_index values (moved values u s)));
      amid = λ h v t A. (let (u, s) = l.invariant.terms _ v t in
          passed.by_index_2 h c.args.question.now.constants.now (moved _ u s) (l.invariant.amid h v t A));
      possible = passed.possible_value ∙ l.invariant.possible;
    }

pub returns-clause-by_index_2 : goal.returns-clause-by_index_2
returns-clause-by_index_2 c h v t A =
    let l = c.loop-w in
    let e : l.w ≡ word_count c.args.question.now.sizes.free =
    omega (arith, c.loop-w-test.false, c.word_count-w-end.ensures) in
    rw e at (l.invariant.amid h v t A)
