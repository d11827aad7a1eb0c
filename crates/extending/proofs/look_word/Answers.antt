-- `extending::look_word`: without a choice nothing is asked; else what is missing says whether one fails, and what the
-- choices leave.
use Rattle.std.proofs.Common.{◌%◌, T, subst, ap, ◌∙◌, arith}
use Rattle.shares.specs.Constant.{bit}
use Rattle.shares.specs.BitLaws.{bit_zero}
use Rattle.steps.specs.Steps.{posed}
use Rattle.extending.specs.Looks.{InWord}
use Rattle.extending.specs.LookLaws.{looked_none, merged_free, word_unmet, word_met}
use Rattle.extending.proofs.look_word.Goals as goal

pub returns-then-choices-eq0 : goal.returns-then-choices-eq0
returns-then-choices-eq0 c values v t = (
  (v, t),
  looked_none _ _ _ (InWord c.args.w c.args.choices) c.args.wanted (λ d (e, u).
      subst T (ap (λ x. bit x (d % 64)) c.if-choices-eq0.true ∙ bit_zero (d % 64)) u),
)

pub missing-none-requires : goal.missing-none-requires
missing-none-requires c =
    record {
      w_bound = (
        c.requires,
        omega arith,
        merged_free c.args.question.now.sizes.free c.args.choices _ c.merge_word-x.ensures,
      );
    }

pub returns-then-none-ne0 : goal.returns-then-none-ne0
returns-then-none-ne0 c values v t =
    let a = c.args in
    let missing = c.missing-none in
    let (placed, M) = missing.ensures.by_index values (c.move_terms.ensures values v t) in (
      (a.w, placed),
      word_unmet (posed a.question.now) values a.w a.choices c.merge_word-x.result a.wanted missing.result _ c.requires
          c.merge_word-x.ensures M missing.type_inv c.if-none-ne0.true,
    )

pub returns : goal.returns
returns c values v t =
    let a = c.args in
    let missing = c.missing-none in
    let (placed, M) = missing.ensures.by_index values (c.move_terms.ensures values v t) in (
      (a.w, placed),
      word_met (posed a.question.now) values a.w a.choices c.merge_word-x.result a.wanted missing.result _ c.requires
          c.merge_word-x.ensures M c.still_wanted.result (omega (arith, c.args.question.now.readable.few))
          c.if-none-ne0.false c.still_wanted.ensures,
    )
