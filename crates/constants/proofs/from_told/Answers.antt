-- The three returns, by the tests before them.
use Rattle.std.proofs.Common.{sym, ap, ◌∙◌, arith}
use Rattle.std.proofs.lemmas.Bool.{not-true, not-false}
use Rattle.std.specs.Prelude.{Ok}
use Rattle.shares.specs.Test.{of_true}
use Rattle.shares.specs.Constant.{constant_levels}
use Rattle.constants.specs.FoldLaws.{folded_iff}
use Rattle.constants.specs.FromTextLaws.{tree_not_folded, tree_tall, tree_constant}
use Rattle.constants.proofs.from_told.Goals as goal

pub returns-then-not-told : goal.returns-then-not-told
returns-then-not-told c t o =
    sym
    (tree_not_folded constant_levels t
    (λ f. rw (← o.folded, not-true _ c.if-not-told.true) at ((folded_iff t).1 f)))

pub returns-then-told-gt-LEVELS : goal.returns-then-told-gt-LEVELS
returns-then-told-gt-LEVELS c t o =
    sym
    (tree_tall constant_levels t ((folded_iff t).0 (of_true (sym o.folded ∙ not-false _ c.if-not-told.false)))
    (omega (arith, o.height, c.if-told-gt-LEVELS.true)))

pub returns : goal.returns
returns c t o =
    sym
    (tree_constant constant_levels t ((folded_iff t).0 (of_true (sym o.folded ∙ not-false _ c.if-not-told.false)))
    (omega (arith, o.height, c.if-told-gt-LEVELS.false))
    ∙ ap Ok (sym o.leaves))
