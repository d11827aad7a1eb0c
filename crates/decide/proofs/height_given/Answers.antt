-- `decide::height_given` meets its contract: a solution is shown, or none is.
use Rattle.std.proofs.Common.{sym, ap, ◌∙◌, ◌+◌, arith}
use Rattle.decide.specs.Decision.{outline_of}
use Rattle.decide.specs.OutlineLaws.{heights_low, shown_height, no_height}
use Rattle.decide.proofs.height_given.Goals as goal

pub returns-then-not-is_shown : goal.returns-then-not-is_shown
returns-then-not-is_shown c q S = sym (no_height q c.args.finding (sym c.is_shown.ensures ∙ c.if-not-is_shown.true))

pub overflow_add-result : goal.overflow_add-result
overflow_add-result c =
    let (q, S) = c.requires in
    omega (arith, ap (λ o. o.height + o.splits) (c.outline-outline.ensures q S), heights_low _ q S c.search_of.result)

pub returns : goal.returns
returns c q S =
    ap (λ o. o.height + o.splits) (c.outline-outline.ensures q S)
    ∙ ap (λ s. (outline_of q s).height + (outline_of q s).splits) c.search_of.ensures
    ∙ shown_height q c.args.finding (sym c.is_shown.ensures ∙ c.if-not-is_shown.false)
