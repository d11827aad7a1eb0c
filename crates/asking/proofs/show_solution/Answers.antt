-- Where a solution is shown its plan's rows are written; where none is, nothing is.
use Rattle.std.proofs.Common.{sym, ap, ◌∙◌}
use Rattle.format.proofs.Callers.{levels_are}
use Rattle.asking.proofs.DecidedLaws.{answer_shown, answer_kept}
use Rattle.asking.proofs.show_solution.Goals as goal

pub returns-then-is_shown : goal.returns-then-is_shown
returns-then-is_shown c = λ q D.
    c.write_rows.ensures
    ∙ answer_shown q _ _ _ _ D.decided _ (levels_are _ _ D.sizing.standing.stands)
    (sym c.is_shown.ensures ∙ c.if-is_shown.true) _ (c.plan-plan.ensures q D) _
    (ap (λ s. s.free) D.sizing.sized ∙ D.sizing.standing.stands.free) _

pub returns-else-is_shown : goal.returns-else-is_shown
returns-else-is_shown c = λ q D. answer_kept q _ _ _ _ D.decided (sym c.is_shown.ensures ∙ c.if-is_shown.false) _
