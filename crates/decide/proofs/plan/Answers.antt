-- `decide::plan` meets its contract: the pairs are planned as the outline says.
use Rattle.std.proofs.Common.{ap, ◌∙◌}
use lib.Dec.{lit≤}
use Rattle.decide.specs.Decision.{outline_of}
use Rattle.decide.specs.PlannedLaws.{decided_fits, decided_planned}
use Rattle.decide.proofs.plan.Goals as goal

pub outline-requires : goal.outline-requires
outline-requires c = let (q, D) = c.requires.decided_for in (q, D.sizing)

pub plan_of-requires : goal.plan_of-requires
plan_of-requires c =
    let (q, D) = c.requires.decided_for in
    rw (c.outline.ensures q D.sizing ∙ ap (outline_of q) c.search_of.ensures)
    (decided_fits _ q D.sizing.standing.stands (lit≤ tt) _ _ _ D.decided c.requires.t)

pub returns : goal.returns
returns c q D =
    let e = c.outline.ensures q D.sizing ∙ ap (outline_of q) c.search_of.ensures in
    decided_planned _ q D.sizing.standing.stands (lit≤ tt) _ _ _ D.decided c.requires.t _
    (rw e at c.plan_of.ensures)
