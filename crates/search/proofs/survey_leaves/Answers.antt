-- `search::survey_leaves` meets its contract, in each of its outcomes.
use Rattle.std.proofs.Common.{Some, None, sym, ◌∙◌}
use Rattle.search.specs.WordLaws.{replicate_at}
use Rattle.search.specs.FoundLaws.{surveyed_none, surveyed_unmet, surveyed_missed}
use Rattle.search.proofs.survey_leaves.Goals as goal

pub pass_leaves-seen-requires : goal.pass_leaves-seen-requires
pass_leaves-seen-requires c = record { named = (tt, λ k. replicate_at 96 k 0); bounded = c.requires }

pub returns-then-not-all_found : goal.returns-then-not-all_found
returns-then-not-all_found c =
    surveyed_none _ _ _ _ _ _ c.pass_leaves-seen.ensures (sym c.all_found.ensures ∙ c.if-not-all_found.true)

pub returns-then-digit : goal.returns-then-digit
returns-then-digit c =
    surveyed_unmet _ _ _ _ _ _ c.pass_leaves-seen.ensures (sym c.all_found.ensures ∙ c.if-not-all_found.false)
    (sym c.digit.ensures ∙ c.if-digit.true)

pub returns-in-Some : goal.returns-in-Some
returns-in-Some c =
    surveyed_missed _ _ _ _ _ _ c.pass_leaves-seen.ensures (sym c.all_found.ensures ∙ c.if-not-all_found.false)
    (sym c.digit.ensures ∙ c.if-digit.false)
    (Some c.in-Some.j) c.in-Some.ensures

pub returns-in-None : goal.returns-in-None
returns-in-None c =
    surveyed_missed _ _ _ _ _ _ c.pass_leaves-seen.ensures (sym c.all_found.ensures ∙ c.if-not-all_found.false)
    (sym c.digit.ensures ∙ c.if-digit.false)
    None c.in-None.ensures
