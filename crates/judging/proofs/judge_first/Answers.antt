-- `judging::judge_first`: each command says a clause that holds, one that is broken, no clause of the first system, or
-- the end.
use Rattle.std.proofs.Common.{sym, ◌∙◌, refl, arith}
use Rattle.judging.proofs.WalkLaws.{not_end, moves, gone_start, gone_led, first_refused, first_end, gone_other}
use Rattle.judging.proofs.WalkLaws.{gone_fits, first_broken, gone_first, first_few}
use Rattle.judging.proofs.judge_first.Goals as goal

pub loop-command-init : goal.loop-command-init
loop-command-init c = rw c.requires.1 (gone_led _ _ _ 32 0 (gone_start _ _ _))

pub returns-in-End : goal.returns-in-End
returns-in-End c = first_end _ _ _ c.loop-command.invariant (sym c.in-Ok.ensures) (rw c.in-End.is refl)

pub broken_by-requires : goal.broken_by-requires
broken_by-requires c =
    (gone_fits _ _ _ c.loop-command.invariant (sym c.in-Ok.ensures) (not_end _ c.in_default-command.not-End)
    (sym c.is_first.ensures ∙ c.if-is_first.true) c.requires.0.0 c.requires.0.1).0

pub returns-in-Some : goal.returns-in-Some
returns-in-Some c q rows constants named e laid =
    c.in-Some.ensures.1
    ∙ first_broken _ _ _ c.loop-command.invariant (sym c.in-Ok.ensures) (not_end _ c.in_default-command.not-End)
    (sym c.is_first.ensures ∙ c.if-is_first.true) c.in-Some.ensures.0 q rows constants named e laid

pub overflow_add-count : goal.overflow_add-count
overflow_add-count c =
    let F =
    gone_fits _ _ _ c.loop-command.invariant (sym c.in-Ok.ensures) (not_end _ c.in_default-command.not-End)
    (sym c.is_first.ensures ∙ c.if-is_first.true) c.requires.0.0 c.requires.0.1 in
    omega (arith, F.1, first_few _ c.requires.0.0 c.requires.0.1)

pub loop-command-smaller-in_default-broken_by : goal.loop-command-smaller-in_default-broken_by
loop-command-smaller-in_default-broken_by c = let M = moves _ _ (sym c.in-Ok.ensures) in omega (arith, M.0, M.1)

pub loop-command-preserved-in_default-broken_by : goal.loop-command-preserved-in_default-broken_by
loop-command-preserved-in_default-broken_by c =
    gone_first _ _ _ c.loop-command.invariant (sym c.in-Ok.ensures) (not_end _ c.in_default-command.not-End)
    (sym c.is_first.ensures ∙ c.if-is_first.true) c.in_default-broken_by.ensures

pub loop-command-smaller : goal.loop-command-smaller
loop-command-smaller c = let M = moves _ _ (sym c.in-Ok.ensures) in omega (arith, M.0, M.1)

pub loop-command-preserved : goal.loop-command-preserved
loop-command-preserved c =
    gone_other _ _ _ c.loop-command.invariant (sym c.in-Ok.ensures) (not_end _ c.in_default-command.not-End)
    (sym c.is_first.ensures ∙ c.if-is_first.false)

pub returns : goal.returns
returns c = first_refused _ _ _ c.loop-command.invariant _ (sym c.in_default.ensures)
