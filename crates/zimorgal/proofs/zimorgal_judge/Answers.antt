-- `zimorgal::zimorgal_judge`: what judging gives as one number, and every part of it fits its bytes.
use Rattle.std.proofs.Common.{sym, subst}
use Rattle.zimorgal.specs.Calls.{Small}
use Rattle.zimorgal.specs.JudgementLaws.{judgement_small, judges_numbered}
use Rattle.zimorgal.proofs.zimorgal_judge.Goals as goal

pub judgement_number-requires : goal.judgement_number-requires
judgement_number-requires c = subst Small (sym c.judge.ensures.result) (judgement_small _ _)

pub returns : goal.returns
returns c =
    let e = c.judge.ensures in
    let N = judges_numbered _ _ _ (e.result, (e.model, e.shown)) _ c.judgement_number.ensures in
    record { result = N.0; model = N.1.0; shown = N.1.1 }
