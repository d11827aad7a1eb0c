-- Every field of what asking gives fits its bytes, and is read back from the number.
use Rattle.std.proofs.Common.{sym, subst}
use Rattle.zimorgal.specs.Fields.{InBytes}
use Rattle.zimorgal.specs.FitLaws.{outcome_fits}
use Rattle.zimorgal.proofs.PackedRight.{given_packed}
use Rattle.zimorgal.proofs.zimorgal_ask.Goals as goal

pub pack-requires : goal.pack-requires
pack-requires c = subst InBytes (sym c.ask.ensures.outcome) (outcome_fits _ _ _)

pub returns : goal.returns
returns c =
    let G = c.ask.ensures in
    given_packed c.args.question.now _ _ _ _ _ (record {
      outcome = G.outcome;
      answer = G.answer;
      work = G.work;
      model =
          G.model;
    }) _ c.pack.ensures
