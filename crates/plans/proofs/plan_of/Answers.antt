-- The tables of a problem's pairs give the problem's plan.
use Rattle.std.proofs.Common.{arith}
use Rattle.plans.specs.PairLaws.{leaves_le, made}
use Rattle.plans.proofs.plan_of.Goals as goal

pub fill_plain-requires : goal.fill_plain-requires
fill_plain-requires c =
    let leaves = c.power.ensures in
    let fits = c.requires.0 in (
      omega (arith, leaves, leaves_le c.args.outline c.args.firsts.now fits),
      fits.variables,
      λ b l. c.requires.1 b (rw leaves at l),
    )

pub returns : goal.returns
returns c R e P =
    let a = c.args in
    made a.outline a.firsts.now a.leaves.now R P e _ _ (λ b l. c.fill_plain.ensures b (rw c.power.ensures l))
    c.fill_entries.ensures
