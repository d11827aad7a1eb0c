-- The walk over the bytes tells whether all are the whole byte.
use Rattle.std.proofs.Common.{◌≡◌, rules}
use Rattle.std.proofs.lemmas.Iterator.{cases_from_all, YieldsList-from_slice}
use borrow.Author.Tests.{tests}
use Rattle.rows.proofs.BlockLaws.{filled_test}
use Rattle.rows.proofs.blocks.is_filled.Goals as goal

pub returns : goal.returns
returns c =
    let b = c.whole-byte.result in
    filled_test c.args.part.now c.args.full (λ j. (c.type_inv.part j).fits) b c.whole-byte.ensures _
    (cases_from_all _ _ _ (λ x. x ≡ b) (λ x. x ≡ b → ⊥) c.all.ensures.ran (YieldsList-from_slice c.args.part.now (cc))
    (λ x q k. search (rules, tests)) (λ x q k. search (rules, tests)))
