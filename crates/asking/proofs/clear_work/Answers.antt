-- The bytes that are filled are the work area's first.
use Rattle.std.proofs.Common.{rules}
use Rattle.std.proofs.lemmas.List.{length-take-le}
use Rattle.asking.specs.AskingLaws.{cleared}
use Rattle.asking.proofs.clear_work.Goals as goal

pub returns : goal.returns
returns c = cleared c.args.work.now _ _ (c.fill.ensures.after (λ y e. search rules))
    (length-take-le _ c.args.work.now c.requires)
