-- The number of a word says its leaf.
use Rattle.std.proofs.Common.{◌/◌, ap, ◌∙◌}
use Rattle.words.specs.KeptLaws.{lowest_in_lt}
use Rattle.plans.specs.PairLaws.{number_leaf}
use Rattle.plans.proofs.leaf_of.Goals as goal

pub returns : goal.returns
returns c =
    let kept = c.args.kept in
    ap (◌/◌ kept.word) c.word_digits.ensures.0 ∙ number_leaf kept.word _ c.args.free (lowest_in_lt kept.choices)
