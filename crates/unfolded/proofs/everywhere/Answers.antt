-- The test holds at every leaf exactly if each of the words is full.
use Rattle.std.proofs.Common.{refl, ◌∙◌, rules}
use Rattle.std.proofs.lemmas.Iterator.{cases_from_all, YieldsList-from_range}
use borrow.Author.Tests.{tests}
use Rattle.shares.specs.BelowLaws.{every_first}
use Rattle.shares.specs.Constant.{constant_levels}
use Rattle.unfolded.specs.Unfolded.{row_words, join_at}
use Rattle.unfolded.proofs.Words.{FullWord, OpenWord, all_words}
use Rattle.unfolded.proofs.everywhere.Goals as goal

pub returns : goal.returns
returns c =
    let f = join_at (row_words constant_levels) c.args.table.now c.args.join in
    all_words f 16 _
    (cases_from_all _ _ _ (FullWord f) (OpenWord f) c.all.ensures.ran (YieldsList-from_range 0 16 16 refl refl)
    (λ x q k. search (rules, tests)) (λ x q k. search (rules, tests)))
    ∙ every_first 1024 f
