-- `steps::second_word` meets its contract.
use Rattle.std.proofs.Common.{sym, ◌∙◌}
use Rattle.steps.specs.SecondLaws.{second_before, second_alone, second_marked}
use Rattle.steps.proofs.second_word.Goals as goal

pub returns-then-digit-clause-by_index : goal.returns-then-digit-clause-by_index
returns-then-digit-clause-by_index c values t =
    let a = c.args in
    let q = a.question.now in (
      t,
      λ constants first. second_before q.sizes q.clauses.now constants values a.at a.seen _ _ (sym c.digit.ensures
          ∙ c.if-digit.true),
    )

pub returns-then-seen-eq0-clause-by_index : goal.returns-then-seen-eq0-clause-by_index
returns-then-seen-eq0-clause-by_index c values t =
    let a = c.args in
    let q = a.question.now in
    let M = c.missing-none.ensures in (
      (M.by_index values t).0,
      λ constants first Z.
          second_alone q.sizes q.clauses.now constants q.readable values a.at a.seen _ _ first _ _
          (M.by_index values t).1 M.by_index_2 (sym c.digit.ensures ∙ c.if-digit.false) Z _ _
          c.keep_word-met.ensures c.if-seen-eq0.true,
    )

pub returns-clause-by_index : goal.returns-clause-by_index
returns-clause-by_index c values t =
    let a = c.args in
    let q = a.question.now in
    let M = c.missing-none.ensures in
    let F = c.fill_failing-any.ensures in (
      (M.by_index values t).0,
      λ constants first Z.
          second_marked q.sizes q.clauses.now constants q.readable values a.at a.seen _ _ first _ _
          (M.by_index values t).1 M.by_index_2 (sym c.digit.ensures ∙ c.if-digit.false) Z _ _
          c.keep_word-met.ensures c.missing-none.new.terms _ (M.by_index values t).0 F.by_index F.by_index_2 _ _ _
          c.mark_all-more.ensures,
    )
