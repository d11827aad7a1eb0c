-- `beside::missing` meets its contract: what the sweep leaves, shared among the bits with the same free digits.
use Rattle.std.proofs.Common.{◌≡◌, ◌∙◌, ◌≤◌, length, get_or, drop, arith, length-take, length-append}
use Rattle.beside.specs.SweepLaws.{swept_missing}
use Rattle.beside.proofs.FrontLaws.{front_kept, front_shared}
use Rattle.beside.proofs.missing.Goals as goal

-- the first words are as many as the second system's disequations, and no more than there are
filled : (c : goal.After-share_word) → length c.fill.new.self ≡ get_or c.args.question.now.sizes.counts 3 0
filled c =
    let count = get_or c.args.question.now.sizes.counts 3 0 in
    omega (
      arith,
      c.fill.auto.self,
      length-take count c.args.left.now,
      c.requires.w_bound.1,
      c.args.question.now.readable.few,
    )

room : (c : goal.After-share_word) → get_or c.args.question.now.sizes.counts 3 0 ≤ length c.sweep-none.new.left
room c =
    let count = get_or c.args.question.now.sizes.counts 3 0 in
    omega (arith, c.sweep-none.auto.left, length-append c.fill.new.self (drop count c.args.left.now), filled c)

shared : (c : goal.After-share_word) → length c.share_words.new.words ≡ get_or c.args.question.now.sizes.counts 3 0
shared c =
    let count = get_or c.args.question.now.sizes.counts 3 0 in
    omega (arith, c.share_words.auto.words, length-take count c.sweep-none.new.left, room c)

pub returns-clause-by_index : goal.returns-clause-by_index
returns-clause-by_index c values t =
    let a = c.args in
    let q = a.question.now in
    let s = q.sizes in
    let count = get_or s.counts 3 0 in
    let S = c.sweep-none.ensures.by_index values t in (
      c.move_terms.ensures values S.swept.at S.swept.table,
      swept_missing q.clauses.now s.counts s.free s.own values a.w a.x a.wanted c.sweep-none.result c.share_word.result
          _ c.sweep-none.new.left _
          c.requires.w_bound.0 c.requires.w_bound.2 c.share_word.ensures
          (front_shared count c.sweep-none.new.left c.share_words.new.words (shared c) s.free (room c)
          c.share_words.ensures) S,
    )

pub returns-clause-by_index_2 : goal.returns-clause-by_index_2
returns-clause-by_index_2 c k h =
    let count = get_or c.args.question.now.sizes.counts 3 0 in
    let few : count ≤ k = omega (arith, c.args.question.now.readable.few) in
    front_kept count c.sweep-none.new.left c.share_words.new.words (shared c) k few
    ∙ c.sweep-none.ensures.by_index_2 k h
    ∙ front_kept count c.args.left.now c.fill.new.self (filled c) k few
