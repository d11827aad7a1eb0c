-- `steps::pass_word` meets its contract.
use Rattle.std.proofs.Common.{◌≡◌, sym, ap, ◌∙◌, subst, ◌+◌, ◌*◌, ◌<◌, ℕ, List, arith}
use Rattle.shares.specs.BitLaws.{bit_zero}
use Rattle.shares.specs.Constant.{bit}
use Rattle.beside.specs.declared.Sizes.{Sizes}
use Rattle.steps.specs.declared.Search.{Search}
use Rattle.steps.specs.Steps.{stored_by, Settled}
use Rattle.steps.specs.StepLaws.{allowed_same, turn_lt, amid_none, amid_kept, amid_second}
use Rattle.steps.specs.Tests.{leaf_values, first_meets, allowed_in}
use Rattle.steps.proofs.SearchLaws.{not_unmet}
use Rattle.steps.proofs.pass_word.Goals as goal

-- no test of a leaf needs the constants themselves
allowed_as : (sizes : Sizes) (clauses from to : List ℕ) (search : Search) (values z : ℕ)
    → allowed_in (stored_by sizes clauses from) search values z
    ≡ allowed_in (stored_by sizes clauses to) search values z
allowed_as sizes clauses from to search values z = sym (allowed_same sizes clauses from search values z)
    ∙ allowed_same sizes clauses to search values z

pub returns-then-x-eq0-clause-by_index_2 : goal.returns-then-x-eq0-clause-by_index_2
returns-then-x-eq0-clause-by_index_2 c h constants t A =
    let a = c.args in
    let q = a.question.now in
    let W = c.allowed_word-x.ensures in
    amid_none q.sizes q.clauses.now constants h a.spot.leaf a.spot.word a.spot.search a.seen _ _ c.requires.2 A
    (λ k m. sym (allowed_as q.sizes q.clauses.now q.constants.now constants a.spot.search _ _)
    ∙ sym ((W.by_index _ t).1 k m) ∙ ap (λ x. bit x k) c.if-x-eq0.true ∙ bit_zero k)
    _ (λ e. (W.same_free e).1)

-- the number of a word is small
pub overflow_mul-turn : goal.overflow_mul-turn
overflow_mul-turn c =
    let a = c.args in
    let s = a.question.now.sizes in
    rw c.word_count.ensures (omega (
      arith,
      turn_lt s.free a.spot.leaf a.spot.word (omega (arith, a.question.now.readable.variables)) c.requires.1
          c.requires.2,
    ))

pub overflow_add-turn : goal.overflow_add-turn
overflow_add-turn c =
    let a = c.args in
    let s = a.question.now.sizes in
    rw c.word_count.ensures (omega (
      arith,
      turn_lt s.free a.spot.leaf a.spot.word (omega (arith, a.question.now.readable.variables)) c.requires.1
          c.requires.2,
    ))

pub returns-in-Unmet-clause-by_index_2 : goal.returns-in-Unmet-clause-by_index_2
returns-in-Unmet-clause-by_index_2 c h constants t A =
    let a = c.args in
    let q = a.question.now in
    let x = c.allowed_word-x in
    let e = c.in-Unmet.is in
    let Q = c.second_word.ensures in
    let U = x.ensures.by_index _ t in
    let bits = λ (k : ℕ) (m : k < 64). U.1 k m
    ∙ allowed_as q.sizes q.clauses.now q.constants.now constants a.spot.search _ _ in
    let same = (x.ensures.same_free e).1 in
    let S = stored_by q.sizes q.clauses.now constants in
    let v = leaf_values S h a.spot.leaf in
    let first : (j : ℕ) → j < 64 → bit x.result j ≡ first_meets S v (64 * a.spot.word + j) =
    λ j m. bits j m ∙ ap (λ s. allowed_in S s v (64 * a.spot.word + j)) e in
    amid_second q.sizes q.clauses.now constants h a.spot.leaf a.spot.word a.spot.search a.seen _ _ c.requires.2 A
    q.readable x.new.terms U.0 x.result bits _ _ c.keep_word-least.ensures _ _
    (rw c.word_count.ensures at c.keep_all-met.ensures)
    e _ _ _ (rw (
      c.word_count.ensures,
      same,
    ) at ((Q.by_index _ U.0).1 constants first (subst (λ r. Settled S a.seen r) (sym same) (A.settled e))))
    Q.possible_value.0 Q.possible_value.1 Q.possible_value.2

pub returns-in-First-clause-by_index_2 : goal.returns-in-First-clause-by_index_2
returns-in-First-clause-by_index_2 c h constants t A =
    let a = c.args in
    let q = a.question.now in
    let x = c.allowed_word-x in
    let U = x.ensures.by_index _ t in
    let bits = λ (k : ℕ) (m : k < 64). U.1 k m
    ∙ allowed_as q.sizes q.clauses.now q.constants.now constants a.spot.search _ _ in
    amid_kept q.sizes q.clauses.now constants h a.spot.leaf a.spot.word a.spot.search a.seen _ _ c.requires.2 A
    q.readable x.new.terms U.0 x.result bits _ _ c.keep_word-least.ensures _ _
    (rw c.word_count.ensures at c.keep_all-met.ensures)
    (not_unmet a.spot.search c.in-First.is) _
