-- `extending::look_leaf`: an earlier leaf has the values of leaf b, or all choices below leaves that look like it are
-- looked at.
use Rattle.std.proofs.Common.{◌≡◌, ℕ, Option, Some, None, IfSome, is_some, true, sym, ◌∙◌, arith}
use Rattle.std.proofs.lemmas.Bool.{false≢true}
use Rattle.words.specs.Table.{Within}
use Rattle.steps.specs.Steps.{posed}
use Rattle.extending.specs.LookLaws.{leaf_known, leaf_looked}
use Rattle.extending.proofs.look_leaf.Goals as goal

-- the value that is there
there : {P : ℕ → Type 0} (o : Option ℕ) → IfSome o P → is_some o ≡ true → (a : ℕ) × P a
there None h e = absurd (false≢true e)
there (Some a) h e = (a, h)

pub returns-then-is_some-clause-by_index : goal.returns-then-is_some-clause-by_index
returns-then-is_some-clause-by_index c start K L =
    let a = c.args in
    let (e, (l, same)) = there _ c.first_like.ensures (sym c.is_some.ensures ∙ c.if-is_some.true) in
    leaf_known (posed a.question.now) a.table.now a.keys.now a.b start a.wanted c.requires.0 K L e l same

pub returns-clause-placed_within : goal.returns-clause-placed_within
returns-clause-placed_within c =
    let a = c.args in
    let (old, v, within, t) = c.requires.3 in
    let inside : Within a.question.now.sizes.named c.from.result = rw c.from.ensures c.requires.2 in
    let placed = c.set_constants.ensures a.question.now.sizes.free a.question.now.sizes.own old v
    a.question.now.readable.variables within inside t in
    let (u, w) = (c.look_words.ensures c.from.result v placed).0 in
    (c.from.result, u, inside, w)

pub returns-clause-by_index : goal.returns-clause-by_index
returns-clause-by_index c start K L =
    let a = c.args in
    let (old, v, within, t) = c.requires.3 in
    let inside : Within a.question.now.sizes.named c.from.result = rw c.from.ensures c.requires.2 in
    let placed = c.set_constants.ensures a.question.now.sizes.free a.question.now.sizes.own old v
    a.question.now.readable.variables within inside t in
    leaf_looked (posed a.question.now) a.table.now a.keys.now a.b start a.wanted c.requires.0 K L 64 _ _
    (omega (arith, a.question.now.readable.few)) c.mark_alike.ensures
    (rw c.from.ensures at (c.look_words.ensures c.from.result v placed).1)
