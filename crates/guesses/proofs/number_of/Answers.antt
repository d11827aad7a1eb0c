-- One value more is one digit more of the number, which has at most 12.
use Rattle.std.proofs.Common.{ℕ, ◌≡◌, ◌+◌, ◌*◌, ◌≤◌, ◌<◌, List, length, take, get_or, ap₂, ◌∙◌, arith, rules}
use Rattle.std.proofs.lemmas.List.{get_or-take, length-take-le}
use Rattle.guesses.specs.Guesses.{choice_number}
use Rattle.guesses.specs.GuessLaws.{number_lt, number_more, few}
use Rattle.guesses.proofs.number_of.Goals as goal

-- a value among the first `free` is that of the variable
first : (values : List ℕ) (free i : ℕ) → free ≤ length values → i < length (take free values)
    → (i < free) × (get_or (take free values) i 0 ≡ get_or values i 0)
first values free i h l =
    let below : i < free = omega (arith, length-take-le free values h) in
    (below, get_or-take free values i 0 below)

pub loop-value-init : goal.loop-value-init
unfolding choice_number
loop-value-init c = search rules

pub overflow_mul-number : goal.overflow_mul-number
overflow_mul-number c =
    let l = c.loop-value in
    let below = first c.args.values c.args.free l.value-index (omega arith) c.loop-value-test.true in
    omega (arith, number_lt l.value-index c.args.values c.requires.1, few {k = l.value-index} (omega arith))

pub overflow_add-number : goal.overflow_add-number
overflow_add-number c =
    let l = c.loop-value in
    let below = first c.args.values c.args.free l.value-index (omega arith) c.loop-value-test.true in
    omega (
      arith,
      number_lt l.value-index c.args.values c.requires.1,
      few {k = l.value-index} (omega arith),
      c.requires.1 l.value-index,
    )

pub loop-value-preserved : goal.loop-value-preserved
loop-value-preserved c =
    let l = c.loop-value in
    let here = first c.args.values c.args.free l.value-index (omega arith) c.loop-value-test.true in
    ap₂ (λ n d. 2 * n + d) l.invariant (c.from.ensures ∙ here.1) ∙ number_more l.value-index c.args.values

pub returns : goal.returns
returns c =
    let l = c.loop-value in
    let e : l.value-index ≡ c.args.free = omega (arith, length-take-le c.args.free c.args.values (omega arith)) in
    rw e at l.invariant
