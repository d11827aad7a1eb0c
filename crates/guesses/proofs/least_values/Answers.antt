-- A guess more halves the choices that are left: the least choice is in the lower half, or in the upper.
use Rattle.std.proofs.Common.{◌≡◌, ◌+◌, ◌-◌, ◌/◌, ltb, sym, ◌∙◌, ltb-true, ltb-false, arith}
use Rattle.words.specs.Kept.{least_number}
use Rattle.guesses.specs.GuessLaws.{guess_none, guess_empty, guess_full, guess_all, few}
use Rattle.guesses.proofs.least_values.Goals as goal
use Rattle.guesses.proofs.least_values.Goals.{then-not-passes_below, else-not-passes_below}

pub loop-v-init : goal.loop-v-init
loop-v-init c = let all : c.args.free - 0 ≡ c.args.free =
    omega arith in rw (all, c.power-span.ensures) (guess_none _ _ c.requires.1)

pub overflow_add-low : goal.overflow_add-low
overflow_add-low c = omega (arith, few c.requires.0, few {k = c.args.free - c.loop-v.v} (omega arith))

pub passes_below-requires : goal.passes_below-requires
passes_below-requires c = omega (arith, few c.requires.0)

pub overflow_add-low-then-not-passes_below : goal.overflow_add-low-then-not-passes_below
overflow_add-low-then-not-passes_below c =
    omega (arith, few c.requires.0, few {k = c.args.free - c.loop-v.v} (omega arith))

pub loop-v-preserved : goal.loop-v-preserved
loop-v-preserved c =
    let l = c.loop-v in
    let free = c.args.free in
    let left = free - l.v in
    let least = least_number c.args.passing in
    let end = l.low + l.span / 2 in
    let told : c.passes_below.result ≡ ltb least end = c.passes_below.ensures in
    let fewer : free - l.v - 1 ≡ free - (l.v + 1) = omega arith in
    let here : free - (free - l.v) ≡ l.v = omega (arith, c.loop-v-test.true) in
    elim c.if-not-passes_below.branch [
      | then-not-passes_below w ↦ rw (w.values-is, w.low-is)
          (rw fewer at (guess_full least free left l.values l.low l.span l.invariant (omega (arith, c.loop-v-test.true))
          c.requires.0 (ltb-false least end (sym told ∙ w.if-not-passes_below.true))))
      | else-not-passes_below w ↦ rw (w.values-is, w.low-is)
          (rw (fewer, here) at (guess_empty least free left l.values l.low l.span l.invariant
          (omega (arith, c.loop-v-test.true)) c.requires.0
          (ltb-true least end (sym told ∙ w.if-not-passes_below.false))))
    ]

pub returns : goal.returns
returns c =
    let l = c.loop-v in
    (l.invariant.digits, guess_all _ _ _ _ _ _ l.invariant (omega arith))
