-- `extending::half`: the low half of a word, and the high one.
use Rattle.std.proofs.Common.{◌≡◌, ◌/◌, ◌%◌, eqb, sym, ap, ◌∙◌, arith}
use Rattle.extending.specs.WordLaws.{half_low, half_high}
use Rattle.extending.proofs.half.Goals as goal

pub returns-then-b-eq0 : goal.returns-then-b-eq0
returns-then-b-eq0 c k h = half_low 32 k h ∙ ap (eqb (k / 32)) (sym c.if-b-eq0.true)

pub returns-else-b-eq0 : goal.returns-else-b-eq0
returns-else-b-eq0 c k h =
    let e : c.args.b % 2 ≡ 1 = omega (arith, c.if-b-eq0.false) in
    half_high 32 k h ∙ ap (eqb (k / 32)) (sym e)
