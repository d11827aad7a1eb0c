-- `questions::keep::constants_in` meets its contract: three bits, of which the shift keeps the constants'.
-- Assumes nothing.
use mathlib.Core.Path.{◌≡◌, ap, ap₂, ◌∙◌}
use Prim.Native.Nat.{ℕ, ◌*◌, ◌/◌, ◌%◌, ◌^◌, ◌<◌}
use lib.Bits.{bit_or}
use Rattle.shares.specs.Shifts.{power_shift}
use Rattle.format.specs.NameLaws.{constants_are}
use Rattle.questions.proofs.keep.constants_in.Goals as goal

-- one bit, at the number of a part
one_bit : (k part : ℕ) → k ≡ part → part < 64 → (1 * 2 ^ k) % 2 ^ 64 ≡ 2 ^ part
one_bit k part e l = rw e (power_shift part l)

pub returns : goal.returns
returns c =
    let small = c.requires in
    ap (λ x. x / 2 ^ 32)
    (ap₂ bit_or
    (ap₂ bit_or (one_bit _ _ c.from.ensures small.0) (one_bit _ _ c.from-2.ensures small.1))
    (one_bit _ _ c.from-3.ensures small.2))
    ∙ constants_are c.args.join small
