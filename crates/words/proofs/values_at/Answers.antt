-- The leaf of a constant is the first of a block, and its number is found by a shift. Assumes nothing.
use Rattle.std.proofs.Common.{sym, subst, get_or, ◌&&◌, ◌≡◌, ℕ, ◌-◌, ◌*◌, ◌%◌, ◌^◌, ◌≤◌, ◌<◌, arith}
use Rattle.shares.specs.Constant.{constant_levels, bit}
use Rattle.shares.specs.BlockLaws.{first_lt}
use Rattle.shares.specs.Shifts.{power_shift}
use Rattle.words.specs.TermLaws.{values_is, within_lt}
use Rattle.words.proofs.values_at.Goals as goal

-- the shift is a power of two
power : (h : ℕ) → h ≤ 5 → 1 * 2 ^ (5 - h) % 2 ^ 64 ≡ 2 ^ (5 - h)
power h l = power_shift (5 - h) (omega arith)

pub leaf_values-requires : goal.leaf_values-requires
leaf_values-requires c =
    let (named, low, leaf) = c.requires in
    (named, subst (λ p. c.args.b * p < 64) (sym (power c.args.h low)) (omega (arith, first_lt {w = 5} low leaf)))

-- it fits, since no more than 32 constants are named
pub overflow_cast-result : goal.overflow_cast-result
overflow_cast-result c =
    record {
      fits = within_lt 32 c.args.named c.leaf_values.result _ c.requires.0 c.leaf_values.ensures (omega arith)
          c.leaf_values.type_inv;
    }

pub returns : goal.returns
returns c =
    let a = c.args in
    let r = c.leaf_values.result in
    let bits : (i : ℕ) → bit r i ≡ (bit a.named i && bit (get_or a.constants.now i 0) (a.b * 2 ^ (5 - a.h))) =
    subst (λ p. (i : ℕ) → bit r i ≡ (bit a.named i && bit (get_or a.constants.now i 0) (a.b * p)))
    (power a.h c.requires.1) c.leaf_values.ensures in
    values_is constant_levels _ _ _ _ r c.leaf_values.type_inv bits
