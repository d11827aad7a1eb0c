-- Laws of words: when the first bits of one are all set, and what is read of equal ones. Assumes nothing.
use Rattle.std.specs.Prelude.{◌≡◌, refl, ℕ, zero, suc, ◌-◌, ◌^◌, ◌≤◌, ◌<◌, T, leb, get_or, replicate}
use Rattle.std.proofs.Common.{lt_of_lt_of_le, arith, T_not, leb→le, le→leb}
use Rattle.std.proofs.Math.Decide.{dec_lt}
use Rattle.shares.specs.Test.{same_test, holds}
use Rattle.shares.specs.Below.{every_below, first_below}
use Rattle.shares.specs.BelowLaws.{every_at, every_intro, first_below_lem, first_least}
use Rattle.shares.specs.Constant.{bit}
use Rattle.shares.specs.BitParts.{bit_not}

-- the first `count` of w bits are all set if the lowest that is not set is no lower
pub bits_all : (w x count : ℕ) → x < 2 ^ w → count ≤ w → leb count (first_below w (bit ((2 ^ w - 1) - x)))
    ≡ every_below count (bit x)
bits_all w x count small l =
    same_test (leb count lowest) (every_below count (bit x))
    (λ t. every_intro count (bit x) (λ i m. holds (bit x i) (λ u.
    T_not (bit others i) (first_least w (bit others) i (lt_of_lt_of_le m (leb→le count lowest t)))
    (rw (bit_not w x i small (omega arith)) u))))
    (λ t. le→leb count lowest (go t (dec_lt lowest count)))
  where
    others : ℕ
    others = (2 ^ w - 1) - x

    lowest : ℕ
    lowest = first_below w (bit others)

    go : T (every_below count (bit x)) → Dec (lowest < count) → count ≤ lowest
    go t (no n) = omega arith
    go t (yes m) =
        absurd (T_not (bit x lowest)
        (rw (bit_not w x lowest small (omega arith)) at (first_below_lem w (bit others) (omega arith)))
        (every_at count (bit x) t lowest m))

-- whatever is read of a list of equal words is that word
pub replicate_at : {A : Type 0} (n k : ℕ) (a : A) → get_or (replicate n a) k a ≡ a
replicate_at zero k a = refl
replicate_at (suc n) zero a = refl
replicate_at (suc n) (suc k) a = replicate_at n k a
