-- Entry p of the table of masks has bit i set where digit p of i is set. Assumes nothing.
use Rattle.std.proofs.Common.{◌≡◌, sym, ap, ◌∙◌, Bool, List, [], ◌∷◌, ℕ, ◌+◌, ◌*◌, ◌^◌, ◌<◌, T, get_or, arith}
use Rattle.std.proofs.Math.Bool.{beq}
use Rattle.shares.specs.Test.{beq_iff}
use Rattle.shares.specs.Below.{every_below}
use Rattle.shares.specs.BelowLaws.{every_at}
use Rattle.shares.specs.Constant.{bit}
use Rattle.shares.specs.BitParts.{bit_low}

abbrev pub masks : List ℕ
masks =
    0xAAAA_AAAA_AAAA_AAAA ∷ 0xCCCC_CCCC_CCCC_CCCC ∷ 0xF0F0_F0F0_F0F0_F0F0 ∷ 0xFF00_FF00_FF00_FF00
    ∷ 0xFFFF_0000_FFFF_0000
    ∷ 0xFFFF_FFFF_0000_0000 ∷ []

-- the rule of the table as a test
right : ℕ → Bool
right p = every_below 64 (λ i. beq (bit (get_or masks p 0) i) (bit i p))

computed : T (every_below 6 right)
unfolding every_below right bit
computed = tt

mask_bit : (p i : ℕ) → p < 6 → i < 64 → bit (get_or masks p 0) i ≡ bit i p
unfolding right
mask_bit p i hp hi =
    (beq_iff (bit (get_or masks p 0) i) (bit i p)).0
    (every_at 64 (λ j. beq (bit (get_or masks p 0) j) (bit j p)) (every_at 6 right computed p hp) i hi)

-- and so where digit p of choice 64 * w + i is
pub mask_digit : (p w i : ℕ) → p < 6 → i < 64 → bit (get_or masks p 0) i ≡ bit (64 * w + i) p
mask_digit p w i hp hi =
    let e : 64 * w + i ≡ w * 2 ^ 6 + i = omega arith in
    mask_bit p i hp hi ∙ sym (ap (λ z. bit z p) e ∙ bit_low 6 w i hi p hp)
