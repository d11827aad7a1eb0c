-- The mask of a block of a byte. Assumes nothing.
use mathlib.Core.Path.{◌≡◌, ap, ◌∙◌}
use mathlib.Core.Bool.{Bool, ◌&&◌, beq}
use Prim.Native.Nat.{ℕ, ◌-◌, ◌*◌, ◌/◌, ◌^◌, ◌≤◌, ◌<◌, suc-le-suc}
use lib.Dec.{T, eqb, ltb, leb, ltb→lt, leb→le}
use lib.Pow.{pow_pos}
use Rattle.shares.specs.Test.{and_left, and_right, beq_iff}
use Rattle.shares.specs.Below.{every_below}
use Rattle.shares.specs.BelowLaws.{every_at}
use Rattle.shares.specs.Constant.{bit}

abbrev mask_of : ℕ → ℕ → ℕ
mask_of h a = (2 ^ (2 ^ h) - 1) * 2 ^ (a * 2 ^ h)

-- its rule as a test of every height and block
small : ℕ → ℕ → Bool
small h a = ltb (mask_of h a) 256 && (leb (2 ^ h) 8 && leb (a * 2 ^ h) 7)

right : ℕ → ℕ → ℕ → Bool
right h a i = beq (bit (mask_of h a) i) (eqb (i / 2 ^ h) a)

Rule : ℕ → ℕ → Bool
Rule h a = small h a && every_below 8 (right h a)

computed : T (every_below 4 (λ h. every_below (2 ^ (3 - h)) (Rule h)))
unfolding every_below Rule small right bit
computed = tt

-- as the code makes it: s leaves, p and m powers of two
module _ (h a : ℕ) (fits : (h ≤ 3) × (a < 2 ^ (3 - h))) where
  rule : T (Rule h a)
  rule = every_at (2 ^ (3 - h)) (Rule h)
      (every_at 4 (λ h. every_below (2 ^ (3 - h)) (Rule h)) computed h (suc-le-suc fits.0)) a fits.1

  sizes : T (small h a)
  unfolding Rule
  sizes = and_left (small h a) _ rule

  mask_lt : mask_of h a < 256
  unfolding small
  mask_lt = ltb→lt (mask_of h a) 256 (and_left (ltb (mask_of h a) 256) _ sizes)

  size_le : 2 ^ h ≤ 8
  unfolding small
  size_le = leb→le (2 ^ h) 8 (and_left (leb (2 ^ h) 8) _ (and_right (ltb (mask_of h a) 256) _ sizes))

  shift_le : a * 2 ^ h ≤ 7
  unfolding small
  shift_le = leb→le (a * 2 ^ h) 7 (and_right (leb (2 ^ h) 8) _ (and_right (ltb (mask_of h a) 256) _ sizes))

  module _ (s : ℕ) (es : s ≡ 2 ^ h) where
    pub mask_size : s ≤ 8
    mask_size = rw es size_le

    pub mask_shift : a * s ≤ 7
    mask_shift = rw es shift_le

    module _ (p : ℕ) (ep : p ≡ 2 ^ s) where
      pub ones_pos : 1 ≤ p
      ones_pos = rw ep (pow_pos s)

      module _ (m : ℕ) (em : m ≡ 2 ^ (a * s)) where
        mask_value : (p - 1) * m ≡ mask_of h a
        mask_value = rw (ep, em, es)

        pub mask_fits : (p - 1) * m < 256
        mask_fits = rw mask_value mask_lt

        pub mask_right : (i : ℕ) → i < 8 → bit ((p - 1) * m) i ≡ eqb (i / 2 ^ h) a
        unfolding Rule right
        mask_right i l = ap (λ n. bit n i) mask_value
            ∙ (beq_iff _ _).0 (every_at 8 (right h a) (and_right (small h a) _ rule) i l)
