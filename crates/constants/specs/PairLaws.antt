-- The number of a pair, from those of its halves, for every number of levels. Assumes nothing.
use Rattle.std.specs.Prelude.{◌≡◌, refl}
use Rattle.std.proofs.Common.{sym, ◌∙◌, lt_of_lt_of_le, pow_pos, pow-add, pow_mono}
use Prim.Native.Nat.{ℕ, zero, suc, ◌+◌, ◌-◌, ◌*◌, ◌^◌, ◌≤◌, ◌<◌}
use Rattle.std.proofs.Math.Nat.{two-pow-succ}
use native.Mathlib.Omega.{arith}
use Rattle.std.proofs.Math.Arith.{digits_lt}
use Rattle.std.proofs.Math.Pow.{pow-lt}
use Rattle.shares.specs.Tree.{Tree, pair, half, full, leaf_at}
use Rattle.shares.proofs.TreeLaws.{halves, leaf_left, leaf_right}
use Rattle.shares.specs.Constant.{bit, number_of, tree_number}
use Rattle.shares.specs.BitLaws.{bits_same}
use Rattle.shares.specs.BitParts.{bit_low, bit_high}
use Rattle.shares.proofs.ConstantLaws.{tree_number_lt, bit_tree_number}
use Rattle.constants.specs.Stacks.{pair_number}

squared : (k : ℕ) → 2 ^ (2 ^ suc k) ≡ 2 ^ (2 ^ k) * 2 ^ (2 ^ k)
squared k = let e : 2 ^ suc k ≡ 2 ^ k + 2 ^ k = omega (arith, two-pow-succ k) in rw e (pow-add 2 (2 ^ k) (2 ^ k))

-- two halves make up a number of twice the bits
pair_lt : (k x y : ℕ) → x < 2 ^ (2 ^ k) → y < 2 ^ (2 ^ k) → y * 2 ^ (2 ^ k) + x < 2 ^ (2 ^ suc k)
pair_lt k x y hx hy = rw (squared k) (digits_lt hy hx)

pub pair_tree_number : (k : ℕ) (l r : Tree)
    → tree_number k (pair l r) ≡ pair_number k (tree_number (k - 1) l) (tree_number (k - 1) r)
unfolding tree_number pair_number number_of leaf_at half full
pair_tree_number zero l r = refl
pair_tree_number (suc k) l r =
    let x = tree_number k l in
    let y = tree_number k r in
    let hx : x < 2 ^ (2 ^ k) = tree_number_lt k l in
    let e : suc k - 1 ≡ k = omega arith in
    rw e
    (bits_same (2 ^ suc k) (tree_number (suc k) (pair l r)) (y * 2 ^ (2 ^ k) + x) (tree_number_lt (suc k) (pair l r))
    (pair_lt k x y hx (tree_number_lt k r))
    (λ i u. bit_tree_number (suc k) (pair l r) i u
    ∙ halves (λ j. leaf_at (suc k) (pair l r) j ≡ bit (y * 2 ^ (2 ^ k) + x) j) k
    (λ j v. leaf_left k (pair l r) j v ∙ sym (bit_tree_number k l j v) ∙ sym (bit_low (2 ^ k) y x hx j v))
    (λ j v. leaf_right k (pair l r) j v ∙ sym (bit_tree_number k r j v) ∙ sym (bit_high (2 ^ k) y x hx j))
    i u))

-- ---- by the number of a half's full leaves

pub ones_room : (k levels : ℕ) → k ≤ levels → 2 ^ (2 ^ k) - 1 < 2 ^ (2 ^ levels)
ones_room k levels l = let p : 2 ^ (2 ^ k) ≤ 2 ^ (2 ^ levels) = pow_mono (pow_mono l) in omega (arith, pow_pos (2 ^ k))

module _ (k ones : ℕ) (e : ones ≡ 2 ^ (2 ^ (k - 1)) - 1) (above : k ≡ 0 → ⊥) where
  scale : ones + 1 ≡ 2 ^ (2 ^ (k - 1))
  scale = omega (arith, pow_pos (2 ^ (k - 1)))

  pub scale_room : (levels : ℕ) → k ≤ levels → ones + 1 < 2 ^ (2 ^ levels)
  scale_room levels l = rw scale (pow-lt (pow-lt (omega arith)))

  pub pair_number_lem : (x y : ℕ) → y * (ones + 1) + x ≡ pair_number k x y
  unfolding pair_number
  pair_number_lem x y = rw scale (go k above)
    where
      go : (k : ℕ) → (k ≡ 0 → ⊥) → y * 2 ^ (2 ^ (k - 1)) + x ≡ pair_number k x y
      go zero n = absurd (n refl)
      go (suc k) n = let e : suc k - 1 ≡ k = omega arith in rw e

  -- it is a number of so many leaves
  pub pair_room : (x y levels : ℕ) → k ≤ levels → x < 2 ^ (2 ^ (k - 1)) → y < 2 ^ (2 ^ (k - 1))
      → y * (ones + 1) + x < 2 ^ (2 ^ levels)
  pair_room x y levels l hx hy =
      let up : suc (k - 1) ≤ levels = omega arith in
      rw scale (lt_of_lt_of_le (pair_lt (k - 1) x y hx hy) (pow_mono (pow_mono up)))
