-- Laws of blocks of leaves, for every number of leaves and of blocks. Assumes nothing.
use Rattle.std.specs.Prelude.{◌≡◌, ℕ, ◌+◌, ◌-◌, ◌*◌, ◌/◌, ◌^◌, ◌≤◌, ◌<◌}
use Rattle.std.proofs.Common.{ap, ◌∙◌, add-sub_of_le, arith, pow-add, shl_lt, shr_lt, shr-shr}
use Rattle.std.proofs.Math.Nat.{add-sub_cancel_left}
use Rattle.std.proofs.Math.Arith.{digits_lt}
use Rattle.std.proofs.lemmas.Nat.{shl-shr}
use Rattle.shares.specs.Blocks.{block_of, first_of}

pub block_lt : {h w i : ℕ} → h ≤ w → i < 2 ^ w → block_of h w i < 2 ^ h
block_lt {h} {w} {i} l u = shr_lt h (w - h) (rw (add-sub_of_le l) u)

pub first_lt : {h w b : ℕ} → h ≤ w → b < 2 ^ h → first_of h w b < 2 ^ w
first_lt {h} {w} {b} l u = rw (add-sub_of_le l) at (shl_lt h (w - h) u)

pub block_first : (h w b : ℕ) → block_of h w (first_of h w b) ≡ b
block_first h w b = shl-shr b (w - h)

-- blocks of blocks
pub block_block : {h w v : ℕ} (i : ℕ) → h ≤ w → w ≤ v → block_of h w (block_of w v i) ≡ block_of h v i
block_block {h} {w} {v} i l m = shr-shr i (v - w) (w - h) ∙ ap (λ (k : ℕ). i / 2 ^ k) (omega arith)

-- with h + k for w: sub-leaf r, of 2 ^ k, of block b
pub block_split : (h k i : ℕ) → block_of h (h + k) i ≡ i / 2 ^ k
block_split h k i = rw add-sub_cancel_left

pub leaf_lt : (h k : ℕ) {b r : ℕ} → b < 2 ^ h → r < 2 ^ k → b * 2 ^ k + r < 2 ^ (h + k)
leaf_lt h k u v = rw pow-add (digits_lt u v)
