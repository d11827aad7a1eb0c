-- Blocks of leaves: where 2 ^ w leaves make up 2 ^ h blocks, leaf b * 2 ^ (w - h) + r is sub-leaf r of block b. Assumes
-- nothing.
use Rattle.std.specs.Prelude.{ℕ, ◌-◌, ◌*◌, ◌/◌, ◌^◌}

-- the block, of 2 ^ h, that leaf i of 2 ^ w lies in
abbrev pub block_of : ℕ → ℕ → ℕ → ℕ
block_of h w i = i / 2 ^ (w - h)

-- the first leaf of block b
abbrev pub first_of : ℕ → ℕ → ℕ → ℕ
first_of h w b = b * 2 ^ (w - h)
