-- Leaves that are unlike their neighbours, as bits of a number, and the height that they give. Assumes nothing.
use Rattle.std.specs.Prelude.{Bool, cond, ◌&&◌, ℕ, zero, suc, ◌/◌, ◌^◌, ltb, eqb}
use Rattle.std.specs.Int.Bits.{bit_and, bit_xor}
use Rattle.shares.specs.Blocks.{block_of}
use Rattle.shares.specs.Constant.{number_of}

-- bit i is set where bit i of a number is unlike bit i + 1
abbrev pub unlike : ℕ → ℕ
unlike x = bit_xor x (x / 2)

-- leaves i and i + 1, of 2 ^ w, are there and lie in one of the 2 ^ h blocks
abbrev pub inner : ℕ → ℕ → ℕ → Bool
inner h w i = ltb (suc i) (2 ^ w) && eqb (block_of h w i) (block_of h w (suc i))

-- the number of 2 ^ w bits that has `inner` as its bit i
unfoldable pub inner_mask : ℕ → ℕ → ℕ
inner_mask h w = number_of (2 ^ w) (inner h w)

-- where d has the unlike ones of 2 ^ w leaves: one more than the greatest height below h at which some is unlike its
-- neighbour in its block; 0 if none is
unfoldable pub raised : ℕ → ℕ → ℕ → ℕ
raised w zero d = 0
raised w (suc h) d = cond (eqb (bit_and d (inner_mask h w)) 0) (raised w h d) (suc h)
