-- How a table is filled: words of 64 leaves, put one after the other into its parts. Assumes nothing.
use Rattle.std.specs.Prelude.{◌≡◌, Bool, false, List, ℕ, ◌+◌, ◌*◌, ◌^◌, ◌<◌, T, get_or}
use Rattle.shares.specs.Blocks.{block_of}
use Rattle.shares.specs.Constant.{bit}
use Rattle.words.specs.Stored.{Stored}
use Rattle.rows.specs.Rows.{row_levels}
use Rattle.unfolded.specs.Unfolded.{row_words, leaf_of}

-- x is word w of the leaves f
abbrev pub WordOf : (ℕ → Bool) → ℕ → ℕ → Type 0
WordOf f w x = (i : ℕ) → i < 64 → bit x i ≡ f (64 * w + i)

-- the words of `count` parts from `part` on are those of the leaves f, which are counted on from part to part, and
-- every other word is as it was
abbrev pub Filled : ℕ → ℕ → ℕ → (ℕ → Bool) → List ℕ → List ℕ → Type 0
Filled levels part count f = Stored (row_words levels * part) (row_words levels * count) (WordOf f)

-- leaf i of a constant that is unfolded as far as a row
abbrev pub constant_leaf : ℕ → ℕ → ℕ → Bool
constant_leaf levels x i = bit x (block_of levels (row_levels levels) i)

-- of the constants that are named, the parts of all but the rest have their leaves, and the parts before the constants
-- are as they were
pub record ConstantParts (levels named rest : ℕ) (constants old new : List ℕ) : Type 0 where
  pub set : (c i : ℕ) → T (bit named c) → bit rest c ≡ false → i < 2 ^ row_levels levels
      → leaf_of (row_words levels) new (32 + c) i ≡ constant_leaf levels (get_or constants c 0) i
  pub kept : (t i : ℕ) → t < 32 → i < 2 ^ row_levels levels
      → leaf_of (row_words levels) new t i ≡ leaf_of (row_words levels) old t i
