-- Rows and constants in words of 64 leaves: a table with the same number of words for each part of a join. Assumes
-- nothing.
use Rattle.std.specs.Prelude.{◌≡◌, Bool, true, false, not, List, ℕ, ◌+◌, ◌-◌, ◌*◌, ◌/◌, ◌%◌, ◌^◌, ◌≤◌, ◌<◌, T, get_or}
use Rattle.shares.specs.Below.{first_below}
use Rattle.shares.specs.Blocks.{block_of}
use Rattle.shares.specs.Constant.{bit}
use Rattle.shares.specs.Parts.{empty_part, full_part}
use Rattle.shares.specs.Tree.{is_way}
use Rattle.shares.specs.declared.Way.{Way}
use Rattle.shares.specs.declared.Way.TheVariants.{Holds}
use Rattle.format.specs.declared.LeafJoin.{LeafJoin}
use Rattle.words.specs.Clause.{test_way}
use Rattle.unfolded.specs.declared.PartWords.{PartWords}
use Rattle.rows.specs.Rows.{row_levels, row_count, row_leaf, row_part}

-- so many words of 64 leaves make up a row, where the constants of a question have so many levels: 16 at 5
abbrev pub row_words : ℕ → ℕ
row_words levels = 2 ^ (row_levels levels - 6)

-- leaf i of part t, in a table of so many words a part
unfoldable pub leaf_of : ℕ → List ℕ → ℕ → ℕ → Bool
leaf_of words table t i = bit (get_or table (words * t + i / 64) 0) (i % 64)

-- a table has the leaves of the rows, and of the constants that are named, each of whose leaves stands over as many of
-- a row
pub record Unfolded (levels : ℕ) (rows constants : List ℕ) (named : ℕ) (table : List ℕ) : Type 0 where
  pub variable : (v i : ℕ) → v < row_count → i < 2 ^ row_levels levels
      → leaf_of (row_words levels) table v i ≡ row_leaf (row_part (row_levels levels) rows v) i
  pub empty : (i : ℕ) → i < 2 ^ row_levels levels → leaf_of (row_words levels) table empty_part i ≡ false
  pub full : (i : ℕ) → i < 2 ^ row_levels levels → leaf_of (row_words levels) table full_part i ≡ true
  pub constant : (c i : ℕ) → T (bit named c) → i < 2 ^ row_levels levels → leaf_of (row_words levels) table (32 + c) i
      ≡ bit (get_or constants c 0) (block_of levels (row_levels levels) i)

-- how the test of a join comes out at leaf i
abbrev pub join_way : ℕ → List ℕ → LeafJoin → ℕ → Way
join_way words table j i = test_way j.form (leaf_of words table j.first i) (leaf_of words table j.second i)
    (leaf_of words table j.sum i)

-- it holds there
abbrev pub join_at : ℕ → List ℕ → LeafJoin → ℕ → Bool
join_at words table j i = is_way Holds (join_way words table j i)

-- the lowest leaf at which it does not, or the number of leaves
abbrev pub join_failing : ℕ → List ℕ → LeafJoin → ℕ
join_failing levels table j = first_below (2 ^ row_levels levels) (λ i. not (join_at (row_words levels) table j i))

-- the parts of a join have a place in a table of 64 parts
abbrev pub PartsIn : LeafJoin → Type 0
PartsIn j = (j.first < 64) × (j.second < 64) × (j.sum < 64)

-- p has words w of the parts of a join
abbrev pub WordsOf : ℕ → List ℕ → LeafJoin → ℕ → PartWords → Type 0
WordsOf words table j w p =
    (p.first ≡ get_or table (words * j.first + w) 0) × (p.second ≡ get_or table (words * j.second + w) 0)
    × (p.sum ≡ get_or table (words * j.sum + w) 0)

-- the bytes of the rows from byte `start` up to byte `end` are 0
abbrev pub ZeroBytes : List ℕ → ℕ → ℕ → Type 0
ZeroBytes rows start end = (i : ℕ) → start ≤ i → i < end → get_or rows i 0 ≡ 0
