-- Blocks of a row: block q of height h is the leaves q * 2 ^ h to q * 2 ^ h + 2 ^ h - 1. Assumes nothing.
use Rattle.std.specs.Prelude.{◌≡◌, Bool, cond, ◌&&◌, List, ℕ, ◌+◌, ◌*◌, ◌/◌, ◌^◌, ◌≤◌, eqb, ltb}
use Rattle.shares.specs.Tree.{Tree, tree_of}
use Rattle.rows.specs.Rows.{row_leaf}

-- the block lies within a row of so many bytes, whose leaves can be counted
pub record Inside (h q bytes : ℕ) : Type 0 where
  pub low : h ≤ 32
  pub few : bytes ≤ 2 ^ 32
  pub fits : q * 2 ^ h + 2 ^ h ≤ 8 * bytes

-- the tree of the block
unfoldable pub block_tree : List ℕ → ℕ → ℕ → Tree
block_tree row h q = tree_of h (λ i. row_leaf row (q * 2 ^ h + i))

-- every leaf of the block is v
abbrev pub AllLeaves : List ℕ → ℕ → ℕ → Bool → Type 0
AllLeaves row h q v = (i : ℕ) → i / 2 ^ h ≡ q → row_leaf row i ≡ v

-- the leaves of the block are set to v, the others are as before
abbrev pub BlockSet : List ℕ → List ℕ → ℕ → ℕ → Bool → Type 0
BlockSet before after h q v = (i : ℕ) → row_leaf after i ≡ cond (eqb (i / 2 ^ h) q) v (row_leaf before i)

-- the first n blocks have the leaves f, the others are empty
abbrev pub FirstBlocks : List ℕ → ℕ → ℕ → (ℕ → Bool) → Type 0
FirstBlocks row h n f = (i : ℕ) → row_leaf row i ≡ (ltb (i / 2 ^ h) n && f (i / 2 ^ h))

-- the byte whose eight leaves are all v
abbrev pub whole_byte : Bool → ℕ
whole_byte v = cond v 255 0
