-- Constants: numbers as trees, with leaf i at bit i. Assumes nothing.
use Rattle.std.specs.Prelude.{Bool, ◌&&◌, List, [], ◌∷◌, ℕ, zero, suc, ◌+◌, ◌*◌, ◌/◌, ◌%◌, ◌^◌, eqb}
use Rattle.shares.specs.Below.{one, some_below}
use Rattle.shares.specs.Tree.{Tree, leaf_at, tree_of}

-- bit i of a number, lowest first
unfoldable pub bit : ℕ → ℕ → Bool
bit n i = eqb (n / 2 ^ i % 2) 1

-- some bit of the first w is set in both numbers
unfoldable pub set_in_both : ℕ → ℕ → ℕ → Bool
set_in_both w a b = some_below w (λ i. bit a i && bit b i)

-- the number of w bits that has f i as its bit i
unfoldable pub number_of : ℕ → (ℕ → Bool) → ℕ
number_of zero f = 0
number_of (suc w) f = number_of w (λ i. f (suc i)) * 2 + one (f 0)

-- the tree that has leaf i, of 2 ^ k, at bit i of the number n
abbrev pub number_tree : ℕ → ℕ → Tree
number_tree k n = tree_of k (bit n)

-- the number that has leaf i of a tree, unfolded to height k, at bit i
unfoldable pub tree_number : ℕ → Tree → ℕ
tree_number k t = number_of (2 ^ k) (leaf_at k t)

-- a constant has 32 leaves: it is the tree of its number at this many levels, and at most this tall
abbrev pub constant_levels : ℕ
constant_levels = 5

-- 2 ^ k leaves take this many bytes, eight a byte
abbrev pub bytes_at : ℕ → ℕ
bytes_at k = 2 ^ k / 8

-- the number that bytes make, the lowest first
unfoldable pub number : List ℕ → ℕ
number [] = 0
number (b ∷ bs) = number bs * 2 ^ 8 + b
