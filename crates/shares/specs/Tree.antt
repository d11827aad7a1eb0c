-- The share model: trees, folding, shares, height, leaves, and the join. Assumes nothing.
use Rattle.std.specs.Prelude.{◌≡◌, Bool, true, false, cond, ℕ, zero, suc, ◌+◌, ◌/◌, ◌%◌, ◌^◌, max, eqb}
use Rattle.std.specs.Bool.{beq}
use Rattle.std.proofs.Math.Option.{Option, none, some, get_or}
use Rattle.shares.specs.Below.{every_below}
use Rattle.shares.specs.declared.Way.{Way}
use Rattle.shares.specs.declared.Way.TheVariants.{Holds, Overlap, Surplus, Shortfall}

-- a tree: a leaf, empty (false) or full (true), or a pair of trees, left and right
pub data Tree : Type 0 where
  leaf : Bool → Tree
  pair : Tree → Tree → Tree

-- two equal leaves
unfoldable pub twins : Tree → Tree → Bool
twins (leaf a) (leaf b) = beq a b
twins (leaf a) (pair l r) = false
twins (pair l r) t = false

-- the pair of two trees, folded: a pair of two empty leaves is empty, a pair of two full ones is full
unfoldable pub fold : Tree → Tree → Tree
fold l r = cond (twins l r) l (pair l r)

-- folded as far as possible: no pair of two equal leaves anywhere
abbrev pub Folded : Tree → Type 0
Folded (leaf b) = Unit {0}
Folded (pair l r) = (twins l r ≡ false) × Folded l × Folded r

-- a share: a tree folded as far as possible
pub record Share : Type 0 where
  pub tree : Tree
  pub folded : Folded tree

-- height: 0 for a leaf, else 1 plus the taller child
unfoldable pub height : Tree → ℕ
height (leaf b) = 0
height (pair l r) = suc (max (height l) (height r))

-- ---- unfolded to height k, a tree is 2 ^ k leaves

-- the left half (number 0) or the right half (any other number) of a tree: unfolding repeats a leaf
unfoldable pub half : ℕ → Tree → Tree
half i (leaf b) = leaf b
half zero (pair l r) = l
half (suc i) (pair l r) = r

-- whether a leaf is full
unfoldable pub full : Tree → Bool
full (leaf b) = b
full (pair l r) = false

-- leaf number i, from the left, from 0, of a tree unfolded to height k
unfoldable pub leaf_at : ℕ → Tree → ℕ → Bool
leaf_at zero t i = full t
leaf_at (suc k) t i = leaf_at k (half (i / 2 ^ k) t) (i % 2 ^ k)

-- the folded tree that has f i as its leaf number i, of 2 ^ k
unfoldable pub tree_of : ℕ → (ℕ → Bool) → Tree
tree_of zero f = leaf (f 0)
tree_of (suc k) f = fold (tree_of k f) (tree_of k (λ i. f (2 ^ k + i)))

-- ---- join

-- of two leaves: empty with empty is empty, empty with full is full, in either order; full with full is undefined
unfoldable pub join_leaf : Bool → Bool → Option Bool
join_leaf false false = some false
join_leaf false true = some true
join_leaf true false = some true
join_leaf true true = none

-- whether a leaf is defined
abbrev pub defined : Option Bool → Bool
defined none = false
defined (some b) = true

-- the folded tree of 2 ^ k leaves that may be undefined: where one of them is, so is the tree
unfoldable pub tree_if : ℕ → (ℕ → Option Bool) → Option Tree
tree_if k f = cond (every_below (2 ^ k) (λ i. defined (f i))) (some (tree_of k (λ i. get_or (f i) false))) none

-- of two trees, unfolded to height k, leaf by leaf
unfoldable pub join_at : ℕ → Tree → Tree → Option Tree
join_at k a b = tree_if k (λ i. join_leaf (leaf_at k a i) (leaf_at k b i))

-- of two trees: both are unfolded to one height, that of the taller
unfoldable pub join : Tree → Tree → Option Tree
join a b = join_at (max (height a) (height b)) a b

-- ---- the test of a join at one leaf

-- the number of each way in which it comes out
abbrev pub way_number : Way → ℕ
way_number Holds = 0
way_number Overlap = 1
way_number Surplus = 2
way_number Shortfall = 3

-- whether it comes out in this way
abbrev pub is_way : Way → Way → Bool
is_way v w = eqb (way_number v) (way_number w)

-- what two leaves join to, none where they overlap, beside the sum that is asked, if one is
abbrev pub compared : Option Bool → Option Bool → Way
compared none sum = Overlap
compared (some v) none = Holds
compared (some false) (some false) = Holds
compared (some true) (some true) = Holds
compared (some true) (some false) = Surplus
compared (some false) (some true) = Shortfall

-- the test of two parts and the sum that is asked
unfoldable pub leaf_test : Bool → Bool → Option Bool → Way
leaf_test x y sum = compared (join_leaf x y) sum
