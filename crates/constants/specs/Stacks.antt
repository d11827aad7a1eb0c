-- The reader's stack: what stands on it after each sign of a text, and the numbers that it is kept in. Assumes nothing.
use Rattle.std.specs.Prelude.{◌≡◌, Bool, true, false, not, cond, ◌&&◌, List, [], ◌∷◌, ℕ, zero, suc, ◌+◌, ◌*◌, ◌-◌, ◌%◌}
use Rattle.std.specs.Prelude.{◌^◌, max, eqb, ltb, length, get_or}
use Rattle.std.specs.Prelude as code
use Rattle.std.proofs.Math.Option.{Option, none, some}
use Rattle.shares.specs.Tree.{Tree, leaf, pair, height}
use Rattle.shares.specs.Constant.{tree_number}
use Rattle.shares.specs.Text.{sign}
use Rattle.constants.specs.FoldLaws.{is_folded}
use Rattle.constants.specs.declared.Told.{Told}
use Rattle.constants.specs.declared.Scan.{Scan}

-- ---- what stands on it

-- an opening bracket, or a tree
pub data Item : Type 0 where
  bracket : Item
  tree : Tree → Item

-- a closing bracket takes two trees and an opening bracket, and leaves their pair; the top is written first
unfoldable pub closed : List Item → Option (List Item)
closed [] = none
closed (bracket ∷ σ) = none
closed (tree r ∷ []) = none
closed (tree r ∷ bracket ∷ σ) = none
closed (tree r ∷ tree l ∷ []) = none
closed (tree r ∷ tree l ∷ tree t ∷ σ) = none
closed (tree r ∷ tree l ∷ bracket ∷ σ) = some (tree (pair l r) ∷ σ)

-- the stack after one sign more; none where it cannot stand there
unfoldable pub onto : ℕ → List Item → Option (List Item)
onto x σ =
    cond (eqb x 0x28) (some (bracket ∷ σ))
    (cond (eqb x (sign false)) (some (tree (leaf false) ∷ σ))
    (cond (eqb x (sign true)) (some (tree (leaf true) ∷ σ)) (cond (eqb x 0x29) (closed σ) none)))

-- after a sign that could not stand there nothing can
abbrev pub onto_if : ℕ → Option (List Item) → Option (List Item)
onto_if x none = none
onto_if x (some σ) = onto x σ

-- after all signs of a text
unfoldable pub runs : List ℕ → Option (List Item) → Option (List Item)
runs [] σ = σ
runs (x ∷ s) σ = runs s (onto_if x σ)

-- the tree that stands alone
abbrev pub only : Option (List Item) → Option Tree
only none = none
only (some []) = none
only (some (bracket ∷ σ)) = none
only (some (tree t ∷ [])) = some t
only (some (tree t ∷ x ∷ σ)) = none

-- the tree of a whole text
unfoldable pub whole : List ℕ → Option Tree
whole s = only (runs s (some []))

-- ---- the numbers, where constants have so many levels

-- a bracket is 0; a leaf's leaves have one bit above them, and a pair's the next one
unfoldable pub item_number : ℕ → ℕ → Item → ℕ
item_number levels k bracket = 0
item_number levels k (tree (leaf b)) = 2 ^ (2 ^ levels) + tree_number k (leaf b)
item_number levels k (tree (pair l r)) = 2 * 2 ^ (2 ^ levels) + tree_number k (pair l r)

-- how many pairs are open
unfoldable pub brackets : List Item → ℕ
brackets [] = 0
brackets (bracket ∷ σ) = suc (brackets σ)
brackets (tree t ∷ σ) = brackets σ

-- how many pairs were open at once, and so how tall the whole is at least
unfoldable pub highest : List Item → ℕ
highest [] = 0
highest (bracket ∷ σ) = max (highest σ) (suc (brackets σ))
highest (tree t ∷ σ) = max (highest σ) (brackets σ + height t)

-- whether no pair could be folded
unfoldable pub all_folded : List Item → Bool
all_folded [] = true
all_folded (bracket ∷ σ) = all_folded σ
all_folded (tree t ∷ σ) = is_folded t && all_folded σ

-- the items are kept from the bottom on, each with its leaves unfolded to the height that the open pairs below leave
abbrev pub Numbered : ℕ → List ℕ → List Item → Type 0
Numbered levels items [] = Unit {0}
Numbered levels items (x ∷ σ) = (get_or items (length σ) 0 ≡ item_number levels (levels - brackets σ) x)
    × Numbered levels items σ

-- a stack is kept in numbers
pub record Stacked (levels : ℕ) (items : List ℕ) (scan : Scan) (σ : List Item) : Type 0 where
  pub top : scan.top ≡ length σ
  pub pairs : scan.pairs ≡ brackets σ
  pub highest : scan.highest ≡ highest σ
  pub folded : scan.folded ≡ all_folded σ
  pub kept : Numbered levels items σ

-- what a sign more gives
abbrev pub Stepped : ℕ → List ℕ → ℕ → List Item → code.Option Scan → Type 0
Stepped levels items x σ (code.Some scan) = (τ : List Item) × (onto x σ ≡ some τ) × Stacked levels items scan τ
Stepped levels items x σ code.None = onto x σ ≡ none

-- ---- what the reader computes

-- the leaves of a pair at height k: the right half's above the left half's; at height 0 one leaf, and that is empty
unfoldable pub pair_number : ℕ → ℕ → ℕ → ℕ
pair_number zero left right = 0
pair_number (suc k) left right = right * 2 ^ (2 ^ k) + left

-- the number of a pair, by those of its halves
unfoldable pub pair_item : ℕ → ℕ → ℕ → ℕ → ℕ
pair_item levels k left right =
    2 * 2 ^ (2 ^ levels) + pair_number k (left % 2 ^ (2 ^ levels)) (right % 2 ^ (2 ^ levels))

-- whether two trees are equal leaves
unfoldable pub equal_leaves : ℕ → ℕ → ℕ → Bool
equal_leaves levels left right = eqb left right && ltb left (2 * 2 ^ (2 ^ levels))

-- whether two trees are kept on top of a bracket
unfoldable pub is_pair : List ℕ → ℕ → Bool
is_pair items top =
    cond (ltb top 3) false
    (cond (eqb (get_or items (top - 1) 0) 0) false
    (cond (eqb (get_or items (top - 2) 0) 0) false (eqb (get_or items (top - 3) 0) 0)))

-- what is told of the stack with a leaf more
abbrev pub leaf_scan : Scan → Scan
leaf_scan scan = record { top = scan.top + 1; pairs = scan.pairs; highest = scan.highest; folded = scan.folded }

-- with a pair opened
abbrev pub open_scan : Scan → Scan
open_scan scan = record {
  top = scan.top + 1;
  pairs = scan.pairs + 1;
  highest = max scan.highest (scan.pairs + 1);
  folded = scan.folded;
}

-- with one closed
abbrev pub close_scan : Bool → Scan → Scan
close_scan equal scan = record {
  top = scan.top - 2;
  pairs = scan.pairs - 1;
  highest = scan.highest;
  folded =
      scan.folded && not equal;
}

-- the numbers told are a tree's, with its leaves unfolded to height k
pub record Of (k : ℕ) (t : Tree) (told : Told) : Type 0 where
  pub leaves : told.leaves ≡ tree_number k t
  pub height : told.height ≡ height t
  pub folded : told.folded ≡ is_folded t
