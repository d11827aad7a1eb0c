-- Laws of trees, each for every height: a tree is its leaves and back, blocks, equality and height by leaves. Assumes
-- nothing.
use Rattle.std.specs.Prelude.{◌≡◌, refl, Bool, true, false, not, ◌↔◌, ℕ, zero, suc, ◌+◌, ◌-◌, ◌/◌, ◌%◌, ◌^◌, ◌≤◌, ◌<◌}
use Rattle.std.specs.Prelude.{T}
use Rattle.std.proofs.Common.{sym, ap, ap₂, ◌∙◌, subst, zero-le, not-suc-le-zero, mod-eq_of_lt, add-zero, add-suc}
use Rattle.std.proofs.Common.{div-one, add-sub_of_le, div-mul-le_self, lt_of_le_of_lt, le_trans, add-one, one-add}
use Rattle.std.proofs.Common.{arith, pow_pos, shr-shr}
use Rattle.std.specs.Bool.{beq}
use Rattle.std.proofs.Math.Bool.{Bool-set}
use mathlib.Core.HLevel.{Unit-prop, ×₃_prop, is_prop→PathP}
use Rattle.std.proofs.Math.Nat.{two-pow-succ, div-eq_of_lt, add-div_left, add-mod_left}
use Rattle.std.proofs.Math.Decide.{dec_lt}
use Rattle.std.proofs.Math.Arith.{lt-one}
use Rattle.std.proofs.Math.Pow.{field}
use Rattle.shares.specs.Test.{is_false, beq_iff, cond_law}
use Rattle.shares.specs.BelowLaws.{Below, fails_iff}
use Rattle.shares.specs.Blocks.{block_of, first_of}
use Rattle.shares.specs.BlockLaws.{block_lt, block_first}
use Rattle.shares.specs.Tree.{Tree, leaf, pair, twins, fold, Folded, Share, height, half, full, leaf_at, tree_of}

-- ---- folding

same_leaf : (l r : Tree) → T (twins l r) → (b : Bool) × (l ≡ leaf b) × (r ≡ leaf b)
unfolding twins
same_leaf (leaf true) (leaf true) t = (true, refl, refl)
same_leaf (leaf true) (leaf false) t = absurd t
same_leaf (leaf false) (leaf true) t = absurd t
same_leaf (leaf false) (leaf false) t = (false, refl, refl)
same_leaf (leaf a) (pair l r) t = absurd t
same_leaf (pair l r) s t = absurd t

-- what holds of the leaf, where both are that leaf, and of the pair, where they are not twins, holds of the folded pair
fold_law : (P : Tree → Type 0) (l r : Tree) → ((b : Bool) → l ≡ leaf b → r ≡ leaf b → P (leaf b))
    → (twins l r ≡ false → P (pair l r)) → P (fold l r)
unfolding fold
fold_law P l r f g =
    cond_law P (twins l r) l (pair l r)
    (λ t. let (b, p, q) = same_leaf l r t in rw p (f b p q))
    (λ t. g (is_false (twins l r) t))

half_leaves : (i : ℕ) (b : Bool) → half i (leaf b) ≡ half i (pair (leaf b) (leaf b))
unfolding half
half_leaves zero b = refl
half_leaves (suc i) b = refl

-- folding keeps the halves
half_fold : (i : ℕ) (l r : Tree) → half i (fold l r) ≡ half i (pair l r)
half_fold i l r = fold_law (λ t. half i t ≡ half i (pair l r)) l r (λ b p q. rw (p, q) (half_leaves i b)) (λ n. refl)

fold_folded : (l r : Tree) → Folded l → Folded r → Folded (fold l r)
fold_folded l r fl fr = fold_law Folded l r (λ b p q. tt) (λ n. (n, fl, fr))

fold_height : (k : ℕ) (l r : Tree) → height l ≤ k → height r ≤ k → height (fold l r) ≤ suc k
unfolding height
fold_height k l r hl hr = fold_law (λ t. height t ≤ suc k) l r (λ b p q. zero-le) (λ n. omega arith)

-- the fold of a pair that is no pair of two equal leaves
fold_apart : (l r : Tree) → twins l r ≡ false → fold l r ≡ pair l r
unfolding fold
fold_apart l r h = rw h

-- a folded tree is its halves, folded
fold_half : (t : Tree) → Folded t → fold (half 0 t) (half 1 t) ≡ t
unfolding fold half twins
fold_half (leaf true) h = refl
fold_half (leaf false) h = refl
fold_half (pair l r) h = fold_apart l r h.0

half_folded : (i : ℕ) (t : Tree) → Folded t → Folded (half i t)
unfolding half
half_folded i (leaf b) h = tt
half_folded zero (pair l r) h = h.1
half_folded (suc i) (pair l r) h = h.2

half_height : (i k : ℕ) (t : Tree) → height t ≤ suc k → height (half i t) ≤ k
unfolding half height
half_height i k (leaf b) h = omega arith
half_height zero k (pair l r) h = omega arith
half_height (suc i) k (pair l r) h = omega arith

-- a tree is folded in one way at most, so two shares are equal if their trees are
Folded-prop : (t : Tree) → IsProp (Folded t)
Folded-prop (leaf b) = Unit-prop
Folded-prop (pair l r) = ×₃_prop (Bool-set (twins l r) false) (Folded-prop l) (Folded-prop r)

pub share_path : (a b : Share) → a.tree ≡ b.tree → a ≡ b
share_path a b p i = record {
  tree = p i;
  folded =
      is_prop→PathP (λ j. Folded (p j)) (λ j. Folded-prop (p j)) a.folded b.folded i;
}

-- ---- the leaves of the left half, then those of the right

-- what holds of each number below 2 ^ k, and of each of those with 2 ^ k added, holds below 2 ^ (k + 1)
pub halves : (P : ℕ → Type 0) (k : ℕ) → ((i : ℕ) → i < 2 ^ k → P i) → ((i : ℕ) → i < 2 ^ k → P (2 ^ k + i))
    → (i : ℕ) → i < 2 ^ suc k → P i
halves P k low high i h = pick (dec_lt i (2 ^ k))
  where
    pick : Dec (i < 2 ^ k) → P i
    pick (yes l) = low i l
    pick (no n) = subst P (omega (arith, two-pow-succ k)) (high (i - 2 ^ k) (omega (arith, two-pow-succ k)))

pub leaf_left : (k : ℕ) (t : Tree) (i : ℕ) → i < 2 ^ k → leaf_at (suc k) t i ≡ leaf_at k (half 0 t) i
unfolding leaf_at
leaf_left k t i h = rw (div-eq_of_lt h, mod-eq_of_lt h)

pub leaf_right : (k : ℕ) (t : Tree) (i : ℕ) → i < 2 ^ k → leaf_at (suc k) t (2 ^ k + i) ≡ leaf_at k (half 1 t) i
unfolding leaf_at
leaf_right k t i h = rw (add-div_left i (pow_pos k), div-eq_of_lt h, add-mod_left, mod-eq_of_lt h)

-- ---- a tree of given leaves has them

pub tree_of_folded : (k : ℕ) (f : ℕ → Bool) → Folded (tree_of k f)
unfolding tree_of
tree_of_folded zero f = tt
tree_of_folded (suc k) f = fold_folded _ _ (tree_of_folded k f) (tree_of_folded k (λ i. f (2 ^ k + i)))

pub tree_of_height : (k : ℕ) (f : ℕ → Bool) → height (tree_of k f) ≤ k
unfolding tree_of height
tree_of_height zero f = zero-le
tree_of_height (suc k) f = fold_height k _ _ (tree_of_height k f) (tree_of_height k (λ i. f (2 ^ k + i)))

pub leaf_at_tree_of : (k : ℕ) (f : ℕ → Bool) (i : ℕ) → i < 2 ^ k → leaf_at k (tree_of k f) i ≡ f i
unfolding tree_of leaf_at full half
leaf_at_tree_of zero f i h = ap f (sym (lt-one h))
leaf_at_tree_of (suc k) f i h =
    let l = tree_of k f in
    let r = tree_of k (λ j. f (2 ^ k + j)) in
    halves (λ i. leaf_at (suc k) (fold l r) i ≡ f i) k
    (λ i u. leaf_left k (fold l r) i u ∙ ap (λ t. leaf_at k t i) (half_fold 0 l r) ∙ leaf_at_tree_of k f i u)
    (λ i u. leaf_right k (fold l r) i u ∙ ap (λ t. leaf_at k t i) (half_fold 1 l r)
    ∙ leaf_at_tree_of k (λ j. f (2 ^ k + j)) i u)
    i h

-- leaves that are all alike make a leaf, and are what it unfolds to
pub tree_of_leaf : (k : ℕ) (b : Bool) → tree_of k (λ i. b) ≡ leaf b
unfolding tree_of fold twins
tree_of_leaf zero b = refl
tree_of_leaf (suc k) true = rw (tree_of_leaf k true)
tree_of_leaf (suc k) false = rw (tree_of_leaf k false)

pub leaf_at_leaf : (k : ℕ) (b : Bool) (i : ℕ) → leaf_at k (leaf b) i ≡ b
unfolding leaf_at half full
leaf_at_leaf zero b i = refl
leaf_at_leaf (suc k) b i = leaf_at_leaf k b (i % 2 ^ k)

-- ---- a folded tree is the tree of its leaves

pub tree_of_ext : (k : ℕ) (f g : ℕ → Bool) → ((i : ℕ) → i < 2 ^ k → f i ≡ g i) → tree_of k f ≡ tree_of k g
unfolding tree_of
tree_of_ext zero f g e = ap leaf (e 0 (pow_pos 0))
tree_of_ext (suc k) f g e =
    ap₂ fold
    (tree_of_ext k f g (λ i h. e i (omega (arith, two-pow-succ k))))
    (tree_of_ext k _ _ (λ i h. e (2 ^ k + i) (omega (arith, two-pow-succ k))))

pub tree_of_leaf_at : (k : ℕ) (t : Tree) → Folded t → height t ≤ k → tree_of k (leaf_at k t) ≡ t
unfolding tree_of leaf_at full height
tree_of_leaf_at zero (leaf b) w h = refl
tree_of_leaf_at zero (pair l r) w h = absurd (not-suc-le-zero h)
tree_of_leaf_at (suc k) t w h =
    ap₂ fold
    (tree_of_ext k _ _ (leaf_left k t) ∙ tree_of_leaf_at k (half 0 t) (half_folded 0 t w) (half_height 0 k t h))
    (tree_of_ext k _ _ (leaf_right k t) ∙ tree_of_leaf_at k (half 1 t) (half_folded 1 t w) (half_height 1 k t h))
    ∙ fold_half t w

-- ---- blocks: unfolded further, a leaf is repeated

block_step : (k : ℕ) (t : Tree) (i : ℕ) → height t ≤ k → leaf_at (suc k) t i ≡ leaf_at k t (i / 2)
unfolding leaf_at half full height
block_step zero (leaf b) i h = refl
block_step zero (pair l r) i h = absurd (not-suc-le-zero h)
block_step (suc k) t i h =
    block_step k (half (i / 2 ^ suc k) t) (i % 2 ^ suc k) (half_height _ k t h)
    ∙ ap₂ (λ x y. leaf_at k (half x t) y)
    (sym (shr-shr i 1 k ∙ ap (λ x. i / 2 ^ x) (one-add k)))
    (ap (λ x. i % 2 ^ x / 2) (sym (add-one k)) ∙ field i k 1)

blocks_add : (d h : ℕ) (t : Tree) (i : ℕ) → height t ≤ h → leaf_at (h + d) t i ≡ leaf_at h t (i / 2 ^ d)
blocks_add zero h t i l = rw (add-zero, div-one)
blocks_add (suc d) h t i l =
    ap (λ n. leaf_at n t i) (add-suc h d) ∙ block_step (h + d) t i (omega arith) ∙ blocks_add d h t (i / 2) l
    ∙ ap (leaf_at h t) (shr-shr i 1 d ∙ ap (λ x. i / 2 ^ x) (one-add d))

pub blocks : (h w : ℕ) (t : Tree) (i : ℕ) → height t ≤ h → h ≤ w → leaf_at w t i ≡ leaf_at h t (block_of h w i)
blocks h w t i l le = subst (λ n. leaf_at n t i ≡ leaf_at h t (block_of h w i)) (add-sub_of_le le)
    (blocks_add (w - h) h t i l)

-- leaves repeated: the same tree
pub tree_of_blocks : (h w : ℕ) (f : ℕ → Bool) → h ≤ w → tree_of w (λ i. f (block_of h w i)) ≡ tree_of h f
tree_of_blocks h w f le =
    tree_of_ext w _ _ same ∙ tree_of_leaf_at w (tree_of h f) (tree_of_folded h f) (le_trans (tree_of_height h f) le)
  where
    same : (i : ℕ) → i < 2 ^ w → f (block_of h w i) ≡ leaf_at w (tree_of h f) i
    same i l = sym (blocks h w (tree_of h f) i (tree_of_height h f) le
        ∙ leaf_at_tree_of h f (block_of h w i) (block_lt le l))

-- ---- equality, leaf by leaf

pub equal_iff : (k : ℕ) (a b : Tree) → Folded a → Folded b → height a ≤ k → height b ≤ k
    → (a ≡ b) ↔ ((i : ℕ) → i < 2 ^ k → leaf_at k a i ≡ leaf_at k b i)
equal_iff k a b fa fb ha hb = (
  λ e i h. ap (λ t. leaf_at k t i) e,
  λ e. sym (tree_of_leaf_at k a fa ha) ∙ tree_of_ext k _ _ e
      ∙ tree_of_leaf_at k b fb hb,
)

-- the same as a test at every leaf
pub equal_test_iff : (k : ℕ) (a b : Tree) → Folded a → Folded b → height a ≤ k → height b ≤ k
    → (a ≡ b) ↔ ((i : ℕ) → i < 2 ^ k → T (beq (leaf_at k a i) (leaf_at k b i)))
equal_test_iff k a b fa fb ha hb =
    let E = equal_iff k a b fa fb ha hb in (
      λ e i h. (beq_iff (leaf_at k a i) (leaf_at k b i)).1 (E.0 e i h),
      λ f. E.1 (λ i h. (beq_iff (leaf_at k a i) (leaf_at k b i)).0 (f i h)),
    )

-- two shares differ at a leaf, which is found
pub unequal_iff : (k : ℕ) (a b : Tree) → Folded a → Folded b → height a ≤ k → height b ≤ k
    → (¬ (a ≡ b)) ↔ Below (2 ^ k) (λ i. not (beq (leaf_at k a i) (leaf_at k b i)))
unequal_iff k a b fa fb ha hb =
    fails_iff (2 ^ k) (λ i. beq (leaf_at k a i) (leaf_at k b i)) (equal_test_iff k a b fa fb ha hb)

-- ---- height and constancy on blocks

-- a tree of given leaves is no taller than h exactly if each leaf is the first of its block
pub height_iff : (h w : ℕ) (f : ℕ → Bool) → h ≤ w
    → (height (tree_of w f) ≤ h) ↔ ((i : ℕ) → i < 2 ^ w → f i ≡ f (first_of h w (block_of h w i)))
height_iff h w f le = (only, back)
  where
    only : height (tree_of w f) ≤ h → (i : ℕ) → i < 2 ^ w → f i ≡ f (first_of h w (block_of h w i))
    only low i l =
        sym (leaf_at_tree_of w f i l) ∙ blocks h w (tree_of w f) i low le
        ∙ ap (leaf_at h (tree_of w f)) (sym (block_first h w (block_of h w i)))
        ∙ sym (blocks h w (tree_of w f) (first_of h w (block_of h w i)) low le)
        ∙ leaf_at_tree_of w f (first_of h w (block_of h w i)) (lt_of_le_of_lt (div-mul-le_self i (2 ^ (w - h))) l)

    back : ((i : ℕ) → i < 2 ^ w → f i ≡ f (first_of h w (block_of h w i))) → height (tree_of w f) ≤ h
    back e =
        subst (λ t. height t ≤ h)
        (sym (tree_of_ext w _ _ e ∙ tree_of_blocks h w (λ q. f (first_of h w q)) le))
        (tree_of_height h (λ q. f (first_of h w q)))
