-- Laws of numbers as trees and trees as numbers, each for every number of leaves; the join of two numbers. Assumes
-- nothing.
use Rattle.std.specs.Prelude.{◌≡◌, refl, Bool, true, false, not, cond, ◌&&◌, ◌||◌, ◌↔◌, ◌⊎◌, ℕ, ◌+◌, ◌-◌, ◌^◌, ◌≤◌, ◌<◌}
use Rattle.std.specs.Prelude.{T, eqb}
use Rattle.std.proofs.Common.{sym, ap, ◌∙◌, subst, inl, inr, arith, T_not, pow_pos, eq-eqb, ne_eqb}
use Rattle.std.proofs.Math.Option.{none, some}
use Rattle.std.specs.Int.Bits.{bit_and, and_lt}
use Rattle.std.proofs.lemmas.Nat.{or_disjoint, or_lt}
use Rattle.std.proofs.Math.Dec.{not_T}
use Rattle.shares.specs.Examples
use Rattle.shares.specs.Test.{is_true, is_false, of_false, passes}
use Rattle.shares.specs.BelowLaws.{Below, some_intro, some_found}
use Rattle.shares.specs.Tree.{Tree, leaf, Folded, height, leaf_at, join_leaf, join, leaf_test}
use Rattle.shares.specs.declared.Way.TheVariants.{Holds}
use Rattle.shares.proofs.TreeLaws.{tree_of_folded, tree_of_height, leaf_at_tree_of, leaf_at_leaf, tree_of_ext}
use Rattle.shares.proofs.TreeLaws.{tree_of_leaf_at}
use Rattle.shares.proofs.JoinLaws.{join_iff, join_none_iff}
use Rattle.shares.specs.Constant.{bit, set_in_both, number_tree, tree_number}
use Rattle.shares.specs.BitLaws.{bit_of_and, bit_of_or, bit_zero, bits_same, bits_zero, number_lt, bit_number}
use Rattle.shares.specs.BitParts.{bit_ones}

-- ---- a number is its tree's, and a tree its number's

pub leaf_number : (k n i : ℕ) → i < 2 ^ k → leaf_at k (number_tree k n) i ≡ bit n i
leaf_number k n i l = leaf_at_tree_of k (bit n) i l

pub tree_number_lt : (k : ℕ) (t : Tree) → tree_number k t < 2 ^ (2 ^ k)
unfolding tree_number
tree_number_lt k t = number_lt (2 ^ k) (leaf_at k t)

pub bit_tree_number : (k : ℕ) (t : Tree) (i : ℕ) → i < 2 ^ k → bit (tree_number k t) i ≡ leaf_at k t i
unfolding tree_number
bit_tree_number k t i l = bit_number (2 ^ k) (leaf_at k t) i l

pub number_tree_number : (k n : ℕ) → n < 2 ^ (2 ^ k) → tree_number k (number_tree k n) ≡ n
number_tree_number k n h = bits_same (2 ^ k) _ n (tree_number_lt k _) h (λ i l. bit_tree_number k _ i l
    ∙ leaf_number k n i l)

pub tree_number_tree : (k : ℕ) (t : Tree) → Folded t → height t ≤ k → number_tree k (tree_number k t) ≡ t
tree_number_tree k t f h = tree_of_ext k _ _ (bit_tree_number k t) ∙ tree_of_leaf_at k t f h

pub leaf_tree_number : (k : ℕ) (b : Bool) → tree_number k (leaf b) ≡ cond b (2 ^ (2 ^ k) - 1) 0
leaf_tree_number k b = bits_same (2 ^ k) _ _ (tree_number_lt k _) (low b) (λ i l. bit_tree_number k _ i l
    ∙ leaf_at_leaf k b i ∙ bit_of b i l)
  where
    low : (b : Bool) → cond b (2 ^ (2 ^ k) - 1) 0 < 2 ^ (2 ^ k)
    low true = omega (arith, pow_pos (2 ^ k))
    low false = pow_pos (2 ^ k)

    bit_of : (b : Bool) (i : ℕ) → i < 2 ^ k → b ≡ bit (cond b (2 ^ (2 ^ k) - 1) 0) i
    bit_of true i l = sym (bit_ones (2 ^ k) i l)
    bit_of false i l = sym (bit_zero i)

-- ---- the join of two numbers

joins_either : (x y : Bool) → T (not (x && y)) → leaf_test x y (some (x || y)) ≡ Holds
unfolding leaf_test join_leaf
joins_either true true t = absurd t
joins_either true false t = refl
joins_either false true t = refl
joins_either false false t = refl

module _ (w x y : ℕ) where
  shared_iff : T (set_in_both w x y) ↔ Below w (λ i. bit x i && bit y i)
  unfolding set_in_both
  shared_iff = (some_found w _, λ (i, l, t). some_intro w _ i l t)

  module _ (hx : x < 2 ^ w) (hy : y < 2 ^ w) where
    apart : T (not (set_in_both w x y)) → bit_and x y ≡ 0
    apart t =
        bits_zero w (bit_and x y) (and_lt w x y hx hy)
        (λ i l. bit_of_and x y i ∙ is_false (bit x i
        && bit y i) (not_T (bit x i && bit y i) (λ u. T_not (set_in_both w x y) t (shared_iff.1 (i, l, u)))))

    overlapping : T (set_in_both w x y) → ¬ (bit_and x y ≡ 0)
    overlapping t e = let (i, l, u) =
        shared_iff.0 t in subst T (sym (bit_of_and x y i) ∙ ap (λ n. bit n i) e ∙ bit_zero i) u

    -- some bit is set in both exactly if x & y is not 0
    pub set_in_both_lem : set_in_both w x y ≡ not (eqb (bit_and x y) 0)
    set_in_both_lem = go (passes (set_in_both w x y))
      where
        go : T (set_in_both w x y) ⊎ T (not (set_in_both w x y)) → set_in_both w x y ≡ not (eqb (bit_and x y) 0)
        go (inl t) = rw (ne_eqb (bit_and x y) 0 (overlapping t)) (is_true (set_in_both w x y) t)
        go (inr t) = rw (eq-eqb (bit_and x y) 0 (apart t)) (is_false (set_in_both w x y) t)

    -- if none is, the sum has no more bits
    pub sum_lt : T (not (set_in_both w x y)) → x + y < 2 ^ w
    sum_lt t = rw (← (or_disjoint x y (apart t))) (or_lt w x y hx hy)

module _ (k x y : ℕ) (hx : x < 2 ^ (2 ^ k)) (hy : y < 2 ^ (2 ^ k)) where
  -- the join is undefined exactly if some bit is set in both
  pub join_undefined_iff : (join (number_tree k x) (number_tree k y) ≡ none) ↔ Below (2 ^ k) (λ i. bit x i && bit y i)
  join_undefined_iff =
      let J = join_none_iff k (number_tree k x) (number_tree k y) (tree_of_height k _) (tree_of_height k _) in (
        λ e. let (i, l, t) = J.0 e in (i, l, rw (leaf_number k x i l, leaf_number k y i l) at t),
        λ (i, l, t). J.1 (i, l, rw (leaf_number k x i l, leaf_number k y i l) t),
      )

  -- and is otherwise their sum
  join_sum : bit_and x y ≡ 0 → join (number_tree k x) (number_tree k y) ≡ some (number_tree k (x + y))
  join_sum e =
      (join_iff k (number_tree k x) (number_tree k y) (number_tree k (x + y)) (tree_of_folded k _) (tree_of_height k _)
      (tree_of_height k _) (tree_of_height k _)).1
      (λ i l.
      let apart-i : T (not (bit x i && bit y i)) = rw (← (bit_of_and x y i), e, bit_zero i) tt in
      rw (leaf_number k x i l, leaf_number k y i l, leaf_number k (x + y) i l, ← (or_disjoint x y e), bit_of_or x y i)
      (joins_either (bit x i) (bit y i) apart-i))

  -- the law of the join of two numbers, both at once
  pub join_numbers : join (number_tree k x) (number_tree k y)
      ≡ cond (set_in_both (2 ^ k) x y) none (some (number_tree k (x + y)))
  join_numbers = go (passes (set_in_both (2 ^ k) x y))
    where
      go : T (set_in_both (2 ^ k) x y) ⊎ T (not (set_in_both (2 ^ k) x y))
          → join (number_tree k x) (number_tree k y)
          ≡ cond (set_in_both (2 ^ k) x y) none (some (number_tree k (x + y)))
      go (inl t) = rw (is_true (set_in_both (2 ^ k) x y) t) (join_undefined_iff.1 ((shared_iff (2 ^ k) x y).0 t))
      go (inr t) = rw (is_false (set_in_both (2 ^ k) x y) t) (join_sum (apart (2 ^ k) x y hx hy t))

-- the sum of two constants that share no bit, as the code has it
pub sum_fits : (a b : ℕ) → set_in_both 32 a b ≡ false → a < 2 ^ 32 → b < 2 ^ 32 → a + b < 2 ^ 32
sum_fits a b e ha hb = sum_lt 32 a b ha hb (of_false e)
