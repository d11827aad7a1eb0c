-- Writing shows one choice more at a time, and the row that shows them all is that of the tree, for every height.
-- Assumes nothing.
use Rattle.std.specs.Prelude.{◌≡◌, refl, true, false, cond, List, eqb, length, get_or}
use Rattle.std.proofs.Common.{sym, ◌∙◌, le_trans, add-sub_of_le, div-lt_iff_lt-mul, pow_pos, pow-add, pow_mono}
use Rattle.std.proofs.Math.Path.{ap}
use Rattle.std.proofs.Math.Bool.{Bool}
use Prim.Native.Nat.{ℕ, ◌+◌, ◌-◌, ◌/◌, ◌^◌, ◌≤◌, ◌<◌}
use Rattle.std.proofs.Math.Numerals.{add-one}
use Rattle.shares.specs.Tree.{leaf_at, tree_of}
use Rattle.shares.proofs.TreeLaws.{tree_of_height, leaf_at_tree_of, blocks}
use Rattle.shares.specs.Constant.{bit, bytes_at}
use Rattle.shares.specs.Blocks.{block_of, first_of}
use Rattle.shares.specs.BlockLaws.{block_lt, first_lt, block_first, block_block}
use Rattle.plans.specs.declared.Plan.{Plan}
use Rattle.plans.specs.Shown.{Showable, entry_at, plan_choice_after, plan_choice, plan_tree}
use Rattle.rows.specs.Rows.{row_leaf, row_of}
use Rattle.rows.proofs.RowLaws.{row_is}
use Rattle.rows.specs.Blocks.{Inside, AllLeaves, BlockSet}
use Rattle.rows.proofs.BlockLaws.{leaf_inside}
use Rattle.show.specs.Plans.{Shows}

bit_cond : (t : Bool) (a b p : ℕ) → bit (cond t a b) p ≡ cond t (bit a p) (bit b p)
bit_cond true a b p = refl
bit_cond false a b p = refl

block_inside : {h w i : ℕ} → h ≤ w → block_of h w i < 2 ^ h → i < 2 ^ w
block_inside {h} {w} {i} l u =
    rw (← pow-add 2 h (w - h), add-sub_of_le l) at ((div-lt_iff_lt-mul {x = i} {y = 2 ^ h} (pow_pos (w - h))).0 u)

module _ (k : ℕ) (plan : Plan) (ok : Showable k plan) where
  pub sub_leaf_small : (n : ℕ) → n < plan.count → (entry_at plan.entries n).subleaf < 2 ^ k
  sub_leaf_small n l = le_trans (ok.sub_leaves n l) (pow_mono ok.within)

  -- a sub-leaf is a block of the row
  pub sub_leaf_inside : 3 ≤ k → k ≤ 32 → (n bytes : ℕ) → n < plan.count → bytes ≡ bytes_at k
      → Inside (k - plan.high) (entry_at plan.entries n).subleaf bytes
  sub_leaf_inside from to n bytes l e = rw e (leaf_inside from to ok.within (ok.sub_leaves n l))

  module _ (p : ℕ) where
    pub shows_plain : (row : List ℕ)
        → ((i : ℕ) → i < 2 ^ k → row_leaf row i ≡ bit (get_or plan.plain (i / 2 ^ (k - plan.low)) 0) p)
        → Shows k plan 0 p row
    unfolding plan_choice_after
    shows_plain row given i l = given i l
        ∙ ap (λ (x : ℕ). bit (get_or plan.plain x 0) p) (sym (block_block i ok.below ok.within))

    -- the leaves of a sub-leaf are all as its first
    pub shows_even : (n s : ℕ) (v : Bool) (row : List ℕ) → Shows k plan n p row → s < 2 ^ plan.high
        → v ≡ row_leaf row (first_of plan.high k s)
        → AllLeaves row (k - plan.high) s v
    shows_even n s v row shows small e i at =
        shows i (block_inside ok.within (rw at small))
        ∙ ap (λ (b : ℕ). bit (plan_choice_after plan n b) p) (at ∙ sym (block_first plan.high k s))
        ∙ sym (shows (first_of plan.high k s) (first_lt ok.within small)) ∙ sym e

    pub shows_more : (n : ℕ) (v : Bool) (row after : List ℕ) → Shows k plan n p row
        → BlockSet row after (k - plan.high) (entry_at plan.entries n).subleaf v
        → v ≡ bit (entry_at plan.entries n).choice p → Shows k plan (n + 1) p after
    unfolding plan_choice_after
    shows_more n v row after old step e i l =
        let s = block_of plan.high k i in
        step i ∙ rw (e, old i l, add-one n)
        (sym (bit_cond (eqb s (entry_at plan.entries n).subleaf) (entry_at plan.entries n).choice
        (plan_choice_after plan n s) p))

    pub shows_all : 3 ≤ k → (row : List ℕ) → length row ≡ bytes_at k → ((j : ℕ) → get_or row j 0 < 256)
        → Shows k plan plan.count p row
        → row ≡ row_of k (plan_tree plan p)
    unfolding plan_tree
    shows_all h row len byte given = row_is k h row (plan_tree plan p) len byte same
      where
        f : ℕ → Bool
        f s = bit (plan_choice plan s) p

        same : (i : ℕ) → i < 2 ^ k → row_leaf row i ≡ leaf_at k (tree_of plan.high f) i
        same i l =
            given i l
            ∙ sym (blocks plan.high k (tree_of plan.high f) i (tree_of_height plan.high f) ok.within
            ∙ leaf_at_tree_of plan.high f (block_of plan.high k i) (block_lt ok.within l))
