-- The tallest of the constants that are named: it bounds each of them, and is the least such bound. Assumes nothing.
use Rattle.std.specs.Prelude.{◌≡◌, refl, Bool, not, ◌&&◌, List, ◌⊎◌, T, eqb, get_or}
use Rattle.std.proofs.Common.{sym, inl, inr, le_antisymm, le_trans, le_of_suc-le-suc, not-suc-le-zero, ne_eqb}
use Rattle.std.proofs.Math.Path.{subst}
use Rattle.std.proofs.Math.Bool.{true, false, cond}
use Prim.Native.Nat.{ℕ, zero, suc, ◌≤◌, ◌<◌, max, zero-le, suc-le-suc}
use Rattle.std.proofs.Math.Nat.{le-max_left, le-max_right, max-le}
use Rattle.std.proofs.Math.Decide.{ℕ_discrete}
use Rattle.shares.specs.Test.{is_true, and_intro}
use Rattle.shares.specs.Tree.{height}
use Rattle.shares.specs.Constant.{number_tree, bit}
use Rattle.shares.specs.BitLaws.{bit_zero}
use Rattle.format.specs.Format.{most_constants}
use Rattle.decide.specs.Decision.{most_below, tallest_of}

-- ---- the greatest of some numbers

most_at : (n : ℕ) (f : ℕ → ℕ) (i : ℕ) → i < n → f i ≤ most_below n f
unfolding most_below
most_at zero f i l = absurd (not-suc-le-zero l)
most_at (suc n) f zero l = le-max_left (f 0) _
most_at (suc n) f (suc i) l = le_trans (most_at n (λ i. f (suc i)) i (le_of_suc-le-suc l)) (le-max_right (f 0) _)

most_least : (n : ℕ) (f : ℕ → ℕ) (k : ℕ) → ((i : ℕ) → i < n → f i ≤ k) → most_below n f ≤ k
unfolding most_below
most_least zero f k b = zero-le
most_least (suc n) f k b = max-le (b 0 (suc-le-suc zero-le))
    (most_least n (λ i. f (suc i)) k (λ i l. b (suc i) (suc-le-suc l)))

-- ---- the tallest

module _ (levels : ℕ) (constants : List ℕ) where
  abbrev pub height_at : ℕ → ℕ
  height_at i = height (number_tree levels (get_or constants i 0))

  -- no constant that is named is taller than k
  abbrev pub Bounded : ℕ → ℕ → Type 0
  Bounded named k = (i : ℕ) → T (bit named i) → height_at i ≤ k

  tallest_at : (named i : ℕ) → i < most_constants → T (bit named i) → height_at i ≤ tallest_of levels constants named
  unfolding tallest_of
  tallest_at named i l t =
      subst (λ b. cond b (height_at i) 0 ≤ tallest_of levels constants named) (is_true (bit named i) t)
      (most_at most_constants (λ i. cond (bit named i) (height_at i) 0) i l)

  tallest_least : (named k : ℕ) → Bounded named k → tallest_of levels constants named ≤ k
  unfolding tallest_of
  tallest_least named k f = most_least most_constants (λ i. cond (bit named i) (height_at i) 0) k
      (λ i l. go i (bit named i) refl)
    where
      go : (i : ℕ) (b : Bool) → bit named i ≡ b → cond b (height_at i) 0 ≤ k
      go i true e = f i (rw e tt)
      go i false e = zero-le

  -- what bounds each, and is no more than any such bound, is the tallest
  pub tallest_is : (named r : ℕ) → ((i : ℕ) → T (bit named i) → i < most_constants) → Bounded named r
      → ((k : ℕ) → Bounded named k → r ≤ k) → r ≡ tallest_of levels constants named
  tallest_is named r small b least =
      le_antisymm (least (tallest_of levels constants named) (λ i t. tallest_at named i (small i t) t))
      (tallest_least named r b)

  -- ---- constant after constant

  -- r bounds those that are named but no longer among the rest, and is no more than any bound of all
  pub record Found (named rest r : ℕ) : Type 0 where
    pub bound : (i : ℕ) → T (bit named i) → T (bit rest i) ⊎ (height_at i ≤ r)
    pub least : (k : ℕ) → Bounded named k → r ≤ k

  pub found_none : (named : ℕ) → Found named named 0
  found_none named = record { bound = λ i t. inl t; least = λ k f. zero-le }

  pub found_more : (named rest rest' r i : ℕ) → T (bit named i)
      → ((k : ℕ) → bit rest' k ≡ (bit rest k && not (eqb k i)))
      → Found named rest r → Found named rest' (max r (height_at i))
  found_more named rest rest' r i here out F =
      record { bound = λ j t. go j (ℕ_discrete j i) (F.bound j t); least = λ k f. max-le (F.least k f) (f i here) }
    where
      go : (j : ℕ) → Dec (j ≡ i) → T (bit rest j) ⊎ (height_at j ≤ r)
          → T (bit rest' j) ⊎ (height_at j ≤ max r (height_at i))
      go j (yes e) _ = inr (rw e (le-max_right r (height_at i)))
      go j (no n) (inl t) = inl (subst T (sym (out j)) (and_intro (bit rest j) _ t (rw (ne_eqb j i n) tt)))
      go j (no n) (inr l) = inr (le_trans l (le-max_left r (height_at i)))

  pub found_all : (named r : ℕ) → ((i : ℕ) → T (bit named i) → i < most_constants) → Found named 0 r
      → r ≡ tallest_of levels constants named
  found_all named r small F = tallest_is named r small (λ i t. go i (F.bound i t)) F.least
    where
      go : (i : ℕ) → T (bit 0 i) ⊎ (height_at i ≤ r) → height_at i ≤ r
      go i (inl t) = absurd (subst T (bit_zero i) t)
      go i (inr l) = l
