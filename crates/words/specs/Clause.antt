-- Clauses as bytes, and their tests at one leaf under a choice of Boolean values. A term is here also one of the two
-- numbers that are no term's (Parts). Assumes nothing.
use Rattle.std.specs.Prelude.{◌≡◌, Bool, cond, not, ◌||◌, List, ℕ, ◌+◌, ◌-◌, ◌*◌, ◌<◌, ◌≤◌, ltb, eqb, get_or}
use Rattle.std.proofs.Math.Option.{none, some}
use Rattle.shares.specs.Below.{every_below}
use Rattle.shares.specs.Constant.{bit}
use Rattle.shares.specs.Parts.{full_part}
use Rattle.shares.specs.Tree.{is_way, leaf_test}
use Rattle.shares.specs.declared.Way.{Way}
use Rattle.shares.specs.declared.Way.TheVariants.{Holds, Overlap, Surplus, Shortfall}
use Rattle.words.specs.declared.Ways.{Ways}

-- how the test with form n of three values comes out: 0, the first join the second is the third; any other, the first
-- and the second do not overlap
unfoldable pub test_way : ℕ → Bool → Bool → Bool → Way
test_way n a b c = leaf_test a b (cond (eqb n 0) (some c) none)

-- it holds
abbrev pub test_value : ℕ → Bool → Bool → Bool → Bool
test_value n a b c = is_way Holds (test_way n a b c)

-- three words say of 64 leaves how the test comes out at the bits of a, b and c, each where it does so, and together
-- where it fails
pub record WaysOf (form a b c : ℕ) (w : Ways) : Type 0 where
  pub overlap : (i : ℕ) → i < 64 → bit w.overlap i ≡ is_way Overlap (test_way form (bit a i) (bit b i) (bit c i))
  pub surplus : (i : ℕ) → i < 64 → bit w.surplus i ≡ is_way Surplus (test_way form (bit a i) (bit b i) (bit c i))
  pub shortfall : (i : ℕ) → i < 64 → bit w.shortfall i ≡ is_way Shortfall (test_way form (bit a i) (bit b i) (bit c i))
  pub fails : (i : ℕ) → i < 64 → (bit w.overlap i || (bit w.surplus i || bit w.shortfall i))
      ≡ not (test_value form (bit a i) (bit b i) (bit c i))

-- the test of the clause at byte `at`, where part t has the value x t: its form and its three parts are four bytes
unfoldable pub clause_test : List ℕ → (ℕ → Bool) → ℕ → Bool
clause_test clauses x at =
    test_value (get_or clauses at 0) (x (get_or clauses (at + 1) 0)) (x (get_or clauses (at + 2) 0))
    (x (get_or clauses (at + 3) 0))

-- all clauses of a section pass: `count` clauses of four bytes from byte `start`
unfoldable pub all_clauses : List ℕ → (ℕ → Bool) → ℕ → ℕ → Bool
all_clauses clauses x start count = every_below count (λ k. clause_test clauses x (start + 4 * k))

-- the digit of a choice that variable t has, of n free and m own variables: variable 0 has the highest of the n low
-- digits, the first own variable the highest of the m digits above
unfoldable pub position : ℕ → ℕ → ℕ → ℕ
position n m t = cond (ltb t n) (n - 1 - t) (2 * n + m - 1 - t)

-- the value of part t in choice z, where constant i has bit i of `values`. Of the numbers that are neither a variable's
-- nor a constant's, full_part is full and every other empty
unfoldable pub term_value : ℕ → ℕ → ℕ → ℕ → ℕ → Bool
term_value n m values z t =
    cond (ltb t (n + m)) (bit z (position n m t)) (cond (ltb t 32) (eqb t full_part) (bit values (t - 32)))

-- a section that can be read: it lies within 768 bytes, and each of its bytes is below 64
pub record Clauses (clauses : List ℕ) (start count : ℕ) : Type 0 where
  pub room : start + 4 * count ≤ 768
  pub terms : (k : ℕ) → k < 4 * count → get_or clauses (start + k) 0 < 64
