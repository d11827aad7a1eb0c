-- Solutions of a problem at the leaves, of every height, and what each leaf of the constants by itself must have.
-- Assumes nothing.
use Rattle.std.specs.Prelude.{ℕ, ◌^◌, ◌≤◌, ◌<◌, T}
use Rattle.shares.specs.Blocks.{block_of}
use Rattle.leaves.specs.Problem.{Problem}

-- the choices s at 2 ^ w leaves solve the problem: the positive clauses hold at every leaf, and each disequation at one
pub record SolvesLeaves {X : Type 0} (h : ℕ) (P : Problem X) (w : ℕ) (s : ℕ → X) : Type 0 where
  pub tall : h ≤ w
  pub everywhere : (i : ℕ) → i < 2 ^ w → T (P.pos (block_of h w i) (s i))
  pub somewhere : (j : ℕ) → j < P.count → (i : ℕ) × (i < 2 ^ w) × T (P.dis j (block_of h w i) (s i))

-- a solution whose height is among A
pub record LeafSolution {X : Type 0} (A : ℕ → Type 0) (h : ℕ) (P : Problem X) : Type 0 where
  pub height : ℕ
  pub allowed : A height
  pub leaves : ℕ → X
  pub solves : SolvesLeaves h P height leaves

-- each leaf of the constants by itself: it has a choice for the positive clauses, and each disequation has a leaf with
-- a choice for it and them
pub record Leafwise {X : Type 0} (h : ℕ) (P : Problem X) : Type 0 where
  pub plain : (b : ℕ) → b < 2 ^ h → (x : X) × T (P.pos b x)
  pub special : (j : ℕ) → j < P.count → (b : ℕ) × (b < 2 ^ h) × (x : X) × T (P.pos b x) × T (P.dis j b x)
