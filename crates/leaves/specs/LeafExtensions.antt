-- Extensions at the leaves: own choices beside a solution of the first system, and entailment there. Assumes nothing.
use Rattle.std.specs.Prelude.{ℕ, ◌^◌, ◌≤◌, ◌<◌, T}
use Rattle.shares.specs.Blocks.{block_of}
use Rattle.leaves.specs.Heights.{any_height}
use Rattle.leaves.specs.Problem.{Problem}
use Rattle.leaves.specs.LeafSolutions.{LeafSolution}
use Rattle.leaves.specs.Second.{Second}

-- the own choices t at 2 ^ v leaves extend the choices s at 2 ^ w leaves
pub record ExtendsLeaves {X Y : Type 0} (h : ℕ) (Q : Second X Y) (w : ℕ) (s : ℕ → X) (v : ℕ) (t : ℕ → Y) : Type 0 where
  pub tall : w ≤ v
  pub everywhere : (i : ℕ) → i < 2 ^ v → T (Q.pos (block_of h v i) (s (block_of w v i)) (t i))
  pub somewhere : (j : ℕ) → j < Q.count → (i : ℕ) × (i < 2 ^ v)
      × T (Q.dis j (block_of h v i) (s (block_of w v i)) (t i))

-- an extension whose height is among A
pub record LeafExtension {X Y : Type 0} (A : ℕ → Type 0) (h : ℕ) (Q : Second X Y) (w : ℕ) (s : ℕ → X) : Type 0 where
  pub height : ℕ
  pub allowed : A height
  pub own : ℕ → Y
  pub extends : ExtendsLeaves h Q w s height own

-- the second system's positive clauses alone
abbrev pub positives_only : {X Y : Type 0} → Second X Y → Second X Y
positives_only Q = record { pos = Q.pos; count = 0; dis = Q.dis }

-- its disequation j alone beside them
abbrev pub only : {X Y : Type 0} → ℕ → Second X Y → Second X Y
only j Q = record { pos = Q.pos; count = 1; dis = λ _. Q.dis j }

-- every solution of the first system extends to the second
abbrev pub EntailsLeaves : {X Y : Type 0} → (ℕ → Type 0) → ℕ → Problem X → Second X Y → Type 0
EntailsLeaves A h P Q = (S : LeafSolution A h P) → LeafExtension any_height h Q S.height S.leaves

-- a solution of the first system that does not
abbrev pub LeafCounterexample : {X Y : Type 0} → (ℕ → Type 0) → ℕ → Problem X → Second X Y → Type 0
LeafCounterexample A h P Q = (S : LeafSolution A h P) × ¬ LeafExtension any_height h Q S.height S.leaves
