-- The problem at the leaves: what is asked of the choice at each leaf, and the test that decides it. Assumes nothing.
use Rattle.std.specs.Prelude.{Bool, ◌&&◌, ℕ, ◌^◌}
use Rattle.shares.specs.Below.{every_below, some_below}
use Rattle.leaves.specs.Choices.{Picker, some_choice}

-- what is asked of a choice at each of the 2 ^ h leaves of the constants
pub record Problem (X : Type 0) : Type 0 where
  -- the positive clauses hold at leaf b for the choice x
  pub pos : ℕ → X → Bool
  -- how many disequations there are, and that number j holds at leaf b for the choice x
  pub count : ℕ
  pub dis : ℕ → ℕ → X → Bool

module _ {X : Type 0} (C : Picker X) (P : Problem X) where
  -- at leaf b some choice meets the positive clauses
  unfoldable pub plain_at : ℕ → Bool
  plain_at b = some_choice C (P.pos b)

  -- at leaf b some choice meets the positive clauses and disequation j
  unfoldable pub special_at : ℕ → ℕ → Bool
  special_at j b = some_choice C (λ x. P.pos b x && P.dis j b x)

module _ {X : Type 0} (C : Picker X) (h : ℕ) (P : Problem X) where
  -- the test: every leaf can meet the positive clauses, and each disequation can be met beside them at some leaf
  unfoldable pub solvable : Bool
  solvable = every_below (2 ^ h) (plain_at C P) && every_below P.count (λ j. some_below (2 ^ h) (special_at C P j))
