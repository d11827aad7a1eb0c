-- The tests that decide an entailment at the leaves. Assumes nothing.
use Rattle.std.specs.Prelude.{Bool, not, ◌&&◌, ℕ, ◌^◌}
use Rattle.shares.specs.Below.{some_below, first_below}
use Rattle.leaves.specs.Choices.{Picker, some_choice}
use Rattle.leaves.specs.Problem.{Problem, solvable}
use Rattle.leaves.specs.Second.{Second, meets}
use Rattle.leaves.specs.Fixed.{with_missed}

module _ {X Y : Type 0} (C : Picker X) (D : Picker Y) (h : ℕ) (P : Problem X) (Q : Second X Y) where
  -- some leaf has a choice for the first system beside which no own choice meets the second's positive clauses
  unfoldable pub can_be_unmet : Bool
  can_be_unmet = some_below (2 ^ h) (λ b. some_choice C (λ x. P.pos b x && not (meets D Q b x)))

  -- disequation j of the second can be missed
  unfoldable pub can_be_missed : ℕ → Bool
  can_be_missed j = solvable C h (with_missed D Q P j)

  -- the lowest that can; their count where none can
  unfoldable pub first_missed : ℕ
  first_missed = first_below Q.count can_be_missed
