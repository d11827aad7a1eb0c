-- A second system beside the first, at the leaves: what it asks of the own choice. Assumes nothing.
use Rattle.std.specs.Prelude.{Bool, ◌&&◌, ℕ}
use Rattle.shares.specs.Blocks.{block_of}
use Rattle.leaves.specs.Choices.{Picker, some_choice}
use Rattle.leaves.specs.Problem.{Problem}

-- what the second system asks of an own choice y, beside the free choice x, at leaf b
pub record Second (X Y : Type 0) : Type 0 where
  pub pos : ℕ → X → Y → Bool
  pub count : ℕ
  pub dis : ℕ → ℕ → X → Y → Bool

module _ {X Y : Type 0} (D : Picker Y) (Q : Second X Y) where
  -- at leaf b some own choice meets the second system's positive clauses beside x
  unfoldable pub meets : ℕ → X → Bool
  meets b x = some_choice D (Q.pos b x)

  -- and disequation j too
  unfoldable pub meets_with : ℕ → ℕ → X → Bool
  meets_with j b x = some_choice D (λ y. Q.pos b x y && Q.dis j b x y)

-- what the second system asks at the leaves of s: a problem with these leaves for its own
abbrev pub beside : {X Y : Type 0} → ℕ → Second X Y → ℕ → (ℕ → X) → Problem Y
beside h Q w s = record {
  pos = λ i. Q.pos (block_of h w i) (s i);
  count = Q.count;
  dis =
      λ j i. Q.dis j (block_of h w i) (s i);
}
