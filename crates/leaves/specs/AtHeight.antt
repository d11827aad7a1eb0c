-- Whether a problem at the leaves has a solution of one given height, by trying every one. Assumes nothing.
use Rattle.std.specs.Prelude.{Bool, true, ◌&&◌, ℕ, ◌^◌, leb}
use Rattle.shares.specs.Below.{every_below, some_below}
use Rattle.shares.specs.Blocks.{block_of}
use Rattle.leaves.specs.Choices.{Picker, some_choice, at, row_picker}
use Rattle.leaves.specs.Problem.{Problem}

module _ {X : Type 0} (C : Picker X) (h : ℕ) (P : Problem X) (w : ℕ) where
  -- the choices s at 2 ^ w leaves solve P
  unfoldable pub solves_test : (ℕ → X) → Bool
  solves_test s =
      leb h w
      && (every_below (2 ^ w) (λ i. P.pos (block_of h w i) (s i))
      && every_below P.count (λ j. some_below (2 ^ w) (λ i. P.dis j (block_of h w i) (s i))))

  -- some do
  unfoldable pub solvable_at : Bool
  solvable_at = some_choice (row_picker C (2 ^ w)) (λ v. solves_test (at (C.pick (λ _. true)) v))
