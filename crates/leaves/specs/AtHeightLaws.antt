-- Where a problem at the leaves has a solution of a height, trying every one finds one. Assumes nothing.
use Rattle.std.specs.Prelude.{◌≡◌, true, ℕ, ◌^◌, ◌<◌, T, leb}
use Rattle.std.proofs.Common.{le→leb}
use Rattle.shares.specs.Test.{and_intro}
use Rattle.shares.specs.Below.{every_below}
use Rattle.shares.specs.BelowLaws.{every_intro, some_intro}
use Rattle.shares.specs.Blocks.{block_of}
use Rattle.leaves.specs.Choices.{Picker, at, table, row_picker}
use Rattle.leaves.specs.ChoiceLaws.{choice_intro, at_table}
use Rattle.leaves.specs.Problem.{Problem}
use Rattle.leaves.specs.LeafSolutions.{SolvesLeaves}
use Rattle.leaves.specs.AtHeight.{solves_test, solvable_at}

module _ {X : Type 0} (C : Picker X) (h : ℕ) (P : Problem X) (w : ℕ) where
  test_solves : (s : ℕ → X) → SolvesLeaves h P w s → T (solves_test C h P w s)
  unfolding solves_test
  test_solves s S =
      and_intro (leb h w) _ (le→leb h w S.tall)
      (and_intro (every_below (2 ^ w) (λ i. P.pos (block_of h w i) (s i))) _
      (every_intro (2 ^ w) _ S.everywhere)
      (every_intro P.count _ (λ j l. let (i, u, v) = S.somewhere j l in some_intro (2 ^ w) _ i u v)))

  -- only the leaves below 2 ^ w count
  solves_same : (s t : ℕ → X) → ((i : ℕ) → i < 2 ^ w → t i ≡ s i) → SolvesLeaves h P w s → SolvesLeaves h P w t
  solves_same s t e S = record {
    tall = S.tall;
    everywhere = λ i l. rw (e i l) (S.everywhere i l);
    somewhere = λ j l. let (i, u, v) = S.somewhere j l in (i, u, rw (e i u) v);
  }

  pub solvable_at_lem : (s : ℕ → X) → SolvesLeaves h P w s → T (solvable_at C h P w)
  unfolding solvable_at
  solvable_at_lem s S =
      let d = C.pick (λ _. true) in
      choice_intro (row_picker C (2 ^ w)) (λ v. solves_test C h P w (at d v)) (table (2 ^ w) s)
      (test_solves _ (solves_same s _ (λ i l. at_table d (2 ^ w) s i l) S))
