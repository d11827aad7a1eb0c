-- Laws of a problem whose choices are numbers: its tests as searches, and the rank of a disequation. Assumes nothing.
use Rattle.std.specs.Prelude.{◌≡◌, ◌&&◌, ℕ, ◌^◌}
use Rattle.std.proofs.Math.Path.{ap}
use Rattle.std.proofs.Math.Dec.{eqb}
use Rattle.shares.specs.Below.{some_below, count_below}
use Rattle.leaves.specs.Choices.{least}
use Rattle.leaves.specs.ChoiceLaws.{some_number}
use Rattle.leaves.specs.Problem.{Problem, plain_at, special_at}
use Rattle.leaves.specs.Fixed.{rank_of}
use Rattle.leaves.specs.Numbers.{numbered, leaf_for, rank_for}

module _ (n h : ℕ) (R : Problem ℕ) where
  -- the tests at a leaf as searches of numbers
  pub plain_is : (b : ℕ) → plain_at (least n) (numbered n R) b ≡ some_below (2 ^ n) (R.pos b)
  unfolding plain_at
  plain_is b = some_number n (R.pos b)

  pub special_is : (j b : ℕ) → special_at (least n) (numbered n R) j b
      ≡ some_below (2 ^ n) (λ x. R.pos b x && R.dis j b x)
  unfolding special_at
  special_is j b = some_number n (λ x. R.pos b x && R.dis j b x)

  -- the rank of one that stands at leaf b: how many before it do
  pub rank_here : (j b : ℕ) → leaf_for n h R j ≡ b → rank_for n h R j ≡ count_below j (λ i. eqb (leaf_for n h R i) b)
  unfolding rank_of
  rank_here j b e = ap (λ c. count_below j (λ i. eqb (leaf_for n h R i) c)) e
