-- A problem at the leaves whose choices are numbers: n values as the digits of a number below 2 ^ n, the first the
-- highest. Assumes nothing.
use Rattle.std.specs.Prelude.{Bool, ◌&&◌, ℕ, ◌^◌}
use Rattle.shares.specs.Below.{first_below}
use Rattle.leaves.specs.Choices.{Row, least}
use Rattle.leaves.specs.RowNumbers.{value}
use Rattle.leaves.specs.Problem.{Problem}
use Rattle.leaves.specs.Fixed.{leaf_of, rank_of}

-- the problem of rows of n values that tests of their numbers pose
abbrev pub numbered : (n : ℕ) → Problem ℕ → Problem (Row Bool n)
numbered n R = record { pos = λ b v. R.pos b (value v); count = R.count; dis = λ j b v. R.dis j b (value v) }

module _ (n h : ℕ) (R : Problem ℕ) where
  -- the leaf where disequation j stands, and its sub-leaf there
  abbrev pub leaf_for : ℕ → ℕ
  leaf_for j = leaf_of (least n) h (numbered n R) j

  abbrev pub rank_for : ℕ → ℕ
  rank_for j = rank_of (least n) h (numbered n R) j

  -- the least choice for the positive clauses at leaf b
  abbrev pub plain_choice : ℕ → ℕ
  plain_choice b = first_below (2 ^ n) (R.pos b)

  -- the least for disequation j beside them
  abbrev pub special_choice : ℕ → ℕ → ℕ
  special_choice j b = first_below (2 ^ n) (λ x. R.pos b x && R.dis j b x)
