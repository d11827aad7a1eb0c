-- Heights with room for a number of sub-leaves. Assumes nothing.
use Rattle.std.specs.Prelude.{ℕ, ◌+◌, ◌^◌, ◌≤◌}

-- among the heights A is one at which leaves of height h have n sub-leaves each, or more
pub record Room (A : ℕ → Type 0) (h n : ℕ) : Type 0 where
  pub times : ℕ
  pub enough : n ≤ 2 ^ times
  pub allowed : A (h + times)
