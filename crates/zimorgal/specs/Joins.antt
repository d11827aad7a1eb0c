-- The number of what joining two constants gives, for the function that makes it. Assumes nothing.
use Rattle.std.specs.Prelude.{ℕ, Option, None, Some}
use Rattle.zimorgal.specs.Calls.{undefined_join}

-- the sum of a join that is defined, and the number of no join
abbrev pub join_number : ℕ → Option ℕ → ℕ
join_number levels (Some n) = n
join_number levels None = undefined_join levels
