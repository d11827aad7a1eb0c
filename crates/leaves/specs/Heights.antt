-- Heights that solutions are held to, and how often a leaf is split. Assumes nothing.
use Rattle.std.specs.Prelude.{◌≡◌, ℕ, ◌^◌, ◌≤◌, leb}
use Rattle.shares.specs.Below.{first_below}

-- c n: the least k with n ≤ 2 ^ k, so that a leaf split k times has n sub-leaves or more
unfoldable pub c : ℕ → ℕ
c n = first_below n (λ k. leb n (2 ^ k))

-- held to no height
abbrev pub any_height : ℕ → Type 0
any_height w = Unit {0}

-- held to those no taller than k
abbrev pub at_most : ℕ → ℕ → Type 0
at_most k w = w ≤ k

-- held to the height k alone
abbrev pub exactly : ℕ → ℕ → Type 0
exactly k w = w ≡ k
