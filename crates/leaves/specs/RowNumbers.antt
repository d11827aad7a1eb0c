-- Rows of leaves as numbers, the first leaf the highest digit. Assumes nothing.
use Rattle.std.specs.Prelude.{Bool, ℕ, zero, suc, ◌+◌, ◌-◌, ◌*◌, ◌^◌, leb}
use Rattle.shares.specs.Below.{one}
use Rattle.leaves.specs.Choices.{Row, nil, cons}

-- the number of a row of leaves
unfoldable pub value : {n : ℕ} → Row Bool n → ℕ
value nil = 0
value (cons {n = n} b v) = one b * 2 ^ n + value v

-- the row of n leaves that has the number k
unfoldable pub digits : (n : ℕ) → ℕ → Row Bool n
digits zero k = nil
digits (suc n) k = cons (leb (2 ^ n) k) (digits n (k - one (leb (2 ^ n) k) * 2 ^ n))
