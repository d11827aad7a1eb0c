-- Small laws of numbers and lists that several crates use. Assumes nothing.
use Rattle.std.specs.Prelude.{◌≡◌, refl, ℕ, zero, suc, ◌-◌, ◌*◌, ◌^◌, ◌<◌, get_or, replicate}
use Rattle.std.proofs.Common.{ap, ◌∙◌, arith}
use Rattle.std.proofs.Math.Nat.{two-pow-succ}

-- every element of a list of zeros, and what is past its end
pub zero_at : (n i : ℕ) → ◌≡◌ {A = ℕ} (get_or (replicate n 0) i 0) 0
zero_at zero i = refl
zero_at (suc n) zero = refl
zero_at (suc n) (suc i) = zero_at n i

-- a power of two is twice the one below
pub halved : (k : ℕ) → 0 < k → 2 ^ k ≡ 2 * 2 ^ (k - 1)
halved k l = let e : k ≡ suc (k - 1) = omega arith in ap (λ n. 2 ^ n) e ∙ omega (arith, two-pow-succ (k - 1))
