-- A shift of 1 within 64 bits, and its one bit. Assumes nothing.
use Rattle.std.specs.Prelude.{◌≡◌, ℕ, ◌*◌, ◌%◌, ◌^◌, ◌<◌, eqb}
use Rattle.std.proofs.Common.{sym, ap, ◌∙◌, one-mul, arith, lit<, shl_exact}
use Rattle.std.proofs.Math.Bool.{and-true}
use Rattle.shares.specs.Constant.{bit}
use Rattle.shares.specs.BitParts.{bit_digit}

-- 1 shifted up within 64 bits is a power of two
pub power_shift : (k : ℕ) → k < 64 → (1 * 2 ^ k) % 2 ^ 64 ≡ 2 ^ k
power_shift k h = shl_exact 1 k 64 (lit< tt) (omega arith) ∙ one-mul (2 ^ k)

-- which has one bit
pub power_bit : (i k : ℕ) → bit (2 ^ i) k ≡ eqb k i
unfolding bit
power_bit i k = ap (λ x. bit x k) (sym (one-mul (2 ^ i))) ∙ bit_digit 1 i k (lit< tt) ∙ and-true (eqb k i)
