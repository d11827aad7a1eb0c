-- One bit of a word set, where a test passes. Assumes nothing.
use Rattle.std.specs.Prelude.{◌≡◌, Bool, true, false, ◌&&◌, ◌||◌, ℕ, ◌-◌, ◌^◌, ◌≤◌, ◌<◌, eqb, ltb}
use Rattle.std.proofs.Common.{sym, ap, ap₂, ◌∙◌, arith, lt-ltb}
use Rattle.std.proofs.Math.Bool.{and-true, and-false, or-false}
use Rattle.std.specs.Int.Bits.{bit_or}
use Rattle.std.proofs.lemmas.Bool.{not-false}
use Rattle.shares.specs.Constant.{bit}
use Rattle.shares.specs.BitLaws.{bit_zero, bit_of_or}
use Rattle.shares.specs.BitParts.{bit_not}
use Rattle.shares.specs.Shifts.{power_bit}

-- set where a test passes: it was set already, or it is set now, or the test fails
module _ (x i : ℕ) (p : Bool) where
  pub bit_added : p ≡ true → (k : ℕ) → bit (bit_or x (2 ^ i)) k ≡ (bit x k || (eqb k i && p))
  bit_added e k = bit_of_or x (2 ^ i) k
      ∙ ap (◌||◌ (bit x k)) (power_bit i k ∙ sym (and-true (eqb k i)) ∙ ap (◌&&◌ (eqb k i)) (sym e))

  pub bit_not_added : p ≡ false → (k : ℕ) → bit x k ≡ (bit x k || (eqb k i && p))
  bit_not_added e k = sym (ap (λ b. bit x k || b) (ap (◌&&◌ (eqb k i)) e ∙ and-false (eqb k i)) ∙ or-false (bit x k))

-- the first bits of a word that has none unset
pub all_set : (x count r : ℕ) → x < 2 ^ 64 → count ≤ 32
    → ((k : ℕ) → bit r k ≡ (ltb k count && bit ((2 ^ 64 - 1) - x) k)) → r ≡ 0 → (i : ℕ) → i < count → bit x i ≡ true
all_set x count r small few bits z i l = not-false (bit x i)
    (sym (ap₂ ◌&&◌ (lt-ltb i count l) (bit_not 64 x i small (omega arith))) ∙ sym (bits i) ∙ ap (λ y. bit y i) z
    ∙ bit_zero i)
