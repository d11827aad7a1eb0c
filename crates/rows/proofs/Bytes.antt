-- The bits of a byte with a block set, and the test of a block's bits, by a mask. Assumes nothing.
use mathlib.Core.Path.{◌≡◌, refl, sym, ap, ap₂, ◌∙◌}
use mathlib.Core.Bool.{Bool, true, false, cond, ◌&&◌, xor}
use mathlib.Core.Logic.{◌↔◌}
use Prim.Native.Nat.{ℕ, ◌/◌, ◌^◌, ◌<◌}
use native.Mathlib.Decide.{ℕ_discrete}
use native.Mathlib.Omega.{arith}
use borrow.Author.Tests.{eq-eqb, ne_eqb}
use lib.Bits.{bit_and, bit_xor, and_le_r}
use lib.Dec.{T, eqb, eqb→eq}
use Rattle.shares.specs.Test.{of_true}
use Rattle.shares.specs.Constant.{bit}
use Rattle.shares.specs.BitLaws.{bit_of_and, bit_of_xor, bit_zero, bits_zero}
use Rattle.rows.specs.Blocks.{whole_byte}
use Rattle.rows.proofs.BlockLaws.{whole_bit}

replaced : (b v m : Bool) → xor b (xor b v && m) ≡ cond m v b
unfolding xor
replaced true true true = refl
replaced true true false = refl
replaced true false true = refl
replaced true false false = refl
replaced false true true = refl
replaced false true false = refl
replaced false false true = refl
replaced false false false = refl

same_bit : (b v : Bool) → (xor b v && true) ≡ false → b ≡ v
unfolding xor
same_bit true true e = refl
same_bit true false e = e
same_bit false true e = sym e
same_bit false false e = refl

no_difference : (v m : Bool) → (xor v v && m) ≡ false
unfolding xor
no_difference true m = refl
no_difference false m = refl

not_asked : (b : Bool) → (b && false) ≡ false
not_asked true = refl
not_asked false = refl

module _ (byte w m h a : ℕ) (v : Bool) (ew : w ≡ whole_byte v) (em : (i : ℕ) → i < 8
    → bit m i ≡ eqb (i / 2 ^ h) a) where
  differs : (i : ℕ) → i < 8 → bit (bit_and (bit_xor byte w) m) i ≡ (xor (bit byte i) v && eqb (i / 2 ^ h) a)
  differs i l =
      bit_of_and (bit_xor byte w) m i
      ∙ ap₂ ◌&&◌ (bit_of_xor byte w i ∙ ap (xor (bit byte i)) (ap (λ n. bit n i) ew ∙ whole_bit v i l)) (em i l)

  pub block_bits : (i : ℕ) → i < 8 → bit (bit_xor byte (bit_and (bit_xor byte w) m)) i
      ≡ cond (eqb (i / 2 ^ h) a) v (bit byte i)
  block_bits i l =
      bit_of_xor byte (bit_and (bit_xor byte w) m) i ∙ ap (xor (bit byte i)) (differs i l)
      ∙ replaced (bit byte i) v (eqb (i / 2 ^ h) a)

  pub block_test : m < 256 → T (eqb (bit_and (bit_xor byte w) m) 0) ↔ ((i : ℕ) → i < 8 → i / 2 ^ h ≡ a → bit byte i ≡ v)
  block_test small = (
    λ t i l e. let z = eqb→eq (bit_and (bit_xor byte w) m) 0 t in
        same_bit (bit byte i) v
        (ap (λ x. xor (bit byte i) v && x) (sym (eq-eqb (i / 2 ^ h) a e)) ∙ sym (differs i l) ∙ ap (λ n. bit n i) z
        ∙ bit_zero i),
    λ f. of_true (eq-eqb _ 0
        (bits_zero 8 (bit_and (bit_xor byte w) m) (omega (arith, and_le_r (bit_xor byte w) m)) (λ i l. differs i l
        ∙ none f i l (ℕ_discrete (i / 2 ^ h) a)))),
  )
    where
      none : ((i : ℕ) → i < 8 → i / 2 ^ h ≡ a → bit byte i ≡ v) → (i : ℕ) → i < 8 → Dec (i / 2 ^ h ≡ a)
          → (xor (bit byte i) v && eqb (i / 2 ^ h) a) ≡ false
      none f i l (yes e) = rw (f i l e) (no_difference v (eqb (i / 2 ^ h) a))
      none f i l (no n) = rw (ne_eqb (i / 2 ^ h) a n) (not_asked (xor (bit byte i) v))
