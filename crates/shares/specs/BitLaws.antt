-- Laws of the bits of a number, for every width. Assumes nothing.
use Rattle.std.specs.Prelude.{◌≡◌, refl, Bool, true, false, ◌&&◌, ◌||◌, ℕ, zero, suc, ◌+◌, ◌*◌, ◌/◌, ◌%◌, ◌^◌, ◌≤◌, ◌<◌}
use Rattle.std.specs.Prelude.{min, max}
use Rattle.std.proofs.Common.{sym, ◌∙◌, not-suc-le-zero, le_of_suc-le-suc, mod-lt, div-one, add-one, one-add, arith}
use Rattle.std.proofs.Common.{lit<, pow_pos, shr-shr, shr_lt}
use Rattle.std.proofs.Math.Path.{ap}
use Rattle.std.proofs.Math.Bool.{xor}
use Rattle.std.proofs.Math.Nat.{two-pow-succ, zero-div}
use Rattle.std.proofs.Math.Arith.{lt-one, digits_mod}
use Rattle.std.specs.Int.Bits.{bit_and, bit_or, bit_xor, differ, and_step, or_step, xor_step}
use Rattle.std.proofs.lemmas.Nat.{and_shr, or_shr, xor_shr}
use Rattle.std.proofs.Math.Dec.{eqb}
use Rattle.shares.specs.Below.{one}
use Rattle.shares.specs.Constant.{bit, number_of}

-- ---- the bits of x & y, x | y and x ^ y

two : (P : ℕ → ℕ → Type 0) → P 0 0 → P 0 1 → P 1 0 → P 1 1 → (x y : ℕ) → x < 2 → y < 2 → P x y
two P a b c d zero zero hx hy = a
two P a b c d zero (suc zero) hx hy = b
two P a b c d zero (suc (suc y)) hx hy = absurd (omega arith)
two P a b c d (suc zero) zero hx hy = c
two P a b c d (suc zero) (suc zero) hx hy = d
two P a b c d (suc zero) (suc (suc y)) hx hy = absurd (omega arith)
two P a b c d (suc (suc x)) y hx hy = absurd (omega arith)

-- f on the digits 0 and 1 is g on tests
abbrev Digit : (ℕ → ℕ → ℕ) → (Bool → Bool → Bool) → ℕ → ℕ → Type 0
Digit f g x y = (f x y < 2) × (eqb (f x y) 1 ≡ g (eqb x 1) (eqb y 1))

-- an operation that works digit by digit works bit by bit
module _ (op f : ℕ → ℕ → ℕ) (g : Bool → Bool → Bool)
    (step : (a b : ℕ) → op a b ≡ op (a / 2) (b / 2) * 2 + f (a % 2) (b % 2))
    (shr : (a b k : ℕ) → op a b / 2 ^ k ≡ op (a / 2 ^ k) (b / 2 ^ k))
    (small : (x y : ℕ) → x < 2 → y < 2 → Digit f g x y) where
  odd_op : (a b : ℕ) → eqb (op a b % 2) 1 ≡ g (eqb (a % 2) 1) (eqb (b % 2) 1)
  odd_op a b =
      let s = small (a % 2) (b % 2) (mod-lt a (omega arith)) (mod-lt b (omega arith)) in
      ap (λ (x : ℕ). eqb (x % 2) 1) (step a b) ∙ ap (λ (x : ℕ). eqb x 1) (digits_mod (op (a / 2) (b / 2)) s.0) ∙ s.1

  bit_op : (a b i : ℕ) → bit (op a b) i ≡ g (bit a i) (bit b i)
  unfolding bit
  bit_op a b i = ap (λ (x : ℕ). eqb (x % 2) 1) (shr a b i) ∙ odd_op (a / 2 ^ i) (b / 2 ^ i)

pub bit_of_and : (a b i : ℕ) → bit (bit_and a b) i ≡ (bit a i && bit b i)
bit_of_and = bit_op bit_and min ◌&&◌ and_step and_shr
    (two (Digit min ◌&&◌) (lit< tt, refl) (lit< tt, refl) (lit< tt, refl) (lit< tt, refl))

pub bit_of_or : (a b i : ℕ) → bit (bit_or a b) i ≡ (bit a i || bit b i)
bit_of_or = bit_op bit_or max ◌||◌ or_step or_shr
    (two (Digit max ◌||◌) (lit< tt, refl) (lit< tt, refl) (lit< tt, refl) (lit< tt, refl))

pub bit_of_xor : (a b i : ℕ) → bit (bit_xor a b) i ≡ xor (bit a i) (bit b i)
unfolding xor
bit_of_xor = bit_op bit_xor differ xor xor_step xor_shr
    (two (Digit differ xor) (lit< tt, refl) (lit< tt, refl) (lit< tt, refl) (lit< tt, refl))

-- ---- the bits of 0 and of x / 2

pub bit_zero : (i : ℕ) → bit 0 i ≡ false
unfolding bit
bit_zero i = ap (λ n. eqb (n % 2) 1) (zero-div (2 ^ i))

pub bit_half : (x i : ℕ) → bit (x / 2) i ≡ bit x (suc i)
unfolding bit
bit_half x i = ap (λ n. eqb (n % 2) 1) (shr-shr x 1 i ∙ ap (λ n. x / 2 ^ n) (one-add i))

-- ---- a number of w bits is its bits

odd_same : (u v : ℕ) → u < 2 → v < 2 → eqb u 1 ≡ eqb v 1 → u ≡ v
odd_same =
    two (λ u v. eqb u 1 ≡ eqb v 1 → u ≡ v) (λ e. refl)
    (λ e. let z : ◌≡◌ {A = ℕ} 0 1 = cc in z) (λ e. let z : ◌≡◌ {A = ℕ} 1 0 = cc in z) (λ e. refl)

pub bits_same : (w x y : ℕ) → x < 2 ^ w → y < 2 ^ w → ((i : ℕ) → i < w → bit x i ≡ bit y i) → x ≡ y
unfolding bit
bits_same zero x y hx hy e = lt-one hx ∙ sym (lt-one hy)
bits_same (suc w) x y hx hy e =
    let above : x / 2 ≡ y / 2 =
    bits_same w (x / 2) (y / 2) (shr_lt w 1 (rw (add-one w) hx)) (shr_lt w 1 (rw (add-one w) hy))
    (λ i l. bit_half x i ∙ e (suc i) (omega arith) ∙ sym (bit_half y i)) in
    let odd : x % 2 ≡ y % 2 =
    odd_same (x % 2) (y % 2) (mod-lt x (omega arith)) (mod-lt y (omega arith))
    (rw (div-one x, div-one y) at (e 0 (omega arith))) in
    omega arith

-- with none set it is 0
pub bits_zero : (w x : ℕ) → x < 2 ^ w → ((i : ℕ) → i < w → bit x i ≡ false) → x ≡ 0
bits_zero w x h e = bits_same w x 0 h (pow_pos w) (λ i l. e i l ∙ sym (bit_zero i))

-- ---- a number of given bits has them

one_le : (b : Bool) → one b ≤ 1
one_le true = omega arith
one_le false = omega arith

pub number_lt : (w : ℕ) (f : ℕ → Bool) → number_of w f < 2 ^ w
unfolding number_of
number_lt zero f = pow_pos 0
number_lt (suc w) f = omega (arith, number_lt w (λ i. f (suc i)), two-pow-succ w, one_le (f 0))

bit_first : (x : ℕ) (b : Bool) → bit (x * 2 + one b) 0 ≡ b
unfolding bit
bit_first x true = let e : (x * 2 + 1) / 1 % 2 ≡ 1 = omega arith in rw e
bit_first x false = let e : (x * 2 + 0) / 1 % 2 ≡ 0 = omega arith in rw e

pub bit_number : (w : ℕ) (f : ℕ → Bool) (i : ℕ) → i < w → bit (number_of w f) i ≡ f i
unfolding number_of
bit_number zero f i h = absurd (not-suc-le-zero h)
bit_number (suc w) f zero h = bit_first (number_of w (λ i. f (suc i))) (f 0)
bit_number (suc w) f (suc i) h =
    let x = number_of w (λ i. f (suc i)) in
    sym (bit_half (x * 2 + one (f 0)) i) ∙ ap (λ n. bit n i) (omega (arith, one_le (f 0)))
    ∙ bit_number w (λ i. f (suc i)) i (le_of_suc-le-suc h)
