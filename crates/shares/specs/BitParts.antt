-- Bits of parts of a number, of a number of ones and of a complement, for every width. Assumes nothing.
use Rattle.std.specs.Prelude.{◌≡◌, refl, Bool, true, false, not, ◌&&◌, List, [], ◌∷◌, ℕ, suc, ◌+◌, ◌-◌, ◌*◌, ◌/◌, ◌%◌}
use Rattle.std.specs.Prelude.{◌^◌, ◌≤◌, ◌<◌, eqb, get_or}
use Rattle.std.proofs.Common.{sym, ap, ap₂, ◌∙◌, subst, add-zero, pow-suc, mod-eq_of_lt, lt_of_lt_of_le, arith, lit<}
use Rattle.std.proofs.Common.{pow_pos, pow_mono, shr-shr, eq-eqb, ne_eqb}
use Rattle.std.proofs.Math.Bool.{xor}
use Rattle.std.proofs.Math.Nat.{div-eq_of_lt}
use Rattle.std.proofs.Math.Decide.{dec_lt, ℕ_discrete}
use Rattle.std.specs.Int.Bits.{bit_xor, xor_add_and}
use Rattle.std.proofs.lemmas.Nat.{and_mask}
use Rattle.std.proofs.Math.Pow.{high, low, field, mod-mod-pow, ones_split, ones_lt}
use Rattle.std.proofs.Math.Arith.{digits_mod}
use Rattle.shares.specs.Constant.{bit, number}
use Rattle.shares.specs.BitLaws.{bit_zero, bit_of_xor}

-- ---- the upper and the lower part of a number

pub bit_shift : (x k i : ℕ) → bit (x / 2 ^ k) i ≡ bit x (k + i)
unfolding bit
bit_shift x k i = ap (λ n. eqb (n % 2) 1) (shr-shr x k i)

pub bit_mod : (x k i : ℕ) → i < k → bit (x % 2 ^ k) i ≡ bit x i
unfolding bit
bit_mod x k i h =
    ap (λ n. eqb n 1)
    (ap (λ e. x % 2 ^ e / 2 ^ i % 2) up
    ∙ ap (λ n. n % 2) (field x (k - i) i)
    ∙ ap (λ e. x / 2 ^ i % 2 ^ e % 2) one_up
    ∙ mod-mod-pow (x / 2 ^ i) (k - i - 1) 1)
  where
    up : k ≡ (k - i) + i
    up = omega arith

    one_up : k - i ≡ (k - i - 1) + 1
    one_up = omega arith

-- beyond the width no bit is set
pub bit_beyond : (w x i : ℕ) → x < 2 ^ w → w ≤ i → bit x i ≡ false
unfolding bit
bit_beyond w x i h l = ap (λ n. eqb (n % 2) 1) (div-eq_of_lt (lt_of_lt_of_le h (pow_mono l)))

module _ (k y x : ℕ) (h : x < 2 ^ k) where
  pub bit_low : (i : ℕ) → i < k → bit (y * 2 ^ k + x) i ≡ bit x i
  bit_low i l = sym (bit_mod (y * 2 ^ k + x) k i l) ∙ ap (λ n. bit n i) (low y k h)

  pub bit_high : (i : ℕ) → bit (y * 2 ^ k + x) (k + i) ≡ bit y i
  bit_high i = sym (bit_shift (y * 2 ^ k + x) k i) ∙ ap (λ n. bit n i) (high y k h)

-- ---- a number shifted up

pub bit_raised_low : (a k i : ℕ) → i < k → bit (a * 2 ^ k) i ≡ false
bit_raised_low a k i l = ap (λ n. bit n i) (sym (add-zero (a * 2 ^ k))) ∙ bit_low k a 0 (pow_pos k) i l ∙ bit_zero i

pub bit_raised : (a k i : ℕ) → bit (a * 2 ^ k) (k + i) ≡ bit a i
bit_raised a k i = ap (λ n. bit n (k + i)) (sym (add-zero (a * 2 ^ k))) ∙ bit_high k a 0 (pow_pos k) i

-- ---- all ones, and the complement

odd_ones : (k : ℕ) → (2 ^ suc k - 1) % 2 ≡ 1
odd_ones k =
    let e : 2 ^ suc k - 1 ≡ (2 ^ k - 1) * 2 + 1 = omega (arith, pow-suc 2 k, pow_pos k) in
    ap (λ n. n % 2) e ∙ digits_mod (2 ^ k - 1) (lit< tt)

pub bit_ones : (w i : ℕ) → i < w → bit (2 ^ w - 1) i ≡ true
unfolding bit
bit_ones w i h =
    ap (λ n. eqb (n % 2) 1) (ap (λ e. (2 ^ e - 1) / 2 ^ i) up ∙ ap (λ n. n / 2 ^ i) (ones_split (suc (w - i - 1)) i)
    ∙ high (2 ^ suc (w - i - 1) - 1) i (ones_lt i))
    ∙ ap (λ n. eqb n 1) (odd_ones (w - i - 1))
  where
    up : w ≡ suc (w - i - 1) + i
    up = omega arith

complement : (w a : ℕ) → a < 2 ^ w → (2 ^ w - 1) - a ≡ bit_xor a (2 ^ w - 1)
complement w a h =
    let m : bit_xor a (2 ^ w - 1) + a * 2 ≡ a + (2 ^ w - 1) =
    ap (λ n. bit_xor a (2 ^ w - 1) + n * 2) (sym (and_mask a w ∙ mod-eq_of_lt h)) ∙ xor_add_and a (2 ^ w - 1) in
    omega arith

xor_true : (a : Bool) → xor a true ≡ not a
unfolding xor
xor_true true = refl
xor_true false = refl

pub bit_not : (w a i : ℕ) → a < 2 ^ w → i < w → bit ((2 ^ w - 1) - a) i ≡ not (bit a i)
bit_not w a i h l =
    ap (λ x. bit x i) (complement w a h) ∙ bit_of_xor a (2 ^ w - 1) i ∙ ap (xor (bit a i)) (bit_ones w i l)
    ∙ xor_true (bit a i)

-- ---- one binary digit, at bit k

pub bit_digit : (v k j : ℕ) → v < 2 → bit (v * 2 ^ k) j ≡ (eqb j k && bit v 0)
bit_digit v k j h = go (dec_lt j k) (ℕ_discrete j k)
  where
    go : Dec (j < k) → Dec (j ≡ k) → bit (v * 2 ^ k) j ≡ (eqb j k && bit v 0)
    go (yes l) e = rw (ne_eqb j k (λ q. omega arith)) (bit_raised_low v k j l)
    go (no g) (yes q) = rw (eq-eqb j k q) (ap (bit (v * 2 ^ k)) (q ∙ sym (add-zero k)) ∙ bit_raised v k 0)
    go (no g) (no n) =
        let e : k + (j - k) ≡ j = omega arith in
        rw (ne_eqb j k n) (ap (bit (v * 2 ^ k)) (sym e) ∙ bit_raised v k (j - k)
        ∙ bit_beyond 1 v (j - k) h (omega arith))

-- bit p of x as a digit
pub digit_of : (x p : ℕ) → bit (x / 2 ^ p % 2) 0 ≡ bit x p
digit_of x p = bit_mod (x / 2 ^ p) 1 0 (lit< tt) ∙ bit_shift x p 0 ∙ ap (bit x) (add-zero p)

-- ---- bytes, the lowest first

-- bit i of the number that bytes make is bit i mod 8 of byte i div 8
pub bit_bytes : (bs : List ℕ) → ((j : ℕ) → get_or bs j 0 < 2 ^ 8) → (i : ℕ)
    → bit (number bs) i ≡ bit (get_or bs (i / 8) 0) (i % 8)
unfolding number
bit_bytes [] h i = bit_zero i ∙ sym (bit_zero (i % 8))
bit_bytes (b ∷ bs) h i = pick (bit_bytes bs (λ j. h (suc j))) (dec_lt i 8)
  where
    pick : ((i : ℕ) → bit (number bs) i ≡ bit (get_or bs (i / 8) 0) (i % 8)) → Dec (i < 8)
        → bit (number bs * 2 ^ 8 + b) i ≡ bit (get_or (b ∷ bs) (i / 8) 0) (i % 8)
    pick ih (yes l) = bit_low 8 (number bs) b (h 0) i l ∙ rw (div-eq_of_lt l, mod-eq_of_lt l)
    pick ih (no n) =
        let byte : suc ((i - 8) / 8) ≡ i / 8 = omega arith in
        let within : (i - 8) % 8 ≡ i % 8 = omega arith in
        subst (λ x. bit (number bs * 2 ^ 8 + b) x ≡ bit (get_or (b ∷ bs) (i / 8) 0) (i % 8)) (omega arith)
        (bit_high 8 (number bs) b (h 0) (i - 8) ∙ ih (i - 8) ∙ ap₂ (λ x y. bit (get_or (b ∷ bs) x 0) y) byte within)
