-- Laws of words: the bits that are like one, half of a word, and bits that go unless two words are the same. Assumes
-- nothing.
use Rattle.std.specs.Prelude.{◌≡◌, refl, Bool, true, false, not, ◌&&◌, ◌||◌, List, ℕ, ◌+◌, ◌-◌, ◌*◌, ◌/◌, ◌%◌, ◌^◌, ◌<◌}
use Rattle.std.specs.Prelude.{ltb, eqb, get_or}
use Rattle.std.proofs.Common.{sym, ap, ap₂, ◌∙◌, arith, eq-eqb, ne_eqb, lt-ltb, le-ltb}
use Rattle.std.proofs.Math.Bool.{and-true}
use Rattle.std.specs.Bool.{beq}
use Rattle.std.proofs.Math.Nat.{div-eq_of_lt}
use Rattle.std.proofs.Math.Decide.{dec_lt, ℕ_discrete}
use Rattle.std.proofs.Math.Arith.{digits_div}
use Rattle.std.specs.Int.Bits.{bit_and}
use Rattle.std.proofs.Math.Dec.{not_T}
use Rattle.std.proofs.Math.Pow.{pow-lt, ones_lt}
use Rattle.shares.specs.Test.{is_true, is_false, beq_iff}
use Rattle.shares.specs.Below.{every_below}
use Rattle.shares.specs.BelowLaws.{every_at, every_intro}
use Rattle.shares.specs.Constant.{bit}
use Rattle.shares.specs.BitLaws.{bits_same}
use Rattle.shares.specs.BitParts.{bit_not, bit_ones, bit_beyond, bit_raised, bit_raised_low}
use Rattle.shares.specs.Shifts.{power_shift, power_bit}
use Rattle.beside.specs.TakeLaws.{taken_out}
use Rattle.extending.specs.Looks.{alike}

-- ---- the bits that are like one

pub like_set : (x k : ℕ) (digit : Bool) → digit ≡ true → bit x k ≡ beq (bit x k) digit
like_set x k digit e = go (bit x k) ∙ ap (beq (bit x k)) (sym e)
  where
    go : (b : Bool) → b ≡ beq b true
    go true = refl
    go false = refl

pub like_unset : (x k : ℕ) (digit : Bool) → x < 2 ^ 64 → k < 64 → digit ≡ false
    → bit ((2 ^ 64 - 1) - x) k ≡ beq (bit x k) digit
like_unset x k digit small l e = bit_not 64 x k small l ∙ go (bit x k) ∙ ap (beq (bit x k)) (sym e)
  where
    go : (b : Bool) → not b ≡ beq b false
    go true = refl
    go false = refl

-- ---- half of a word of twice w bits

module _ (w k : ℕ) where
  pub half_low : k < w + w → bit (2 ^ w - 1) k ≡ eqb (k / w) 0
  half_low l = go (dec_lt k w)
    where
      go : Dec (k < w) → bit (2 ^ w - 1) k ≡ eqb (k / w) 0
      go (yes h) = bit_ones w k h ∙ sym (eq-eqb (k / w) 0 (div-eq_of_lt h))
      go (no n) =
          let e : k / w ≡ 1 = one_time in
          bit_beyond w (2 ^ w - 1) k (ones_lt w) (omega arith) ∙ sym (ne_eqb (k / w) 0 (λ z. omega arith))
        where
          one_time : k / w ≡ 1
          one_time = let q : 1 * w + (k - w) ≡ k = omega arith in ap (λ k. k / w) (sym q) ∙ digits_div 1 (omega arith)

  pub half_high : k < w + w → bit ((2 ^ w - 1) * 2 ^ w) k ≡ eqb (k / w) 1
  half_high l = go (dec_lt k w)
    where
      go : Dec (k < w) → bit ((2 ^ w - 1) * 2 ^ w) k ≡ eqb (k / w) 1
      go (yes h) = let e : k / w ≡ 0 = div-eq_of_lt h in bit_raised_low (2 ^ w - 1) w k h
          ∙ sym (ne_eqb (k / w) 1 (λ z. omega arith))
      go (no n) =
          let q : w + (k - w) ≡ k = omega arith in
          let p : 1 * w + (k - w) ≡ k = omega arith in
          ap (bit ((2 ^ w - 1) * 2 ^ w)) (sym q) ∙ bit_raised (2 ^ w - 1) w (k - w) ∙ bit_ones w (k - w) (omega arith)
          ∙ sym (eq-eqb (k / w) 1 (ap (λ k. k / w) (sym p) ∙ digits_div 1 (omega arith)))

-- ---- two words

alike_same : (x y : ℕ) → x ≡ y → alike x y ≡ true
unfolding alike
alike_same x y e = is_true _
    (every_intro 64 (λ i. beq (bit x i) (bit y i)) (λ i l. (beq_iff (bit x i) (bit y i)).1 (ap (λ z. bit z i) e)))

alike_apart : (x y : ℕ) → x < 2 ^ 64 → y < 2 ^ 64 → (x ≡ y → ⊥) → alike x y ≡ false
unfolding alike
alike_apart x y hx hy n =
    is_false (every_below 64 same)
    (not_T (every_below 64 same)
    (λ t. n (bits_same 64 x y hx hy (λ i l. (beq_iff (bit x i) (bit y i)).0 (every_at 64 same t i l)))))
  where
    same : ℕ → Bool
    same i = beq (bit x i) (bit y i)

-- bit j taken out
out_bit : (r j k : ℕ) → j < 64 → k < 64 → bit (bit_and r ((2 ^ 64 - 1) - (1 * 2 ^ j) % 2 ^ 64)) k
    ≡ (bit r k && not (eqb k j))
out_bit r j k h l =
    let e = power_shift j h in
    taken_out r ((1 * 2 ^ j) % 2 ^ 64) (λ i. eqb i j) (rw e (pow-lt {j = 64} h)) (λ i m. ap (λ y. bit y i) e
    ∙ power_bit j i) k l

module _ (x y r j k : ℕ) where
  pub unless_kept : x ≡ y → bit r k ≡ (bit r k && (not (eqb k j) || alike x y))
  unless_kept e = sym (ap (λ b. bit r k && (not (eqb k j) || b)) (alike_same x y e) ∙ go (bit r k) (eqb k j))
    where
      go : (a b : Bool) → (a && (not b || true)) ≡ a
      go true true = refl
      go true false = refl
      go false b = refl

  pub unless_out : x < 2 ^ 64 → y < 2 ^ 64 → (x ≡ y → ⊥) → j < 64 → k < 64
      → bit (bit_and r ((2 ^ 64 - 1) - (1 * 2 ^ j) % 2 ^ 64)) k ≡ (bit r k && (not (eqb k j) || alike x y))
  unless_out hx hy n h l = out_bit r j k h l
      ∙ sym (ap (λ b. bit r k && (not (eqb k j) || b)) (alike_apart x y hx hy n) ∙ go (bit r k) (eqb k j))
    where
      go : (a b : Bool) → (a && (not b || false)) ≡ (a && not b)
      go true true = refl
      go true false = refl
      go false b = refl

-- ---- the bits that are still wanted after the first j words

module _ (x wanted : ℕ) (left : List ℕ) where
  abbrev pub StillTo : ℕ → ℕ → Type 0
  StillTo j r = (k : ℕ) → k < 64 → bit r k ≡ (bit wanted k && (not (ltb k j) || alike x (get_or left k 0)))

  pub still_start : StillTo 0 wanted
  still_start k l = sym (ap (λ b. bit wanted k && (not b || alike x (get_or left k 0))) (le-ltb k 0 (omega arith))
      ∙ and-true (bit wanted k))

  pub still_more : (j r s : ℕ)
      → ((k : ℕ) → k < 64 → bit s k ≡ (bit r k && (not (eqb k j) || alike x (get_or left j 0)))) → StillTo j r
      → StillTo (j + 1) s
  still_more j r s step S k l = step k l ∙ ap (λ b. b && (not (eqb k j) || alike x (get_or left j 0))) (S k l)
      ∙ go (dec_lt k j) (ℕ_discrete k j)
    where
      go : Dec (k < j) → Dec (k ≡ j)
          → ((bit wanted k && (not (ltb k j) || alike x (get_or left k 0)))
          && (not (eqb k j) || alike x (get_or left j 0)))
          ≡ (bit wanted k && (not (ltb k (j + 1)) || alike x (get_or left k 0)))
      go (yes h) d =
          rw (lt-ltb k j h, lt-ltb k (j + 1) (omega arith), ne_eqb k j (λ e. omega arith))
          (and-true (bit wanted k && alike x (get_or left k 0)))
      go (no n) (yes e) =
          rw (le-ltb k j (omega arith), lt-ltb k (j + 1) (omega arith), eq-eqb k j e)
          (ap₂ ◌&&◌ (and-true (bit wanted k)) (ap (λ i. alike x (get_or left i 0)) (sym e)))
      go (no n) (no m) =
          rw (le-ltb k j (omega arith), le-ltb k (j + 1) (omega arith), ne_eqb k j m) (and-true (bit wanted k && true))
