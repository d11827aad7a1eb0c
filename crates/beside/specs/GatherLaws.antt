-- Laws of free choices: the choices of all words that fall on one word, gathered, say which free choices some own
-- choice goes with.
-- Assumes nothing.
use Rattle.std.specs.Prelude.{◌≡◌, ◌↔◌, Bool, not, ◌&&◌, ℕ, ◌+◌, ◌-◌, ◌*◌, ◌/◌, ◌%◌, ◌^◌, ◌≤◌, ◌<◌, eqb}
use Rattle.std.proofs.Math.Path.{sym, ap, subst}
use Rattle.std.proofs.Common.{ap₂, ◌∙◌, mod-lt, mod-eq_of_lt, add_comm, lt_of_lt_of_le, arith, eqb→eq, pow_pos}
use Rattle.std.proofs.Common.{pow_mono, pow-add, shr_lt}
use Rattle.std.proofs.Math.Bool.{not-not}
use Rattle.std.proofs.Math.Nat.{mod-one}
use Rattle.std.proofs.Math.Decide.{dec_le}
use Rattle.std.proofs.Math.Arith.{digits_lt, lt-one}
use Rattle.std.proofs.Math.Dec.{T, eqb_refl}
use Rattle.std.proofs.Math.Pow.{low, mod-mod-pow}
use Rattle.std.proofs.lemmas.Nat.{mod-pow-add}
use Rattle.shares.specs.Test.{same_test, and_intro, and_left, and_right}
use Rattle.shares.specs.Below.{some_below, first_below}
use Rattle.shares.specs.BelowLaws.{some_found, some_intro, first_longer}
use Rattle.shares.specs.Constant.{bit}
use Rattle.words.specs.Choices.{word_count, some_own, Periodic}
use Rattle.beside.specs.Beside.{Merged, Shared}

-- ---- a free choice in a word

-- with six digits or more, the word and the bit in it are apart
mod_high : (n w i : ℕ) → 6 ≤ n → i < 64 → (64 * w + i) % 2 ^ n ≡ w % 2 ^ (n - 6) * 64 + i
mod_high n w i h l =
    let e : n ≡ (n - 6) + 6 = omega arith in
    let q : (64 * w + i) / 2 ^ 6 ≡ w = omega arith in
    let r : (64 * w + i) % 2 ^ 6 ≡ i = omega arith in
    ap (λ k. (64 * w + i) % 2 ^ k) e ∙ mod-pow-add (64 * w + i) (n - 6) 6 ∙ ap₂ (λ x y. x % 2 ^ (n - 6) * 2 ^ 6 + y) q r

-- with at most six, the word does not count
mod_low : (n w i : ℕ) → n ≤ 6 → i < 64 → (64 * w + i) % 2 ^ n ≡ i % 2 ^ n
mod_low n w i h l =
    let e : (6 - n) + n ≡ 6 = omega arith in
    let r : (64 * w + i) % 2 ^ 6 ≡ i = omega arith in
    sym (mod-mod-pow (64 * w + i) (6 - n) n) ∙ ap (λ k. (64 * w + i) % 2 ^ k % 2 ^ n) e ∙ ap (λ x. x % 2 ^ n) r

mod_small : (n i : ℕ) → 6 ≤ n → i < 64 → i % 2 ^ n ≡ i
mod_small n i h l = mod-eq_of_lt (lt_of_lt_of_le l (pow_mono h))

-- 2 ^ d choices lie in their words
pub in_words : (d z : ℕ) → z < 2 ^ d → z / 64 < word_count d
unfolding word_count
in_words d z h = shr_lt (d - 6) 6 (lt_of_lt_of_le h (pow_mono (omega arith)))

pub words_pos : (n : ℕ) → 0 < word_count n
unfolding word_count
words_pos n = pow_pos (n - 6)

pub words_le : (n : ℕ) → n ≤ 12 → word_count n ≤ 64
unfolding word_count
words_le n h = pow_mono {j = 6} (omega arith)

-- bits i of word w and j of word u are the same free choice
pub same_free : (n u w i j : ℕ) → w < word_count n → i < 64 → j < 64
    → ((64 * u + j) % 2 ^ n ≡ (64 * w + i) % 2 ^ n) ↔ ((u % word_count n ≡ w) × (j % 2 ^ n ≡ i % 2 ^ n))
unfolding word_count
same_free n u w i j hw hi hj = go (dec_le 6 n)
  where
    go : Dec (6 ≤ n) → ((64 * u + j) % 2 ^ n ≡ (64 * w + i) % 2 ^ n) ↔ ((u % 2 ^ (n - 6) ≡ w) × (j % 2 ^ n ≡ i % 2 ^ n))
    go (yes h) =
        let eu = mod_high n u j h hj in
        let ew = mod_high n w i h hi in
        let small : w % 2 ^ (n - 6) ≡ w = mod-eq_of_lt hw in
        let small-i : i % 2 ^ n ≡ i = mod_small n i h hi in
        let small-j : j % 2 ^ n ≡ j = mod_small n j h hj in (
          λ e. (omega arith, let q : j ≡ i = omega arith in ap (λ k. k % 2 ^ n) q),
          λ (a, b). omega arith,
        )
    go (no h) =
        let one : n - 6 ≡ 0 = omega arith in
        let eu = mod_low n u j (omega arith) hj in
        let ew = mod_low n w i (omega arith) hi in (
          λ e. (ap (λ k. u % 2 ^ k) one ∙ mod-one u ∙ sym (lt-one (subst (λ k. w < 2 ^ k) one hw)), sym eu ∙ e ∙ ew),
          λ (a, b). eu ∙ b ∙ sym ew,
        )

-- ---- the own choices beside a free choice

module _ (n m : ℕ) (p : ℕ → Bool) (periodic : Periodic (n + m) p) where
  -- a choice that passes has an own part that passes beside its free part
  pub own_intro : (z : ℕ) → T (p z) → T (some_own n m p (z % 2 ^ n))
  unfolding some_own
  own_intro z t =
      let e : p z ≡ p (z / 2 ^ n % 2 ^ m * 2 ^ n + z % 2 ^ n) =
      periodic z ∙ ap (λ k. p (z % 2 ^ k)) (add_comm n m) ∙ ap p (mod-pow-add z m n) in
      some_intro (2 ^ m) (λ y. p (y * 2 ^ n + z % 2 ^ n)) (z / 2 ^ n % 2 ^ m) (mod-lt (z / 2 ^ n) (pow_pos m))
      (subst T e t)

  -- beside a free choice x some choice below 2 ^ (n + m) passes
  pub own_found : (x : ℕ) → x < 2 ^ n → T (some_own n m p x) → (z : ℕ) × (z < 2 ^ (n + m)) × (z % 2 ^ n ≡ x) × T (p z)
  unfolding some_own
  own_found x h t =
      let (y, l, u) = some_found (2 ^ m) (λ y. p (y * 2 ^ n + x)) t in
      let e : 2 ^ m * 2 ^ n ≡ 2 ^ (n + m) = sym (pow-add 2 m n) ∙ ap (λ k. 2 ^ k) (add_comm m n) in
      (y * 2 ^ n + x, subst (λ k. y * 2 ^ n + x < k) e (digits_lt l h), low y n h, u)

  -- the two together, by words
  pub own_words : (w i : ℕ) → w < word_count n → i < 64
      → T (some_own n m p ((64 * w + i) % 2 ^ n))
      ↔ ((u : ℕ) × (j : ℕ) × (u < word_count (n + m)) × (j < 64) × (u % word_count n ≡ w) × (j % 2 ^ n ≡ i % 2 ^ n)
      × T (p (64 * u + j)))
  own_words w i hw hi = (
    λ t.
        let (z, l, e, v) = own_found ((64 * w + i) % 2 ^ n) (mod-lt (64 * w + i) (pow_pos n)) t in
        let cut : 64 * (z / 64) + z % 64 ≡ z = omega arith in
        let same = (same_free n (z / 64) w i (z % 64) hw hi (mod-lt z (omega arith))).0 (ap (λ k. k % 2 ^ n) cut
        ∙ e) in (
          z / 64,
          z % 64,
          in_words (n + m) z l,
          mod-lt z (omega arith),
          same.0,
          same.1,
          subst (λ k. T (p k)) (sym cut) v,
        ),
    λ (u, j, hu, hj, e, f, v).
        subst (λ x. T (some_own n m p x)) ((same_free n u w i j hw hi hj).1 (e, f)) (own_intro (64 * u + j) v),
  )

-- where all six digits of a bit's number are free, no other bit has the same
alone : (n : ℕ) (f : ℕ → Bool) → 6 ≤ n → (i : ℕ) → i < 64
    → f i ≡ some_below 64 (λ j. eqb (j % 2 ^ n) (i % 2 ^ n) && f j)
alone n f h i l =
    same_test (f i) (some_below 64 same)
    (λ t. some_intro 64 same i l (and_intro (eqb (i % 2 ^ n) (i % 2 ^ n)) (f i) (eqb_refl (i % 2 ^ n)) t))
    (λ t.
    let (j, b, s) = some_found 64 same t in
    let g = eqb→eq (j % 2 ^ n) (i % 2 ^ n) (and_left (eqb (j % 2 ^ n) (i % 2 ^ n)) (f j) s) in
    let q : j ≡ i = sym (mod_small n j h b) ∙ g ∙ mod_small n i h l in
    subst (λ k. T (f k)) q (and_right (eqb (j % 2 ^ n) (i % 2 ^ n)) (f j) s))
  where
    same : ℕ → Bool
    same j = eqb (j % 2 ^ n) (i % 2 ^ n) && f j

-- merging and sharing change nothing in such a word
pub merged_same : (n x : ℕ) → 6 ≤ n → Merged n x x
merged_same n x h = alone n (bit x) h

pub shared_same : (n x : ℕ) → 6 ≤ n → Shared n x x
shared_same n x h i l = sym (not-not (bit x i)) ∙ ap not (alone n (λ j. not (bit x j)) h i l)

-- ---- a test that counts n digits alone

-- all choices of its words pass where the first 2 ^ n do, and the first that passes is the same
pub choices_le : (n : ℕ) → 2 ^ n ≤ 64 * word_count n
unfolding word_count
choices_le n = subst (λ c. 2 ^ n ≤ c) (pow-add 2 6 (n - 6)) (pow_mono (omega arith))

pub periodic_some : (n : ℕ) (p : ℕ → Bool) → Periodic n p → some_below (64 * word_count n) p ≡ some_below (2 ^ n) p
periodic_some n p h =
    same_test (some_below (64 * word_count n) p) (some_below (2 ^ n) p)
    (λ t. let (z, l, u) = some_found (64 * word_count n) p t in
    some_intro (2 ^ n) p (z % 2 ^ n) (mod-lt z (pow_pos n)) (subst T (h z) u))
    (λ t. let (z, l, u) = some_found (2 ^ n) p t in
    some_intro (64 * word_count n) p z (lt_of_lt_of_le l (choices_le n)) u)

pub periodic_first : (n : ℕ) (p : ℕ → Bool) → T (some_below (2 ^ n) p)
    → first_below (64 * word_count n) p ≡ first_below (2 ^ n) p
periodic_first n p = first_longer (2 ^ n) (64 * word_count n) p (choices_le n)
