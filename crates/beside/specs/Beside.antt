-- What is left of one word of free choices beside the own choices: definitions. Assumes nothing.
use Rattle.std.specs.Prelude.{◌≡◌, Bool, false, ◌&&◌, not, List, ℕ, ◌+◌, ◌-◌, ◌*◌, ◌%◌, ◌^◌, ◌≤◌, ◌<◌, T, eqb, get_or}
use Rattle.shares.specs.Below.{some_below}
use Rattle.shares.specs.Constant.{bit}
use Rattle.words.specs.Clause.{clause_test, Clauses}
use Rattle.words.specs.Choices.{word_count, all_pass, all_pass_but, some_own}
use Rattle.words.specs.Table.{Terms}
use Rattle.beside.specs.declared.Sizes.{Sizes}

-- ---- what can be read

-- a clause reads no own variable: only the first n terms, the constants and the two parts that are no term's count.
-- There are at most 12 variables, so none is among those from 12 on
abbrev pub ReadsFree : List ℕ → ℕ → ℕ → Type 0
ReadsFree clauses n at =
    (x y : ℕ → Bool) → ((t : ℕ) → t < n → x t ≡ y t) → ((t : ℕ) → 12 ≤ t → x t ≡ y t)
    → clause_test clauses x at ≡ clause_test clauses y at

-- the clauses of a stored question can be read, and those of the first system read no own variable
pub record Readable (clauses counts : List ℕ) (n m : ℕ) : Type 0 where
  pub variables : n + m ≤ 12
  pub first_positive : Clauses clauses 0 (get_or counts 0 0)
  pub first_disequation : Clauses clauses 256 (get_or counts 1 0)
  pub second_positive : Clauses clauses 384 (get_or counts 2 0)
  pub second_disequation : Clauses clauses 640 (get_or counts 3 0)
  pub positive_free : (k : ℕ) → k < get_or counts 0 0 → ReadsFree clauses n (0 + 4 * k)
  pub disequation_free : (k : ℕ) → k < get_or counts 1 0 → ReadsFree clauses n (256 + 4 * k)
  pub few : (get_or counts 1 0 ≤ 31) × (get_or counts 3 0 ≤ 31)

-- which constants are named fits 32 bits, and the height is one that constants have
pub record Bounded (sizes : Sizes) : Type 0 where
  pub named : sizes.named < 2 ^ 32
  pub height : sizes.height ≤ 5

-- ---- words merged and shared

-- bit i of r is set where some bit of x is whose number has the same low n digits as i
abbrev pub Merged : ℕ → ℕ → ℕ → Type 0
Merged n x r = (i : ℕ) → i < 64 → bit r i ≡ some_below 64 (λ j. eqb (j % 2 ^ n) (i % 2 ^ n) && bit x j)

-- bit i of r is set where a bit of x is, i turned by one of the first 2 ^ (p - n) multiples of 2 ^ n
abbrev pub MergedTo : ℕ → ℕ → ℕ → ℕ → Type 0
MergedTo n p x r = (i : ℕ) → i < 64 → bit r i ≡ some_below (2 ^ (p - n)) (λ j. bit x ((i + j * 2 ^ n) % 64))

-- bit i of r is set where no bit of x fails whose number has the same low n digits as i
abbrev pub Shared : ℕ → ℕ → ℕ → Type 0
Shared n x r = (i : ℕ) → i < 64 → bit r i ≡ not (some_below 64 (λ j. eqb (j % 2 ^ n) (i % 2 ^ n) && not (bit x j)))

-- the bits of a word are known by the low n digits of their numbers
abbrev pub SameFree : ℕ → ℕ → Type 0
SameFree n x = (i j : ℕ) → i < 64 → j < 64 → i % 2 ^ n ≡ j % 2 ^ n → bit x i ≡ bit x j

-- ---- what is left

-- bit i of r is set where that of x is and the test fails at i
abbrev pub Left : ℕ → (ℕ → Bool) → ℕ → Type 0
Left x s r = (i : ℕ) → i < 64 → bit r i ≡ (bit x i && not (s i))

-- some of the first o words that stand beside word w of `words` has a choice at bit i that passes p
abbrev pub beside_words : ℕ → ℕ → ℕ → (ℕ → Bool) → ℕ → Bool
beside_words words w o p i = some_below o (λ k. p (64 * (k * words + w) + i))

-- some own choice passes p beside the free choice at bit i of word w
abbrev pub beside_own : ℕ → ℕ → ℕ → (ℕ → Bool) → ℕ → Bool
beside_own n m w p i = some_own n m p ((64 * w + i) % 2 ^ n)

-- the bits at which s passes are taken out of word j, if bit j of `wanted` is set, which stays set only if some bit is
-- left. Nothing else changes
pub record Taken (j : ℕ) (s : ℕ → Bool) (wanted : ℕ) (left : List ℕ) (wanted' : ℕ) (left' : List ℕ) : Type 0 where
  pub word : T (bit wanted j) → Left (get_or left j 0) s (get_or left' j 0)
  pub empty : T (bit wanted j) → T (not (bit wanted' j)) → get_or left' j 0 ≡ 0
  pub wanted_kept : (k : ℕ) → k < 64 → (k ≡ j → ⊥) → bit wanted' k ≡ bit wanted k
  pub left_kept : (k : ℕ) → (k ≡ j → T (not (bit wanted j))) → get_or left' k 0 ≡ get_or left k 0

-- the same of each of the first `count` words
pub record TakenAll (count : ℕ) (s : ℕ → ℕ → Bool) (wanted : ℕ) (left : List ℕ) (wanted' : ℕ) (left' : List ℕ)
    : Type 0 where
  pub word : (j : ℕ) → j < count → T (bit wanted j) → Left (get_or left j 0) (s j) (get_or left' j 0)
  pub empty : (j : ℕ) → j < count → T (bit wanted j) → T (not (bit wanted' j)) → get_or left' j 0 ≡ 0
  pub wanted_kept : (k : ℕ) → count ≤ k → k < 64 → bit wanted' k ≡ bit wanted k
  pub left_kept : (k : ℕ) → (k < count → T (not (bit wanted k))) → get_or left' k 0 ≡ get_or left k 0

-- the same, but for those whose bits of `rest` are set, which are as they were
pub record TakenBut (rest count : ℕ) (s : ℕ → ℕ → Bool) (wanted : ℕ) (left : List ℕ) (wanted' : ℕ) (left' : List ℕ)
    : Type 0 where
  pub word : (j : ℕ) → j < count → bit rest j ≡ false → T (bit wanted j)
      → Left (get_or left j 0) (s j) (get_or left' j 0)
  pub empty : (j : ℕ) → j < count → bit rest j ≡ false → T (bit wanted j) → T (not (bit wanted' j))
      → get_or left' j 0 ≡ 0
  pub inside : (j : ℕ) → T (bit rest j) → (j < count) × T (bit wanted j)
  pub wanted_same : (j : ℕ) → T (bit rest j) → bit wanted' j ≡ bit wanted j
  pub left_same : (j : ℕ) → T (bit rest j) → get_or left' j 0 ≡ get_or left j 0
  pub wanted_kept : (k : ℕ) → count ≤ k → k < 64 → bit wanted' k ≡ bit wanted k
  pub left_kept : (k : ℕ) → (k < count → T (not (bit wanted k))) → get_or left' k 0 ≡ get_or left k 0

-- a word that was wanted and no longer is has nothing left
abbrev pub Emptied : ℕ → ℕ → ℕ → List ℕ → Type 0
Emptied count wanted going left = (j : ℕ) → j < count → T (bit wanted j) → T (not (bit going j)) → get_or left j 0 ≡ 0

-- the second system's positive clauses hold in a choice; and its disequation j too
abbrev pub positives_pass : List ℕ → List ℕ → ℕ → ℕ → ℕ → ℕ → Bool
positives_pass clauses counts n m values = all_pass clauses 384 (get_or counts 2 0) n m values

abbrev pub disequation_passes : List ℕ → List ℕ → ℕ → ℕ → ℕ → ℕ → ℕ → Bool
disequation_passes clauses counts n m values j = all_pass_but clauses 384 (get_or counts 2 0) (640 + 4 * j) n m values

-- after the first o words beside word w: what is left of x, with the table of terms at some word
pub record Swept (clauses counts : List ℕ) (n m values w x wanted o none : ℕ) (terms left : List ℕ) : Type 0 where
  pub rest : Left x (beside_words (word_count n) w o (positives_pass clauses counts n m values)) none
  pub each : (j : ℕ) → j < get_or counts 3 0 → T (bit wanted j)
      → Left x (beside_words (word_count n) w o (disequation_passes clauses counts n m values j)) (get_or left j 0)
  pub at : ℕ
  pub table : Terms n m values at terms

-- after all of them
pub record SweptAll (clauses counts : List ℕ) (n m values w x wanted none : ℕ) (terms left : List ℕ) : Type 0 where
  pub words : ℕ
  pub enough : words * word_count n ≡ word_count (n + m)
  pub swept : Swept clauses counts n m values w x wanted words none terms left

-- what is left of x beside all own choices
pub record Missing (clauses counts : List ℕ) (n m values w x wanted r : ℕ) (left : List ℕ) : Type 0 where
  pub none : Left x (beside_own n m w (positives_pass clauses counts n m values)) r
  pub each : (j : ℕ) → j < get_or counts 3 0 → T (bit wanted j)
      → Left x (beside_own n m w (disequation_passes clauses counts n m values j)) (get_or left j 0)
