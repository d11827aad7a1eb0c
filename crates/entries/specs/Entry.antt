-- What is kept of the words of choices that a pass goes over. Words are counted through all leaves; bit i of word t is
-- number 64 * t + i. Assumes nothing.
use Rattle.std.specs.Prelude.{◌≡◌, Bool, true, false, ◌&&◌, ◌||◌, List, ℕ, ◌+◌, ◌*◌, ◌≤◌, ◌<◌, T, get_or}
use Rattle.shares.specs.Below.{some_below, first_below}
use Rattle.shares.specs.Constant.{bit}
use Rattle.words.specs.Kept.{number_at}
use Rattle.words.specs.declared.Passing.{Passing}

-- ---- the first number that passes

-- entry e after t words: its bit says whether some number passes p, and then its number is the first
pub record Entry (p : ℕ → Bool) (t met : ℕ) (firsts : List Passing) (e : ℕ) : Type 0 where
  pub found : bit met e ≡ some_below (64 * t) p
  pub stored : T (bit met e) → number_at firsts e ≡ first_below (64 * t) p

-- the numbers of word t that pass p are the bits of a word
abbrev pub WordOf : (ℕ → Bool) → (ℕ → Bool) → ℕ → Type 0
WordOf word p t = (i : ℕ) → i < 64 → word i ≡ p (64 * t + i)

-- entry e after word t, of which `word` has the bits. Nothing else changes
pub record Kept (e t : ℕ) (word : ℕ → Bool) (met : ℕ) (firsts : List Passing) (met' : ℕ) (firsts' : List Passing)
    : Type 0 where
  pub entry : (p : ℕ → Bool) → WordOf word p t → Entry p t met firsts e → Entry p (t + 1) met' firsts' e
  pub met_kept : (k : ℕ) → (k ≡ e → ⊥) → bit met' k ≡ bit met k
  pub firsts_kept : (k : ℕ) → (k ≡ e → ⊥) → number_at firsts' k ≡ number_at firsts k

-- the same of the first `count` entries
pub record KeptAll (count t : ℕ) (word : ℕ → ℕ → Bool) (met : ℕ) (firsts : List Passing) (met' : ℕ)
    (firsts' : List Passing) : Type 0 where
  pub entry : (e : ℕ) → e < count → (p : ℕ → Bool) → WordOf (word e) p t → Entry p t met firsts e
      → Entry p (t + 1) met' firsts' e
  pub met_kept : (k : ℕ) → count ≤ k → bit met' k ≡ bit met k
  pub firsts_kept : (k : ℕ) → count ≤ k → number_at firsts' k ≡ number_at firsts k

-- the same, but for those whose bits of `rest` are set, which are as they were
pub record KeptBut (rest count t : ℕ) (word : ℕ → ℕ → Bool) (met : ℕ) (firsts : List Passing) (met' : ℕ)
    (firsts' : List Passing) : Type 0 where
  pub entry : (e : ℕ) → e < count → bit rest e ≡ false → (p : ℕ → Bool) → WordOf (word e) p t → Entry p t met firsts e
      → Entry p (t + 1) met' firsts' e
  pub met_kept : (k : ℕ) → (k < count → T (bit rest k)) → bit met' k ≡ bit met k
  pub firsts_kept : (k : ℕ) → (k < count → T (bit rest k)) → number_at firsts' k ≡ number_at firsts k

-- ---- marks

-- two words have a bit in common
unfoldable pub common : ℕ → ℕ → Bool
common a b = some_below 64 (λ k. bit a k && bit b k)

-- some bit of a word is set
abbrev pub some : ℕ → Bool
some a = some_below 64 (bit a)

-- each bit of the words of the first system's disequations is one of `any`
abbrev pub InAny : ℕ → ℕ → List ℕ → Type 0
InAny count any rows = (i : ℕ) → i < count → (k : ℕ) → k < 64 → T (bit (get_or rows (32 + i) 0) k) → T (bit any k)

-- the first `count` bits of a mark are all set
abbrev pub FullMark : ℕ → ℕ → Type 0
FullMark count mark = (i : ℕ) → i < count → bit mark i ≡ true

-- bit j is taken out only if a mark is full. No other bit changes
pub record Settling (j count mark wanted wanted' : ℕ) : Type 0 where
  pub settled : T (bit wanted j) → bit wanted' j ≡ false → FullMark count mark
  pub wanted_kept : (k : ℕ) → k < 64 → (k ≡ j → ⊥) → bit wanted' k ≡ bit wanted k

-- mark j, which is wanted: rows 0 to 31 are the choices left, 32 to 63 those of the first system's disequations, 64 to
-- 95 the marks
pub record Marked (j count wanted here : ℕ) (rows : List ℕ) (wanted' here' : ℕ) (rows' : List ℕ) : Type 0 where
  pub there : bit here' j ≡ (bit here j || some (get_or rows j 0))
  pub mark : (i : ℕ) → i < count → bit (get_or rows' (64 + j) 0) i
      ≡ (bit (get_or rows (64 + j) 0) i || common (get_or rows (32 + i) 0) (get_or rows j 0))
  pub settled : bit wanted' j ≡ false → (bit here' j ≡ true) × FullMark count (get_or rows' (64 + j) 0)
  pub wanted_kept : (k : ℕ) → k < 64 → (k ≡ j → ⊥) → bit wanted' k ≡ bit wanted k
  pub here_kept : (k : ℕ) → (k ≡ j → ⊥) → bit here' k ≡ bit here k
  pub rows_kept : (k : ℕ) → (k ≡ 64 + j → ⊥) → get_or rows' k 0 ≡ get_or rows k 0

-- the first n marks, of those that are wanted: one that no longer is has a bit and a full mark
pub record MarkedAll (n count wanted here : ℕ) (rows : List ℕ) (wanted' here' : ℕ) (rows' : List ℕ) : Type 0 where
  pub there : (j : ℕ) → j < n → bit here' j ≡ (bit here j || (bit wanted j && some (get_or rows j 0)))
  pub mark : (j : ℕ) → j < n → (i : ℕ) → i < count
      → bit (get_or rows' (64 + j) 0) i
      ≡ (bit (get_or rows (64 + j) 0) i || (bit wanted j && common (get_or rows (32 + i) 0) (get_or rows j 0)))
  pub settled : (j : ℕ) → j < n → T (bit wanted j) → bit wanted' j ≡ false → (bit here' j ≡ true)
      × FullMark count (get_or rows' (64 + j) 0)

-- the same, but for those whose bits of `rest` are set, which are as they were
pub record MarkedBut (rest n count wanted here : ℕ) (rows : List ℕ) (wanted' here' : ℕ) (rows' : List ℕ) : Type 0 where
  pub there : (j : ℕ) → j < n → bit rest j ≡ false
      → bit here' j ≡ (bit here j || (bit wanted j && some (get_or rows j 0)))
  pub mark : (j : ℕ) → j < n → bit rest j ≡ false → (i : ℕ) → i < count
      → bit (get_or rows' (64 + j) 0) i
      ≡ (bit (get_or rows (64 + j) 0) i || (bit wanted j && common (get_or rows (32 + i) 0) (get_or rows j 0)))
  pub settled : (j : ℕ) → j < n → bit rest j ≡ false → T (bit wanted j) → bit wanted' j ≡ false → (bit here' j ≡ true)
      × FullMark count (get_or rows' (64 + j) 0)
  pub inside : (j : ℕ) → T (bit rest j) → (j < n) × T (bit wanted j)
  pub wanted_kept : (j : ℕ) → T (bit rest j) → bit wanted' j ≡ bit wanted j
  pub here_kept : (j : ℕ) → T (bit rest j) → bit here' j ≡ bit here j
  pub mark_kept : (j : ℕ) → T (bit rest j) → get_or rows' (64 + j) 0 ≡ get_or rows (64 + j) 0
  pub rows_kept : (k : ℕ) → k < 64 → get_or rows' k 0 ≡ get_or rows k 0
