-- The table of terms: a word for each term, and for each part of a join that is no term's, with its values in the 64
-- choices of one word.
-- Assumes nothing.
use Rattle.std.specs.Prelude.{◌≡◌, false, List, ◌⊎◌, ℕ, ◌+◌, ◌-◌, ◌*◌, ◌≤◌, ◌<◌, T, get_or}
use Rattle.shares.specs.Constant.{bit}
use Rattle.words.specs.Clause.{position, term_value}

-- bit i of the word x is the value of part t in choice 64 * w + i
abbrev pub TermWord : ℕ → ℕ → ℕ → ℕ → ℕ → ℕ → Type 0
TermWord n m values w t x = (i : ℕ) → i < 64 → bit x i ≡ term_value n m values (64 * w + i) t

-- every part's word is right at word w
abbrev pub Terms : ℕ → ℕ → ℕ → ℕ → List ℕ → Type 0
Terms n m values w terms = (t : ℕ) → t < 64 → TermWord n m values w t (get_or terms t 0)

-- bit i of the word x is the digit that variable t has in choice 64 * w + i
abbrev pub Digits : ℕ → ℕ → ℕ → ℕ → ℕ → Type 0
Digits n m w t x = (i : ℕ) → i < 64 → bit x i ≡ bit (64 * w + i) (position n m t)

-- the variables with digit `from` or above are right at word w, and every other word is as it was
pub record Changed (n m from w : ℕ) (old new : List ℕ) : Type 0 where
  pub set : (t : ℕ) → t < n + m → from ≤ position n m t → Digits n m w t (get_or new t 0)
  pub kept : (t : ℕ) → (t < n + m → position n m t < from) → get_or new t 0 ≡ get_or old t 0

-- only the values of constants that are named are set
abbrev pub Within : ℕ → ℕ → Type 0
Within named values = (i : ℕ) → bit named i ≡ false → bit values i ≡ false

-- of the constants that are named, the words of all but the rest are those of their values, and every other word is as
-- it was
pub record ConstantWords (named rest values : ℕ) (old new : List ℕ) : Type 0 where
  pub set : (i : ℕ) → T (bit named i) → bit rest i ≡ false → (k : ℕ) → k < 64
      → bit (get_or new (32 + i) 0) k ≡ bit values i
  pub kept : (t : ℕ) → (32 ≤ t → (bit named (t - 32) ≡ false) ⊎ T (bit rest (t - 32))) → get_or new t 0 ≡ get_or old t 0
