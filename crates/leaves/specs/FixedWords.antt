-- The words that fix the solution that is shown, those of SPEC 4.5, about any choices at the sub-leaves.
-- Assumes nothing.
use Rattle.std.specs.Prelude.{◌≡◌, Bool, true, false, ℕ, ◌+◌, ◌-◌, ◌*◌, ◌^◌, ◌≤◌, ◌<◌, T, eqb}
use Rattle.shares.specs.Below.{one}
use Rattle.leaves.specs.Choices.{Row, at}
use Rattle.leaves.specs.Problem.{Problem}
use Rattle.leaves.specs.Second.{Second}

-- b is the leftmost of the 2 ^ h leaves where some choice is M
pub record Leftmost {n : ℕ} (h : ℕ) (M : ℕ → Row Bool n → Type 0) (b : ℕ) : Type 0 where
  pub within : b < 2 ^ h
  pub found : (x : Row Bool n) × M b x
  pub none_left : (a : ℕ) → a < b → (x : Row Bool n) → ¬ M a x

-- of two choices x is less: at the first variable where they differ, variable 0 compared first, x is empty and y full
pub record Less {n : ℕ} (x y : Row Bool n) : Type 0 where
  pub variable : ℕ
  pub within : variable < n
  pub same : (v : ℕ) → v < variable → at false x v ≡ at false y v
  pub empty : at false x variable ≡ false
  pub full : at false y variable ≡ true

-- x is the least choice that is M: it is, and every other that is, is greater
pub record Least {n : ℕ} (M : Row Bool n → Type 0) (x : Row Bool n) : Type 0 where
  pub passes : M x
  pub least : (y : Row Bool n) → M y → ¬ (y ≡ x) → Less x y

-- ---- which choices count at a leaf

-- at leaf b the choice x meets the positive clauses
abbrev pub Positive : {X : Type 0} → Problem X → ℕ → X → Type 0
Positive P b x = T (P.pos b x)

-- for reason 3 only those count beside which no own values meet the second system's positive clauses and disequation j
-- together
abbrev pub Counts : {X Y : Type 0} → Problem X → Second X Y → ℕ → ℕ → X → Type 0
Counts {Y = Y} P Q j b x = Positive P b x × ((y : Y) → ¬ (T (Q.pos b x y) × T (Q.dis j b x y)))

-- for reason 2: at leaf b the choice x meets the positive clauses and leaves the second system's unmet
abbrev pub Unmet : {X Y : Type 0} → Problem X → Second X Y → ℕ → X → Type 0
Unmet {Y = Y} P Q b x = Positive P b x × ((y : Y) → ¬ T (Q.pos b x y))

-- ---- the words

-- at leaf b the choice x counts and meets disequation j
abbrev pub Together : {X : Type 0} → Problem X → (ℕ → X → Type 0) → ℕ → ℕ → X → Type 0
Together P counts j b x = counts b x × T (P.dis j b x)

-- how many sub-leaves of leaf b stand before those of its disequations: none, or one if it is leaf a
abbrev pub none_before : ℕ → ℕ
none_before b = 0

abbrev pub one_before : ℕ → ℕ → ℕ
one_before a b = one (eqb a b)

-- The words are about the choices s at the 2 ^ W sub-leaves, W being the height given.
-- Below a leaf stand 2 ^ (W - h) of them: sub-leaf r of leaf b is number b * 2 ^ (W - h) + r.
module _ {n : ℕ} (h : ℕ) (P : Problem (Row Bool n)) (W : ℕ) (s : ℕ → Row Bool n) where
  -- where counts says which choices count at a leaf, and before how many sub-leaves of it stand before its disequations
  pub record Words (counts : ℕ → Row Bool n → Type 0) (before : ℕ → ℕ) : Type 0 where
    -- the leaf that each disequation goes to, and the sub-leaf there that holds it
    pub leaf : ℕ → ℕ
    pub rank : ℕ → ℕ
    pub room : (j : ℕ) → j < P.count → rank j < 2 ^ (W - h)
    -- each disequation goes to the leftmost leaf where a choice that counts meets it
    pub leftmost : (j : ℕ) → j < P.count → Leftmost h (Together P counts j) (leaf j)
    -- the sub-leaves of a leaf hold its disequations in question order
    pub in_order : (i j : ℕ) → i < j → j < P.count → leaf i ≡ leaf j → rank i < rank j
    -- from the left, behind what stands before them: each sub-leaf from there to a disequation's holds an earlier one
    pub behind : (j : ℕ) → j < P.count → before (leaf j) ≤ rank j
    pub from_left : (j r : ℕ) → j < P.count → before (leaf j) ≤ r → r < rank j
        → (i : ℕ) × (i < j) × (leaf i ≡ leaf j) × (rank i ≡ r)
    -- the sub-leaf of a disequation carries the least choice that counts and meets it
    pub carries : (j : ℕ) → j < P.count → Least (Together P counts j (leaf j)) (s (leaf j * 2 ^ (W - h) + rank j))
    -- then nothing more: a sub-leaf behind that holds none carries the least choice that counts
    pub idle : (b r : ℕ) → b < 2 ^ h → before b ≤ r → r < 2 ^ (W - h)
        → ((j : ℕ) → j < P.count → leaf j ≡ b → ¬ (rank j ≡ r)) → Least (counts b) (s (b * 2 ^ (W - h) + r))

  -- for a yes
  abbrev pub PlainWords : Type 0
  PlainWords = Words (Positive P) none_before

  -- for reason 2: the leftmost leaf with a choice that leaves the second system's positive clauses unmet carries the
  -- least such choice before its disequations, in its first sub-leaf
  pub record UnmetWords {Y : Type 0} (Q : Second (Row Bool n) Y) : Type 0 where
    pub leaf : ℕ
    pub leftmost : Leftmost h (Unmet P Q) leaf
    pub carries : Least (Unmet P Q leaf) (s (leaf * 2 ^ (W - h)))
    pub others : Words (Positive P) (one_before leaf)

  -- for reason 3, disequation j being named
  abbrev pub MissedWords : {Y : Type 0} → Second (Row Bool n) Y → ℕ → Type 0
  MissedWords Q j = Words (Counts P Q j) none_before
