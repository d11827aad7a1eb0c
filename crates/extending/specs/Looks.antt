-- Sets of choices, and what is found where some of them are looked at: definitions that the contracts of private
-- functions cite. Assumes nothing.
use Rattle.std.specs.Prelude.{◌≡◌, ◌⊎◌, Bool, not, Option, MatchOption, List, ℕ, ◌+◌, ◌*◌, ◌/◌, ◌%◌, ◌^◌, ◌≤◌, ◌<◌, T}
use Rattle.std.specs.Prelude.{get_or}
use Rattle.std.specs.Bool.{beq}
use Rattle.shares.specs.Below.{every_below}
use Rattle.shares.specs.Constant.{bit}
use Rattle.format.specs.Stored.{Stored}
use Rattle.rows.specs.Rows.{row_levels}
use Rattle.steps.specs.Tests.{second_meets, second_differs}
use Rattle.extending.specs.Extending.{choice_at, over, values_at_leaf, meets_over, differs_over}
use Rattle.extending.specs.declared.Same.{Same}

-- ---- sets of choices

-- choice c is in a set: bit c mod 64 of word c div 64
unfoldable pub in_set : List ℕ → ℕ → Bool
in_set set c = bit (get_or set (c / 64) 0) (c % 64)

-- the choices at the given leaves are added to a set, and no others
pub record Added (choice : ℕ → ℕ) (Given : ℕ → Type 0) (old new : List ℕ) : Type 0 where
  pub kept : (c : ℕ) → T (in_set old c) → T (in_set new c)
  pub added : (i : ℕ) → Given i → T (in_set new (choice i))
  pub only : (c : ℕ) → T (in_set new c) → T (in_set old c) ⊎ ((i : ℕ) × Given i × (choice i ≡ c))

-- bit i of a word is set
abbrev pub BitOf : ℕ → ℕ → Type 0
BitOf x i = (i < 64) × T (bit x i)

-- where constants have so many levels: the choice at leaf 64 * w + i, and leaves of word w that have the same, among
-- which i is if it is one of those given
pub record SameAs (levels : ℕ) (table : List ℕ) (n w i leaves : ℕ) (r : Same) : Type 0 where
  pub choice : r.choice ≡ choice_at levels table n (64 * w + i)
  pub same : (k : ℕ) → BitOf r.leaves k → choice_at levels table n (64 * w + k) ≡ choice_at levels table n (64 * w + i)
  pub itself : BitOf leaves i → BitOf r.leaves i

-- leaf i of the rows lies below a leaf of the constants from b on, where they have the values that they have at b
abbrev pub Alike : ℕ → List ℕ → ℕ → ℕ → Type 0
Alike levels keys b i = (i < 2 ^ row_levels levels) × (b ≤ over levels i)
    × (get_or keys (over levels i) 0 ≡ get_or keys b 0)

-- ---- what is found

-- two words have the same bits
unfoldable pub alike : ℕ → ℕ → Bool
alike x y = every_below 64 (λ i. beq (bit x i) (bit y i))

-- some number among these, of choices or of leaves, fails
abbrev pub Unmet : (ℕ → Bool) → (ℕ → Type 0) → Type 0
Unmet meets Among = (c : ℕ) × Among c × T (not (meets c))

-- none does. A bit of `wanted` goes only where some number has that disequation, and it stays only if none has it
pub record AllMet (count : ℕ) (meets : ℕ → Bool) (differs : ℕ → ℕ → Bool) (Among : ℕ → Type 0) (wanted rest : ℕ)
    : Type 0 where
  pub fewer : (j : ℕ) → j < 64 → T (bit rest j) → T (bit wanted j)
  pub all : (c : ℕ) → Among c → T (meets c)
  pub found : (j : ℕ) → j < count → T (bit wanted j) → T (not (bit rest j)) → (c : ℕ) × Among c × T (differs j c)
  pub none : (j : ℕ) → j < count → T (bit rest j) → (c : ℕ) → Among c → T (not (differs j c))

-- all of these numbers are looked at, up to one that fails: where none does, the rest is still wanted
abbrev pub Looked : ℕ → (ℕ → Bool) → (ℕ → ℕ → Bool) → (ℕ → Type 0) → ℕ → Option ℕ → Type 0
Looked count meets differs Among wanted r = MatchOption r (Unmet meets Among) (AllMet count meets differs Among wanted)

module _ (S : Stored) where
  -- choices are looked at, with these values of the constants
  abbrev pub ChoicesLooked : ℕ → (ℕ → Type 0) → ℕ → Option ℕ → Type 0
  ChoicesLooked values = Looked (get_or S.counts 3 0) (second_meets S values) (second_differs S values)

  -- leaf i of the rows lies where the constants have the values of one of their first b leaves
  abbrev pub SeenBy : ℕ → ℕ → Type 0
  SeenBy b i = (a : ℕ) × (a < b) × (i < 2 ^ row_levels S.levels)
      × (values_at_leaf S a ≡ values_at_leaf S (over S.levels i))

  -- those leaves of the rows are looked at
  abbrev pub LeavesLooked : List ℕ → ℕ → ℕ → Option ℕ → Type 0
  LeavesLooked table b = Looked (get_or S.counts 3 0) (meets_over S table) (differs_over S table) (SeenBy b)

-- the choices of one word of a set; those of the first w words
abbrev pub InWord : ℕ → ℕ → ℕ → Type 0
InWord w choices c = (c / 64 ≡ w) × T (bit choices (c % 64))

abbrev pub InWords : ℕ → List ℕ → ℕ → Type 0
InWords w set c = (c < 64 * w) × T (in_set set c)

-- the values of the constants of a question at each of their leaves
abbrev pub KeysOf : Stored → List ℕ → Type 0
KeysOf S keys = (a : ℕ) → a < 2 ^ S.levels → get_or keys a 0 ≡ values_at_leaf S a
