-- What is known after some leaves of a pass, and after all. Assumes nothing.
use Rattle.std.specs.Prelude.{◌≡◌, Bool, true, not, List, ℕ, ◌+◌, ◌*◌, ◌^◌, ◌<◌, T, get_or}
use Rattle.shares.specs.Below.{every_below, some_below, first_below}
use Rattle.shares.specs.Constant.{bit}
use Rattle.format.specs.Stored.{Stored}
use Rattle.words.specs.Choices.{word_count}
use Rattle.words.specs.Kept.{number_at}
use Rattle.entries.specs.Entry.{Entry, FullMark}
use Rattle.plans.specs.Pairs.{leaf_width}
use Rattle.steps.specs.Tests.{leaf_values, allowed_in}
use Rattle.steps.specs.Steps.{on_pairs, meets_here, unmet_here}
use Rattle.steps.specs.declared.Search.{Search}
use Rattle.steps.specs.declared.Search.TheVariants.{Unmet, Missed}
use Rattle.steps.specs.declared.Seen.{Seen}
use Rattle.words.specs.declared.Passing.{Passing}

-- nothing is sought any more at a leaf
pub record Done (search : Search) (met count : ℕ) : Type 0 where
  pub plain : bit met 32 ≡ true
  pub full : FullMark count met
  pub unmet : search ≡ Unmet → bit met 31 ≡ true

-- every leaf so far has a choice that misses disequation j of the second system
abbrev pub missed_below : Stored → ℕ → ℕ → ℕ → Bool
missed_below S h b j = every_below b (λ b. some_below (leaf_width S.free) (allowed_in S (Missed j) (leaf_values S h b)))

pub record After (S : Stored) (h : ℕ) (search : Search) (b : ℕ) (seen : Seen) (firsts plains : List Passing)
    (rows : List ℕ) : Type 0 where
  -- each has a least choice; bit 32 says so of the last
  pub least : (a : ℕ) → a < b → T (some_below (leaf_width S.free) (allowed_in S search (leaf_values S h a)))
      × (number_at plains a ≡ first_below (leaf_width S.free) (allowed_in S search (leaf_values S h a)))
  pub found : 0 < b → T (bit seen.met 32)
  pub entries : (i : ℕ) → i < get_or S.counts 1 0
      → Entry (on_pairs S h (meets_here S search i)) (b * word_count S.free) seen.met firsts i
  pub unmet : search ≡ Unmet → Entry (on_pairs S h (unmet_here S)) (b * word_count S.free) seen.met firsts 31
  pub possible : search ≡ Unmet → T (not (bit seen.met 31)) → (j : ℕ) → j < get_or S.counts 3 0
      → bit seen.possible j ≡ missed_below S h b j
  pub marks : search ≡ Unmet → T (not (bit seen.met 31)) → (j : ℕ) → j < get_or S.counts 3 0 → T (bit seen.possible j)
      → (i : ℕ) → i < get_or S.counts 1 0 → bit (get_or rows (64 + j) 0) i
      ≡ some_below (64 * (b * word_count S.free)) (on_pairs S h (meets_here S (Missed j) i))

-- entry b of a table becomes entry a of another, or of itself
pub record Put (b : ℕ) (from : List Passing) (a : ℕ) (old new : List Passing) : Type 0 where
  pub stored : number_at new b ≡ number_at from a
  pub kept : (k : ℕ) → (k ≡ b → ⊥) → number_at new k ≡ number_at old k

-- leaf b is given the least choice of leaf a
pub record Copied (b a : ℕ) (seen : Seen) (plains : List Passing) (seen' : Seen) (plains' : List Passing) : Type 0 where
  pub possible_kept : seen'.possible ≡ seen.possible
  pub found : bit seen'.met 32 ≡ true
  pub met_kept : (k : ℕ) → (k ≡ 32 → ⊥) → bit seen'.met k ≡ bit seen.met k
  pub put : Put b plains a plains plains'

-- one leaf more, where it has a choice; where it has none bit 32 is not set
pub record Visited (S : Stored) (h : ℕ) (search : Search) (b : ℕ) (seen : Seen) (firsts plains : List Passing)
    (rows : List ℕ) : Type 0 where
  pub done : T (bit seen.met 32) → After S h search (b + 1) seen firsts plains rows
  pub none : T (not (bit seen.met 32))
      → T (not (some_below (leaf_width S.free) (allowed_in S search (leaf_values S h b))))

-- a whole pass: whether every leaf has a choice, and then what is known after the last
pub record Passed (S : Stored) (h : ℕ) (search : Search) (seen : Seen) (firsts plains : List Passing) (rows : List ℕ)
    : Type 0 where
  pub all : bit seen.met 32 ≡ every_below (2 ^ h)
      (λ b. some_below (leaf_width S.free) (allowed_in S search (leaf_values S h b)))
  pub after : T (bit seen.met 32) → After S h search (2 ^ h) seen firsts plains rows
