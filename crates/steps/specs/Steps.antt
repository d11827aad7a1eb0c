-- What is known in the middle of a leaf, after some of its words. A pair of leaf b and choice z is the number b *
-- leaf_width n + z, so that word w of leaf b is word b * word_count n + w of all. Assumes nothing.
use Rattle.std.specs.Prelude.{◌≡◌, Bool, true, false, not, ◌&&◌, ◌||◌, List, ℕ, ◌+◌, ◌*◌, ◌/◌, ◌%◌, ◌<◌, T, get_or}
use Rattle.shares.specs.Below.{some_below}
use Rattle.shares.specs.Constant.{bit}
use Rattle.format.specs.Stored.{Stored, stored}
use Rattle.words.specs.Choices.{word_count}
use Rattle.words.specs.Table.{Terms, Within}
use Rattle.beside.specs.declared.Sizes.{Sizes}
use Rattle.beside.specs.declared.Searchable.{Searchable}
use Rattle.entries.specs.Entry.{Entry, WordOf, FullMark}
use Rattle.plans.specs.Pairs.{leaf_width}
use Rattle.steps.specs.Tests.{leaf_values, first_meets, first_differs, second_meets, allowed_in}
use Rattle.steps.specs.declared.Search.{Search}
use Rattle.steps.specs.declared.Search.TheVariants.{Unmet, Missed}
use Rattle.steps.specs.declared.Seen.{Seen}
use Rattle.steps.specs.declared.Allowed.{Allowed}
use Rattle.words.specs.declared.Passing.{Passing}

-- what is stored of a question, from its numbers, its clauses' bytes and its constants
abbrev pub stored_by : Sizes → List ℕ → List ℕ → Stored
stored_by sizes clauses constants = stored clauses sizes.counts constants sizes.named sizes.free sizes.own

-- what is stored of a question that can be searched
abbrev pub posed : Searchable → Stored
posed q = stored_by q.sizes q.clauses.now q.constants.now

-- the table of terms is at word w, for some values of the constants
abbrev pub Tabled : ℕ → ℕ → ℕ → List ℕ → Type 0
Tabled n m w terms = (values : ℕ) × Terms n m values w terms

-- at some word
abbrev pub Placed : ℕ → ℕ → List ℕ → Type 0
Placed n m terms = (values v : ℕ) × Terms n m values v terms

-- where only constants that are named are set
abbrev pub PlacedWithin : ℕ → ℕ → ℕ → List ℕ → Type 0
PlacedWithin n m named terms = (values v : ℕ) × Within named values × Terms n m values v terms

-- ---- tests of pairs

-- a test of the values at a leaf and a choice there, as a test of pairs
abbrev pub on_pairs : Stored → ℕ → (ℕ → ℕ → Bool) → ℕ → Bool
on_pairs S h f u = f (leaf_values S h (u / leaf_width S.free)) (u % leaf_width S.free)

-- the search allows the choice, and disequation i of the first system holds
abbrev pub meets_here : Stored → Search → ℕ → ℕ → ℕ → Bool
meets_here S search i values z = allowed_in S search values z && first_differs S values i z

-- the first system allows the choice, and no own choice meets the second's positive clauses beside it
abbrev pub unmet_here : Stored → ℕ → ℕ → Bool
unmet_here S values z = first_meets S values z && not (second_meets S values z)

-- ---- in the middle of leaf b, after its first w words

-- there is nothing more to learn at a leaf of a disequation that is no longer wanted: some choice misses it, and each
-- of the first system's was met with it
abbrev pub Settled : Stored → Seen → List ℕ → Type 0
Settled S seen rows = (j : ℕ) → j < get_or S.counts 3 0 → T (bit seen.possible j) → bit seen.wanted j ≡ false
    → (bit seen.here j ≡ true) × FullMark (get_or S.counts 1 0) (get_or rows (64 + j) 0)

pub record Amid (S : Stored) (h : ℕ) (search : Search) (b w : ℕ) (seen : Seen) (firsts : List Passing) (rows : List ℕ)
    : Type 0 where
  -- the least choice of the leaf, in entry 32
  pub plain : Entry (allowed_in S search (leaf_values S h b)) w seen.met firsts 32
  -- the least pair of each disequation of the first system, and of an unmet choice
  pub entries : (i : ℕ) → i < get_or S.counts 1 0
      → Entry (on_pairs S h (meets_here S search i)) (b * word_count S.free + w) seen.met firsts i
  pub unmet : search ≡ Unmet → Entry (on_pairs S h (unmet_here S)) (b * word_count S.free + w) seen.met firsts 31
  -- unless there is an unmet choice: which disequations of the second system some choice of this leaf misses, and which
  -- of the first system's were met by such a choice of any leaf
  pub here : search ≡ Unmet → T (not (bit seen.met 31)) → (j : ℕ) → j < get_or S.counts 3 0 → T (bit seen.possible j)
      → bit seen.here j ≡ some_below (64 * w) (allowed_in S (Missed j) (leaf_values S h b))
  pub marks : search ≡ Unmet → T (not (bit seen.met 31)) → (j : ℕ) → j < get_or S.counts 3 0 → T (bit seen.possible j)
      → (i : ℕ) → i < get_or S.counts 1 0 → bit (get_or rows (64 + j) 0) i
      ≡ some_below (64 * (b * word_count S.free + w)) (on_pairs S h (meets_here S (Missed j) i))
  pub settled : search ≡ Unmet → Settled S seen rows

-- what the second system says of one word, whose choices the first system allows: the search for an unmet choice has
-- seen it and, unless there is one, each disequation of the second that is possible has its bit and its mark for it
pub record Second (S : Stored) (values : ℕ) (at : Allowed) (seen : Seen) (firsts : List Passing) (rows : List ℕ)
    (seen' : Seen) (firsts' : List Passing) (rows' : List ℕ) : Type 0 where
  pub unmet : (p : ℕ → Bool) → WordOf (λ i. unmet_here S values (64 * at.word + i)) p at.turn
      → Entry p at.turn seen.met firsts 31
      → Entry p (at.turn + 1) seen'.met firsts' 31
  pub stays : T (not (bit seen'.met 31)) → T (not (bit seen.met 31))
  pub here : T (not (bit seen'.met 31)) → (j : ℕ) → j < get_or S.counts 3 0 → T (bit seen.possible j)
      → bit seen'.here j ≡ (bit seen.here j || some_below 64 (λ i. allowed_in S (Missed j) values (64 * at.word + i)))
  pub marks : T (not (bit seen'.met 31)) → (j : ℕ) → j < get_or S.counts 3 0 → T (bit seen.possible j) → (i : ℕ)
      → i < get_or S.counts 1 0
      → bit (get_or rows' (64 + j) 0) i
      ≡ (bit (get_or rows (64 + j) 0) i || some_below 64 (λ k. meets_here S (Missed j) i values (64 * at.word + k)))
  pub settled : Settled S seen' rows'
