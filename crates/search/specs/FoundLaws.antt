-- What is known after a pass gives what is asked: whether the problem of a search is solvable, its pairs, and what a
-- survey says. Assumes nothing.
use Rattle.std.specs.Prelude.{◌≡◌, Bool, true, false, not, List, Option, None, Some, T, get_or}
use Rattle.std.proofs.Math.Path.{refl, ap, ap₂}
use Rattle.std.proofs.Common.{sym, ◌∙◌, subst, mul_left_comm, le-ltb}
use Rattle.std.proofs.Math.Bool.{◌&&◌}
use Rattle.std.proofs.lemmas.Bool.{false≢true}
use Prim.Native.Nat.{ℕ, suc, ◌+◌, ◌-◌, ◌*◌, ◌/◌, ◌%◌, ◌^◌, ◌<◌}
use Rattle.std.proofs.Math.Decide.{dec_lt}
use native.Mathlib.Omega.{arith}
use Rattle.shares.specs.Test.{is_true, of_true, of_false, and_left, and_right}
use Rattle.shares.specs.Below.{every_below, some_below, first_below}
use Rattle.shares.specs.BelowLaws.{every_at, every_ext, some_ext, first_ext, first_is, first_none}
use Rattle.shares.specs.Constant.{bit}
use Rattle.format.specs.Stored.{Stored}
use Rattle.words.specs.Choices.{word_count}
use Rattle.words.specs.Kept.{number_at}
use Rattle.entries.specs.Entry.{Entry}
use Rattle.plans.specs.Pairs.{leaf_width, slot_of, PairsOf}
use Rattle.steps.specs.Tests.{leaf_values, second_meets, special_in, extra_of, allowed_in, tests_of}
use Rattle.steps.specs.Steps.{on_pairs, meets_here, unmet_here}
use Rattle.pass.specs.Pass.{After, Passed}
use Rattle.steps.specs.declared.Search.{Search}
use Rattle.steps.specs.declared.Search.TheVariants.{First, Unmet, Missed}
use Rattle.steps.specs.declared.Seen.{Seen}
use Rattle.search.specs.Found.{solvable_in, lowest_missed_in, all_found, is_missed, LowestOf, SolvedAs, SurveyedAs}
use Rattle.search.specs.declared.Survey.{Survey}
use Rattle.search.specs.WideLaws.{pair_at, solvable_wide, pairs_of}
use Rattle.search.specs.TestLaws.{tests_periodic, special_stored}
use Rattle.words.specs.declared.Passing.{Passing}

-- the second of two tests counts only where the first passes
and_same : (a a' b b' : Bool) → a ≡ a' → (T a → b ≡ b') → (a && b) ≡ (a' && b')
and_same true a' b b' e f = f tt ∙ ap (λ x. x && b') e
and_same false a' b b' e f = ap (λ x. x && b') e

-- ---- searches of pairs

-- what a survey says where the lowest disequation that is missed is this, or none
abbrev pub missed_of : Option ℕ → Survey
missed_of None = Survey.Entailed
missed_of (Some j) = Survey.Missed j

module _ (S : Stored) (h : ℕ) where
  -- how many pairs there are
  abbrev pub pair_count : ℕ
  pair_count = 2 ^ h * leaf_width S.free

  -- every leaf has a choice that the search allows
  abbrev pub leaves_allow : Search → Bool
  leaves_allow search = every_below (2 ^ h)
      (λ b. some_below (leaf_width S.free) (allowed_in S search (leaf_values S h b)))

  -- some pair meets disequation i of the first system
  abbrev pub pair_meets : Search → ℕ → Bool
  pair_meets search i = some_below pair_count (on_pairs S h (meets_here S search i))

  -- some pair is unmet
  abbrev pub pair_unmet : Bool
  pair_unmet = some_below pair_count (on_pairs S h (unmet_here S))

  -- the words of all leaves hold the pairs
  pairs_words : 64 * (2 ^ h * word_count S.free) ≡ pair_count
  pairs_words = mul_left_comm 64 (2 ^ h) (word_count S.free)

  -- an entry after the last leaf
  module _ (p : ℕ → Bool) (met : ℕ) (firsts : List Passing) (e : ℕ)
      (E : Entry p (2 ^ h * word_count S.free) met firsts e) where
    entry_found : bit met e ≡ some_below pair_count p
    entry_found = E.found ∙ ap (λ k. some_below k p) pairs_words

    entry_pair : T (bit met e) → number_at firsts e ≡ first_below pair_count p
    entry_pair t = E.stored t ∙ ap (λ k. first_below k p) pairs_words

  -- the pairs of a stored disequation, and of the extra one
  stored_pair : (search : Search) (i u : ℕ) → pair_at S.free (tests_of S h search) (extra_of search + i) u
      ≡ on_pairs S h (meets_here S search i) u
  stored_pair search i u =
      ap (◌&&◌ (allowed_in S search (leaf_values S h (u / leaf_width S.free)) (u % leaf_width S.free)))
      (special_stored S.clauses S.free (leaf_values S h (u / leaf_width S.free))
      (second_meets S (leaf_values S h (u / leaf_width S.free))) (extra_of search) i (u % leaf_width S.free))

  unmet_pair : (u : ℕ) → pair_at S.free (tests_of S h Unmet) 0 u ≡ on_pairs S h (unmet_here S) u
  unfolding special_in
  unmet_pair u = refl

  -- ---- when a problem is solvable

  -- without an extra disequation
  solvable_plain : (search : Search) → extra_of search ≡ 0
      → solvable_in S h search ≡ (leaves_allow search && every_below (get_or S.counts 1 0) (pair_meets search))
  solvable_plain search q =
      solvable_wide S.free h (tests_of S h search) (tests_periodic S h search)
      ∙ ap (◌&&◌ (leaves_allow search))
      (ap (λ k. every_below k (λ e. some_below pair_count (pair_at S.free (tests_of S h search) e))) count
      ∙ every_ext (get_or S.counts 1 0) _ _ (λ i l.
      some_ext pair_count _ _ (λ u m. ap (λ k. pair_at S.free (tests_of S h search) k u) (first i)
      ∙ stored_pair search i u)))
    where
      count : extra_of search + get_or S.counts 1 0 ≡ get_or S.counts 1 0
      count = omega arith

      first : (i : ℕ) → i ≡ extra_of search + i
      first i = omega arith

  -- with one unmet choice
  solvable_unmet : solvable_in S h Unmet
      ≡ (leaves_allow First && (pair_unmet && every_below (get_or S.counts 1 0) (pair_meets First)))
  unfolding every_below
  solvable_unmet =
      solvable_wide S.free h (tests_of S h Unmet) (tests_periodic S h Unmet)
      ∙ ap (◌&&◌ (leaves_allow First))
      (ap (λ k. every_below k (λ e. some_below pair_count (pair_at S.free (tests_of S h Unmet) e)))
      (next (get_or S.counts 1 0))
      ∙ ap₂ ◌&&◌ (some_ext pair_count _ _ (λ u m. unmet_pair u))
      (every_ext (get_or S.counts 1 0) _ _ (λ i l.
      some_ext pair_count _ _ (λ u m. ap (λ k. pair_at S.free (tests_of S h Unmet) k u) (sym (next i))
      ∙ stored_pair Unmet i u))))
    where
      next : (i : ℕ) → 1 + i ≡ suc i
      next i = omega arith

  -- ---- after a pass

  -- the entry of disequation e holds its first pair
  abbrev HasPair : Search → List Passing → ℕ → Type 0
  HasPair search firsts e =
      T (some_below pair_count (pair_at S.free (tests_of S h search) e))
      × (number_at firsts (slot_of (extra_of search) e)
      ≡ first_below pair_count (pair_at S.free (tests_of S h search) e))

  -- an entry that has found a pair, of a test that disequation e is
  has_pair : (search : Search) (p : ℕ → Bool) (met : ℕ) (firsts : List Passing) (slot e : ℕ)
      → Entry p (2 ^ h * word_count S.free) met firsts slot
      → slot_of (extra_of search) e ≡ slot → ((u : ℕ) → pair_at S.free (tests_of S h search) e u ≡ p u)
      → T (bit met slot) → HasPair search firsts e
  has_pair search p met firsts slot e E at same t = (
    rw (
      some_ext pair_count (pair_at S.free (tests_of S h search) e) p (λ u l. same u),
      ← (entry_found p met firsts slot E),
    ) t,
    rw at (entry_pair p met firsts slot E t
        ∙ sym (first_ext pair_count (pair_at S.free (tests_of S h search) e) p (λ u l. same u))),
  )

  module _ (search : Search) (seen : Seen) (firsts leaves : List Passing) (rows : List ℕ)
      (P : Passed S h search seen firsts leaves rows) where
    all_found_lem : all_found (get_or S.counts 1 0) seen.met
        ≡ (leaves_allow search && every_below (get_or S.counts 1 0) (pair_meets search))
    all_found_lem =
        and_same _ _ _ _ P.all (λ t. every_ext (get_or S.counts 1 0) _ _
        (λ i l. entry_found _ _ _ _ ((P.after t).entries i l)))

    module _ (t : T (all_found (get_or S.counts 1 0) seen.met)) where
      after : After S h search (2 ^ h) seen firsts leaves rows
      after = P.after (and_left (bit seen.met 32) (every_below (get_or S.counts 1 0) (bit seen.met)) t)

      stored_has : (i : ℕ) → i < get_or S.counts 1 0 → HasPair search firsts (extra_of search + i)
      stored_has i l =
          has_pair search (on_pairs S h (meets_here S search i)) seen.met firsts i (extra_of search + i)
          (after.entries i l) slot (stored_pair search i)
          (every_at (get_or S.counts 1 0) (bit seen.met)
          (and_right (bit seen.met 32) (every_below (get_or S.counts 1 0) (bit seen.met)) t) i l)
        where
          slot : slot_of (extra_of search) (extra_of search + i) ≡ i
          slot = rw (le-ltb (extra_of search + i) (extra_of search) (omega arith)) (omega arith)

      -- with pairs of the extra disequations too, the table is that of the problem
      all_pairs : ((e : ℕ) → e < extra_of search → HasPair search firsts e)
          → PairsOf S.free h (tests_of S h search) (extra_of search) firsts leaves
      all_pairs extra =
          pairs_of S.free h (tests_of S h search) (tests_periodic S h search) (extra_of search) firsts leaves
          after.least
          (λ e l. entry e l (dec_lt e (extra_of search)))
        where
          entry : (e : ℕ) → e < extra_of search + get_or S.counts 1 0 → Dec (e < extra_of search)
              → HasPair search firsts e
          entry e l (yes m) = extra e m
          entry e l (no m) =
              let q : extra_of search + (e - extra_of search) ≡ e = omega arith in
              subst (HasPair search firsts) q (stored_has (e - extra_of search) (omega arith))

    -- a search without an extra disequation
    pub solved : extra_of search ≡ 0 → SolvedAs S h search (all_found (get_or S.counts 1 0) seen.met) firsts leaves
    solved q = record {
      found_is = all_found_lem ∙ sym (solvable_plain search q);
      pairs_are = λ t. all_pairs t (λ e l. absurd (omega arith));
    }

  -- ---- after a pass for an unmet choice

  module _ (seen : Seen) (firsts leaves : List Passing) (rows : List ℕ)
      (P : Passed S h Unmet seen firsts leaves rows) where
    -- the same leaves and stored disequations as in a search of the first system
    first_solvable : all_found (get_or S.counts 1 0) seen.met ≡ solvable_in S h First
    first_solvable = all_found_lem Unmet seen firsts leaves rows P ∙ sym (solvable_plain First refl)

    module _ (t : T (all_found (get_or S.counts 1 0) seen.met)) where
      at_end : After S h Unmet (2 ^ h) seen firsts leaves rows
      at_end = after Unmet seen firsts leaves rows P t

      unmet_solvable : bit seen.met 31 ≡ solvable_in S h Unmet
      unmet_solvable =
          let all : (leaves_allow First && every_below (get_or S.counts 1 0) (pair_meets First)) ≡ true =
          sym (all_found_lem Unmet seen firsts leaves rows P) ∙ is_true _ t in
          entry_found _ _ _ _ (at_end.unmet refl) ∙ sym (solvable_unmet ∙ within (leaves_allow First) pair_unmet _ all)
        where
          within : (a b c : Bool) → (a && c) ≡ true → (a && (b && c)) ≡ b
          within true true c e = e
          within true false c e = refl
          within false b c e = absurd (false≢true e)

      unmet_pairs : T (bit seen.met 31) → PairsOf S.free h (tests_of S h Unmet) (extra_of Unmet) firsts leaves
      unmet_pairs u = all_pairs Unmet seen firsts leaves rows P t (λ e l. let q : 0 ≡ e =
          omega arith in subst (HasPair Unmet firsts) q first)
        where
          first : HasPair Unmet firsts 0
          first = has_pair Unmet (on_pairs S h (unmet_here S)) seen.met firsts 31 0 (at_end.unmet refl) refl unmet_pair
              u

      missed_solvable : T (not (bit seen.met 31)) → (j : ℕ) → j < get_or S.counts 3 0
          → is_missed seen.possible rows (get_or S.counts 1 0) j ≡ solvable_in S h (Missed j)
      missed_solvable u j l =
          and_same _ _ _ _ (at_end.possible refl u j l)
          (λ p. every_ext (get_or S.counts 1 0) _ _ (λ i m. at_end.marks refl u j l p i m
          ∙ ap (λ k. some_below k (on_pairs S h (meets_here S (Missed j) i))) pairs_words))
          ∙ sym (solvable_plain (Missed j) refl)

      lowest_missed_lem : T (not (bit seen.met 31))
          → first_below (get_or S.counts 3 0) (is_missed seen.possible rows (get_or S.counts 1 0))
          ≡ lowest_missed_in S h
      lowest_missed_lem u = first_ext (get_or S.counts 3 0) _ _ (missed_solvable u)

    -- ---- the outcomes of a survey

    pub surveyed_none : all_found (get_or S.counts 1 0) seen.met ≡ false
        → SurveyedAs S h Survey.Unsolvable firsts leaves
    surveyed_none e = sym first_solvable ∙ e

    module _ (e : all_found (get_or S.counts 1 0) seen.met ≡ true) where
      pub surveyed_unmet : bit seen.met 31 ≡ true → SurveyedAs S h Survey.Unmet firsts leaves
      surveyed_unmet u = (
        sym first_solvable ∙ e,
        sym (unmet_solvable (of_true e)) ∙ u,
        unmet_pairs (of_true e) (of_true u),
      )

      -- the lowest disequation that is missed, if there is one
      pub surveyed_missed : bit seen.met 31 ≡ false → (r : Option ℕ)
          → LowestOf (get_or S.counts 3 0) (is_missed seen.possible rows (get_or S.counts 1 0)) r
          → SurveyedAs S h (missed_of r) firsts leaves
      surveyed_missed u None none = (
        sym first_solvable ∙ e,
        sym (unmet_solvable (of_true e)) ∙ u,
        sym (lowest_missed_lem (of_true e) (of_false u)) ∙ first_none _ _ none,
      )
      surveyed_missed u (Some j) (l, q, none) = (
        sym first_solvable ∙ e,
        sym (unmet_solvable (of_true e)) ∙ u,
        l,
        sym (lowest_missed_lem (of_true e) (of_false u)) ∙ first_is _ _ j l none q,
      )
