-- The solution that is shown: its trees past the free variables are empty, none is taller than the height given, and it
-- is the one solution that the words fix. Assumes nothing.
use Rattle.std.specs.Prelude.{◌≡◌, refl, ◌↔◌, Bool, false, [], ◌∷◌, ℕ, ◌+◌, ◌-◌, ◌^◌, ◌≤◌, ◌<◌, ltb}
use Rattle.std.proofs.Common.{sym, ap, ◌∙◌, arith, ltb→lt}
use Rattle.std.proofs.Math.Nat.{add-sub_cancel_left}
use Rattle.std.proofs.Math.Dec.{T}
use Rattle.shares.specs.Test.{cond_law}
use Rattle.shares.specs.Below.{first_below}
use Rattle.shares.specs.BelowLaws.{first_below_lem}
use Rattle.shares.specs.Blocks.{block_of}
use Rattle.shares.specs.Tree.{leaf, height}
use Rattle.shares.proofs.TreeLaws.{share_path, tree_of_ext, tree_of_leaf, tree_of_height, leaf_at_tree_of, equal_iff}
use Rattle.leaves.specs.Heights.{c}
use Rattle.leaves.proofs.HeightLaws.{c_enough}
use Rattle.leaves.specs.Choices.{Row, at, least}
use Rattle.leaves.specs.ChoiceLaws.{at_past}
use Rattle.leaves.specs.Problem.{solvable}
use Rattle.leaves.specs.Fixed.{fixed_at}
use Rattle.leaves.specs.FixedWords.{Positive, Counts, PlainWords}
use Rattle.leaves.proofs.FixedLaws.{fixed_words, words_count, words_one}
use Rattle.leaves.proofs.ReasonLaws.{unmet_words, missed_words}
use Rattle.leaves.specs.Entailment.{can_be_missed, first_missed}
use Rattle.leaves.proofs.SecondLaws.{unmet_solvable}
use Rattle.systems.specs.Clauses.{variable, equal, negated, Assignment, disequations}
use Rattle.systems.specs.Questions.{Kind, satisfiability, entailment, Question, first_count, second_count}
use Rattle.systems.specs.Answers.{Answer, satisfied, unsatisfied, vacuous, entailed, unmet, missed, shows, height_given}
use Rattle.systems.specs.AtLeaves.{first_at, second_at}
use Rattle.systems.specs.Decide.{can_solve, some_unmet, lowest_missed, decide_kind, decide_at, shares_of, asked_for}
use Rattle.systems.specs.Decide.{shown_with, shown_at}
use Rattle.systems.specs.ShownWords.{WordsWith, ShownFixed}

-- ---- an example, computed: with two disequations and h = 2, each leaf has two sub-leaves for a solution, and four for
-- a no

abbrev two : Question
two = record {
  kind = entailment;
  free = 2;
  own = 0;
  constants = record { levels = 2; numbers = [] };
  first = negated (equal (variable 0) (variable 1)) ∷ negated (equal (variable 1) (variable 0)) ∷ [];
  second = [];
}

two_given : (height_given 2 two satisfied ≡ 3) × (height_given 2 two unmet ≡ 4) × (height_given 2 two (missed 0) ≡ 4)
unfolding c first_below disequations
two_given = (refl, refl, refl)

-- ---- past the free variables, and how tall

shares_past : {n : ℕ} (k : ℕ) (s : ℕ → Row Bool n) (v : ℕ) → n ≤ v → (shares_of k s v).tree ≡ leaf false
unfolding shares_of
shares_past k s v l = tree_of_ext k _ _ (λ i _. at_past false (s i) v l) ∙ tree_of_leaf k false

shares_height : {n : ℕ} (k : ℕ) (s : ℕ → Row Bool n) (v : ℕ) → height (shares_of k s v).tree ≤ k
unfolding shares_of
shares_height k s v = tree_of_height k _

module _ (h : ℕ) (q : Question) (v : ℕ) where
  pub shown_past : (a : Answer) → q.free ≤ v → (shown_with h q a v).tree ≡ leaf false
  shown_past satisfied l = shares_past _ _ v l
  shown_past unsatisfied l = shares_past _ _ v l
  shown_past vacuous l = shares_past _ _ v l
  shown_past entailed l = shares_past _ _ v l
  shown_past unmet l = shares_past _ _ v l
  shown_past (missed j) l = shares_past _ _ v l

  pub shown_low : (a : Answer) → T (shows a) → height (shown_with h q a v).tree ≤ height_given h q a
  shown_low satisfied t = shares_height _ _ v
  shown_low unsatisfied t = absurd t
  shown_low vacuous t = absurd t
  shown_low entailed t = absurd t
  shown_low unmet t = shares_height _ _ v
  shown_low (missed j) t = shares_height _ _ v

-- ---- what is asked of it can be met, and there is room for that

module _ (h : ℕ) (q : Question) where
  pub asked_solvable : T (shows (decide_at h q)) → T (solvable (least q.free) h (asked_for h q (decide_at h q)))
  unfolding decide_kind first_missed can_be_missed
  asked_solvable = go q.kind
    where
      M : Answer → Type 0
      M a = T (shows a) → T (solvable (least q.free) h (asked_for h q a))

      go : (k : Kind) → M (decide_kind h q k)
      go satisfiability = cond_law M (can_solve h q) satisfied unsatisfied (λ t _. t) (λ _ f. absurd f)
      go entailment =
          cond_law M (can_solve h q) _ vacuous
          (λ t. cond_law M (some_unmet h q) unmet _
          (λ u _. unmet_solvable (least q.free) (least q.own) h (first_at h q) (second_at h q) t u)
          (λ _. cond_law M (ltb (lowest_missed h q) (second_count q)) (missed (lowest_missed h q)) entailed
          (λ v _. first_below_lem (second_count q) _ (ltb→lt (lowest_missed h q) (second_count q) v))
          (λ _ f. absurd f)))
          (λ _ f. absurd f)

  given_tall : (a : Answer) → T (shows a) → h ≤ height_given h q a
  given_tall satisfied t = omega arith
  given_tall unsatisfied t = absurd t
  given_tall vacuous t = absurd t
  given_tall entailed t = absurd t
  given_tall unmet t = omega arith
  given_tall (missed j) t = omega arith

  enough : (n : ℕ) → n ≤ 2 ^ (h + c n - h)
  enough n = rw add-sub_cancel_left (c_enough n)

  given_room : (a : Answer) → T (shows a) → (asked_for h q a).count ≤ 2 ^ (height_given h q a - h)
  given_room satisfied t = enough (first_count q)
  given_room unsatisfied t = absurd t
  given_room vacuous t = absurd t
  given_room entailed t = absurd t
  given_room unmet t = omega (arith, enough (first_count q + 1))
  given_room (missed j) t = omega (arith, enough (first_count q + 1))

  -- ---- it is the solution that the words fix

  -- with each answer the words are the plain ones of what is asked at the leaves of the solution that is shown
  pub asked_words : (a : Answer) (W : ℕ) (s : ℕ → Row Bool q.free)
      → WordsWith h q a W s ↔ PlainWords h (asked_for h q a) W s
  asked_words satisfied W s = (λ A. A, λ A. A)
  asked_words unsatisfied W s = (λ A. A, λ A. A)
  asked_words vacuous W s = (λ A. A, λ A. A)
  asked_words entailed W s = (λ A. A, λ A. A)
  asked_words unmet W s = unmet_words (least q.own) h (first_at h q) (second_at h q) W s
  asked_words (missed j) W s = missed_words (least q.own) h (first_at h q) (second_at h q) W s j

  -- every sub-leaf meets the first system's positive clauses, and for reason 3 its choice counts
  module _ (W : ℕ) (tall : h ≤ W) (s : ℕ → Row Bool q.free) where
    pub every_counts : (j : ℕ) → WordsWith h q (missed j) W s → (i : ℕ) → i < 2 ^ W
        → Counts (first_at h q) (second_at h q) j (block_of h W i) (s i)
    every_counts j A i l = words_count h (first_at h q) W (Counts (first_at h q) (second_at h q) j) A tall i l

    pub every_positive : (a : Answer) → WordsWith h q a W s → (i : ℕ) → i < 2 ^ W
        → Positive (first_at h q) (block_of h W i) (s i)
    every_positive satisfied A i l = words_count h (first_at h q) W (Positive (first_at h q)) A tall i l
    every_positive unsatisfied A i l = words_count h (first_at h q) W (Positive (first_at h q)) A tall i l
    every_positive vacuous A i l = words_count h (first_at h q) W (Positive (first_at h q)) A tall i l
    every_positive entailed A i l = words_count h (first_at h q) W (Positive (first_at h q)) A tall i l
    every_positive unmet A i l =
        words_count h (asked_for h q unmet) W (Positive (first_at h q)) ((asked_words unmet W s).0 A) tall i l
    every_positive (missed j) A i l = (every_counts j A i l).0

  pub shown_fixed : T (shows (decide_at h q)) → ShownFixed h q (decide_at h q) (shown_at h q)
  unfolding shares_of
  shown_fixed t =
      let a = decide_at h q in
      let W = height_given h q a in
      let s = fixed_at (least q.free) h (asked_for h q a) W in
      record {
        values = s;
        words = (asked_words a W s).1 (fixed_words h (asked_for h q a) (asked_solvable t) W (given_room a t));
        leaves = λ v _ i l. leaf_at_tree_of W _ i l;
        low = λ v _. shown_low h q v a t;
      }

  -- there is no other
  pub one_shown : (a : Answer) → T (shows a) → (σ τ : Assignment) → ShownFixed h q a σ → ShownFixed h q a τ → (v : ℕ)
      → v < q.free → σ v ≡ τ v
  one_shown a t σ τ S R v l =
      let W = height_given h q a in
      let same : (i : ℕ) → i < 2 ^ W → S.values i ≡ R.values i =
      words_one h (asked_for h q a) W (Positive (asked_for h q a)) ((asked_words a W S.values).0 S.words)
      ((asked_words a W R.values).0 R.words) (given_tall a t) in
      share_path (σ v) (τ v)
      ((equal_iff W (σ v).tree (τ v).tree (σ v).folded (τ v).folded (S.low v l) (R.low v l)).1 (λ i m.
      S.leaves v l i m ∙ ap (λ r. at false r v) (same i m) ∙ sym (R.leaves v l i m)))
