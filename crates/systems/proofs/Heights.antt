-- The rule of heights holds of every well-formed question, and so does exactness. Assumes nothing.
use Rattle.std.specs.Prelude.{◌≡◌, refl, Bool, false, ◌↔◌, ◌⊎◌, List, [], ◌∷◌, ℕ, zero, suc, ◌+◌, ◌^◌, ◌≤◌, ◌<◌, max, T}
use Rattle.std.specs.Prelude.{length, get_or}
use Rattle.std.proofs.Common.{sym, subst, inl, inr, le_refl, le_trans, le-add_right, not-suc-le-zero, le_of_suc-le-suc}
use Rattle.std.proofs.Common.{arith}
use Rattle.std.proofs.Math.Logic.Iff
use Rattle.std.proofs.Math.Nat.{le-max_left, le-max_right, max-le}
use Rattle.shares.specs.Tree.{height}
use Rattle.shares.proofs.TreeLaws.{tree_of_height}
use Rattle.shares.specs.Constant.{number_tree}
use Rattle.leaves.specs.Heights.{c, any_height, at_most, exactly}
use Rattle.leaves.proofs.HeightLaws.{c_enough, room_any, room_at}
use Rattle.leaves.specs.Choices.{Row, at, least}
use Rattle.leaves.specs.Problem.{Problem, solvable}
use Rattle.leaves.specs.LeafSolutions.{SolvesLeaves}
use Rattle.leaves.proofs.ProblemLaws.{cut_solvable, fixed_solves as solves-leaves, solution_glued}
use Rattle.leaves.specs.Fixed.{fixed_at}
use Rattle.leaves.proofs.SecondLaws.{extension_room, unmet_first, unmet_counter, missed_first, missed_counter}
use Rattle.systems.specs.Clauses.{Term, variable, constant, Constants, constant_tree, Assignment}
use Rattle.systems.specs.Questions.{Kind, satisfiability, entailment, Question, Defined, WellFormed, named_in, named_by}
use Rattle.systems.specs.Questions.{is_among, question_height, tallest_constant, height_of_all, first_count}
use Rattle.systems.specs.Questions.{second_count}
use Rattle.systems.specs.Bounds.{Within, Bounds}
use Rattle.systems.specs.Solutions.{tallest, height_of, SolvesFirst, Solution, Extends, ExtendsBy, MeetsPositives}
use Rattle.systems.specs.Solutions.{MeetsWith, SomeNot, Entails}
use Rattle.systems.specs.Answers.{Answer, satisfied, unsatisfied, vacuous, entailed, unmet, missed, kind_of, Says}
use Rattle.systems.specs.Answers.{Answers, Yes, verdict, needed, shows, Fails, Shown}
use Rattle.systems.specs.SystemLaws.{in_system}
use Rattle.systems.specs.NamedLaws.{among_left, among_right, among_low, among_least, system_named}
use Rattle.systems.specs.AtLeaves.{first_at, second_at}
use Rattle.systems.proofs.AtomLaws.{Reads}
use Rattle.systems.specs.Decide.{can_solve, decide_kind, decide_at, decide, fixed, asked_for, shown_with, shown_at}
use Rattle.systems.proofs.ShownLaws.{asked_solvable}
use Rattle.systems.proofs.Link.{rows_read, shares_read, shares_low, Read, read_any, read_most, first_iff, extension_iff}
use Rattle.systems.proofs.Link.{meets_iff, with_iff}
use Rattle.systems.proofs.Exact.{extends_positives, extends_with_lem, to_leaves, from_leaves, says_right}
use Rattle.systems.proofs.Exact.{decide_kind_lem, answers_iff}
use Rattle.systems.specs.HeightRule.{HeightRule}

-- ---- the tallest constant that is named bounds every one that is named

pub question_bounds : (q : Question) → WellFormed q → Bounds (question_height q) q
question_bounds q F = record {
  low = among_least q.constants (named_by q) _ (λ i t. tree_of_height q.constants.levels _);
  first = system_named _ (λ v. tt) q.first (λ i t. low i (among_left i (named_in q.first) (named_in q.second) t));
  second = system_named _ (λ v. tt) q.second (λ i t. low i (among_right i (named_in q.first) (named_in q.second) t));
}
  where
    low : (i : ℕ) → T (is_among i (named_by q)) → height (constant_tree q.constants i) ≤ question_height q
    low = among_low q.constants (named_by q)

-- so does the tallest of all

constant_low : (k : ℕ) (l : List ℕ) (i : ℕ) → i < length l
    → height (number_tree k (get_or l i 0)) ≤ tallest_constant k l
unfolding tallest_constant
constant_low k [] i u = absurd (not-suc-le-zero u)
constant_low k (n ∷ l) zero u = omega arith
constant_low k (n ∷ l) (suc i) u = omega (arith, constant_low k l i (le_of_suc-le-suc u))

tallest_low : (k : ℕ) (l : List ℕ) → tallest_constant k l ≤ k
unfolding tallest_constant
tallest_low k [] = omega arith
tallest_low k (n ∷ l) = max-le (tree_of_height k _) (tallest_low k l)

term_within : (n : ℕ) (cs : Constants) (t : Term) → Defined n cs t → Within (tallest_constant cs.levels cs.numbers) cs t
term_within n cs (variable v) l = tt
term_within n cs (constant i) l = constant_low cs.levels cs.numbers i l

pub all_bounds : (q : Question) → WellFormed q → Bounds (height_of_all q) q
all_bounds q F = record {
  low = tallest_low q.constants.levels q.constants.numbers;
  first = in_system _ _ _ (λ t d _. term_within q.free q.constants t d) q.first F.first F.first;
  second = in_system _ _ _ (λ t d _. term_within (q.free + q.own) q.constants t d) q.second F.second F.second;
}

-- and so do the constants' levels
pub levels_bounds : (q : Question) → WellFormed q → Bounds q.constants.levels q
levels_bounds q F = record {
  low = le_refl q.constants.levels;
  first = in_system _ _ _ (λ t _ _. within t) q.first F.first F.first;
  second = in_system _ _ _ (λ t _ _. within t) q.second F.second F.second;
}
  where
    within : (t : Term) → Within q.constants.levels q.constants t
    within (variable v) = tt
    within (constant i) = tree_of_height q.constants.levels _

-- ---- what cannot meet the positive clauses, or have a disequation beside them, does not extend

unmet_fails : (q : Question) (σ : Assignment) → ¬ MeetsPositives q σ → Fails q σ unmet
unmet_fails q σ n = (λ E. n (extends_positives q σ E), n)

missed_fails : (q : Question) (σ : Assignment) (j : ℕ) → j < second_count q → ¬ MeetsWith j q σ → Fails q σ (missed j)
missed_fails q σ j l n = (λ E. n (extends_with_lem q σ j l E), n)

-- ---- what a verdict says

one_two : ◌≡◌ {A = ℕ} 1 2 → ⊥
one_two e = omega arith

verdict_or : (a : Answer) → (verdict a ≡ 1) ⊎ (verdict a ≡ 2)
verdict_or satisfied = inl refl
verdict_or unsatisfied = inr refl
verdict_or vacuous = inl refl
verdict_or entailed = inl refl
verdict_or unmet = inr refl
verdict_or (missed j) = inr refl

-- no, with what refutes: kind 0, there is no solution; kind 1, some solution of the first system does not extend
abbrev No : (ℕ → Type 0) → Kind → Question → Type 0
No A satisfiability q = ¬ Solution A q
No A entailment q = SomeNot A q (Extends q)

no_yes : (A : ℕ → Type 0) (k : Kind) (q : Question) → No A k q → ¬ Yes A k q
no_yes A satisfiability q n y = n y
no_yes A entailment q (S, n) y = n (y S)

module _ (A : ℕ → Type 0) (q : Question) where
  yes_means : (a : Answer) → Says A q a → verdict a ≡ 1 → Yes A (kind_of a) q
  yes_means satisfied s e = s
  yes_means unsatisfied s e = absurd (one_two (sym e))
  yes_means vacuous s e = λ S. absurd (s S)
  yes_means entailed s e = s.1
  yes_means unmet s e = absurd (one_two (sym e))
  yes_means (missed j) s e = absurd (one_two (sym e))

  no_means : (a : Answer) → Says A q a → verdict a ≡ 2 → No A (kind_of a) q
  no_means satisfied s e = absurd (one_two e)
  no_means unsatisfied s e = s
  no_means vacuous s e = absurd (one_two e)
  no_means entailed s e = absurd (one_two e)
  no_means unmet (S, n) e = (S, (unmet_fails q S.values n).0)
  no_means (missed j) s e = let (S, n) = s.2 in (S, (missed_fails q S.values j s.0 n).0)

-- ---- the rule

module _ (h : ℕ) (q : Question) (F : WellFormed q) (B : Bounds h q) where
  -- from height h + c n up, trees no taller than a height are read at its leaves
  read_from : (n : ℕ) {k : ℕ} → h + c n ≤ k → Read h (at_most k) (exactly k)
  read_from n l = read_most (le_trans (le-add_right h _) l)

  raise : {A : ℕ → Type 0} → Solution A q → Solution any_height q
  raise S = record { values = S.values; allowed = tt; solves = S.solves }

  solution_rule : (k : ℕ) → h + c (first_count q) ≤ k → Solution any_height q ↔ Solution (at_most k) q
  solution_rule k l = (
    λ S.
        let L = to_leaves h q F B any_height any_height (read_any h) S in
        let t = cut_solvable (least q.free) h (first_at h q) L.height L.leaves L.solves in
        from_leaves h q F B _ _ (read_from (first_count q) l)
        (solution_glued (least q.free) h (first_at h q) _ (room_at l) t),
    raise,
  )

  refutation_rule : (k : ℕ) → h + c (first_count q + 1) ≤ k
      → (¬ Entails any_height q) ↔ SomeNot (at_most k) q (Extends q)
  unfolding raise
  refutation_rule k l = (λ n. go n (verdict_or a), λ (S, n) E. n (E (raise S)))
    where
      a : Answer
      a = decide_kind h q entailment

      kind : kind_of a ≡ entailment
      kind = decide_kind_lem h q entailment

      go : ¬ Entails any_height q → (verdict a ≡ 1) ⊎ (verdict a ≡ 2) → SomeNot (at_most k) q (Extends q)
      go n (inl e) =
          absurd (n (subst (λ k. Yes any_height k q) kind
          (yes_means any_height q a (says_right h q F B any_height any_height (read_any h) entailment (room_any h _))
          e)))
      go n (inr e) =
          subst (λ a. No (at_most k) a q) kind
          (no_means _ q a (says_right h q F B _ _ (read_from (first_count q + 1) l) entailment (room_at l)) e)

  -- any assignment that extends, extends so
  extension_rule : (σ : Assignment) → Extends q σ → (k : ℕ) → max (height_of q σ) h + c (second_count q) ≤ k
      → ExtendsBy (at_most k) q σ
  extension_rule σ E k m =
      let w = max (tallest q.free σ) h in
      let l = le-max_right (tallest q.free σ) h in
      let r = rows_read q.free w σ (le-max_left (tallest q.free σ) h) in
      (extension_iff h q F B w l σ _ r (at_most k) (exactly k) (read_most (le_trans (le-add_right w _) m))).1
      (extension_room (least q.own) h (second_at h q) w _ l any_height (exactly k) (room_at m)
      ((extension_iff h q F B w l σ _ r any_height any_height (read_any w)).0 E))

  held_rule : (k : ℕ) → h + c (needed q.kind (first_count q)) ≤ k → (a : Answer)
      → Answers (at_most k) q a ↔ Answers any_height q a
  held_rule k l a =
      Iff.trans
      (answers_iff h q F B (at_most k) (exactly k) (read_from (needed q.kind (first_count q)) l) (room_at l) a)
      (Iff.symm (answers_iff h q F B any_height any_height (read_any h) (room_any h _) a))

  -- ---- the solution that is shown

  module _ (P : Problem (Row Bool q.free)) (k : ℕ)
      (S : SolvesLeaves h (first_at h q) (h + k) (fixed_at (least q.free) h P (h + k))) where
    fixed_reads : Reads q.free (h + k) (fixed h q P (h + k)) (λ i. at false (fixed_at (least q.free) h P (h + k) i))
    fixed_reads = shares_read q.free (h + k) _

    fixed_solves : SolvesFirst q (fixed h q P (h + k))
    fixed_solves = (first_iff h q F B (h + k) (le-add_right h k) _ _ fixed_reads).1 S

    fixed_low : height_of q (fixed h q P (h + k)) ≤ h + k
    fixed_low = shares_low q.free (h + k) _

  shown_satisfied : T (can_solve h q) → Shown h q satisfied (shown_with h q satisfied)
  shown_satisfied t =
      let S = solves-leaves (least q.free) h (first_at h q) t (c (first_count q)) (c_enough (first_count q)) in
      record {
        solves = fixed_solves (first_at h q) (c (first_count q)) S;
        low =
            omega (arith, fixed_low (first_at h q) (c (first_count q)) S);
        fails = tt;
      }

  -- room for one more than the disequations
  room_more : suc (first_count q) ≤ 2 ^ c (first_count q + 1)
  room_more = omega (arith, c_enough (first_count q + 1))

  shown_unmet : T (solvable (least q.free) h (asked_for h q unmet)) → Shown h q unmet (shown_with h q unmet)
  shown_unmet t =
      let k = c (first_count q + 1) in
      let P = asked_for h q unmet in
      let S = solves-leaves (least q.free) h P t k room_more in
      let S₁ = unmet_first (least q.own) h (first_at h q) (second_at h q) (h + k) _ S in
      record {
        solves = fixed_solves P k S₁;
        low = omega (arith, fixed_low P k S₁);
        fails = unmet_fails q _ (λ m. unmet_counter (least q.own) h (first_at h q) (second_at h q) (h + k) _ S
            ((meets_iff h q F B (h + k) (le-add_right h k) _ _ (fixed_reads P k S₁)).0 m));
      }

  shown_missed : (j : ℕ) → j < second_count q → T (solvable (least q.free) h (asked_for h q (missed j)))
      → Shown h q (missed j) (shown_with h q (missed j))
  shown_missed j l t =
      let k = c (first_count q + 1) in
      let P = asked_for h q (missed j) in
      let S = solves-leaves (least q.free) h P t k (omega (arith, room_more)) in
      let S₁ = missed_first (least q.own) h (first_at h q) (second_at h q) (h + k) _ j S in
      record {
        solves = fixed_solves P k S₁;
        low = omega (arith, fixed_low P k S₁);
        fails = missed_fails q _ j l (λ m. missed_counter (least q.own) h (first_at h q) (second_at h q) (h + k) _ j S
            ((with_iff h q F B (h + k) (le-add_right h k) _ _ (fixed_reads P k S₁) j l).0 m));
      }

  shown_rule : T (shows (decide_at h q)) → Shown h q (decide_at h q) (shown_at h q)
  shown_rule t = go (decide_at h q) t (asked_solvable h q t)
      (says_right h q F B any_height any_height (read_any h) q.kind (room_any h _))
    where
      go : (a : Answer) → T (shows a) → T (solvable (least q.free) h (asked_for h q a)) → Says any_height q a
          → Shown h q a (shown_with h q a)
      go satisfied f u s = shown_satisfied u
      go unsatisfied f u s = absurd f
      go vacuous f u s = absurd f
      go entailed f u s = absurd f
      go unmet f u s = shown_unmet u
      go (missed j) f u s = shown_missed j s.0 u

  -- with any h that bounds the constants that clauses name
  pub height_rule_at : HeightRule h q
  height_rule_at = record {
    solution = solution_rule _ (omega arith);
    refutation = refutation_rule _ (omega arith);
    extension = λ E S. extension_rule S.values (E S) _ (omega arith);
    held = λ k l. held_rule k (omega arith);
    decision = answers_iff h q F B any_height any_height (read_any h) (room_any h _);
    shown = shown_rule;
  }

-- ---- the theorems, over every well-formed question

-- the rule of heights, with h the height of the tallest constant that some clause names
pub height_rule : (q : Question) → WellFormed q → HeightRule (question_height q) q
height_rule q F = height_rule_at (question_height q) q F (question_bounds q F)

-- and so with that of the tallest of all
pub height_rule_by_all : (q : Question) → WellFormed q → HeightRule (height_of_all q) q
height_rule_by_all q F = height_rule_at (height_of_all q) q F (all_bounds q F)

-- the decision is the right answer, and the only one
pub exact : (q : Question) → WellFormed q → (a : Answer) → Answers any_height q a ↔ (decide q ≡ a)
exact q F = (height_rule q F).decision

-- h may be any bound of the constants that clauses name: the decision is the same
pub decide_same : (q : Question) → WellFormed q → (h : ℕ) → Bounds h q → decide_at h q ≡ decide q
decide_same q F h B = ((height_rule_at h q F B).decision (decide q)).0 ((exact q F (decide q)).1 refl)

-- so by the tallest constant of all, named or not
pub decide_by_all : (q : Question) → WellFormed q → decide_at (height_of_all q) q ≡ decide q
decide_by_all q F = decide_same q F (height_of_all q) (all_bounds q F)

-- yes exactly where the answer is yes, no exactly where it is not
pub verdict_exact : (q : Question) → WellFormed q
    → ((verdict (decide q) ≡ 1) ↔ Yes any_height q.kind q) × ((verdict (decide q) ≡ 2) ↔ (¬ Yes any_height q.kind q))
verdict_exact q F = (
  (yes, λ y. first y (verdict_or (decide q))),
  (λ e. no_yes any_height q.kind q (no e), λ n. second n (verdict_or (decide q))),
)
  where
    a : Answers any_height q (decide q)
    a = (exact q F (decide q)).1 refl

    yes : verdict (decide q) ≡ 1 → Yes any_height q.kind q
    yes e = subst (λ k. Yes any_height k q) a.0 (yes_means any_height q (decide q) a.1 e)

    no : verdict (decide q) ≡ 2 → No any_height q.kind q
    no e = subst (λ k. No any_height k q) a.0 (no_means any_height q (decide q) a.1 e)

    first : Yes any_height q.kind q → (verdict (decide q) ≡ 1) ⊎ (verdict (decide q) ≡ 2) → verdict (decide q) ≡ 1
    first y (inl e) = e
    first y (inr e) = absurd (no_yes any_height q.kind q (no e) y)

    second : ¬ Yes any_height q.kind q → (verdict (decide q) ≡ 1) ⊎ (verdict (decide q) ≡ 2) → verdict (decide q) ≡ 2
    second n (inl e) = absurd (n (yes e))
    second n (inr e) = e
