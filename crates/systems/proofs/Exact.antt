-- The decision is right, of the solutions of every height and of those held to heights with room, and no other answer
-- is. Assumes nothing.
use Rattle.std.specs.Prelude.{◌≡◌, refl, Bool, false, not, ◌↔◌, ℕ, suc, ◌≤◌, ◌<◌, ltb}
use Rattle.std.proofs.Common.{sym, ◌∙◌, subst, le_trans, T_not, lt→ltb}
use Rattle.std.proofs.Math.Path.{ap}
use native.Mathlib.Omega.{arith}
use Rattle.std.proofs.Math.Dec.{T, ltb→lt, nltb→le}
use Rattle.shares.specs.Test.{holds, cond_law}
use Rattle.shares.specs.BelowLaws.{first_below_lem, first_least, first_min}
use Rattle.leaves.specs.Heights.{any_height}
use Rattle.leaves.specs.Room.{Room}
use Rattle.leaves.proofs.HeightLaws.{room_less}
use Rattle.leaves.specs.Choices.{Row, at, least}
use Rattle.leaves.specs.LeafSolutions.{LeafSolution}
use Rattle.leaves.proofs.ProblemLaws.{cut_solvable, solution_glued}
use Rattle.leaves.specs.Second.{Second}
use Rattle.leaves.specs.Entailment.{can_be_missed, first_missed}
use Rattle.leaves.specs.LeafExtensions.{LeafExtension, positives_only, only, EntailsLeaves, LeafCounterexample}
use Rattle.leaves.proofs.SecondLaws.{one_at_a_time, always_met, never_missed, can_be_unmet_lem, can_be_missed_lem}
use Rattle.systems.specs.DecideExamples
use Rattle.systems.specs.Clauses.{Assignment}
use Rattle.systems.specs.Questions.{Kind, satisfiability, entailment, Question, WellFormed, first_count, second_count}
use Rattle.systems.specs.Bounds.{Bounds}
use Rattle.systems.specs.Solutions.{tallest, both, Solution, Extends, MeetsPositives, MeetsWith, Every, SomeNot}
use Rattle.systems.specs.Solutions.{Entails}
use Rattle.systems.specs.Answers.{Answer, satisfied, unsatisfied, vacuous, entailed, unmet, missed, kind_of, Says}
use Rattle.systems.specs.Answers.{Answers, needed}
use Rattle.systems.specs.SystemLaws.{parts}
use Rattle.systems.specs.AtLeaves.{first_at, second_at}
use Rattle.systems.proofs.AtomLaws.{Reads}
use Rattle.systems.proofs.Link.{rows_at, rows_read, shares_read, shares_low, Read, read_any, first_iff, extension_iff}
use Rattle.systems.proofs.Link.{meets_iff, with_iff}
use Rattle.systems.specs.Decide.{can_solve, some_unmet, lowest_missed, decide_kind, decide_at, shares_of}

-- what extends can meet the positive clauses, and have each disequation beside them
pub extends_positives : (q : Question) (σ : Assignment) → Extends q σ → MeetsPositives q σ
extends_positives q σ E = record {
  own = E.own;
  allowed = tt;
  holds =
      (parts q.constants (both q.free σ E.own) q.second E.holds).0;
}

pub extends_with_lem : (q : Question) (σ : Assignment) (j : ℕ) → j < second_count q → Extends q σ → MeetsWith j q σ
extends_with_lem q σ j l E =
    let p = parts q.constants (both q.free σ E.own) q.second E.holds in
    record { own = E.own; allowed = tt; holds = (p.0, p.1 j l) }

-- some solution misses disequation j of the second, at the leaves
abbrev some_missed : ℕ → Question → ℕ → Bool
some_missed h q = can_be_missed (least q.free) (least q.own) h (first_at h q) (second_at h q)

-- solutions by trees whose height is among A are solutions at the leaves whose height is among A'
module _ (h : ℕ) (q : Question) (F : WellFormed q) (B : Bounds h q) (A A' : ℕ → Type 0) (R : Read h A A') where
  pub to_leaves : Solution A q → LeafSolution A' h (first_at h q)
  to_leaves S =
      let (w, k, l, a) = R.up (tallest q.free S.values) S.allowed in
      record {
        height = w;
        allowed = a;
        leaves = rows_at q.free w S.values;
        solves = (first_iff h q F B w l S.values _ (rows_read q.free w S.values k)).0 S.solves;
      }

  pub from_leaves : LeafSolution A' h (first_at h q) → Solution A q
  from_leaves L = record {
    values = shares_of L.height L.leaves;
    allowed = R.down L.height _ L.allowed (shares_low q.free L.height L.leaves);
    solves = (first_iff h q F B L.height L.solves.tall _ L.leaves (shares_read q.free L.height L.leaves)).1 L.solves;
  }

  -- a property of assignments that is an extension of their rows
  module _ (P : Assignment → Type 0) (Q : Second (Row Bool q.free) (Row Bool q.own))
      (iff : (w : ℕ) → h ≤ w → (σ : Assignment) (s : ℕ → Row Bool q.free) → Reads q.free w σ (λ i. at false (s i))
      → P σ ↔ LeafExtension any_height h Q w s) where
    every_from : EntailsLeaves A' h (first_at h q) Q → Every A q P
    unfolding to_leaves
    every_from E S =
        let (w, k, l, a) = R.up (tallest q.free S.values) S.allowed in
        (iff w l S.values (rows_at q.free w S.values) (rows_read q.free w S.values k)).1 (E (to_leaves S))

    some_not_from : LeafCounterexample A' h (first_at h q) Q → SomeNot A q P
    unfolding from_leaves
    some_not_from (L, n) = (
      from_leaves L,
      λ p. n ((iff L.height L.solves.tall _ L.leaves (shares_read q.free L.height L.leaves)).0 p),
    )

  -- ---- what each test says

  can_solve_lem : Room A' h (first_count q) → T (can_solve h q) → Solution A q
  can_solve_lem r t = from_leaves (solution_glued (least q.free) h (first_at h q) A' r t)

  cannot_solve : T (not (can_solve h q)) → ¬ Solution A q
  cannot_solve t S =
      let L = to_leaves S in
      T_not (can_solve h q) t (cut_solvable (least q.free) h (first_at h q) L.height L.leaves L.solves)

  some_unmet_lem : Room A' h (suc (first_count q)) → T (can_solve h q) → T (some_unmet h q)
      → SomeNot A q (MeetsPositives q)
  some_unmet_lem r t u =
      some_not_from (MeetsPositives q) (positives_only (second_at h q)) (meets_iff h q F B)
      (can_be_unmet_lem (least q.free) (least q.own) h (first_at h q) (second_at h q) A' r t u)

  none_unmet : T (not (some_unmet h q)) → Every A q (MeetsPositives q)
  none_unmet u =
      every_from (MeetsPositives q) (positives_only (second_at h q)) (meets_iff h q F B)
      (always_met (least q.free) (least q.own) h (first_at h q) (second_at h q) A' u)

  some_missed_lem : Room A' h (first_count q) → (j : ℕ) → j < second_count q → T (some_missed h q j)
      → SomeNot A q (MeetsWith j q)
  some_missed_lem r j l t =
      some_not_from (MeetsWith j q) (only j (second_at h q)) (λ w hw σ s R. with_iff h q F B w hw σ s R j l)
      (can_be_missed_lem (least q.free) (least q.own) h (first_at h q) (second_at h q) A' r j t)

  -- each solution meets disequation j at the leaves, where none leaves the positive clauses unmet and none misses j
  never_misses : T (not (some_unmet h q)) → (j : ℕ) → T (not (some_missed h q j))
      → EntailsLeaves A' h (first_at h q) (only j (second_at h q))
  never_misses u j t =
      never_missed (least q.free) (least q.own) h (first_at h q) (second_at h q) A' j t
      (always_met (least q.free) (least q.own) h (first_at h q) (second_at h q) A' u)

  none_missed : T (not (some_unmet h q)) → (j : ℕ) → j < second_count q → T (not (some_missed h q j))
      → Every A q (MeetsWith j q)
  none_missed u j l t =
      every_from (MeetsWith j q) (only j (second_at h q)) (λ w hw σ s R. with_iff h q F B w hw σ s R j l)
      (never_misses u j t)

  all_extend : T (not (some_unmet h q)) → ((j : ℕ) → j < second_count q → T (not (some_missed h q j))) → Entails A q
  all_extend u f =
      every_from (Extends q) (second_at h q)
      (λ w hw σ s R. extension_iff h q F B w hw σ s R any_height any_height (read_any w))
      (λ S. one_at_a_time (least q.own) h (second_at h q) S.height S.leaves S.solves.tall
      (always_met (least q.free) (least q.own) h (first_at h q) (second_at h q) A' u S)
      (λ j l. never_misses u j (f j l) S))

  -- ---- the lowest disequation that can be missed

  lowest_missed_lem : lowest_missed h q < second_count q → T (some_missed h q (lowest_missed h q))
  unfolding first_missed
  lowest_missed_lem l = first_below_lem (second_count q) (some_missed h q) l

  none_lower : (i : ℕ) → i < lowest_missed h q → T (not (some_missed h q i))
  unfolding first_missed
  none_lower i l = first_least (second_count q) (some_missed h q) i l

  lowest_le : (j : ℕ) → T (some_missed h q j) → lowest_missed h q ≤ j
  unfolding first_missed
  lowest_le j t = first_min (second_count q) (some_missed h q) j t

  -- ---- the decision says what is so

  pub says_right : (k : Kind) → Room A' h (needed k (first_count q)) → Says A q (decide_kind h q k)
  unfolding decide_kind
  says_right satisfiability r = cond_law (Says A q) (can_solve h q) satisfied unsatisfied (can_solve_lem r) cannot_solve
  says_right entailment r =
      cond_law (Says A q) (can_solve h q) _ vacuous
      (λ t. cond_law (Says A q) (some_unmet h q) unmet _
      (some_unmet_lem (room_less (omega arith) r) t)
      (λ u. cond_law (Says A q) (ltb (lowest_missed h q) (second_count q)) (missed (lowest_missed h q)) entailed
      (λ v.
      let l = ltb→lt (lowest_missed h q) (second_count q) v in (
        l,
        none_unmet u,
        some_missed_lem (room_less (omega arith) r) (lowest_missed h q) l (lowest_missed_lem l),
        λ i m. none_missed u i (le_trans m (omega arith)) (none_lower i m),
      ))
      (λ v.
      let l = nltb→le (lowest_missed h q) (second_count q) v in
      (can_solve_lem (room_less (omega arith) r) t, all_extend u (λ j m. none_lower j (le_trans m l))))))
      cannot_solve

  -- ---- and whatever answer says what is so is the decision

  says_only : (a : Answer) → Room A' h (needed (kind_of a) (first_count q)) → Says A q a
      → decide_kind h q (kind_of a) ≡ a
  unfolding decide_kind
  says_only satisfied r S = cond_law (λ x. x ≡ satisfied) (can_solve h q) _ _ (λ t. refl)
      (λ t. absurd (cannot_solve t S))
  says_only unsatisfied r n = cond_law (λ x. x ≡ unsatisfied) (can_solve h q) _ _ (λ t. absurd (n (can_solve_lem r t)))
      (λ t. refl)
  says_only vacuous r n =
      cond_law (λ x. x ≡ vacuous) (can_solve h q) _ _ (λ t. absurd (n (can_solve_lem (room_less (omega arith) r) t)))
      (λ t. refl)
  says_only entailed r (S, E) =
      cond_law (λ x. x ≡ entailed) (can_solve h q) _ _
      (λ t. cond_law (λ x. x ≡ entailed) (some_unmet h q) _ _
      (λ u. let (N, n) = some_unmet_lem (room_less (omega arith) r) t u in
      absurd (n (extends_positives q N.values (E N))))
      (λ u. cond_law (λ x. x ≡ entailed) (ltb (lowest_missed h q) (second_count q)) _ _
      (λ v.
      let l = ltb→lt (lowest_missed h q) (second_count q) v in
      let (N, n) = some_missed_lem (room_less (omega arith) r) (lowest_missed h q) l (lowest_missed_lem l) in
      absurd (n (extends_with_lem q N.values (lowest_missed h q) l (E N))))
      (λ v. refl)))
      (λ t. absurd (cannot_solve t S))
  says_only unmet r (S, n) =
      cond_law (λ x. x ≡ unmet) (can_solve h q) _ _
      (λ t. cond_law (λ x. x ≡ unmet) (some_unmet h q) _ _ (λ u. refl) (λ u. absurd (n (none_unmet u S))))
      (λ t. absurd (cannot_solve t S))
  says_only (missed j) r (l, M, (S, n), E) =
      cond_law (λ x. x ≡ missed j) (can_solve h q) _ _
      (λ t. cond_law (λ x. x ≡ missed j) (some_unmet h q) _ _
      (λ u. let (N, m) = some_unmet_lem (room_less (omega arith) r) t u in absurd (m (M N)))
      (λ u.
      let missable : T (some_missed h q j) = holds (some_missed h q j) (λ x. n (none_missed u j l x S)) in
      let low : lowest_missed h q ≤ j = lowest_le j missable in
      let below : lowest_missed h q < second_count q = omega arith in
      let no_lower : ¬ (lowest_missed h q < j) =
      λ m.
      let (N, x) = some_missed_lem (room_less (omega arith) r) (lowest_missed h q) below (lowest_missed_lem below) in
      x (E (lowest_missed h q) m N) in
      let same : lowest_missed h q ≡ j = omega arith in
      cond_law (λ x. x ≡ missed j) (ltb (lowest_missed h q) (second_count q)) _ _
      (λ v. ap missed same)
      (λ v. absurd (T_not (ltb (lowest_missed h q) (second_count q)) v (lt→ltb _ _ below)))))
      (λ t. absurd (cannot_solve t S))

-- the decision has the question's kind
pub decide_kind_lem : (h : ℕ) (q : Question) (k : Kind) → kind_of (decide_kind h q k) ≡ k
unfolding decide_kind
decide_kind_lem h q satisfiability =
    cond_law (λ a. kind_of a ≡ satisfiability) (can_solve h q) _ _ (λ t. refl) (λ t. refl)
decide_kind_lem h q entailment =
    cond_law (λ a. kind_of a ≡ entailment) (can_solve h q) _ _
    (λ t. cond_law (λ a. kind_of a ≡ entailment) (some_unmet h q) _ _ (λ u. refl)
    (λ u. cond_law (λ a. kind_of a ≡ entailment) (ltb (lowest_missed h q) (second_count q)) _ _ (λ v. refl)
    (λ v. refl)))
    (λ t. refl)

-- the decision is the right answer, and the only one, where the heights A have room
module _ (h : ℕ) (q : Question) (F : WellFormed q) (B : Bounds h q) (A A' : ℕ → Type 0) (R : Read h A A') where
  pub answers_iff : Room A' h (needed q.kind (first_count q)) → (a : Answer) → Answers A q a ↔ (decide_at h q ≡ a)
  answers_iff r a = (
    λ (k, s). subst (λ k. Room A' h (needed k (first_count q)) → decide_kind h q k ≡ a) k
        (λ r. says_only h q F B A A' R a r s) r,
    λ e. (ap kind_of (sym e) ∙ decide_kind_lem h q q.kind, subst (Says A q) e (says_right h q F B A A' R q.kind r)),
  )
