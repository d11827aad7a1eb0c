-- The first words of a finding can be planned, and the plan of them is that of the question's fixed solution. Assumes
-- nothing.
use Rattle.std.specs.Prelude.{◌≡◌, refl, Bool, true, false, cond, List, ℕ, ◌+◌, ◌-◌, ◌^◌, ◌≤◌, ◌<◌, T, ltb}
use Rattle.std.proofs.Math.Path.{sym, ap}
use Rattle.std.proofs.Common.{◌∙◌, le_trans, arith, pow_mono, ltb-true}
use Rattle.std.proofs.Math.Arith.{digits_lt, digits_mod}
use Rattle.shares.specs.Constant.{bit}
use Rattle.shares.specs.Test.{of_true}
use Rattle.shares.specs.Below.{some_below}
use Rattle.shares.specs.BelowLaws.{some_found, first_passes}
use Rattle.shares.specs.BlockLaws.{leaf_lt}
use Rattle.shares.specs.Tree.{tree_of}
use Rattle.shares.proofs.TreeLaws.{tree_of_ext}
use Rattle.leaves.specs.Heights.{c}
use Rattle.leaves.proofs.HeightLaws.{c_enough}
use Rattle.leaves.specs.Choices.{Row, least}
use Rattle.leaves.specs.RowNumbers.{value}
use Rattle.leaves.specs.Problem.{Problem}
use Rattle.leaves.specs.Fixed.{fixed_at}
use Rattle.leaves.proofs.ProblemLaws.{plain_passes, leaf_passes, rank_lt}
use Rattle.leaves.specs.Numbers.{numbered, leaf_for, plain_choice, special_choice}
use Rattle.plans.specs.NumberLaws.{plain_is}
use Rattle.systems.specs.Clauses.{Assignment}
use Rattle.systems.specs.Questions.{Kind, satisfiability, entailment, Question, question_height, first_count}
use Rattle.systems.specs.Questions.{second_count}
use Rattle.systems.specs.Answers.{Answer, satisfied, unsatisfied, vacuous, entailed, unmet, missed, shows, height_given}
use Rattle.systems.specs.AtLeaves.{first_at}
use Rattle.systems.specs.Decide.{can_solve, some_unmet, lowest_missed, decide_kind, decide, shares_of, fixed}
use Rattle.systems.specs.Decide.{shown_with}
use Rattle.format.specs.Stored.{Stored, Stands}
use Rattle.format.proofs.KeepingLaws.{section_count}
use Rattle.format.proofs.Callers.{levels_are}
use Rattle.format.specs.declared.Section.TheVariants.{SecondDisequation}
use Rattle.plans.specs.declared.Plan.{Plan}
use Rattle.plans.specs.Shown as shown
use Rattle.plans.specs.ShownLaws.{plan_shows}
use Rattle.plans.specs.PairLaws.{width_enough}
use Rattle.plans.specs.Pairs.{leaf_width, Fitting, LeavesFit, PairsOf, Made}
use Rattle.rows.specs.Rows.{row_levels}
use Rattle.steps.specs.Tests.{extra_of, room_of, tests_of}
use Rattle.steps.specs.declared.Search.{Search}
use Rattle.steps.specs.declared.Search.TheVariants.{First, Unmet, Missed}
use Rattle.search.specs.Found.{solvable_in, SolvedAs}
use Rattle.decide.specs.StoredLaws.{row_digit}
use Rattle.decide.specs.StandsLaws.{with_variables, Same, same_first, same_unmet, same_missed}
use Rattle.decide.specs.NamedLaws.{question_low}
use Rattle.decide.specs.OutlineLaws.{extra_most, room_enough, count_is, count_few, splits_few}
use Rattle.decide.specs.Findings.{answer_of}
use Rattle.decide.specs.Decision.{search_of, outline_of, Planned, Decided}
use Rattle.decide.specs.declared.Finding.{Finding}
use Rattle.decide.specs.declared.Finding.TheVariants.{Satisfied, Unsatisfied, Vacuous, Entailed, Unmet, Missed}
use Rattle.words.specs.declared.Passing.{Passing}

-- ---- the answer that a disequation is missed names one of the second system's

missed_there : (h : ℕ) (q : Question) (j : ℕ) → decide_kind h q q.kind ≡ missed j → j < second_count q
unfolding decide_kind
missed_there h q j = by_kind q.kind
  where
    chosen : (a b t : Bool) → ltb (lowest_missed h q) (second_count q) ≡ t
        → cond a (cond b unmet (cond t (missed (lowest_missed h q)) entailed)) vacuous ≡ missed j → j < second_count q
    chosen true true t l e = absurd (omega (arith, apart e))
      where
        apart : unmet ≡ missed j → ◌≡◌ {A = ℕ} 0 1
        apart e = cc
    chosen true false true l e = let s : lowest_missed h q ≡ j =
        cc in omega (arith, ltb-true (lowest_missed h q) (second_count q) l)
    chosen true false false l e = let z : ◌≡◌ {A = ℕ} 0 1 = cc in absurd (omega arith)
    chosen false b t l e = let z : ◌≡◌ {A = ℕ} 0 1 = cc in absurd (omega arith)

    by_kind : (k : Kind) → decide_kind h q k ≡ missed j → j < second_count q
    by_kind satisfiability = alone (can_solve h q)
      where
        alone : (a : Bool) → cond a satisfied unsatisfied ≡ missed j → j < second_count q
        alone true e = let z : ◌≡◌ {A = ℕ} 0 1 = cc in absurd (omega arith)
        alone false e = let z : ◌≡◌ {A = ℕ} 0 1 = cc in absurd (omega arith)
    by_kind entailment = chosen (can_solve h q) (some_unmet h q) _ refl

-- ---- of what stands for a question, whose constants have no more levels than a plan has room for

module _ {kind : ℕ} (x : Stored) (q : Question) (St : Stands kind x q) (room_for : x.levels ≤ 6) where
  abbrev H : ℕ
  H = question_height q

  abbrev Q : Stored
  Q = with_variables x q.free q.own

  solved_at : {search : Search} {found : Bool} {firsts leaves : List Passing} → SolvedAs x H search found firsts leaves
      → SolvedAs Q H search found firsts leaves
  solved_at D = rw (← St.free, ← St.own) D

  module _ (search : Search) where
    abbrev R : Problem ℕ
    R = tests_of Q H search

    abbrev k : ℕ
    k = c (room_of search (first_count q))

    tests_count : R.count ≡ extra_of search + first_count q
    tests_count = ap (λ d. extra_of search + d) (count_is x q St)

    room : R.count ≤ 2 ^ k
    room = rw tests_count (le_trans (room_enough search (first_count q)) (c_enough (room_of search (first_count q))))

    module _ (can : T (solvable_in Q H search)) where
      -- pairs of it can be planned
      fitting : {firsts leaves : List Passing} → PairsOf q.free H R (extra_of search) firsts leaves
          → Fitting (outline_of q search) firsts × LeavesFit (outline_of q search) leaves
      fitting P = (
        record {
          variables = omega (arith, St.variables, St.free);
          low = omega (arith, question_low x q St);
          splits = splits_few x q St search;
          extra = extra_most search;
          few = count_few x q St;
          entries = λ e l. let m : e < R.count = rw tests_count l in
              rw (P.entries e m) (digits_lt (leaf_passes (least q.free) H (numbered q.free R) can e m).0 (wide e m));
          choices = λ e l. let m : e < R.count =
              rw tests_count l in rw (P.entries e m, digits_mod (leaf_for q.free H R e) (wide e m)) (P.within e m);
        },
        λ b l. rw (P.plains b l) (least_lt b l),
      )
        where
          wide : (e : ℕ) → e < R.count → special_choice q.free H R e (leaf_for q.free H R e) < leaf_width q.free
          wide e m = le_trans (P.within e m) (width_enough q.free)

          least_lt : (b : ℕ) → b < 2 ^ H → plain_choice q.free H R b < 2 ^ q.free
          least_lt b l =
              let t : T (some_below (2 ^ q.free) (R.pos b)) =
              rw (plain_is q.free H R b) at (plain_passes (least q.free) H (numbered q.free R) can b l) in
              let (i, m, p) = some_found (2 ^ q.free) (R.pos b) t in
              (first_passes (2 ^ q.free) (R.pos b) i m p).0

      module _ (plan : Plan) (M : Made q.free H R k plan) where
        -- a plan of it can be shown
        formed : shown.Showable (row_levels q.constants.levels) plan
        formed = record {
          below = omega (arith, M.low, M.high);
          within = omega (arith, M.high, splits_few x q St search, question_low x q St, levels_are x q St);
          blocks = omega (arith, M.low, question_low x q St);
          few = let p : 2 ^ k ≤ 2 ^ 5 = pow_mono {j = 5} (splits_few x q St search) in omega (arith, M.count, room);
          sub_leaves = λ j l.
              let m : j < R.count = rw M.count at l in
              rw (M.high, M.sub_leaves j m)
              (leaf_lt H k (leaf_passes (least q.free) H (numbered q.free R) can j m).0
              (rank_lt (least q.free) H (numbered q.free R) k j room m));
        }

        -- its trees are those of the question's problem
        trees : (P : Problem (Row Bool q.free)) → Same x q St H P R
            → (v : ℕ) → v < q.free → shown.plan_tree plan (q.free - 1 - v) ≡ (fixed H q P (H + k) v).tree
        unfolding shown.plan_tree shares_of
        trees P same v l =
            ap (λ w. tree_of w (λ s. bit (shown.plan_choice plan s) (q.free - 1 - v))) M.high
            ∙ tree_of_ext (H + k) _ _ (λ s m.
            ap (λ y. bit y (q.free - 1 - v)) (plan_shows q.free H R k plan M room s m can
            ∙ ap value (sym (same.fixed_is k s m)))
            ∙ sym (row_digit q.free (fixed_at (least q.free) H P (H + k) s) v l))

        -- so it is that of what is shown with an answer
        planned : (a : Answer) (P : Problem (Row Bool q.free)) → Same x q St H P R → decide q ≡ a
            → height_given H q a ≡ H + k
            → shown_with H q a ≡ fixed H q P (H + k) → Planned q plan
        planned a P same d g s = record {
          formed = formed;
          high = M.high ∙ sym (ap (height_given H q) d ∙ g);
          trees = λ v l. trees P same v l ∙ ap (λ (σ : Assignment). (σ v).tree) (sym (ap (shown_with H q) d ∙ s));
        }

  -- the finding says which problem is shown
  planned_as : (f : Finding) → T (shows (answer_of f)) → decide q ≡ answer_of f → T (solvable_in Q H (search_of f))
      → (plan : Plan) → Made q.free H (tests_of Q H (search_of f)) (c (room_of (search_of f) (first_count q))) plan
      → Planned q plan
  planned_as Satisfied t d can plan M =
      planned First can plan M satisfied (first_at H q) (same_first x q St H) d refl refl
  planned_as Unsatisfied t d can plan M = absurd t
  planned_as Vacuous t d can plan M = absurd t
  planned_as Entailed t d can plan M = absurd t
  planned_as Unmet t d can plan M = planned Unmet can plan M unmet _ (same_unmet x q St H) d refl refl
  planned_as (Missed j) t d can plan M =
      planned (Missed j) can plan M (missed j) _
      (same_missed x q St H j (rw (section_count x q St SecondDisequation) at (missed_there H q j d))) d refl refl

  -- ---- of a decision

  module _ (f : Finding) (firsts leaves : List Passing) (D : Decided x q f firsts leaves)
      (t : T (shows (answer_of f))) where
    solved : SolvedAs Q H (search_of f) true firsts leaves
    solved = solved_at (D.solved (rw D.answer at t))

    can : T (solvable_in Q H (search_of f))
    can = of_true (sym solved.found_is)

    pub decided_fits : Fitting (outline_of q (search_of f)) firsts × LeavesFit (outline_of q (search_of f)) leaves
    decided_fits = fitting (search_of f) can (solved.pairs_are tt)

    pub decided_planned : (plan : Plan)
        → ((R : Problem ℕ) → R.count ≡ extra_of (search_of f) + first_count q
        → PairsOf q.free H R (extra_of (search_of f)) firsts leaves
        → Made q.free H R (c (room_of (search_of f) (first_count q))) plan)
        → Planned q plan
    decided_planned plan made =
        planned_as f t (sym D.answer) can plan
        (made (tests_of Q H (search_of f)) (tests_count (search_of f)) (solved.pairs_are tt))
