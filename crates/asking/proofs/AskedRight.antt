-- The theorems of asking: what it gives and shows for an answered question is exact, and the rule of heights holds of
-- it. Assumes nothing.
use Rattle.std.specs.Prelude.{◌≡◌, List, ℕ, ◌≤◌, T, length}
use Rattle.std.proofs.Math.Path.{refl, fun_ext}
use Rattle.std.proofs.Common.{sym, ap, ◌∙◌, subst, subst₂, le_trans, arith}
use Rattle.shares.specs.Test.{is_true}
use Rattle.shares.specs.Tree.{height}
use Rattle.shares.proofs.TreeLaws.{share_path}
use Rattle.leaves.specs.Heights.{any_height}
use Rattle.systems.specs.Questions.{Kind, satisfiability, entailment, Question, WellFormed, question_height}
use Rattle.systems.specs.Solutions.{Solution}
use Rattle.systems.specs.Answers.{unsatisfied, vacuous, verdict, reason, shows, height_given}
use Rattle.systems.proofs.PolicyLaws.{no_solution}
use Rattle.systems.specs.Decide.{decide, shown_at}
use Rattle.systems.proofs.ShownLaws.{shown_past, shown_low, shown_fixed}
use Rattle.systems.proofs.Heights.{height_rule, exact, decide_by_all, verdict_exact}
use Rattle.format.specs.Limits.{Limited}
use Rattle.format.proofs.FormatLaws.{accepted_formed, accepted_limited}
use Rattle.rows.specs.Rows.{row_levels, answer_bytes, filled_with}
use Rattle.rows.proofs.RowLaws.{filled_tree, filled_zero}
use Rattle.asking.specs.Asking.{Outcome, Asked, turned_away, answered, asked_with, refusal_outcome, outcome_of}
use Rattle.asking.specs.Asking.{shown_trees, answer_after, work_after}
use Rattle.asking.specs.AskingLaws.{granted, height_low}
use Rattle.asking.specs.Exact.{WithoutSolution, Exact}
use Rattle.asking.specs.Demand3.{row_shares, RowsShow, Demand3}
use Rattle.asking.specs.Given.{Given}

-- ---- the rows of the solution that is shown

module _ (q : Question) (F : WellFormed q) (L : Limited q) (answer : List ℕ)
    (room : answer_bytes q.constants.levels ≤ length answer)
    (t : T (shows (decide q))) where
  -- their height
  abbrev k : ℕ
  k = row_levels q.constants.levels

  after : answer_after (answered q) answer ≡ filled_with k q.free (shown_trees q) answer
  unfolding answer_after
  after = rw (is_true (shows (decide q)) t)

  low : (v : ℕ) → height (shown_trees q v) ≤ height_given (question_height q) q (decide q)
  low v = shown_low (question_height q) q v (decide q) t

  -- they are those of its shares
  rows_are : row_shares q.constants.levels (answer_after (answered q) answer) ≡ shown_at (question_height q) q
  rows_are = rw after (fun_ext (λ v. share_path _ _
      (filled_tree k q.free (shown_trees q) answer room (omega arith) (omega (arith, L.variables)) v
      (shown_at (question_height q) q v).folded
      (le_trans (low v) (height_low q F L (decide q))) (shown_past (question_height q) q v (decide q)))))

  filled : RowsShow q (decide q) (answer_after (answered q) answer)
  filled = record {
    fixed = rw rows_are (shown_fixed (question_height q) q t);
    solution = rw rows_are ((height_rule q F).shown t);
    low = λ v. subst (λ σ. height (σ v).tree ≤ height_given (question_height q) q (decide q)) (sym rows_are) (low v);
    others = λ v l m. rw after (filled_zero k q.free (shown_trees q) answer room v l m);
  }

-- ---- the theorems

module _ (s answer work : List ℕ) (q : Question) (e : asked_with s answer work ≡ answered q) where
  formed : WellFormed q
  formed = accepted_formed s q (granted s (length answer) (length work) q e).taken

  pub exact_asked : Exact q (outcome_of (answered q))
  exact_asked = record {
    right = decide q;
    answers = (exact q formed (decide q)).1 refl;
    only = λ a r. sym ((exact q formed a).0 r);
    unmoved = decide_by_all q formed;
    verdict_given = refl;
    reason_given = refl;
    number_given = refl;
    not_refused = (refl, refl);
    yes_exact = (verdict_exact q formed).0;
    no_exact = (verdict_exact q formed).1;
    never_held = λ a b W. without q.kind refl (no_solution any_height q a b W);
  }
    where
      without : (k : Kind) → k ≡ q.kind → ¬ Solution any_height q → WithoutSolution k (outcome_of (answered q))
      without satisfiability e n = ap verdict ((exact q formed unsatisfied).0 (e, n))
      without entailment e n = let d = (exact q formed vacuous).0 (e, n) in (ap verdict d, ap reason d)

  pub demand_3 : Demand3 q (outcome_of (answered q)) (answer_after (answered q) answer)
  demand_3 = record {
    rule = height_rule q formed;
    height = λ a r. ap (height_given (question_height q) q) ((exact q formed a).0 r);
    shown = λ a r. subst (λ a. T (shows a) → RowsShow q a (answer_after (answered q) answer)) ((exact q formed a).0 r)
        (filled q formed limited answer room);
  }
    where
      limited : Limited q
      limited = accepted_limited s q (granted s (length answer) (length work) q e).taken

      room : answer_bytes q.constants.levels ≤ length answer
      room = (granted s (length answer) (length work) q e).answer

-- ---- what asking has to give, leave in the lent bytes, and mean

module _ (s answer work : List ℕ) where
  -- its meaning follows from the rest
  pub given : (g : Asked) → asked_with s answer work ≡ g → (r : Outcome) (answer' work' : List ℕ)
      → r ≡ outcome_of g → answer' ≡ answer_after g answer → work' ≡ work_after g work
      → Given s answer work r answer' work'
  given g e r answer' work' er ea ew = record {
    outcome = er ∙ ap outcome_of (sym e);
    answer = ea ∙ ap (λ x. answer_after x answer) (sym e);
    work = ew ∙ ap (λ x. work_after x work) (sym e);
    model = λ q f.
        let right = er ∙ ap outcome_of (sym e ∙ f) in
        let shown = ea ∙ ap (λ x. answer_after x answer) (sym e ∙ f) in (
          subst (Exact q) (sym right) (exact_asked s answer work q f),
          subst₂ (Demand3 q) (sym right) (sym shown) (demand_3 s answer work q f),
        );
  }

  -- a refusal leaves every lent byte unchanged
  pub given_refused : (n place : ℕ) → asked_with s answer work ≡ turned_away n place → (r : Outcome)
      → r ≡ refusal_outcome n place
      → Given s answer work r answer work
  unfolding answer_after work_after
  given_refused n place e r er = given (turned_away n place) e r answer work er refl refl
