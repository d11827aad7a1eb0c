-- The decision of a question by its problems at the leaves, and the fixed solution that is shown. Assumes nothing.
use Rattle.std.specs.Prelude.{Bool, false, cond, ℕ, ltb}
use Rattle.shares.specs.Tree.{tree_of}
use Rattle.shares.proofs.TreeLaws.{tree_of_folded}
use Rattle.leaves.specs.Choices.{Row, at, least}
use Rattle.leaves.specs.Problem.{Problem, solvable}
use Rattle.leaves.specs.Fixed.{fixed_at, with_unmet, with_missed}
use Rattle.leaves.specs.Entailment.{can_be_unmet, first_missed}
use Rattle.systems.specs.Clauses.{Assignment}
use Rattle.systems.specs.Questions.{Kind, satisfiability, entailment, Question, question_height, second_count}
use Rattle.systems.specs.Answers.{Answer, satisfied, unsatisfied, vacuous, entailed, unmet, missed, height_given}
use Rattle.systems.specs.AtLeaves.{first_at, second_at}

module _ (h : ℕ) (q : Question) where
  -- the first system is satisfiable
  abbrev pub can_solve : Bool
  can_solve = solvable (least q.free) h (first_at h q)

  -- some solution of it cannot meet the second's positive clauses
  abbrev pub some_unmet : Bool
  some_unmet = can_be_unmet (least q.free) (least q.own) h (first_at h q) (second_at h q)

  -- the lowest disequation of the second that some solution cannot have beside them; their count if there is none
  abbrev pub lowest_missed : ℕ
  lowest_missed = first_missed (least q.free) (least q.own) h (first_at h q) (second_at h q)

  -- the answer to the question of either kind
  unfoldable pub decide_kind : Kind → Answer
  decide_kind satisfiability = cond can_solve satisfied unsatisfied
  decide_kind entailment =
      cond can_solve
      (cond some_unmet unmet
      (cond (ltb lowest_missed (second_count q)) (missed lowest_missed)
      entailed))
      vacuous

  -- the answer, decided at 2 ^ h leaves
  abbrev pub decide_at : Answer
  decide_at = decide_kind q.kind

-- the answer to a question
abbrev pub decide : Question → Answer
decide q = decide_at (question_height q) q

-- ---- the solution that is shown

-- the shares that rows of values at 2 ^ k leaves make up
unfoldable pub shares_of : {n : ℕ} → ℕ → (ℕ → Row Bool n) → Assignment
shares_of k s v = record { tree = tree_of k (λ i. at false (s i) v); folded = tree_of_folded k _ }

module _ (h : ℕ) (q : Question) where
  -- what is asked at the leaves of the solution that is shown with each answer (with those that show none: nothing that
  -- a claim rests on)
  abbrev pub asked_for : Answer → Problem (Row Bool q.free)
  asked_for satisfied = first_at h q
  asked_for unsatisfied = first_at h q
  asked_for vacuous = first_at h q
  asked_for entailed = first_at h q
  asked_for unmet = with_unmet (least q.own) (second_at h q) (first_at h q)
  asked_for (missed j) = with_missed (least q.own) (second_at h q) (first_at h q) j

  -- the fixed solution of a problem, W being the height given
  abbrev pub fixed : Problem (Row Bool q.free) → ℕ → Assignment
  fixed P W = shares_of W (fixed_at (least q.free) h P W)

  -- what is shown with each answer
  abbrev pub shown_with : Answer → Assignment
  shown_with a = fixed (asked_for a) (height_given h q a)

  -- what is shown
  abbrev pub shown_at : Assignment
  shown_at = shown_with (decide_at h q)
