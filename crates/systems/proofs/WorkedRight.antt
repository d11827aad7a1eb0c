-- Every example of the table is right in the model: computed by the decision, which is exact. Assumes nothing.
use Rattle.std.specs.Prelude.{◌≡◌, refl, Bool, true, not, ◌&&◌, List, [], ◌∷◌, ℕ, ◌≤◌, T, leb}
use Rattle.std.proofs.Common.{sym, ◌∙◌, arith, T_not, leb→le}
use Rattle.shares.specs.Test.{of_true, and_left, and_right}
use Rattle.shares.specs.Below.{every_below, some_below, first_below}
use Rattle.shares.specs.Tree.{twins, fold, height, tree_of, join_leaf, leaf_test}
use Rattle.shares.specs.Constant.{bit}
use Rattle.leaves.specs.Heights.{c, at_most, exactly}
use Rattle.leaves.specs.Choices.{some_choice, at, pick_row, least}
use Rattle.leaves.specs.Problem.{plain_at, special_at, solvable}
use Rattle.leaves.specs.Second.{meets, meets_with}
use Rattle.leaves.specs.Entailment.{can_be_unmet, can_be_missed, first_missed}
use Rattle.leaves.specs.AtHeight.{solves_test, solvable_at}
use Rattle.leaves.specs.AtHeightLaws.{solvable_at_lem}
use Rattle.systems.specs.Clauses.{positives, disequations}
use Rattle.systems.specs.Questions.{Question, WellFormed, named_in, tallest_among, question_height}
use Rattle.systems.specs.Solutions.{Solution}
use Rattle.systems.specs.Answers.{height_given}
use Rattle.systems.specs.AtLeaves.{reading_way, term_at, part_at, all_at, both_at, first_at}
use Rattle.systems.specs.Decide.{decide_kind, decide}
use Rattle.systems.proofs.Link.{read_most}
use Rattle.systems.proofs.Exact.{to_leaves}
use Rattle.systems.proofs.Heights.{question_bounds, exact}
use Rattle.systems.specs.FormedTest.{formed_test, formed_of}
use Rattle.systems.specs.Worked.{Example, Never, Right, AllRight, worked}

-- ---- heights that no solution has

-- no solution has height k: trying every one at its leaves finds none
abbrev never_test : Question → ℕ → Bool
never_test q k = leb (question_height q) k
    && not (solvable_at (least q.free) (question_height q) (first_at (question_height q) q) k)

-- none has one of these heights
abbrev nevers_test : Question → List ℕ → Bool
nevers_test q [] = true
nevers_test q (k ∷ l) = never_test q k && nevers_test q l

never_of : (q : Question) → WellFormed q → (k : ℕ) → T (never_test q k) → ¬ Solution (exactly k) q
never_of q F k t S =
    let h = question_height q in
    let l : h ≤ k = leb→le h k (and_left (leb h k) _ t) in
    let low : Solution (at_most k) q =
    record { values = S.values; allowed = omega (arith, S.allowed); solves = S.solves } in
    let M = to_leaves h q F (question_bounds q F) (at_most k) (exactly k) (read_most l) low in
    T_not (solvable_at (least q.free) h (first_at h q) k) (and_right (leb h k) _ t)
    (solvable_at_lem (least q.free) h (first_at h q) k M.leaves (rw M.allowed at M.solves))

nevers_of : (q : Question) → WellFormed q → (l : List ℕ) → T (nevers_test q l) → Never q l
nevers_of q F [] t = tt
nevers_of q F (k ∷ l) t = (
  never_of q F k (and_left (never_test q k) _ t),
  nevers_of q F l (and_right (never_test q k) _ t),
)

-- ---- the table, computed

-- of an example: the decision is its answer, the height given is its height, its question is well formed, and it has no
-- solution of the heights named
abbrev Computed : Example → Type 0
Computed x =
    (decide x.question ≡ x.answer)
    × (height_given (question_height x.question) x.question x.answer ≡ x.height)
    × (formed_test x.question ≡ true)
    × (nevers_test x.question x.never ≡ true)

-- of every example of a table
abbrev AllComputed : List Example → Type 0
AllComputed [] = Unit {0}
AllComputed (x ∷ l) = Computed x × AllComputed l

infixr 5 ◌also◌
-- what is computed of an example, and of the rest of the table
abbrev ◌also◌ : {A B : Type 0} → A → B → A × B
◌also◌ a b = (a, b)

-- a line for each
computed : AllComputed worked
unfolding decide_kind named_in tallest_among tree_of fold twins height bit leaf_test join_leaf positives disequations
    reading_way term_at part_at all_at both_at solvable plain_at special_at some_choice every_below some_below
    first_below
    pick_row at c meets meets_with can_be_unmet can_be_missed first_missed solves_test solvable_at
computed =
    (refl, refl, refl, refl)
    also (refl, refl, refl, refl)
    also (refl, refl, refl, refl)
    also (refl, refl, refl, refl)
    also (refl, refl, refl, refl)
    also (refl, refl, refl, refl)
    also (refl, refl, refl, refl)
    also (refl, refl, refl, refl)
    also (refl, refl, refl, refl)
    also (refl, refl, refl, refl)
    also (refl, refl, refl, refl)
    also (refl, refl, refl, refl)
    also (refl, refl, refl, refl)
    also (refl, refl, refl, refl)
    also (refl, refl, refl, refl)
    also (refl, refl, refl, refl)
    also (refl, refl, refl, refl)
    also (refl, refl, refl, refl)
    also (refl, refl, refl, refl)
    also (refl, refl, refl, refl)
    also (refl, refl, refl, refl)
    also (refl, refl, refl, refl)
    also tt

-- ---- so every example is right

right_of : (x : Example) → Computed x → Right x
right_of x (e, g, f, n) =
    let F = formed_of x.question (of_true f) in
    record {
      formed = F;
      right_answer = λ a. (λ m. sym e ∙ (exact x.question F a).0 m, λ s. (exact x.question F a).1 (e ∙ s));
      given = g;
      never = nevers_of x.question F x.never (of_true n);
    }

all_right : (l : List Example) → AllComputed l → AllRight l
all_right [] t = tt
all_right (x ∷ l) (r, t) = (right_of x r, all_right l t)

pub worked_right : AllRight worked
worked_right = all_right worked computed
