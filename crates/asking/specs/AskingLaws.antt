-- Which case of asking is met, how large the height given is, and the work area. Assumes nothing.
use Rattle.std.specs.Prelude.{◌≡◌, refl, Bool, true, false, List, ◌++◌, ℕ, ◌+◌, ◌≤◌, ◌<◌, ltb, drop, replicate}
use Rattle.std.proofs.Common.{ap, ◌∙◌, arith}
use borrow.Author.Tests.{lt-ltb, le-ltb, ltb-false}
use Rattle.leaves.specs.Heights.{c}
use Rattle.leaves.proofs.HeightLaws.{c_most}
use Rattle.systems.specs.Questions.{Question, WellFormed, question_height, first_count}
use Rattle.systems.specs.Answers.{Answer, satisfied, unsatisfied, vacuous, entailed, unmet, missed, height_given}
use Rattle.systems.proofs.Heights.{question_bounds}
use Rattle.format.specs.Format.{Result, refused, accepted, read}
use Rattle.format.specs.Limits.{Limited}
use Rattle.format.specs.declared.Section.TheVariants.{FirstDisequation}
use Rattle.rows.specs.Rows.{row_levels, answer_bytes, zeros}
use Rattle.asking.specs.Worked
use Rattle.asking.specs.Asking.{work_bytes, turned_away, answered, lent_to, asked}

-- ---- the cases

module _ (s : List ℕ) (a w : ℕ) where
  pub asked_refused : (n place : ℕ) → read s ≡ refused n place → asked s a w ≡ turned_away n place
  unfolding asked
  asked_refused n place e = rw e

  module _ (q : Question) (e : read s ≡ accepted q) where
    pub asked_11 : a < answer_bytes q.constants.levels → asked s a w ≡ turned_away 11 0
    unfolding asked
    asked_11 l = rw (e, lt-ltb a (answer_bytes q.constants.levels) l)

    pub asked_12 : answer_bytes q.constants.levels ≤ a → w < work_bytes → asked s a w ≡ turned_away 12 0
    unfolding asked
    asked_12 l m = rw (e, le-ltb a (answer_bytes q.constants.levels) l, lt-ltb w work_bytes m)

    pub asked_answered : answer_bytes q.constants.levels ≤ a → work_bytes ≤ w → asked s a w ≡ answered q
    unfolding asked
    asked_answered l m = rw (e, le-ltb a (answer_bytes q.constants.levels) l, le-ltb w work_bytes m)

-- a question that is answered was accepted, and the buffers are long enough
pub record Granted (s : List ℕ) (a w : ℕ) (q : Question) : Type 0 where
  pub taken : read s ≡ accepted q
  pub answer : answer_bytes q.constants.levels ≤ a
  pub work : work_bytes ≤ w

same_question : (q p : Question) → answered q ≡ answered p → q ≡ p
same_question q p e = cc

never : {A : Type 0} (n place : ℕ) (q : Question) → turned_away n place ≡ answered q → A
never n place q e = let z : ◌≡◌ {A = ℕ} 0 1 = cc in absurd (omega arith)

pub granted : (s : List ℕ) (a w : ℕ) (q : Question) → asked s a w ≡ answered q → Granted s a w q
unfolding asked
granted s a w q e = go (read s) refl e
  where
    lent : (p : Question) → read s ≡ accepted p → (x : Bool) → ltb a (answer_bytes p.constants.levels) ≡ x → (y : Bool)
        → ltb w work_bytes ≡ y
        → lent_to (accepted p) a w ≡ answered q → Granted s a w q
    lent p h true hx y hy k = never 11 0 q (rw hx at k)
    lent p h false hx true hy k = never 12 0 q (rw (hx, hy) at k)
    lent p h false hx false hy k =
        let same : p ≡ q = same_question p q (rw (hx, hy) at k) in
        record {
          taken = h ∙ ap accepted same;
          answer = rw (← same) (ltb-false a (answer_bytes p.constants.levels) hx);
          work = ltb-false w work_bytes hy;
        }

    go : (o : Result) → read s ≡ o → lent_to o a w ≡ answered q → Granted s a w q
    go (refused n place) h k = never n place q k
    go (accepted p) h k = lent p h (ltb a (answer_bytes p.constants.levels)) refl (ltb w work_bytes) refl k

-- ---- the height given

module _ (q : Question) (F : WellFormed q) (L : Limited q) where
  first_low : c (first_count q) ≤ 5
  first_low = c_most (first_count q) 5 (omega (arith, L.sections FirstDisequation))

  more_low : c (first_count q + 1) ≤ 5
  more_low = c_most (first_count q + 1) 5 (omega (arith, L.sections FirstDisequation))

  -- the height given is at most that of a row
  pub height_low : (a : Answer) → height_given (question_height q) q a ≤ row_levels q.constants.levels
  height_low satisfied = omega (arith, (question_bounds q F).low, first_low)
  height_low unsatisfied = omega arith
  height_low vacuous = omega arith
  height_low entailed = omega arith
  height_low unmet = omega (arith, (question_bounds q F).low, more_low)
  height_low (missed j) = omega (arith, (question_bounds q F).low, more_low)

-- ---- the work area

-- a work area whose first bytes are filled
pub cleared : (work part : List ℕ) (k : ℕ) → part ≡ replicate k 0 → k ≡ work_bytes
    → part ++ drop work_bytes work ≡ zeros work_bytes ++ drop work_bytes work
unfolding zeros
cleared work part k e h = ap (λ l. l ++ drop work_bytes work) (e ∙ ap (λ n. replicate n 0) h)
