-- From a decision to what asking gives and shows. Assumes nothing.
use Rattle.std.specs.Prelude.{◌≡◌, true, false, List, ◌++◌, ℕ, ◌≤◌, length, drop}
use Rattle.std.proofs.Common.{sym, ◌∙◌}
use Rattle.std.proofs.Math.Path.{ap}
use Rattle.systems.specs.Questions.{Question, question_height}
use Rattle.systems.specs.Answers.{shows, height_given}
use Rattle.systems.specs.Decide.{decide}
use Rattle.plans.specs.declared.Plan.{Plan}
use Rattle.format.specs.Stored.{Stored, stored_of}
use Rattle.format.specs.declared.Question.{Question as Held}
use Rattle.format.proofs.Callers.{Taken}
use Rattle.rows.specs.Rows.{row_levels, answer_bytes, zeros}
use Rattle.rows.proofs.RowLaws.{filled_ext}
use Rattle.show.specs.Plans as shown
use Rattle.beside.specs.declared.Sizes.{Sizes}
use Rattle.decide.specs.declared.Finding.{Finding}
use Rattle.decide.specs.Findings.{answer_of}
use Rattle.decide.specs.Decision.{sizes_of, Decided, SizedFor, DecidedFor, Planned}
use Rattle.asking.specs.Asking.{Outcome, work_bytes, answered, answer_outcome, outcome_of, answer_after, work_after}
use Rattle.asking.specs.AskingLaws.{asked_answered}
use Rattle.asking.specs.Given.{Given}
use Rattle.asking.proofs.AskedRight.{given}
use Rattle.words.specs.declared.Passing.{Passing}

module _ (q : Question) (x : Stored) (f : Finding) (firsts leaves : List Passing)
    (D : Decided x q f firsts leaves) where
  -- the answer that was found is the question's, and so is the height given with it
  pub outcome_same : answer_outcome (answer_of f) (height_given (question_height q) q (answer_of f))
      ≡ outcome_of (answered q)
  outcome_same = ap (λ a. answer_outcome a (height_given (question_height q) q a)) D.answer

  -- where a solution is shown its plan's rows are those of the solution
  pub answer_shown : (levels : ℕ) → q.constants.levels ≡ levels → shows (answer_of f) ≡ true → (plan : Plan)
      → Planned q plan
      → (free : ℕ) → free ≡ q.free → (answer : List ℕ) → shown.shown_answer (row_levels levels) free plan answer
      ≡ answer_after (answered q) answer
  unfolding answer_after
  answer_shown levels same s plan P free e answer =
      ap (λ l. shown.shown_answer (row_levels l) free plan answer) (sym same)
      ∙ rw (e, ← D.answer, s) (filled_ext (row_levels q.constants.levels) q.free _ _ P.trees answer)

  -- where none is the buffer is unchanged
  pub answer_kept : shows (answer_of f) ≡ false → (answer : List ℕ) → answer ≡ answer_after (answered q) answer
  unfolding answer_after
  answer_kept s answer = rw (← D.answer, s)

-- what was found is what the question that is answered is decided
pub finding_same : (f : Finding) (q q' : Question) → answered q ≡ answered q' → answer_of f ≡ decide q
    → answer_of f ≡ decide q'
finding_same f q q' e d = let same : q ≡ q' = cc in rw (← same) d

-- asking, once a question was read that both buffers are long enough for, and decided
pub given_answer : (s answer work : List ℕ) (x : Held) (clauses : List ℕ) (T : Taken s x clauses)
    → answer_bytes T.question.constants.levels ≤ length answer → work_bytes ≤ length work
    → (sizes : Sizes) (f : Finding) (firsts leaves : List Passing) → DecidedFor sizes f firsts leaves T.question
    → (r : Outcome)
    → ((q : Question) → SizedFor sizes q
    → r ≡ answer_outcome (answer_of f) (height_given (question_height q) q (answer_of f)))
    → (answer' : List ℕ) → ((q : Question) → DecidedFor sizes f firsts leaves q
    → answer' ≡ answer_after (answered q) answer)
    → (work' : List ℕ) → work' ≡ zeros work_bytes ++ drop work_bytes work → Given s answer work r answer' work'
unfolding work_after
given_answer s answer work x clauses T la lw sizes f firsts leaves D r er answer' ea work' ew =
    let q = T.question in
    given s answer work (answered q) (asked_answered s (length answer) (length work) q T.read la lw) r answer' work'
    (er q D.sizing ∙ outcome_same q _ f firsts leaves D.decided)
    (ea q D)
    ew

-- what was read has these numbers, and with them this was found
module _ (s : List ℕ) (x : Held) (clauses : List ℕ) (T : Taken s x clauses) (sizes : Sizes)
    (e : sizes ≡ sizes_of x) where
  pub sized_for : SizedFor sizes T.question
  sized_for = record { question = x; standing = record { clauses = clauses; stands = T.stands }; sized = e }

  pub decided_for : (f : Finding) (firsts leaves : List Passing)
      → Decided (stored_of x clauses) T.question f firsts leaves → DecidedFor sizes f firsts leaves T.question
  unfolding sized_for
  decided_for f firsts leaves D = record { sizing = sized_for; decided = D }
