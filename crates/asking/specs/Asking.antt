-- Asking: what it gives and what it leaves in the lent bytes, for every byte string and all buffers. Assumes nothing.
use Rattle.std.specs.Prelude.{cond, List, ◌++◌, ℕ, ltb, length, drop}
use Rattle.shares.specs.Tree.{Tree}
use Rattle.systems.specs.Questions.{Question, question_height}
use Rattle.systems.specs.Answers.{Answer, verdict, reason, disequation_number, shows, height_given}
use Rattle.systems.specs.Decide.{decide, shown_at}
use Rattle.format.specs.Format.{Result, refused, accepted, read}
use Rattle.rows.specs.Rows.{row_levels, answer_bytes, zeros, filled_with}

-- ---- whether a question is answered

-- a work area has at least this many bytes
abbrev pub work_bytes : ℕ
work_bytes = 4096

-- a question is turned away, with a number and a place, or it is answered
pub data Asked : Type 0 where
  turned_away : ℕ → ℕ → Asked
  answered : Question → Asked

-- what was read, with buffers of so many bytes: the reader's refusal, then 11 (answer buffer too short), then 12 (work
-- area too short)
abbrev pub lent_to : Result → ℕ → ℕ → Asked
lent_to (refused n place) answer work = turned_away n place
lent_to (accepted q) answer work =
    cond (ltb answer (answer_bytes q.constants.levels)) (turned_away 11 0)
    (cond (ltb work work_bytes) (turned_away 12 0)
    (answered q))

-- a question in bytes, asked with buffers of so many bytes
unfoldable pub asked : List ℕ → ℕ → ℕ → Asked
asked s answer work = lent_to (read s) answer work

-- asked with these buffers
abbrev pub asked_with : List ℕ → List ℕ → List ℕ → Asked
asked_with s answer work = asked s (length answer) (length work)

-- ---- the result

-- the verdict (0 refused, 1 yes, 2 no), the refusal's number and its place, the height given, the reason and the
-- disequation number;
-- a field without a meaning is 0
pub record Outcome : Type 0 where
  pub verdict : ℕ
  pub refusal : ℕ
  pub place : ℕ
  pub height : ℕ
  pub reason : ℕ
  pub number : ℕ

-- a refusal has its number and its place
abbrev pub refusal_outcome : ℕ → ℕ → Outcome
refusal_outcome n place = record { verdict = 0; refusal = n; place = place; height = 0; reason = 0; number = 0 }

-- an answer has its numbers and the height given
abbrev pub answer_outcome : Answer → ℕ → Outcome
answer_outcome a given = record {
  verdict = verdict a;
  refusal = 0;
  place = 0;
  height = given;
  reason =
      reason a;
  number = disequation_number a;
}

-- what asking gives
abbrev pub outcome_of : Asked → Outcome
outcome_of (turned_away n place) = refusal_outcome n place
outcome_of (answered q) = answer_outcome (decide q) (height_given (question_height q) q (decide q))

-- ---- the lent bytes

-- the trees of the solution that is shown
abbrev pub shown_trees : Question → ℕ → Tree
shown_trees q v = (shown_at (question_height q) q v).tree

-- the answer buffer: a shown solution fills its first bytes, 1,536 at 5 levels, a row for each variable, zero if it is
-- no free one; otherwise it is unchanged
unfoldable pub answer_after : Asked → List ℕ → List ℕ
answer_after (turned_away n place) answer = answer
answer_after (answered q) answer =
    cond (shows (decide q)) (filled_with (row_levels q.constants.levels) q.free (shown_trees q) answer) answer

-- the work area: after a yes or no its first 4,096 bytes are zero, otherwise it is unchanged
unfoldable pub work_after : Asked → List ℕ → List ℕ
work_after (turned_away n place) work = work
work_after (answered q) work = zeros work_bytes ++ drop work_bytes work
