-- The rule of heights and the solution that is shown: one claim over every accepted question, of the model and of what
-- asking gives. Assumes nothing.
use Rattle.std.specs.Prelude.{◌≡◌, List, ℕ, ◌≤◌, ◌<◌, T}
use Rattle.shares.specs.Tree as tree
use Rattle.shares.proofs.TreeLaws.{tree_of_folded}
use Rattle.leaves.specs.Heights.{any_height}
use Rattle.systems.specs.Clauses.{Assignment}
use Rattle.systems.specs.Questions.{Question, question_height}
use Rattle.systems.specs.Answers.{Answer, Answers, shows, height_given, Shown}
use Rattle.systems.specs.ShownWords.{ShownFixed}
use Rattle.systems.specs.HeightRule.{HeightRule}
use Rattle.rows.specs.Rows.{row_levels, row_bytes, row_count, row_tree, row_part, zeros}
use Rattle.asking.specs.Asking.{Outcome}

-- the shares that the rows of an answer buffer stand for, where the constants of its question have so many levels
abbrev pub row_shares : ℕ → List ℕ → Assignment
row_shares levels answer v = record {
  tree = row_tree (row_levels levels) (row_part (row_levels levels) answer v);
  folded = tree_of_folded (row_levels levels) _;
}

-- an answer buffer shows the solution that goes with the answer a
pub record RowsShow (q : Question) (a : Answer) (answer : List ℕ) : Type 0 where
  -- the rows' shares are the fixed ones, which are as the words say
  pub fixed : ShownFixed (question_height q) q a (row_shares q.constants.levels answer)
  -- they solve the first system, are no taller than the height given and, for a no, do not extend, for the reason given
  pub solution : Shown (question_height q) q a (row_shares q.constants.levels answer)
  -- no row is taller than the height given
  pub low : (v : ℕ) → tree.height (row_shares q.constants.levels answer v).tree ≤ height_given (question_height q) q a
  -- rows of own and absent variables are zero
  pub others : (v : ℕ) → q.free ≤ v → v < row_count → row_part (row_levels q.constants.levels) answer v
      ≡ zeros (row_bytes q.constants.levels)

-- the claim: where a is the right answer to q
pub record Demand3 (q : Question) (r : Outcome) (answer : List ℕ) : Type 0 where
  -- the rule of heights holds
  pub rule : HeightRule (question_height q) q
  -- the height given is the formula's: h + c d with a solution, h + c (d + 1) with a refuted entailment, 0 where no
  -- solution is shown
  pub height : (a : Answer) → Answers any_height q a → r.height ≡ height_given (question_height q) q a
  -- where a solution is shown, the answer buffer has it
  pub shown : (a : Answer) → Answers any_height q a → T (shows a) → RowsShow q a answer
