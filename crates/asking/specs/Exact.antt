-- Exactness of what asking gives: the model's statement, over trees of every height. Assumes nothing.
use Rattle.std.specs.Prelude.{◌≡◌, ◌↔◌}
use Rattle.leaves.specs.Heights.{any_height}
use Rattle.systems.specs.Clauses.{Term}
use Rattle.systems.specs.Questions.{Kind, satisfiability, entailment, Question, height_of_all}
use Rattle.systems.specs.Answers.{Answer, Answers, Yes, verdict, reason, disequation_number}
use Rattle.systems.specs.Decide.{decide_at}
use Rattle.systems.specs.Policies.{WriterAndReader}
use Rattle.asking.specs.Asking.{Outcome}

-- what is given where the first system has no solution: for kind 0 no, for kind 1 yes with reason 1
abbrev pub WithoutSolution : Kind → Outcome → Type 0
WithoutSolution satisfiability r = r.verdict ≡ 2
WithoutSolution entailment r = (r.verdict ≡ 1) × (r.reason ≡ 1)

pub record Exact (q : Question) (r : Outcome) : Type 0 where
  -- there is a right answer, and it is the only one
  pub right : Answer
  pub answers : Answers any_height q right
  pub only : (a : Answer) → Answers any_height q a → a ≡ right
  -- decided by the tallest constant of all, named or not, it is the same
  pub unmoved : decide_at (height_of_all q) q ≡ right
  -- its numbers are given, and no refusal
  pub verdict_given : r.verdict ≡ verdict right
  pub reason_given : r.reason ≡ reason right
  pub number_given : r.number ≡ disequation_number right
  pub not_refused : (r.refusal ≡ 0) × (r.place ≡ 0)
  -- the verdict is yes exactly if the answer is yes, and no exactly if it is not
  pub yes_exact : (r.verdict ≡ 1) ↔ Yes any_height q.kind q
  pub no_exact : (r.verdict ≡ 2) ↔ (¬ Yes any_height q.kind q)
  -- a writer and a reader of one cell whose shares may be held together never satisfy the first system
  pub never_held : (a b : Term) → WriterAndReader a b q.first → WithoutSolution q.kind r
