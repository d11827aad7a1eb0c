-- What deciding hands over: the model's answer, and the first words of the question's fixed solution, with its plan.
-- Assumes nothing.
use Rattle.std.specs.Prelude.{◌≡◌, true, cond, List, ℕ, zero, suc, ◌<◌, max, T, get_or}
use Rattle.shares.specs.Tree.{height}
use Rattle.shares.specs.Constant.{constant_levels, number_tree, bit}
use Rattle.leaves.specs.Heights.{c}
use Rattle.systems.specs.Questions.{Kind, Question as Asked, WellFormed, question_height, first_count}
use Rattle.systems.specs.Answers.{shows, height_given}
use Rattle.systems.specs.Decide.{decide, shown_at}
use Rattle.format.specs.Format.{most_constants}
use Rattle.format.specs.Numbers.{kind_value}
use Rattle.format.specs.Stored.{Stored, stored_of, Stands}
use Rattle.format.specs.declared.Question.{Question}
use Rattle.beside.specs.declared.Sizes.{Sizes}
use Rattle.beside.specs.declared.Searchable.{Searchable}
use Rattle.plans.specs.declared.Plan.{Plan}
use Rattle.plans.specs.declared.Outline.{Outline}
use Rattle.plans.specs.Shown as shown
use Rattle.rows.specs.Rows.{row_levels}
use Rattle.steps.specs.Steps.{posed}
use Rattle.steps.specs.Tests.{extra_of, room_of}
use Rattle.steps.specs.declared.Search.{Search}
use Rattle.steps.specs.declared.Search.TheVariants.{First, Unmet, Missed}
use Rattle.search.specs.Found.{SolvedAs}
use Rattle.decide.specs.declared.Finding.{Finding}
use Rattle.decide.specs.declared.Finding.TheVariants.{Satisfied, Unsatisfied, Vacuous, Entailed, Unmet, Missed}
use Rattle.words.specs.declared.Passing.{Passing}
use Rattle.decide.specs.Findings.{answer_of}

-- a question that was read and its clauses' bytes stand for some well-formed question of the model
abbrev pub Standing : Question → List ℕ → Type 0
Standing x clauses = (q : Asked) × Stands (kind_value x.kind) (stored_of x clauses) q × WellFormed q

-- the greatest f i of the i below n, 0 if there is none
unfoldable pub most_below : ℕ → (ℕ → ℕ) → ℕ
most_below zero f = 0
most_below (suc n) f = max (f 0) (most_below n (λ i. f (suc i)))

-- the height of the tallest of the constants that are named
unfoldable pub tallest_of : ℕ → List ℕ → ℕ → ℕ
tallest_of levels constants named =
    most_below most_constants (λ i. cond (bit named i) (height (number_tree levels (get_or constants i 0))) 0)

-- the numbers of a question that was read, with its height
abbrev pub sizes_of : Question → Sizes
sizes_of x = record {
  free = x.free;
  own = x.own;
  counts = x.counts;
  named = x.named;
  height = tallest_of constant_levels x.constants x.named;
}

-- ---- findings

-- the search whose solution is shown with it (with those that show none: nothing that a claim rests on)
abbrev pub search_of : Finding → Search
search_of Satisfied = First
search_of Unsatisfied = First
search_of Vacuous = First
search_of Entailed = First
search_of Unmet = Unmet
search_of (Missed j) = Missed j

-- ---- the decision of a question

-- what is stored as x stands for q: the answer is q's, and where a solution is shown its search is solved, by these
-- first words
pub record Decided (x : Stored) (q : Asked) (r : Finding) (firsts leaves : List Passing) : Type 0 where
  pub answer : answer_of r ≡ decide q
  pub solved : T (shows (decide q)) → SolvedAs x (question_height q) (search_of r) true firsts leaves

-- the same of every question of a kind that a question to be searched stands for, with its height
abbrev pub DecidedAs : Kind → Searchable → Finding → List Passing → List Passing → Type 0
DecidedAs kind x r firsts leaves =
    (k : ℕ) (q : Asked) → Stands k (posed x) q → q.kind ≡ kind → x.sizes.height ≡ question_height q
    → Decided (posed x) q r firsts leaves

-- a question that was read stands for q, with some clauses
pub record StandsFor (x : Question) (q : Asked) : Type 0 where
  pub clauses : List ℕ
  pub stands : Stands (kind_value x.kind) (stored_of x clauses) q

-- these are the numbers of a question that was read and stands for q
pub record SizedFor (sizes : Sizes) (q : Asked) : Type 0 where
  pub question : Question
  pub standing : StandsFor question q
  pub sized : sizes ≡ sizes_of question

-- and this was found, with these first words
pub record DecidedFor (sizes : Sizes) (r : Finding) (firsts leaves : List Passing) (q : Asked) : Type 0 where
  pub sizing : SizedFor sizes q
  pub decided : Decided (stored_of sizing.question sizing.standing.clauses) q r firsts leaves

-- ---- its plan

-- what is to be planned of the solution that a search has
abbrev pub outline_of : Asked → Search → Outline
outline_of q search = record {
  free = q.free;
  height = question_height q;
  splits = c (room_of search (first_count q));
  extra = extra_of search;
  count = first_count q;
}

-- a plan of the solution that is shown: its trees are the solution's, and its height is the one given
pub record Planned (q : Asked) (plan : Plan) : Type 0 where
  pub formed : shown.Showable (row_levels q.constants.levels) plan
  pub high : plan.high ≡ height_given (question_height q) q (decide q)
  pub trees : (v : ℕ) → v < q.free → shown.plan_trees q.free plan v ≡ (shown_at (question_height q) q v).tree
