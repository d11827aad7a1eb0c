-- Exactness of what judging gives: the model's statement, over the trees of the rows and own trees of every height.
-- Assumes nothing.
use Rattle.std.specs.Prelude.{◌≡◌, List, ◌↔◌, ℕ, ◌^◌, ◌<◌, T, length, take}
use Rattle.shares.specs.declared.Way.{Way}
use Rattle.shares.specs.declared.Way.TheVariants.{Holds}
use Rattle.systems.specs.Clauses.{Constants, Assignment, Atom, Clause, positive, negated, ClauseHolds}
use Rattle.systems.specs.Questions.{Kind, satisfiability, entailment, Question}
use Rattle.systems.specs.Solutions.{SolvesFirst, Extends}
use Rattle.systems.specs.Answers.{shows}
use Rattle.systems.specs.Decide.{decide}
use Rattle.systems.specs.AtLeaves.{tree_way}
use Rattle.rows.specs.Rows.{row_levels, answer_bytes}
use Rattle.asking.specs.Asking.{answered, asked_with, answer_after}
use Rattle.judging.specs.Judging.{clause_of}
use Rattle.judging.specs.Judging.{Judgement, Refused, Accepted, Broken, Extending}

-- leaf i is the lowest of 2 ^ h at which an atom does not hold of the shares σ, and w says how it comes out there
pub record FailsAt (h : ℕ) (cs : Constants) (σ : Assignment) (a : Atom) (w : Way) (i : ℕ) : Type 0 where
  pub there : i < 2 ^ h
  pub says : tree_way h cs σ a i ≡ w
  pub fails : ¬ (w ≡ Holds)
  pub lowest : (j : ℕ) → j < i → tree_way h cs σ a j ≡ Holds

-- what is said of a clause that fails: the lowest leaf and the way of a positive one; of a disequation neither
abbrev pub SaidOf : ℕ → Constants → Assignment → Clause → Way → ℕ → Type 0
SaidOf h cs σ (positive a) w i = FailsAt h cs σ a w i
SaidOf h cs σ (negated a) w i = (w ≡ Holds) × (i ≡ 0)

-- σ breaks clause k of the first system, and none below it; w and i say how, at the height of the rows
pub record BrokenAt (q : Question) (σ : Assignment) (k : ℕ) (w : Way) (i : ℕ) : Type 0 where
  pub there : k < length q.first
  pub broken : ¬ ClauseHolds q.constants σ (clause_of q.first k)
  pub lowest : (j : ℕ) → j < k → ClauseHolds q.constants σ (clause_of q.first j)
  pub said : SaidOf (row_levels q.constants.levels) q.constants σ (clause_of q.first k) w i

-- σ extends, by own shares of any height, where that is asked
abbrev pub ExtendsToo : Kind → Question → Assignment → Type 0
ExtendsToo satisfiability q σ = ⊥
ExtendsToo entailment q σ = Extends q σ

-- what is given for the shares σ: each result exactly where it is right
pub record Exactly (q : Question) (σ : Assignment) (Gives : Judgement → Type 0) : Type 0 where
  pub accepted : Gives Accepted ↔ (SolvesFirst q σ × ¬ ExtendsToo q.kind q σ)
  pub broken : (k : ℕ) (w : Way) (i : ℕ) → Gives (Broken k w i) ↔ BrokenAt q σ k w i
  pub extending : Gives Extending ↔ (SolvesFirst q σ × ExtendsToo q.kind q σ)
  pub not_refused : (n place : ℕ) → ¬ Gives (Refused n place)

-- the rows are those of a solution that asking shows, with buffers that are long enough: the first bytes of the answer
-- buffer, 1,536 at 5 levels
pub record AskingShows (s rows : List ℕ) : Type 0 where
  pub answer : List ℕ
  pub work : List ℕ
  pub question : Question
  pub asked : asked_with s answer work ≡ answered question
  pub shown : T (shows (decide question))
  pub first : rows ≡ take (answer_bytes question.constants.levels) (answer_after (answered question) answer)
