-- The solution that is shown is fixed: the words about it, of shares. Assumes nothing.
use Rattle.std.specs.Prelude.{◌≡◌, Bool, false, ℕ, ◌^◌, ◌≤◌, ◌<◌}
use Rattle.shares.specs.Tree.{height, leaf_at}
use Rattle.leaves.specs.Choices.{Row, at}
use Rattle.leaves.specs.FixedWords.{PlainWords, UnmetWords, MissedWords}
use Rattle.systems.specs.Clauses.{Assignment}
use Rattle.systems.specs.Questions.{Question}
use Rattle.systems.specs.Answers.{Answer, satisfied, unsatisfied, vacuous, entailed, unmet, missed, height_given}
use Rattle.systems.specs.AtLeaves.{first_at, second_at}

-- the words with each answer, about the choices s at the 2 ^ W sub-leaves
-- (with those that show no solution: nothing that a claim rests on)
abbrev pub WordsWith : (h : ℕ) (q : Question) → Answer → (W : ℕ) → (ℕ → Row Bool q.free) → Type 0
WordsWith h q satisfied W s = PlainWords h (first_at h q) W s
WordsWith h q unsatisfied W s = PlainWords h (first_at h q) W s
WordsWith h q vacuous W s = PlainWords h (first_at h q) W s
WordsWith h q entailed W s = PlainWords h (first_at h q) W s
WordsWith h q unmet W s = UnmetWords h (first_at h q) W s (second_at h q)
WordsWith h q (missed j) W s = MissedWords h (first_at h q) W s (second_at h q) j

-- σ is the solution that the words fix, for the answer a to the question q, unfolded to height h
pub record ShownFixed (h : ℕ) (q : Question) (a : Answer) (σ : Assignment) : Type 0 where
  -- the choice of values that each sub-leaf carries is as the words say
  pub values : ℕ → Row Bool q.free
  pub words : WordsWith h q a (height_given h q a) values
  -- unfolded to the height given, the tree of each free variable has its values as leaves, and it is no taller
  pub leaves : (v : ℕ) → v < q.free → (i : ℕ) → i < 2 ^ height_given h q a
      → leaf_at (height_given h q a) (σ v).tree i ≡ at false (values i) v
  pub low : (v : ℕ) → v < q.free → height (σ v).tree ≤ height_given h q a
