-- The rule of heights: what is claimed of a question whose constants, as far as clauses name them, are no taller than
-- h.
-- d and e are the numbers of disequations of the two systems, and c n is the least k with n ≤ 2 ^ k. Assumes nothing.
use Rattle.std.specs.Prelude.{◌≡◌, ◌↔◌, ℕ, ◌+◌, ◌≤◌, max, T}
use Rattle.leaves.specs.Heights.{c, any_height, at_most}
use Rattle.systems.specs.Questions.{Question, first_count, second_count}
use Rattle.systems.specs.Solutions.{height_of, Solution, Extends, ExtendsBy, SomeNot, Entails}
use Rattle.systems.specs.Answers.{Answer, Answers, needed, shows, Shown}
use Rattle.systems.specs.Decide.{decide_at, shown_at}

-- the rule, as one claim
pub record HeightRule (h : ℕ) (q : Question) : Type 0 where
  -- some solution exists, of whatever height, exactly if one no taller than h + c d does
  pub solution : Solution any_height q ↔ Solution (at_most (h + c (first_count q))) q
  -- the entailment fails exactly if some solution of the first system no taller than h + c (d + 1) does not extend, to
  -- own shares of any height
  pub refutation : (¬ Entails any_height q) ↔ SomeNot (at_most (h + c (first_count q + 1))) q (Extends q)
  -- where it holds, every solution, whatever its height k, extends by own shares no taller than max k h + c e
  pub extension : Entails any_height q → (S : Solution any_height q)
      → ExtendsBy (at_most (max (height_of q S.values) h + c (second_count q))) q S.values
  -- with the first system's solutions held to any height from h + c d up, for entailment h + c (d + 1), verdict, reason
  -- and disequation number are the same
  pub held : (k : ℕ) → h + c (needed q.kind (first_count q)) ≤ k → (a : Answer)
      → Answers (at_most k) q a ↔ Answers any_height q a
  -- the decision is the right answer, and the only one
  pub decision : (a : Answer) → Answers any_height q a ↔ (decide_at h q ≡ a)
  -- the solution shown solves the first system, is no taller than the height given and, for a no, does not extend, for
  -- the reason given
  pub shown : T (shows (decide_at h q)) → Shown h q (decide_at h q) (shown_at h q)
