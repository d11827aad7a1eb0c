-- Heights that bound a question's constants. Assumes nothing.
use Rattle.std.specs.Prelude.{ℕ, ◌≤◌}
use Rattle.shares.specs.Tree.{height}
use Rattle.systems.specs.Clauses.{Constants, constant_tree, Term, variable, constant}
use Rattle.systems.specs.Questions.{Question, InSystem}

-- a constant that a term names is no taller than h
abbrev pub Within : ℕ → Constants → Term → Type 0
Within h cs (variable v) = Unit {0}
Within h cs (constant i) = height (constant_tree cs i) ≤ h

-- h, at most the constants' levels, is no less than the height of any constant that some clause names: all that a law
-- uses of h
pub record Bounds (h : ℕ) (q : Question) : Type 0 where
  pub low : h ≤ q.constants.levels
  pub first : InSystem (Within h q.constants) q.first
  pub second : InSystem (Within h q.constants) q.second
