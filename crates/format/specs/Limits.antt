-- The limits of an accepted question, and how long it is at most. Assumes nothing.
use Rattle.std.specs.Prelude.{◌≡◌, ℕ, ◌+◌, ◌*◌, ◌≤◌, length}
use Rattle.shares.specs.Constant.{constant_levels, bytes_at}
use Rattle.systems.specs.Questions.{Question}
use Rattle.format.specs.declared.Section.{Section}
use Rattle.format.specs.Format.{most_variables, most_constants, most_positive, most_disequations, most_of, in_section}

-- the limits of an accepted question
pub record Limited (q : Question) : Type 0 where
  pub variables : q.free + q.own ≤ most_variables
  pub levels : q.constants.levels ≡ constant_levels
  pub constants : length q.constants.numbers ≤ most_constants
  pub sections : (σ : Section) → length (in_section q σ) ≤ most_of σ

-- the longest accepted question, with constants of so many levels: a head, all constants, all clauses with three terms,
-- the end; 925 bytes at 5 levels
abbrev pub longest : ℕ → ℕ
longest levels = 4 + (1 + bytes_at levels) * most_constants + 4 * (2 * (most_positive + most_disequations)) + 1
