-- Whether rows extend to the second system of a stored question, choice by choice at the leaves of the rows:
-- definitions. Assumes nothing.
use Rattle.std.specs.Prelude.{Bool, ◌&&◌, List, ℕ, ◌^◌, get_or}
use Rattle.shares.specs.Below.{every_below, some_below}
use Rattle.shares.specs.Blocks.{block_of}
use Rattle.leaves.specs.Choices as rows
use Rattle.leaves.specs.RowNumbers.{value}
use Rattle.format.specs.Stored.{Stored}
use Rattle.rows.specs.Rows.{row_levels}
use Rattle.steps.specs.Tests.{leaf_values, second_meets, second_differs}
use Rattle.unfolded.specs.Unfolded.{row_words, leaf_of}

-- where constants have so many levels: the choice of n free variables at leaf i of the rows of a table, as a number;
-- variable 0 has the highest digit
unfoldable pub choice_at : ℕ → List ℕ → ℕ → ℕ → ℕ
choice_at levels table n i = value (rows.table n (λ v. leaf_of (row_words levels) table v i))

-- the leaf of the constants that leaf i of the rows lies below
abbrev pub over : ℕ → ℕ → ℕ
over levels i = block_of levels (row_levels levels) i

-- the values of the constants of a question at their leaf a
abbrev pub values_at_leaf : Stored → ℕ → ℕ
values_at_leaf S a = leaf_values S S.levels a

module _ (S : Stored) (table : List ℕ) where
  -- those at leaf i of the rows
  abbrev values_over : ℕ → ℕ
  values_over i = values_at_leaf S (over S.levels i)

  -- beside the choice there some own choice meets the second system's positive clauses
  abbrev pub meets_over : ℕ → Bool
  meets_over i = second_meets S (values_over i) (choice_at S.levels table S.free i)

  -- and its disequation j
  abbrev pub differs_over : ℕ → ℕ → Bool
  differs_over j i = second_differs S (values_over i) j (choice_at S.levels table S.free i)

  -- every leaf of the rows can meet the positive clauses, and each disequation can be met beside them at some leaf
  abbrev pub extends_in : Bool
  extends_in =
      every_below (2 ^ row_levels S.levels) meets_over
      && every_below (get_or S.counts 3 0) (λ j. some_below (2 ^ row_levels S.levels) (differs_over j))
