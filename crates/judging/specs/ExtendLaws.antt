-- What a table and a stored question say of extending is what the rows and the question say. Assumes nothing.
use Rattle.std.specs.Prelude.{◌≡◌, Bool, ◌&&◌, List, ℕ, ◌^◌, ◌<◌, get_or}
use Rattle.std.proofs.Math.Path.{sym, ap}
use Rattle.std.proofs.Common.{ap₂, ◌∙◌, arith}
use Rattle.std.proofs.Math.Bool.{false}
use Rattle.shares.specs.Below.{every_below, some_below}
use Rattle.shares.specs.BelowLaws.{every_ext, some_ext}
use Rattle.leaves.specs.Choices as choice
use Rattle.leaves.specs.RowNumbers.{value}
use Rattle.leaves.specs.ChoiceLaws.{at_table, row_path}
use Rattle.leaves.specs.Problem.{plain_at, special_at, solvable}
use Rattle.leaves.specs.Second as leaf
use Rattle.systems.specs.Questions.{Question, second_count}
use Rattle.systems.specs.AtLeaves.{second_at}
use Rattle.format.specs.declared.Section.TheVariants.{SecondDisequation}
use Rattle.format.specs.Stored.{Stored, Stands}
use Rattle.format.proofs.KeepingLaws.{section_count}
use Rattle.format.proofs.Callers.{levels_are}
use Rattle.steps.specs.Tests.{second_meets, second_differs}
use Rattle.decide.specs.StandsLaws.{with_variables, second_meets_lem, second_with}
use Rattle.rows.specs.Rows.{row_levels}
use Rattle.unfolded.specs.Unfolded.{row_words, leaf_of, Unfolded}
use Rattle.extending.specs.Extending.{choice_at, over, values_at_leaf, meets_over, differs_over, extends_in}
use Rattle.judging.specs.Judging.{row_at, extends_at}

module _ {kind : ℕ} (x : Stored) (q : Question) (St : Stands kind x q) (rows constants table : List ℕ) (named : ℕ)
    (U : Unfolded x.levels rows constants named table) where
  abbrev levels : ℕ
  levels = x.levels

  abbrev height : ℕ
  height = row_levels levels

  -- the free choice at leaf i of the rows
  abbrev chosen : ℕ → choice.Row Bool q.free
  chosen i = choice.table q.free (row_at levels rows i)

  -- as a number
  choice_number_lem : (i : ℕ) → i < 2 ^ height → choice_at levels table q.free i ≡ value (chosen i)
  unfolding choice_at
  choice_number_lem i l =
      ap value (row_path false q.free _ _ (λ v m.
      at_table false q.free (λ v. leaf_of (row_words levels) table v i) v m
      ∙ U.variable v i (omega (arith, St.free, St.variables)) l
      ∙ sym (at_table false q.free (row_at levels rows i) v m)))

  -- with the question's numbers of variables
  abbrev S : Stored
  S = with_variables x q.free q.own

  same_stored : x ≡ S
  same_stored = ap₂ (with_variables x) St.free St.own

  -- beside that choice some own choice meets the second system's positive clauses, and its disequation j beside them
  abbrev meets : ℕ → Bool
  meets i = leaf.meets (choice.least q.own) (second_at levels q) (over levels i) (chosen i)

  abbrev differs : ℕ → ℕ → Bool
  differs j i = leaf.meets_with (choice.least q.own) (second_at levels q) j (over levels i) (chosen i)

  meets_same : (i : ℕ) → i < 2 ^ height → meets_over S table i ≡ meets i
  meets_same i l =
      ap (second_meets S (values_at_leaf S (over levels i))) (choice_number_lem i l)
      ∙ sym (second_meets_lem x q St levels (over levels i) (chosen i))

  differs_same : (j : ℕ) → j < get_or x.counts 3 0 → (i : ℕ) → i < 2 ^ height → differs_over S table j i ≡ differs j i
  differs_same j m i l =
      ap (second_differs S (values_at_leaf S (over levels i)) j) (choice_number_lem i l)
      ∙ sym (second_with x q St levels (over levels i) (chosen i) j m)

  at_levels : extends_in S table
      ≡ (every_below (2 ^ height) meets && every_below (second_count q) (λ j. some_below (2 ^ height) (differs j)))
  at_levels =
      ap₂ ◌&&◌ (every_ext (2 ^ height) _ _ meets_same)
      (every_ext (get_or x.counts 3 0) _ _ (λ j m. some_ext (2 ^ height) _ _ (differs_same j m))
      ∙ ap (λ n. every_below n (λ j. some_below (2 ^ height) (differs j)))
      (sym (section_count x q St SecondDisequation)))

  -- where constants have so many levels
  abbrev extends_with : ℕ → Bool
  extends_with k =
      solvable (choice.least q.own) (row_levels k)
      (leaf.beside k (second_at k q) (row_levels k) (λ i. choice.table q.free (row_at k rows i)))

  pub extends_same : extends_in x table ≡ extends_at q rows
  unfolding solvable plain_at special_at leaf.meets leaf.meets_with
  extends_same = ap (λ y. extends_in y table) same_stored ∙ at_levels ∙ ap extends_with (sym (levels_are x q St))
