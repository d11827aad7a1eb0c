-- Two solutions that are shown, computed: the printed example of docs/SPEC.md, 12.13, and the order of sub-leaves for
-- reason 2. Assumes nothing.
use Rattle.std.specs.Prelude.{◌≡◌, refl, true, false, [], ◌∷◌}
use Rattle.shares.specs.Below.{every_below, some_below, first_below, count_below}
use Rattle.shares.specs.Tree.{leaf, pair, twins, fold, height, tree_of, join_leaf, leaf_test}
use Rattle.shares.specs.Constant.{constant_levels, bit}
use Rattle.leaves.specs.Heights.{c}
use Rattle.leaves.specs.Choices.{some_choice, at, pick_row}
use Rattle.leaves.specs.Problem.{plain_at, special_at, solvable}
use Rattle.leaves.specs.Fixed.{leaf_of, rank_of, held_at, carried_at, fixed_at}
use Rattle.leaves.specs.Second.{meets, meets_with}
use Rattle.leaves.specs.Entailment.{can_be_unmet, can_be_missed, first_missed}
use Rattle.systems.specs.Clauses.{variable, constant, joined, equal, positive, negated, positives, disequations}
use Rattle.systems.specs.Questions.{satisfiability, entailment, Question, named_in, tallest_among, question_height}
use Rattle.systems.specs.Answers.{satisfied, unmet, height_given}
use Rattle.systems.specs.AtLeaves.{reading_way, term_at, part_at, all_at, both_at}
use Rattle.systems.specs.Decide.{decide_kind, decide, shares_of, shown_at}

-- v0 join L is full
abbrev printed : Question
printed = record {
  kind = satisfiability;
  free = 1;
  own = 0;
  constants = record { levels = constant_levels; numbers = 0x0000FFFF ∷ 0xFFFFFFFF ∷ [] };
  first = positive (joined (variable 0) (constant 0) (constant 1)) ∷ [];
  second = [];
}

printed_shown : (decide printed ≡ satisfied) × (height_given (question_height printed) printed satisfied ≡ 1)
    × ((shown_at (question_height printed) printed 0).tree ≡ pair (leaf false) (leaf true))
unfolding decide_kind shares_of named_in tallest_among tree_of fold twins height bit leaf_test join_leaf positives
    disequations reading_way term_at part_at all_at both_at solvable plain_at special_at some_choice every_below
    some_below first_below count_below pick_row at c leaf_of rank_of held_at carried_at fixed_at
printed_shown = (refl, refl, refl)

-- v0 not empty, v1 is R, entails L join own v2 is v0: in the left half the choice beside which nothing meets the second
-- system, v0 empty, stands before the disequation's
abbrev ordered : Question
ordered = record {
  kind = entailment;
  free = 2;
  own = 1;
  constants = record { levels = constant_levels; numbers = 0 ∷ 0x0000FFFF ∷ 0xFFFF0000 ∷ [] };
  first = negated (equal (variable 0) (constant 0)) ∷ positive (equal (variable 1) (constant 2)) ∷ [];
  second = positive (joined (constant 1) (variable 2) (variable 0)) ∷ [];
}

ordered_shown : (decide ordered ≡ unmet) × (height_given (question_height ordered) ordered unmet ≡ 2)
    × ((shown_at (question_height ordered) ordered 0).tree ≡ pair (pair (leaf false) (leaf true)) (leaf false))
    × ((shown_at (question_height ordered) ordered 1).tree ≡ pair (leaf false) (leaf true))
unfolding decide_kind shares_of named_in tallest_among tree_of fold twins height bit leaf_test join_leaf positives
    disequations reading_way term_at part_at all_at both_at solvable plain_at special_at some_choice every_below
    some_below first_below count_below pick_row at c leaf_of rank_of held_at carried_at fixed_at meets meets_with
    can_be_unmet can_be_missed first_missed
ordered_shown = (refl, refl, refl, refl)
