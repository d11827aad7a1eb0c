-- Small entailments of policies, decided by computation: one with each answer. Assumes nothing.
use Rattle.std.specs.Prelude.{◌≡◌, refl, [], ◌∷◌}
use Rattle.shares.specs.Below.{every_below, some_below, first_below}
use Rattle.shares.specs.Tree.{join_leaf, leaf_test}
use Rattle.leaves.specs.Choices.{some_choice, at, pick_row}
use Rattle.leaves.specs.Problem.{plain_at, special_at, solvable}
use Rattle.leaves.specs.Second.{meets, meets_with}
use Rattle.leaves.specs.Entailment.{can_be_unmet, can_be_missed, first_missed}
use Rattle.systems.specs.Clauses.{variable, is_empty, positive, System, positives, disequations}
use Rattle.systems.specs.Questions.{entailment, Question, named_in, tallest_among}
use Rattle.systems.specs.Answers.{vacuous, entailed, unmet, missed}
use Rattle.systems.specs.AtLeaves.{reading_way, term_at, part_at, all_at, both_at}
use Rattle.systems.specs.Policies.{may_write, may_read}
use Rattle.systems.specs.Decide.{decide_kind, decide}

-- of one free variable, without constants
abbrev entails : System → System → Question
entails s t = record {
  kind = entailment;
  free = 1;
  own = 0;
  constants = record { levels = 0; numbers = [] };
  first = s;
  second = t;
}

abbrev writes : System
writes = may_write (variable 0) ∷ []

abbrev reads : System
reads = may_read (variable 0) ∷ []

-- who may write may read; who may read need not write; nobody need read; no empty share may write
pub decided : (decide (entails writes reads) ≡ entailed) × (decide (entails reads writes) ≡ unmet)
    × (decide (entails [] reads) ≡ missed 0)
    × (decide (entails (positive (is_empty (variable 0)) ∷ writes) reads) ≡ vacuous)
unfolding decide_kind named_in tallest_among leaf_test join_leaf positives disequations reading_way term_at part_at
    all_at both_at solvable plain_at special_at some_choice every_below some_below first_below pick_row at meets
    meets_with can_be_unmet can_be_missed first_missed
decided = (refl, refl, refl, refl)
