-- Heights of questions, computed: a constant counts that some clause names, in either system, be it positive or a
-- disequation. Assumes nothing.
use Rattle.std.specs.Prelude.{◌≡◌, refl, List, [], ◌∷◌, map}
use Rattle.shares.specs.Tree.{twins, fold, height, tree_of}
use Rattle.shares.specs.Constant.{bit}
use Rattle.systems.specs.Clauses.{variable, constant, joined, is_full, positive, negated, System}
use Rattle.systems.specs.Questions.{entailment, Question, named_in, tallest_among, question_height, tallest_constant}
use Rattle.systems.specs.Questions.{height_of_all}

-- v0 is full in the first system and these clauses beside it, and these in the second; the constants: full, of height 1
-- and of height 2
abbrev naming : System → System → Question
naming s t = record {
  kind = entailment;
  free = 1;
  own = 0;
  constants = record { levels = 2; numbers = 15 ∷ 3 ∷ 1 ∷ [] };
  first = positive (is_full (variable 0)) ∷ s;
  second = t;
}

-- none is named; then the third, which is the tallest, in a disequation, in the second system, and in a disequation
-- there; then the first and the second
abbrev named : List Question
named =
    naming [] []
    ∷ naming (negated (is_full (constant 2)) ∷ []) []
    ∷ naming [] (positive (is_full (constant 2)) ∷ [])
    ∷ naming [] (negated (is_full (constant 2)) ∷ [])
    ∷ naming (positive (joined (variable 0) (constant 0) (constant 1)) ∷ []) []
    ∷ []

pub heights_computed : (map question_height named ≡ 0 ∷ 2 ∷ 2 ∷ 2 ∷ 1 ∷ [])
    × (map height_of_all named ≡ 2 ∷ 2 ∷ 2 ∷ 2 ∷ 2 ∷ [])
unfolding named_in tallest_among tallest_constant tree_of fold twins height bit
heights_computed = (refl, refl)
