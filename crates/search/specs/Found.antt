-- What a search of the leaves finds: whether its problem is solvable, and the first words of the solution. Assumes
-- nothing.
use Rattle.std.specs.Prelude.{◌≡◌, Bool, true, false, ◌&&◌, List, Option, MatchOption, ℕ, ◌+◌, ◌<◌, T, get_or}
use Rattle.shares.specs.Below.{every_below, first_below}
use Rattle.shares.specs.Constant.{bit}
use Rattle.leaves.specs.Choices.{least}
use Rattle.leaves.specs.Problem.{solvable}
use Rattle.leaves.specs.Numbers.{numbered}
use Rattle.format.specs.Stored.{Stored}
use Rattle.plans.specs.Pairs.{PairsOf}
use Rattle.steps.specs.Tests.{extra_of, tests_of}
use Rattle.steps.specs.declared.Search.{Search}
use Rattle.steps.specs.declared.Search.TheVariants.{First, Unmet, Missed}
use Rattle.search.specs.declared.Survey.{Survey}
use Rattle.words.specs.declared.Passing.{Passing}

-- the problem of a search is solvable
abbrev pub solvable_in : Stored → ℕ → Search → Bool
solvable_in S h search = solvable (least S.free) h (numbered S.free (tests_of S h search))

-- the lowest disequation of the second system that some solution of the first cannot have, or their count
abbrev pub lowest_missed_in : Stored → ℕ → ℕ
lowest_missed_in S h = first_below (get_or S.counts 3 0) (λ j. solvable_in S h (Missed j))

-- after a pass: every leaf has found a choice, and each of the first system's disequations a pair
abbrev pub all_found : ℕ → ℕ → Bool
all_found count met = bit met 32 && every_below count (bit met)

-- a search: whether its problem is solvable, and then the first words of its solution
pub record SolvedAs (S : Stored) (h : ℕ) (search : Search) (found : Bool) (firsts leaves : List Passing) : Type 0 where
  pub found_is : found ≡ solvable_in S h search
  pub pairs_are : T found → PairsOf S.free h (tests_of S h search) (extra_of search) firsts leaves

-- a survey of an entailment: the first system has no solution; it has one, and some solution leaves the second's
-- positive clauses unmet, with the first words of one; none does, and some solution misses disequation j of the second,
-- the lowest such; none misses any
abbrev pub SurveyedAs : Stored → ℕ → Survey → List Passing → List Passing → Type 0
SurveyedAs S h Survey.Unsolvable firsts leaves = solvable_in S h First ≡ false
SurveyedAs S h Survey.Unmet firsts leaves =
    (solvable_in S h First ≡ true) × (solvable_in S h Unmet ≡ true)
    × PairsOf S.free h (tests_of S h Unmet) (extra_of Unmet) firsts leaves
SurveyedAs S h (Survey.Missed j) firsts leaves =
    (solvable_in S h First ≡ true) × (solvable_in S h Unmet ≡ false) × (j < get_or S.counts 3 0)
    × (lowest_missed_in S h ≡ j)
SurveyedAs S h Survey.Entailed firsts leaves =
    (solvable_in S h First ≡ true) × (solvable_in S h Unmet ≡ false) × (lowest_missed_in S h ≡ get_or S.counts 3 0)

-- the lowest number below `count` that passes p, or none where none does
abbrev pub LowestOf : ℕ → (ℕ → Bool) → Option ℕ → Type 0
LowestOf count p r =
    MatchOption r ((k : ℕ) → k < count → p k ≡ false) (λ j. (j < count) × (p j ≡ true)
    × ((k : ℕ) → k < j → p k ≡ false))

-- disequation j of the second system is possible, and each of the first system's is met by a choice that misses it
abbrev pub is_missed : ℕ → List ℕ → ℕ → ℕ → Bool
is_missed possible rows count j = bit possible j && every_below count (bit (get_or rows (64 + j) 0))
