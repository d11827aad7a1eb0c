-- The tests that a stored question poses at its leaves, and what a search asks of them. Assumes nothing.
use Rattle.std.specs.Prelude.{Bool, not, cond, ◌&&◌, List, ℕ, ◌+◌, ◌-◌, ◌*◌, ◌%◌, ◌^◌, ◌<◌, ltb, get_or}
use Rattle.leaves.specs.Problem.{Problem}
use Rattle.format.specs.Stored.{Stored}
use Rattle.words.specs.Choices.{values_at, all_pass, clause_fails, all_pass_but, some_own}
use Rattle.steps.specs.declared.Search.{Search}
use Rattle.steps.specs.declared.Search.TheVariants.{First, Unmet, Missed}

-- the values of the constants at leaf b of 2 ^ h, constant i at bit i
abbrev pub leaf_values : Stored → ℕ → ℕ → ℕ
leaf_values S h b = values_at S.levels S.constants S.named h b

-- choice x of the free variables meets the first system's positive clauses at a leaf with these values
abbrev pub first_meets : Stored → ℕ → ℕ → Bool
first_meets S values x = all_pass S.clauses 0 (get_or S.counts 0 0) S.free 0 values x

-- and its disequation j
abbrev pub first_differs : Stored → ℕ → ℕ → ℕ → Bool
first_differs S values j x = clause_fails S.clauses (256 + 4 * j) S.free 0 values x

-- beside x some own choice meets the second system's positive clauses
abbrev pub second_meets : Stored → ℕ → ℕ → Bool
second_meets S values x = some_own S.free S.own (all_pass S.clauses 384 (get_or S.counts 2 0) S.free S.own values)
    (x % 2 ^ S.free)

-- and its disequation j
abbrev pub second_differs : Stored → ℕ → ℕ → ℕ → Bool
second_differs S values j x =
    some_own S.free S.own (all_pass_but S.clauses 384 (get_or S.counts 2 0) (640 + 4 * j) S.free S.own values)
    (x % 2 ^ S.free)

-- disequation e of a search holds in choice z: the first `extra` ones say that z is not in the set `other`, the rest
-- are the stored ones
unfoldable pub special_in : List ℕ → ℕ → ℕ → (ℕ → Bool) → ℕ → ℕ → ℕ → Bool
special_in clauses n values other extra e z =
    cond (ltb e extra) (not (other z)) (clause_fails clauses (256 + 4 * (e - extra)) n 0 values z)

-- how many disequations a search has before the stored ones
abbrev pub extra_of : Search → ℕ
extra_of First = 0
extra_of Unmet = 1
extra_of (Missed j) = 0

-- how many sub-leaves a leaf has room for, where the first system has d disequations: `needed` of the kind of question
-- that it serves
abbrev pub room_of : Search → ℕ → ℕ
room_of First d = d
room_of Unmet d = d + 1
room_of (Missed j) d = d + 1

-- the choices that a search allows at a leaf with these values
abbrev pub allowed_in : Stored → Search → ℕ → ℕ → Bool
allowed_in S First values x = first_meets S values x
allowed_in S Unmet values x = first_meets S values x
allowed_in S (Missed j) values x = first_meets S values x && not (second_differs S values j x)

-- a search names a disequation that is there
abbrev pub Named : List ℕ → Search → Type 0
Named counts First = Unit {0}
Named counts Unmet = Unit {0}
Named counts (Missed j) = j < get_or counts 3 0

-- what a search asks of choices at the 2 ^ h leaves
abbrev pub tests_of : Stored → ℕ → Search → Problem ℕ
tests_of S h search = record {
  pos = λ b. allowed_in S search (leaf_values S h b);
  count = extra_of search + get_or S.counts 1 0;
  dis = λ e b. special_in S.clauses S.free (leaf_values S h b) (second_meets S (leaf_values S h b)) (extra_of search) e;
}
