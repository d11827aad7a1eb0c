-- The fixed solution of a small problem, computed: two leaves, two variables, height given 3. Assumes nothing.
use Rattle.std.specs.Prelude.{◌≡◌, refl, Bool, true, false, not, cond, ◌&&◌, ◌||◌, ℕ, zero, suc, eqb}
use Rattle.shares.specs.Below.{every_below, some_below, first_below, count_below}
use Rattle.leaves.specs.Choices.{some_choice, Row, nil, cons, at, table, pick_row, least}
use Rattle.leaves.specs.Problem.{Problem, plain_at, special_at, solvable}
use Rattle.leaves.specs.Second.{Second, meets, meets_with}
use Rattle.leaves.specs.Fixed.{leaf_of, rank_of, held_at, carried_at, fixed_at, with_unmet, with_missed}
use Rattle.leaves.specs.FixedWords.{none_before, one_before}

-- the four choices: neither variable is full, one is, both are
abbrev neither : Row Bool 2
neither = cons false (cons false nil)

abbrev v0 : Row Bool 2
v0 = cons true (cons false nil)

abbrev v1 : Row Bool 2
v1 = cons false (cons true nil)

abbrev both : Row Bool 2
both = cons true (cons true nil)

-- disequation 0: v1 is full; 1: both are; 2: v0 alone is
abbrev three : ℕ → Row Bool 2 → Bool
three zero x = at false x 1
three (suc zero) x = at false x 0 && at false x 1
three (suc (suc j)) x = at false x 0 && not (at false x 1)

-- the positive clauses: at leaf 0 not both are full, at leaf 1 one is
abbrev first : Problem (Row Bool 2)
first = record {
  pos = λ b x. cond (eqb b 0) (not (at false x 0 && at false x 1)) (at false x 0 || at false x 1);
  count = 3;
  dis = λ j b x. three j x;
}

-- the second system: the own value is full and v1 is not; its disequation: v0 is empty
abbrev second : Second (Row Bool 2) (Row Bool 1)
second = record { pos = λ b x y. at false y 0 && not (at false x 1); count = 1; dis = λ j b x y. not (at false x 0) }

-- the choices at all 8 sub-leaves
abbrev shown : Problem (Row Bool 2) → Row (Row Bool 2) 8
shown P = table 8 (fixed_at (least 2) 1 P 3)

-- four at leaf 0 and four at leaf 1
abbrev four : {n : ℕ} → Row Bool 2 → Row Bool 2 → Row Bool 2 → Row Bool 2 → Row (Row Bool 2) n
    → Row (Row Bool 2) (suc (suc (suc (suc n))))
four a b c d r = cons a (cons b (cons c (cons d r)))

-- leaf 0 holds disequations 0 and 2, then nothing more; leaf 1 holds disequation 1, which leaf 0 cannot meet, then
-- nothing more
first_shown : (solvable (least 2) 1 first ≡ true) × (shown first ≡ four v1 v0 neither neither (four both v1 v1 v1 nil))
unfolding every_below some_below first_below count_below some_choice at pick_row table plain_at special_at solvable
    leaf_of rank_of held_at carried_at fixed_at
first_shown = (refl, refl)

-- reason 2: leaf 0 has a choice that leaves the second's positive clauses unmet, v1, and carries it before its
-- disequations
unmet_shown : shown (with_unmet (least 1) second first) ≡ four v1 v1 v0 neither (four both v1 v1 v1 nil)
unfolding first_below count_below some_choice at pick_row table special_at leaf_of rank_of held_at carried_at fixed_at
    meets
unmet_shown = refl

-- that choice stands in one sub-leaf of leaf 0, and at leaf 1, as for a yes at every leaf, nothing stands before
-- disequations
before_counted : (one_before 0 0 ≡ 1) × (one_before 0 1 ≡ 0) × (none_before 0 ≡ 0)
before_counted = (refl, refl, refl)

-- reason 3: where neither is full the second's disequation can be met, so that choice does not count, and the idle
-- sub-leaves of leaf 0 carry v1
missed_shown : shown (with_missed (least 1) second first 0) ≡ four v1 v0 v1 v1 (four both v1 v1 v1 nil)
unfolding first_below count_below some_choice at pick_row table special_at leaf_of rank_of held_at carried_at fixed_at
    meets_with
missed_shown = refl
