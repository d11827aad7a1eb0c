-- The solution that is shown is fixed: where each disequation stands, what each sub-leaf holds, and which choice it
-- carries. Assumes nothing.
use Rattle.std.specs.Prelude.{Bool, not, cond, ◌&&◌, ℕ, zero, suc, ◌-◌, ◌/◌, ◌%◌, ◌^◌, ltb, eqb}
use Rattle.shares.specs.Below.{first_below, count_below}
use Rattle.leaves.specs.Choices.{Picker}
use Rattle.leaves.specs.Problem.{Problem, special_at}
use Rattle.leaves.specs.Second.{Second, meets, meets_with}

-- The question is unfolded to height h: P says what is asked of the choice at each of its 2 ^ h leaves, and C picks one
-- of those that pass a test, the least where it is `least n`.
module _ {X : Type 0} (C : Picker X) (h : ℕ) (P : Problem X) where
  -- each disequation goes to the leftmost leaf where it and the positive clauses can be met together
  unfoldable pub leaf_of : ℕ → ℕ
  leaf_of j = first_below (2 ^ h) (special_at C P j)

  -- from the left, the sub-leaves of a leaf hold its disequations in question order: so many of them stand before
  -- disequation j
  unfoldable pub rank_of : ℕ → ℕ
  rank_of j = count_below j (λ i. eqb (leaf_of i) (leaf_of j))

  -- the disequation that sub-leaf r of leaf b holds; their count where it holds nothing more
  unfoldable pub held_at : ℕ → ℕ → ℕ
  held_at b r = first_below P.count (λ j. eqb (leaf_of j) b && eqb (rank_of j) r)

  -- each sub-leaf carries the least choice that meets the positive clauses and what it holds
  unfoldable pub carried_at : ℕ → ℕ → X
  carried_at b r = cond (ltb (held_at b r) P.count) (C.pick (λ x. P.pos b x && P.dis (held_at b r) b x))
      (C.pick (P.pos b))

  -- below a leaf stand 2 ^ (W - h) sub-leaves, W being the height given: the choice at number i of all 2 ^ W
  unfoldable pub fixed_at : ℕ → ℕ → X
  fixed_at W i = carried_at (i / 2 ^ (W - h)) (i % 2 ^ (W - h))

-- one disequation more, before the others
abbrev pub before : {X : Type 0} → (ℕ → X → Bool) → (ℕ → ℕ → X → Bool) → ℕ → ℕ → X → Bool
before extra dis zero b x = extra b x
before extra dis (suc j) b x = dis j b x

module _ {X Y : Type 0} (D : Picker Y) (Q : Second X Y) where
  -- for reason 2: the leftmost leaf with a choice that leaves the second system's positive clauses unmet carries the
  -- least such choice before its disequations, as one of them that stands first in question order
  abbrev pub with_unmet : Problem X → Problem X
  with_unmet P = record { pos = P.pos; count = suc P.count; dis = before (λ b x. not (meets D Q b x)) P.dis }

  -- for reason 3: only choices count, in every leaf, beside which no own choice meets the second system's positive
  -- clauses and disequation j together
  abbrev pub with_missed : Problem X → ℕ → Problem X
  with_missed P j = record { pos = λ b x. P.pos b x && not (meets_with D Q j b x); count = P.count; dis = P.dis }
