-- Two problems with the same tests, below the bounds that count, have the same fixed solution. Assumes nothing.
use Rattle.std.specs.Prelude.{◌≡◌, Bool, true, false, cond, ℕ, ◌+◌, ◌/◌, ◌%◌, ◌^◌, ◌<◌, ltb}
use Rattle.std.proofs.Math.Path.{refl, ap, ap₂, fun_ext}
use Rattle.std.proofs.Common.{sym, ◌∙◌, le_trans, le_of_lt, ltb→lt, shr_lt}
use Rattle.std.proofs.Math.Bool.{◌&&◌}
use Rattle.std.proofs.Math.Dec.{eqb}
use Rattle.shares.specs.Below.{every_below, some_below, first_below}
use Rattle.shares.specs.BelowLaws.{every_ext, some_ext, first_ext, count_ext}
use Rattle.leaves.specs.Choices.{Picker, some_choice}
use Rattle.leaves.specs.Problem.{Problem, plain_at, special_at, solvable}
use Rattle.leaves.proofs.ProblemLaws.{fixed_split}
use Rattle.leaves.specs.Fixed.{leaf_of, rank_of, held_at, carried_at, fixed_at}

module _ {X : Type 0} (C : Picker X) (h : ℕ) (P Q : Problem X) (count : P.count ≡ Q.count)
    (pos : (b : ℕ) → b < 2 ^ h → (x : X) → P.pos b x ≡ Q.pos b x)
    (dis : (j : ℕ) → j < P.count → (b : ℕ) → b < 2 ^ h → (x : X) → P.dis j b x ≡ Q.dis j b x) where
  plain_same : (b : ℕ) → b < 2 ^ h → plain_at C P b ≡ plain_at C Q b
  unfolding plain_at
  plain_same b l = ap (some_choice C) (fun_ext (pos b l))

  special_same : (j : ℕ) → j < P.count → (b : ℕ) → b < 2 ^ h → special_at C P j b ≡ special_at C Q j b
  unfolding special_at
  special_same j m b l = ap (some_choice C) (fun_ext (λ x. ap₂ ◌&&◌ (pos b l x) (dis j m b l x)))

  pub solvable_same : solvable C h P ≡ solvable C h Q
  unfolding solvable
  solvable_same =
      ap₂ ◌&&◌
      (every_ext (2 ^ h) _ _ plain_same)
      (every_ext P.count _ _ (λ j m. some_ext (2 ^ h) _ _ (special_same j m))
      ∙ ap (λ k. every_below k (λ j. some_below (2 ^ h) (special_at C Q j))) count)

  pub leaf_same : (j : ℕ) → j < P.count → leaf_of C h P j ≡ leaf_of C h Q j
  unfolding leaf_of
  leaf_same j m = first_ext (2 ^ h) _ _ (special_same j m)

  rank_same : (j : ℕ) → j < P.count → rank_of C h P j ≡ rank_of C h Q j
  unfolding rank_of
  rank_same j m = count_ext j _ _ (λ i l. ap₂ eqb (leaf_same i (le_trans l (le_of_lt m))) (leaf_same j m))

  at_same_rank : (b r : ℕ) → held_at C h P b r ≡ held_at C h Q b r
  unfolding held_at
  at_same_rank b r =
      first_ext P.count _ _ (λ j m. ap₂ (λ x y. eqb x b && eqb y r) (leaf_same j m) (rank_same j m))
      ∙ ap (λ k. first_below k (λ j. eqb (leaf_of C h Q j) b && eqb (rank_of C h Q j) r)) count

  choice_same : (b r : ℕ) → b < 2 ^ h → carried_at C h P b r ≡ carried_at C h Q b r
  unfolding carried_at
  choice_same b r l = go (ltb (held_at C h P b r) P.count) refl
    where
      same_at : held_at C h P b r ≡ held_at C h Q b r
      same_at = at_same_rank b r

      tests : ltb (held_at C h P b r) P.count ≡ ltb (held_at C h Q b r) Q.count
      tests = ap₂ ltb same_at count

      go : (v : Bool) → ltb (held_at C h P b r) P.count ≡ v
          → cond (ltb (held_at C h P b r) P.count) (C.pick (λ x. P.pos b x && P.dis (held_at C h P b r) b x))
          (C.pick (P.pos b))
          ≡ cond (ltb (held_at C h Q b r) Q.count) (C.pick (λ x. Q.pos b x && Q.dis (held_at C h Q b r) b x))
          (C.pick (Q.pos b))
      go true e =
          let m = ltb→lt (held_at C h P b r) P.count (rw e tt) in
          rw (← tests, e)
          (ap C.pick (fun_ext (λ x. ap₂ ◌&&◌ (pos b l x) (dis (held_at C h P b r) m b l x
          ∙ ap (λ j. Q.dis j b x) same_at))))
      go false e = rw (← tests, e) (ap C.pick (fun_ext (pos b l)))

  pub fixed_same : (k s : ℕ) → s < 2 ^ (h + k) → fixed_at C h P (h + k) s ≡ fixed_at C h Q (h + k) s
  fixed_same k s l = fixed_split C h P k s ∙ choice_same (s / 2 ^ k) (s % 2 ^ k) (shr_lt h k l)
      ∙ sym (fixed_split C h Q k s)
