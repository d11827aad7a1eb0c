-- A solution of a problem at the leaves is cut into what each leaf has, and one is glued together from that: there is a
-- solution exactly if the test passes, and then the fixed one solves the problem. The examples are named so that they
-- are checked first. Assumes nothing.
use Rattle.std.specs.Prelude.{◌≡◌, ◌⊎◌, not, ◌&&◌, ltb}
use Rattle.std.proofs.Math.Path.{ap}
use Rattle.std.proofs.Common.{inl, inr, le-add_right, eq-or-lt_of_le, ltb→lt, lt→ltb, shr_lt}
use Rattle.std.proofs.Math.Bool.{Bool}
use Prim.Native.Nat.{ℕ, ◌+◌, ◌-◌, ◌*◌, ◌/◌, ◌%◌, ◌^◌, ◌≤◌, ◌<◌, suc-le-suc}
use Rattle.std.proofs.Math.Nat.{le_trans}
use native.Mathlib.Omega.{arith}
use Rattle.std.proofs.Math.Dec.{T, eqb, eqb→eq, eqb_refl}
use Rattle.std.proofs.Math.Pow.{high, low}
use Rattle.shares.specs.Test.{passes, and_intro, and_left, and_right, cond_passed, cond_failed}
use Rattle.shares.specs.Below.{every_below, some_below}
use Rattle.shares.specs.BelowLaws.{every_at, every_intro, some_intro, some_found, first_passes, first_below_lem}
use Rattle.shares.specs.BelowLaws.{first_min, count_le, count_lt}
use Rattle.shares.specs.Blocks.{block_of, first_of}
use Rattle.shares.specs.BlockLaws.{block_lt, first_lt, block_first, block_split, leaf_lt}
use Rattle.leaves.specs.FixedExamples
use Rattle.leaves.specs.Room.{Room}
use Rattle.leaves.specs.Choices.{Picker}
use Rattle.leaves.specs.ChoiceLaws.{choice_intro, choice_found, both_intro}
use Rattle.leaves.specs.Problem.{Problem, plain_at, special_at, solvable}
use Rattle.leaves.specs.Fixed.{leaf_of, rank_of, held_at, carried_at, fixed_at}
use Rattle.leaves.specs.LeafSolutions.{SolvesLeaves, LeafSolution, Leafwise}

-- ---- cut: a solution of any height has what each leaf needs

pub cut : {X : Type 0} (h : ℕ) (P : Problem X) (w : ℕ) (s : ℕ → X) → SolvesLeaves h P w s → Leafwise h P
cut h P w s S = record {
  plain = λ b l. (s (first_of h w b), rw (block_first h w b) at (S.everywhere (first_of h w b) (first_lt S.tall l)));
  special = λ j l.
      let (i, u, t) = S.somewhere j l in
      (block_of h w i, block_lt S.tall u, s i, S.everywhere i u, t);
}

module _ {X : Type 0} (C : Picker X) (h : ℕ) (P : Problem X) where
  pub solvable_intro : Leafwise h P → T (solvable C h P)
  unfolding solvable plain_at special_at
  solvable_intro L =
      and_intro (every_below (2 ^ h) (plain_at C P)) _
      (every_intro (2 ^ h) _ (λ b l. let (x, t) = L.plain b l in choice_intro C (P.pos b) x t))
      (every_intro P.count _ (λ j l.
      let (b, u, x, t, v) = L.special j l in
      some_intro (2 ^ h) _ b u (both_intro C (P.pos b) (P.dis j b) x t v)))

  pub cut_solvable : (w : ℕ) (s : ℕ → X) → SolvesLeaves h P w s → T (solvable C h P)
  cut_solvable w s S = solvable_intro (cut h P w s S)

  -- the disequation that a sub-leaf holds goes to its leaf, and has its rank there
  pub held_there : (b r : ℕ) → held_at C h P b r < P.count → (leaf_of C h P (held_at C h P b r) ≡ b)
      × (rank_of C h P (held_at C h P b r) ≡ r)
  unfolding held_at
  held_there b r l =
      let j = held_at C h P b r in
      let v = first_below_lem P.count (λ j. eqb (leaf_of C h P j) b && eqb (rank_of C h P j) r) l in (
        eqb→eq (leaf_of C h P j) b (and_left (eqb (leaf_of C h P j) b) _ v),
        eqb→eq (rank_of C h P j) r (and_right (eqb (leaf_of C h P j) b) _ v),
      )

  -- ---- glue: one choice for each leaf, and one sub-leaf for each disequation

  module _ (t : T (solvable C h P)) where
    pub plain_passes : (b : ℕ) → b < 2 ^ h → T (plain_at C P b)
    unfolding solvable
    plain_passes b l = every_at (2 ^ h) (plain_at C P) (and_left (every_below (2 ^ h) (plain_at C P)) _ t) b l

    pub leaf_passes : (j : ℕ) → j < P.count → (leaf_of C h P j < 2 ^ h) × T (special_at C P j (leaf_of C h P j))
    unfolding solvable leaf_of
    leaf_passes j l =
        let (b, u, v) = some_found (2 ^ h) (special_at C P j)
        (every_at P.count (λ j. some_below (2 ^ h) (special_at C P j))
        (and_right (every_below (2 ^ h) (plain_at C P)) _ t) j l) in
        first_passes (2 ^ h) (special_at C P j) b u v

    -- a sub-leaf that holds a disequation meets it, beside the positive clauses
    special_meets : (b r : ℕ) → held_at C h P b r < P.count → T (P.pos b (carried_at C h P b r))
        × T (P.dis (held_at C h P b r) b (carried_at C h P b r))
    unfolding carried_at special_at
    special_meets b r l =
        let j = held_at C h P b r in
        let u : T (special_at C P j b) = rw (held_there b r l).0 at (leaf_passes j l).1 in
        let p : X → Bool = λ x. P.pos b x && P.dis j b x in
        let w : T (p (C.pick p)) = choice_found C p u in
        rw (cond_passed (ltb j P.count) (C.pick p) (C.pick (P.pos b)) (lt→ltb j P.count l))
        (and_left (P.pos b (C.pick p)) _ w, and_right (P.pos b (C.pick p)) _ w)

    choice_pos : (b r : ℕ) → b < 2 ^ h → T (P.pos b (carried_at C h P b r))
    unfolding carried_at plain_at
    choice_pos b r l = go (passes (ltb (held_at C h P b r) P.count))
      where
        j : ℕ
        j = held_at C h P b r

        go : T (ltb j P.count) ⊎ T (not (ltb j P.count)) → T (P.pos b (carried_at C h P b r))
        go (inl v) = (special_meets b r (ltb→lt j P.count v)).0
        go (inr v) =
            rw (cond_failed (ltb j P.count) (C.pick (λ x. P.pos b x && P.dis j b x)) (C.pick (P.pos b)) v)
            (choice_found C (P.pos b) (plain_passes b l))

  -- the disequations of a leaf stand in question order
  pub ranks_in_order : (i j : ℕ) → i < j → leaf_of C h P i ≡ leaf_of C h P j → rank_of C h P i < rank_of C h P j
  unfolding rank_of
  ranks_in_order i j l p = rw p
      (count_lt j (λ i. eqb (leaf_of C h P i) (leaf_of C h P j)) i l (rw p (eqb_refl (leaf_of C h P j))))

  -- the disequation that stands where j stands is j
  pub at_rank : (j : ℕ) → j < P.count → held_at C h P (leaf_of C h P j) (rank_of C h P j) ≡ j
  unfolding held_at
  at_rank j l = go (eq-or-lt_of_le (first_min P.count p j own))
    where
      b : ℕ
      b = leaf_of C h P j

      r : ℕ
      r = rank_of C h P j

      p : ℕ → Bool
      p i = eqb (leaf_of C h P i) b && eqb (rank_of C h P i) r

      own : T (p j)
      own = and_intro (eqb b b) _ (eqb_refl b) (eqb_refl r)

      go : (held_at C h P b r ≡ j) ⊎ (held_at C h P b r < j) → held_at C h P b r ≡ j
      go (inl e) = e
      go (inr m) =
          let i = held_at C h P b r in
          let v : T (p i) = (first_passes P.count p j l own).1 in
          let e : rank_of C h P i ≡ r = eqb→eq (rank_of C h P i) r (and_right (eqb (leaf_of C h P i) b) _ v) in
          absurd (omega (
            arith,
            ranks_in_order i j m
                (eqb→eq (leaf_of C h P i) b (and_left (eqb (leaf_of C h P i) b) _ v)),
          ))

  pub rank_lt : (k j : ℕ) → P.count ≤ 2 ^ k → j < P.count → rank_of C h P j < 2 ^ k
  unfolding rank_of
  rank_lt k j e l = le_trans (suc-le-suc (count_le j (λ i. eqb (leaf_of C h P i) (leaf_of C h P j)))) (le_trans l e)

  -- at height h + k each leaf has 2 ^ k sub-leaves
  pub fixed_split : (k i : ℕ) → fixed_at C h P (h + k) i ≡ carried_at C h P (i / 2 ^ k) (i % 2 ^ k)
  unfolding fixed_at
  fixed_split k i = let e : h + k - h ≡ k = omega arith in ap (λ d. carried_at C h P (i / 2 ^ d) (i % 2 ^ d)) e

  -- the fixed solution solves the problem, at any height with room for its disequations
  pub fixed_solves : T (solvable C h P) → (k : ℕ) → P.count ≤ 2 ^ k → SolvesLeaves h P (h + k) (fixed_at C h P (h + k))
  fixed_solves t k e = record {
    tall = le-add_right h k;
    everywhere = λ i l. rw (block_split, fixed_split k i) (choice_pos t (i / 2 ^ k) (i % 2 ^ k) (shr_lt h k l));
    somewhere = λ j l.
        let f = rank_lt k j e l in
        let g = at_rank j l in (
          leaf_of C h P j * 2 ^ k + rank_of C h P j,
          leaf_lt h k (leaf_passes t j l).0 f,
          rw (
            block_split,
            fixed_split k (leaf_of C h P j * 2 ^ k + rank_of C h P j),
            high (leaf_of C h P j) k f,
            low (leaf_of C h P j) k f,
          )
              (rw g at (special_meets t (leaf_of C h P j) (rank_of C h P j) (rw g l)).1),
        );
  }

  -- ---- where the test passes, there is a solution at any heights that have room for the disequations

  pub solution_glued : (A : ℕ → Type 0) → Room A h P.count → T (solvable C h P) → LeafSolution A h P
  solution_glued A r t = record {
    height = h + r.times;
    allowed = r.allowed;
    leaves = fixed_at C h P (h + r.times);
    solves = fixed_solves t r.times r.enough;
  }
