-- Extensions leaf by leaf, their heights, and what the tests of entailment say. Assumes nothing.
use Rattle.std.specs.Prelude.{◌≡◌, refl, ◌⊎◌, ◌↔◌, Bool, true, false, ◌&&◌, ℕ, zero, suc, ◌^◌, ◌≤◌, ◌<◌, eqb}
use Rattle.std.proofs.Common.{inl, inr, zero-le, suc-le-suc, not-suc-le-zero, le_of_suc-le-suc, T_not, lit<}
use Rattle.std.proofs.Math.Bool.{not}
use Rattle.std.specs.Bool.{beq}
use Rattle.std.proofs.Math.Dec.{T}
use Rattle.shares.specs.Test.{and_intro, and_left, and_right}
use Rattle.shares.specs.Below.{every_below, some_below, first_below}
use Rattle.shares.specs.BelowLaws.{Below, some_intro, some_found, every_or, some_or}
use Rattle.shares.specs.Blocks.{block_of}
use Rattle.shares.specs.BlockLaws.{block_lt, block_block}
use Rattle.leaves.specs.Heights.{any_height}
use Rattle.leaves.specs.Room.{Room}
use Rattle.leaves.proofs.HeightLaws.{le_pow, room_any}
use Rattle.leaves.specs.Choices.{Picker, some_choice, Row, at, pick_row, least}
use Rattle.leaves.specs.ChoiceLaws.{choice_intro, choice_found, both_intro, both_found}
use Rattle.leaves.specs.Problem.{Problem, plain_at, special_at, solvable}
use Rattle.leaves.specs.LeafSolutions.{SolvesLeaves, LeafSolution, Leafwise}
use Rattle.leaves.proofs.ProblemLaws.{cut, solvable_intro, cut_solvable, fixed_solves, solution_glued}
use Rattle.leaves.specs.Second.{Second, meets, meets_with, beside}
use Rattle.leaves.specs.Fixed.{with_unmet, with_missed}
use Rattle.leaves.specs.Entailment.{can_be_unmet, can_be_missed, first_missed}
use Rattle.leaves.specs.LeafExtensions.{ExtendsLeaves, LeafExtension, positives_only, only, EntailsLeaves}
use Rattle.leaves.specs.LeafExtensions.{LeafCounterexample}

-- ---- an example, computed: two leaves and one variable, full at leaf 0 and empty at leaf 1; the second system: it is
-- not empty

abbrev left : Problem (Row Bool 1)
left = record { pos = λ b x. beq (at false x 0) (eqb b 0); count = 0; dis = λ j b x. false }

abbrev not_empty : Second (Row Bool 1) (Row Bool 0)
not_empty = record { pos = λ b x y. true; count = 1; dis = λ j b x y. at false x 0 }

-- the disequation holds at leaf 0, which is enough
left_kept : (can_be_unmet (least 1) (least 0) 1 left not_empty ≡ false)
    × (can_be_missed (least 1) (least 0) 1 left not_empty 0 ≡ false)
    × (first_missed (least 1) (least 0) 1 left not_empty ≡ 1)
unfolding every_below some_below first_below some_choice at pick_row plain_at special_at solvable meets meets_with
    can_be_unmet can_be_missed first_missed
left_kept = (refl, refl, refl)

-- ---- an extension is a solution of the problem beside s, so it is cut and glued like one

module _ {X Y : Type 0} (D : Picker Y) (h : ℕ) (Q : Second X Y) (w : ℕ) (s : ℕ → X) (tall : h ≤ w) where
  extends_solves : (v : ℕ) (t : ℕ → Y) → ExtendsLeaves h Q w s v t → SolvesLeaves w (beside h Q w s) v t
  extends_solves v t E = record {
    tall = E.tall;
    everywhere = λ i l. rw (block_block i tall E.tall) (E.everywhere i l);
    somewhere = λ j l. let (i, u, x) = E.somewhere j l in (i, u, rw (block_block i tall E.tall) x);
  }

  solves_extends : (v : ℕ) (t : ℕ → Y) → SolvesLeaves w (beside h Q w s) v t → ExtendsLeaves h Q w s v t
  solves_extends v t S = record {
    tall = S.tall;
    everywhere = λ i l. rw (← (block_block i tall S.tall)) (S.everywhere i l);
    somewhere = λ j l. let (i, u, x) = S.somewhere j l in (i, u, rw (block_block i tall S.tall) at x);
  }

  extension_cut : (A : ℕ → Type 0) → LeafExtension A h Q w s → Leafwise w (beside h Q w s)
  extension_cut A E = cut w (beside h Q w s) E.height E.own (extends_solves E.height E.own E.extends)

  extension_glue : (A : ℕ → Type 0) → Room A w Q.count → Leafwise w (beside h Q w s) → LeafExtension A h Q w s
  extension_glue A r L =
      let S = solution_glued D w (beside h Q w s) A r (solvable_intro D w (beside h Q w s) L) in
      record {
        height = S.height;
        allowed = S.allowed;
        own = S.leaves;
        extends =
            solves_extends S.height S.leaves S.solves;
      }

  -- an extension of some height gives one of any heights with room for the second system's disequations
  pub extension_room : (A B : ℕ → Type 0) → Room B w Q.count → LeafExtension A h Q w s → LeafExtension B h Q w s
  extension_room A B r E = extension_glue B r (extension_cut A E)

  -- s extends exactly if the problem beside them is solvable
  pub extension_solvable : LeafExtension any_height h Q w s ↔ T (solvable D w (beside h Q w s))
  extension_solvable = (
    λ E. solvable_intro D w (beside h Q w s) (extension_cut any_height E),
    λ t.
        let S = solution_glued D w (beside h Q w s) any_height (room_any w Q.count) t in
        record { height = S.height; allowed = tt; own = S.leaves; extends = solves_extends S.height S.leaves S.solves },
  )

-- ---- the positive clauses alone, and each disequation alone beside them

module _ {X Y : Type 0} (D : Picker Y) (h : ℕ) (Q : Second X Y) (w : ℕ) (s : ℕ → X) (tall : h ≤ w) where
  -- s extends to the positive clauses exactly if each leaf of it meets them
  meets_all : LeafExtension any_height h (positives_only Q) w s ↔ ((i : ℕ) → i < 2 ^ w
      → T (meets D Q (block_of h w i) (s i)))
  unfolding meets
  meets_all = (
    λ E i l. let (y, t) = (extension_cut D h (positives_only Q) w s tall any_height E).plain i l in
        choice_intro D (Q.pos (block_of h w i) (s i)) y t,
    λ f. extension_glue D h (positives_only Q) w s tall any_height (room_any w 0) (record {
      plain = λ i l. (D.pick (Q.pos (block_of h w i) (s i)), choice_found D (Q.pos (block_of h w i) (s i)) (f i l));
      special = λ j l. absurd (not-suc-le-zero l);
    }),
  )

  -- with disequation j beside them, some leaf of it meets both
  meets_some : (j : ℕ) → LeafExtension any_height h (only j Q) w s
      → Below (2 ^ w) (λ i. meets_with D Q j (block_of h w i) (s i))
  unfolding meets_with
  meets_some j E =
      let (i, u, y, p, q) = (extension_cut D h (only j Q) w s tall any_height E).special 0 (lit< tt) in
      (i, u, both_intro D (Q.pos (block_of h w i) (s i)) (Q.dis j (block_of h w i) (s i)) y p q)

  -- and where that is so, it extends
  only_extends : (j : ℕ) → LeafExtension any_height h (positives_only Q) w s
      → Below (2 ^ w) (λ i. meets_with D Q j (block_of h w i) (s i))
      → LeafExtension any_height h (only j Q) w s
  unfolding meets_with
  only_extends j E (i, u, t) = extension_glue D h (only j Q) w s tall any_height (room_any w 1) (record {
    plain = (extension_cut D h (positives_only Q) w s tall any_height E).plain;
    special = λ _ _. let (y, p, q) = both_found D (Q.pos (block_of h w i) (s i)) (Q.dis j (block_of h w i) (s i)) t in
        (i, u, y, p, q);
  })

  -- a solution that can have each disequation of the second system, one at a time, can have them all
  pub one_at_a_time : LeafExtension any_height h (positives_only Q) w s
      → ((j : ℕ) → j < Q.count → LeafExtension any_height h (only j Q) w s)
      → LeafExtension any_height h Q w s
  one_at_a_time E f = extension_glue D h Q w s tall any_height (room_any w Q.count) (record {
    plain = (extension_cut D h (positives_only Q) w s tall any_height E).plain;
    special = λ j l. (extension_cut D h (only j Q) w s tall any_height (f j l)).special 0 (lit< tt);
  })

-- ---- the solutions of the problems that the tests search

module _ {X Y : Type 0} (D : Picker Y) (h : ℕ) (P : Problem X) (Q : Second X Y) (w : ℕ) (s : ℕ → X) where
  -- a solution that leaves the positive clauses unmet at a leaf solves the first system, and cannot meet the second's
  -- positive clauses
  pub unmet_first : SolvesLeaves h (with_unmet D Q P) w s → SolvesLeaves h P w s
  unmet_first S = record {
    tall = S.tall;
    everywhere = S.everywhere;
    somewhere = λ j l. S.somewhere (suc j) (suc-le-suc l);
  }

  pub unmet_counter : SolvesLeaves h (with_unmet D Q P) w s → ¬ LeafExtension any_height h (positives_only Q) w s
  unmet_counter S E =
      let (i, u, v) = S.somewhere zero (suc-le-suc zero-le) in
      T_not (meets D Q (block_of h w i) (s i)) v ((meets_all D h Q w s S.tall).0 E i u)

  -- a solution that misses disequation j solves the first system, and cannot have j beside the second's positive
  -- clauses
  pub missed_first : (j : ℕ) → SolvesLeaves h (with_missed D Q P j) w s → SolvesLeaves h P w s
  missed_first j S = record {
    tall = S.tall;
    everywhere = λ i l. and_left (P.pos (block_of h w i) (s i)) _ (S.everywhere i l);
    somewhere = S.somewhere;
  }

  pub missed_counter : (j : ℕ) → SolvesLeaves h (with_missed D Q P j) w s → ¬ LeafExtension any_height h (only j Q) w s
  missed_counter j S E =
      let (i, u, v) = meets_some D h Q w s S.tall j E in
      T_not (meets_with D Q j (block_of h w i) (s i)) (and_right (P.pos (block_of h w i) (s i)) _ (S.everywhere i u)) v

  missed_intro : (j : ℕ) → SolvesLeaves h P w s
      → ((i : ℕ) → i < 2 ^ w → T (not (meets_with D Q j (block_of h w i) (s i))))
      → SolvesLeaves h (with_missed D Q P j) w s
  missed_intro j S f = record {
    tall = S.tall;
    everywhere = λ i l. and_intro (P.pos (block_of h w i) (s i)) _ (S.everywhere i l) (f i l);
    somewhere = S.somewhere;
  }

-- ---- what the tests say of the solutions whose height is among A

module _ {X Y : Type 0} (C : Picker X) (D : Picker Y) (h : ℕ) (P : Problem X) (Q : Second X Y) where
  -- where the first system is solvable and some leaf can be unmet, the two together are a solvable problem
  pub unmet_solvable : T (solvable C h P) → T (can_be_unmet C D h P Q) → T (solvable C h (with_unmet D Q P))
  unfolding can_be_unmet
  unmet_solvable t u = solvable_intro C h (with_unmet D Q P) (record { plain = L.plain; special = go })
    where
      L : Leafwise h P
      L = cut h P _ _ (fixed_solves C h P t P.count (le_pow P.count))

      go : (j : ℕ) → j < suc P.count → (b : ℕ) × (b < 2 ^ h) × (x : X) × T (P.pos b x)
          × T ((with_unmet D Q P).dis j b x)
      go (suc j) m = L.special j (le_of_suc-le-suc m)
      go zero m =
          let (b, l, v) = some_found (2 ^ h) (λ b. some_choice C (λ x. P.pos b x && not (meets D Q b x))) u in
          let (x, p, q) = both_found C (P.pos b) (λ x. not (meets D Q b x)) v in
          (b, l, x, p, q)

  module _ (A : ℕ → Type 0) where
    -- a solution of a problem that asks at least as much as the first system
    weaker : (R : Problem X) → ((w : ℕ) (s : ℕ → X) → SolvesLeaves h R w s → SolvesLeaves h P w s) → LeafSolution A h R
        → LeafSolution A h P
    weaker R f S = record {
      height = S.height;
      allowed = S.allowed;
      leaves = S.leaves;
      solves =
          f S.height S.leaves S.solves;
    }

    -- some leaf can be unmet: a solution cannot meet the positive clauses, if there is room for one sub-leaf more than
    -- disequations
    pub can_be_unmet_lem : Room A h (suc P.count) → T (solvable C h P) → T (can_be_unmet C D h P Q)
        → LeafCounterexample A h P (positives_only Q)
    unfolding weaker
    can_be_unmet_lem r t u =
        let S = solution_glued C h (with_unmet D Q P) A r (unmet_solvable t u) in
        (weaker (with_unmet D Q P) (unmet_first D h P Q) S, unmet_counter D h P Q S.height S.leaves S.solves)

    -- disequation j can be missed: a solution cannot have it
    pub can_be_missed_lem : Room A h P.count → (j : ℕ) → T (can_be_missed C D h P Q j)
        → LeafCounterexample A h P (only j Q)
    unfolding can_be_missed weaker
    can_be_missed_lem r j t =
        let S = solution_glued C h (with_missed D Q P j) A r t in (
          weaker (with_missed D Q P j) (λ w s. missed_first D h P Q w s j) S,
          missed_counter D h P Q S.height S.leaves j S.solves,
        )

    -- no leaf can be unmet: every solution can meet the positive clauses
    pub always_met : T (not (can_be_unmet C D h P Q)) → EntailsLeaves A h P (positives_only Q)
    unfolding can_be_unmet
    always_met t S = go (every_or (2 ^ S.height) (λ i. meets D Q (block_of h S.height i) (S.leaves i)))
      where
        go : ((i : ℕ) → i < 2 ^ S.height → T (meets D Q (block_of h S.height i) (S.leaves i)))
            ⊎ Below (2 ^ S.height) (λ i. not (meets D Q (block_of h S.height i) (S.leaves i)))
            → LeafExtension any_height h (positives_only Q) S.height S.leaves
        go (inl f) = (meets_all D h Q S.height S.leaves S.solves.tall).1 f
        go (inr (i, u, v)) =
            let b = block_of h S.height i in
            absurd (T_not (can_be_unmet C D h P Q) t
            (some_intro (2 ^ h) _ b (block_lt S.solves.tall u)
            (both_intro C (P.pos b) (λ x. not (meets D Q b x)) (S.leaves i) (S.solves.everywhere i u) v)))

    -- disequation j cannot be missed: every solution that can meet the positive clauses can have it beside them
    pub never_missed : (j : ℕ) → T (not (can_be_missed C D h P Q j)) → EntailsLeaves A h P (positives_only Q)
        → EntailsLeaves A h P (only j Q)
    unfolding can_be_missed
    never_missed j t E S = go (some_or (2 ^ S.height) (λ i. meets_with D Q j (block_of h S.height i) (S.leaves i)))
      where
        go : Below (2 ^ S.height) (λ i. meets_with D Q j (block_of h S.height i) (S.leaves i))
            ⊎ ((i : ℕ) → i < 2 ^ S.height → T (not (meets_with D Q j (block_of h S.height i) (S.leaves i))))
            → LeafExtension any_height h (only j Q) S.height S.leaves
        go (inl m) = only_extends D h Q S.height S.leaves S.solves.tall j (E S) m
        go (inr f) =
            absurd (T_not (can_be_missed C D h P Q j) t
            (cut_solvable C h (with_missed D Q P j) S.height S.leaves
            (missed_intro D h P Q S.height S.leaves j S.solves f)))
