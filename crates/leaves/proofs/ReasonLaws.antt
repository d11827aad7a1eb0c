-- The words for reasons 2 and 3 are the plain words of a problem with one disequation more, and with one test more.
-- Assumes nothing.
use Rattle.std.specs.Prelude.{◌≡◌, refl, ◌↔◌, Bool, true, false, not, ◌&&◌, ℕ, zero, suc, ◌+◌, ◌-◌, ◌*◌, ◌^◌, ◌≤◌, ◌<◌}
use Rattle.std.specs.Prelude.{T, eqb}
use Rattle.std.proofs.Common.{sym, subst, suc-le-suc, zero-le, le_of_suc-le-suc, not-suc-le-zero, add-zero, arith}
use Rattle.std.proofs.Common.{T_not, eqb→eq, pow_pos}
use Rattle.std.proofs.Math.Decide.{dec_le}
use Rattle.std.proofs.Math.Dec.{not_T, eqb_refl}
use Rattle.shares.specs.Test.{and_intro, and_left, and_right}
use Rattle.shares.specs.Below.{one}
use Rattle.leaves.specs.Choices.{Picker, some_choice, Row}
use Rattle.leaves.specs.ChoiceLaws.{choice_intro, choice_found}
use Rattle.leaves.specs.Problem.{Problem}
use Rattle.leaves.specs.Second.{Second, meets, meets_with}
use Rattle.leaves.specs.Fixed.{with_unmet, with_missed}
use Rattle.leaves.specs.FixedWords.{Leftmost, Least, Positive, Counts, Unmet, one_before, Together}
use Rattle.leaves.specs.FixedWords.{Words, PlainWords, UnmetWords, MissedWords}
use Rattle.leaves.proofs.FixedLaws.{and_iff, leftmost_same, least_same}

-- no own choice passes
none_passes : {Y : Type 0} (D : Picker Y) (p : Y → Bool) → T (not (some_choice D p)) ↔ ((y : Y) → ¬ T (p y))
none_passes D p = (
  λ t y u. T_not (some_choice D p) t (choice_intro D p y u),
  λ f. not_T (some_choice D p) (λ u. f (D.pick p) (choice_found D p u)),
)

-- ---- one sub-leaf stands before the disequations of leaf a

module _ (a b r : ℕ) where
  -- so no disequation of it stands first
  before_iff : one_before a b ≤ r ↔ (a ≡ b → 0 < r)
  before_iff = (
    λ l e. here (eqb a b) (subst (λ x. T (eqb a x)) e (eqb_refl a)) l,
    λ f. there (eqb a b) (eqb→eq a b) f,
  )
    where
      here : (v : Bool) → T v → one v ≤ r → 0 < r
      here true t l = l
      here false t l = absurd t

      there : (v : Bool) → (T v → a ≡ b) → (a ≡ b → 0 < r) → one v ≤ r
      there true g f = f (g tt)
      there false g f = zero-le

  before_not : ¬ (one_before a b ≤ r) → (a ≡ b) × (r ≡ 0)
  before_not = go (eqb a b) (eqb→eq a b)
    where
      go : (v : Bool) → (T v → a ≡ b) → ¬ (one v ≤ r) → (a ≡ b) × (r ≡ 0)
      go true g m = (g tt, omega arith)
      go false g m = absurd (m zero-le)

-- something first, and then the others
abbrev and_then : ℕ → (ℕ → ℕ) → ℕ → ℕ
and_then a f zero = a
and_then a f (suc j) = f j

-- ---- the same choices count

module _ {n : ℕ} (h : ℕ) (P : Problem (Row Bool n)) (W : ℕ) (s : ℕ → Row Bool n) where
  words_same : (pos : ℕ → Row Bool n → Bool) {M N : ℕ → Row Bool n → Type 0} {before : ℕ → ℕ}
      → ((b : ℕ) (x : Row Bool n) → M b x ↔ N b x) → Words h P W s M before
      → Words h (record { pos = pos; count = P.count; dis = P.dis }) W s N before
  words_same pos {M} {N} e A = record {
    leaf = A.leaf;
    rank = A.rank;
    room = A.room;
    leftmost = λ j l. leftmost_same (together j) (A.leftmost j l);
    in_order = A.in_order;
    behind = A.behind;
    from_left = A.from_left;
    carries = λ j l. least_same (together j (A.leaf j)) (A.carries j l);
    idle = λ b r l k m none. least_same (e b) (A.idle b r l k m none);
  }
    where
      together : (j b : ℕ) (x : Row Bool n) → Together P M j b x ↔ Together P N j b x
      together j b x = (λ (c, d). ((e b x).0 c, d), λ (c, d). ((e b x).1 c, d))

module _ {n : ℕ} {Y : Type 0} (D : Picker Y) (h : ℕ) (P : Problem (Row Bool n)) (Q : Second (Row Bool n) Y) where
  -- ---- reason 2

  -- the one disequation more says: the second system's positive clauses are left unmet
  pub unmet_means : (b : ℕ) (x : Row Bool n) → Together (with_unmet D Q P) (Positive P) 0 b x ↔ Unmet P Q b x
  unfolding meets
  unmet_means b x =
      let N = none_passes D (Q.pos b x) in
      (λ (p, t). (p, N.0 t), λ (p, f). (p, N.1 f))

  module _ (W : ℕ) (s : ℕ → Row Bool n) where
    -- it stands first in its leaf
    pub unmet_before : (A : PlainWords h (with_unmet D Q P) W s) → A.rank 0 ≡ 0
    unmet_before A = go (A.rank 0) (A.from_left 0 0 (suc-le-suc zero-le) zero-le)
      where
        go : (r : ℕ) → (0 < r → (i : ℕ) × (i < 0) × (A.leaf i ≡ A.leaf 0) × (A.rank i ≡ 0)) → r ≡ 0
        go zero f = refl
        go (suc r) f = absurd (not-suc-le-zero (f (suc-le-suc zero-le)).1)

    -- the others stand behind it
    module _ (A : PlainWords h (with_unmet D Q P) W s) where
      others_left : (j r : ℕ) → one_before (A.leaf 0) (A.leaf (suc j)) ≤ r
          → (i : ℕ) × (i < suc j) × (A.leaf i ≡ A.leaf (suc j)) × (A.rank i ≡ r)
          → (i : ℕ) × (i < j) × (A.leaf (suc i) ≡ A.leaf (suc j)) × (A.rank (suc i) ≡ r)
      others_left j r m (zero, l, e, f) =
          absurd (omega (arith, (before_iff (A.leaf 0) (A.leaf (suc j)) r).0 m e, unmet_before A))
      others_left j r m (suc i, l, e, f) = (i, le_of_suc-le-suc l, e, f)

      none_there : (b r : ℕ) → one_before (A.leaf 0) b ≤ r
          → ((j : ℕ) → j < P.count → A.leaf (suc j) ≡ b → ¬ (A.rank (suc j) ≡ r))
          → (j : ℕ) → j < suc P.count → A.leaf j ≡ b → ¬ (A.rank j ≡ r)
      none_there b r m none zero l e f = omega (arith, (before_iff (A.leaf 0) b r).0 m e, unmet_before A)
      none_there b r m none (suc j) l e f = none j (le_of_suc-le-suc l) e f

      others : Words h P W s (Positive P) (one_before (A.leaf 0))
      others = record {
        leaf = λ j. A.leaf (suc j);
        rank = λ j. A.rank (suc j);
        room = λ j l. A.room (suc j) (suc-le-suc l);
        leftmost = λ j l. A.leftmost (suc j) (suc-le-suc l);
        in_order = λ i j l m e. A.in_order (suc i) (suc j) (suc-le-suc l) (suc-le-suc m) e;
        behind = λ j l. (before_iff (A.leaf 0) (A.leaf (suc j)) (A.rank (suc j))).1 (λ e.
            omega (arith, A.in_order 0 (suc j) (suc-le-suc zero-le) (suc-le-suc l) e));
        from_left = λ j r l m u. others_left j r m (A.from_left (suc j) r (suc-le-suc l) zero-le u);
        carries = λ j l. A.carries (suc j) (suc-le-suc l);
        idle = λ b r l m u none. A.idle b r l zero-le u (none_there b r m none);
      }

    module _ (U : UnmetWords h P W s Q) where
      abbrev its_leaf : ℕ → ℕ
      its_leaf = and_then U.leaf U.others.leaf

      abbrev its_rank : ℕ → ℕ
      its_rank = and_then 0 U.others.rank

      its_room : (j : ℕ) → j < suc P.count → its_rank j < 2 ^ (W - h)
      its_room zero l = pow_pos (W - h)
      its_room (suc j) l = U.others.room j (le_of_suc-le-suc l)

      its_leftmost : (j : ℕ) → j < suc P.count → Leftmost h (Together (with_unmet D Q P) (Positive P) j) (its_leaf j)
      its_leftmost zero l = leftmost_same (λ b x. ((unmet_means b x).1, (unmet_means b x).0)) U.leftmost
      its_leftmost (suc j) l = U.others.leftmost j (le_of_suc-le-suc l)

      its_order : (i j : ℕ) → i < j → j < suc P.count → its_leaf i ≡ its_leaf j → its_rank i < its_rank j
      its_order i zero l m e = absurd (not-suc-le-zero l)
      its_order zero (suc j) l m e =
          (before_iff U.leaf (U.others.leaf j) (U.others.rank j)).0 (U.others.behind j (le_of_suc-le-suc m)) e
      its_order (suc i) (suc j) l m e = U.others.in_order i j (le_of_suc-le-suc l) (le_of_suc-le-suc m) e

      its_left : (j r : ℕ) → j < suc P.count → r < its_rank j
          → (i : ℕ) × (i < j) × (its_leaf i ≡ its_leaf j) × (its_rank i ≡ r)
      its_left zero r l m = absurd (not-suc-le-zero m)
      its_left (suc j) r l m = go (dec_le (one_before U.leaf (U.others.leaf j)) r)
        where
          go : Dec (one_before U.leaf (U.others.leaf j) ≤ r)
              → (i : ℕ) × (i < suc j) × (its_leaf i ≡ U.others.leaf j) × (its_rank i ≡ r)
          go (yes k) =
              let (i, u, e, f) = U.others.from_left j r (le_of_suc-le-suc l) k m in (suc i, suc-le-suc u, e, f)
          go (no k) = let (e, f) = before_not U.leaf (U.others.leaf j) r k in (zero, suc-le-suc zero-le, e, sym f)

      its_carried : (j : ℕ) → j < suc P.count
          → Least (Together (with_unmet D Q P) (Positive P) j (its_leaf j)) (s (its_leaf j * 2 ^ (W - h) + its_rank j))
      its_carried zero l =
          rw add-zero (least_same (λ x. ((unmet_means U.leaf x).1, (unmet_means U.leaf x).0)) U.carries)
      its_carried (suc j) l = U.others.carries j (le_of_suc-le-suc l)

      its_idle : (b r : ℕ) → b < 2 ^ h → r < 2 ^ (W - h)
          → ((j : ℕ) → j < suc P.count → its_leaf j ≡ b → ¬ (its_rank j ≡ r))
          → Least (Positive P b) (s (b * 2 ^ (W - h) + r))
      its_idle b r l m none = go (dec_le (one_before U.leaf b) r)
        where
          go : Dec (one_before U.leaf b ≤ r) → Least (Positive P b) (s (b * 2 ^ (W - h) + r))
          go (yes k) = U.others.idle b r l k m (λ j u. none (suc j) (suc-le-suc u))
          go (no k) = let (e, f) = before_not U.leaf b r k in absurd (none 0 (suc-le-suc zero-le) e (sym f))

    -- the words for reason 2 are those of one disequation more, before the others
    pub unmet_words : UnmetWords h P W s Q ↔ PlainWords h (with_unmet D Q P) W s
    unmet_words = (
      λ U. record {
        leaf = its_leaf U;
        rank = its_rank U;
        room = its_room U;
        leftmost = its_leftmost U;
        in_order = its_order U;
        behind = λ j l. zero-le;
        from_left = λ j r l _ m. its_left U j r l m;
        carries = its_carried U;
        idle = λ b r l _ m none. its_idle U b r l m none;
      },
      λ A. record {
        leaf = A.leaf 0;
        leftmost = leftmost_same unmet_means (A.leftmost 0 (suc-le-suc zero-le));
        carries = least_same (unmet_means (A.leaf 0))
            (rw (unmet_before A, add-zero) at (A.carries 0 (suc-le-suc zero-le)));
        others = others A;
      },
    )

  -- ---- reason 3

  -- the one test more says: beside the choice no own values meet the second's positive clauses and disequation j
  pub missed_means : (j b : ℕ) (x : Row Bool n) → T ((with_missed D Q P j).pos b x) ↔ Counts P Q j b x
  unfolding meets_with
  missed_means j b x =
      let N = none_passes D (λ y. Q.pos b x y && Q.dis j b x y) in (
        λ t. (
          and_left (P.pos b x) _ t,
          λ y (p, d). N.0 (and_right (P.pos b x) _ t) y (and_intro (Q.pos b x y) _ p d),
        ),
        λ (p, f). and_intro (P.pos b x) _ p (N.1 (λ y t. f y ((and_iff (Q.pos b x y) _).0 t))),
      )

  -- the words for reason 3 are those of one test more, of the positive clauses
  pub missed_words : (W : ℕ) (s : ℕ → Row Bool n) (j : ℕ)
      → MissedWords h P W s Q j ↔ PlainWords h (with_missed D Q P j) W s
  missed_words W s j = (
    words_same h P W s (with_missed D Q P j).pos (λ b x. ((missed_means j b x).1, (missed_means j b x).0)),
    words_same h (with_missed D Q P j) W s P.pos (missed_means j),
  )
