-- The words hold of the fixed solution, and they leave nothing undecided: choices of which they hold are the same.
-- Assumes nothing.
use Rattle.std.specs.Prelude.{◌≡◌, refl, ◌⊎◌, ◌↔◌, Bool, true, false, not, ◌&&◌, ℕ, zero, suc, ◌+◌, ◌-◌, ◌*◌, ◌/◌, ◌%◌}
use Rattle.std.specs.Prelude.{◌^◌, ◌≤◌, ◌<◌, T, ltb}
use Rattle.std.proofs.Common.{sym, ◌∙◌, subst, inl, inr, true≢false, suc-le-suc, zero-le, le_of_suc-le-suc}
use Rattle.std.proofs.Common.{not-suc-le-zero, mod-lt, arith, ltb→lt, lt→ltb, pow_pos}
use Rattle.std.proofs.Math.Path.{ap}
use Rattle.std.specs.Bool.{beq}
use Rattle.std.proofs.Math.Decide.{dec_lt}
use Rattle.std.proofs.Math.Dec.{T_not, not_T, eqb, eqb→eq, eqb_refl}
use Rattle.std.proofs.Math.Pow.{high, low, split}
use Rattle.shares.specs.Test.{beq_iff, holds, and_intro, and_left, and_right, cond_passed, cond_failed}
use Rattle.shares.specs.Below.{count_below, one}
use Rattle.shares.specs.BelowLaws.{Below, some_or, first_least}
use Rattle.shares.specs.Blocks.{block_of}
use Rattle.shares.specs.BlockLaws.{block_lt}
use Rattle.leaves.specs.Choices.{some_choice, Row, nil, cons, at, pick_row, least}
use Rattle.leaves.specs.ChoiceLaws.{both_intro, both_found, row_path}
use Rattle.leaves.specs.Problem.{Problem, plain_at, special_at, solvable}
use Rattle.leaves.specs.Fixed.{leaf_of, rank_of, held_at, carried_at, fixed_at}
use Rattle.leaves.specs.FixedWords.{Leftmost, Less, Least, Positive, none_before, Together, Words, PlainWords}
use Rattle.leaves.proofs.ProblemLaws.{plain_passes, leaf_passes, held_there, ranks_in_order, at_rank, rank_lt}

pub and_iff : (a b : Bool) → T (a && b) ↔ (T a × T b)
and_iff a b = (λ t. (and_left a b t, and_right a b t), λ (s, t). and_intro a b s t)

-- ---- one leftmost leaf at most, and one least choice

leftmost_one : {n h : ℕ} {M : ℕ → Row Bool n → Type 0} {a b : ℕ} → Leftmost h M a → Leftmost h M b → a ≡ b
leftmost_one {a = a} {b = b} A B = go (dec_lt a b) (dec_lt b a)
  where
    go : Dec (a < b) → Dec (b < a) → a ≡ b
    go (yes l) m = absurd (B.none_left a l A.found.0 A.found.1)
    go (no l) (yes m) = absurd (A.none_left b m B.found.0 B.found.1)
    go (no l) (no m) = omega arith

-- not both of two choices are less than the other
less_once : {n : ℕ} {x y : Row Bool n} → Less x y → Less y x → ⊥
less_once {x = x} {y = y} L M = go (dec_lt L.variable M.variable) (dec_lt M.variable L.variable)
  where
    go : Dec (L.variable < M.variable) → Dec (M.variable < L.variable) → ⊥
    go (yes l) m = true≢false (sym L.full ∙ M.same L.variable l ∙ L.empty)
    go (no l) (yes m) = true≢false (sym M.full ∙ L.same M.variable m ∙ M.empty)
    go (no l) (no m) = let e : L.variable ≡ M.variable =
        omega arith in true≢false (sym L.full ∙ ap (at false y) e ∙ M.empty)

least_one : {n : ℕ} {M : Row Bool n → Type 0} {x y : Row Bool n} → Least M x → Least M y → x ≡ y
least_one {n} {x = x} {y = y} X Y =
    row_path false n x y (λ v _. (beq_iff (at false x v) (at false y v)).0
    (holds (beq (at false x v) (at false y v)) (λ t. differ (apart v t))))
  where
    apart : (v : ℕ) → T (not (beq (at false x v) (at false y v))) → ¬ (x ≡ y)
    apart v t e = T_not (beq (at false x v) (at false y v)) t
        ((beq_iff (at false x v) (at false y v)).1 (ap (λ r. at false r v) e))

    differ : ¬ (x ≡ y) → ⊥
    differ ne = less_once (X.least y Y.passes (λ e. ne (sym e))) (Y.least x X.passes ne)

-- said in other words
pub leftmost_same : {n h : ℕ} {M N : ℕ → Row Bool n → Type 0} {b : ℕ} → ((a : ℕ) (x : Row Bool n) → M a x ↔ N a x)
    → Leftmost h M b → Leftmost h N b
leftmost_same {b = b} e L = record {
  within = L.within;
  found = (L.found.0, (e b L.found.0).0 L.found.1);
  none_left = λ a l x u. L.none_left a l x ((e a x).1 u);
}

pub least_same : {n : ℕ} {M N : Row Bool n → Type 0} {x : Row Bool n} → ((y : Row Bool n) → M y ↔ N y)
    → Least M x → Least N x
least_same {x = x} e L = record { passes = (e x).0 L.passes; least = λ y t. L.least y ((e y).1 t) }

-- ---- what is picked is the least

less_first : {n : ℕ} (x y : Row Bool n) → Less (cons false x) (cons true y)
unfolding at
less_first x y = record {
  variable = 0;
  within = suc-le-suc zero-le;
  same = λ v l. absurd (not-suc-le-zero l);
  empty =
      refl;
  full = refl;
}

less_cons : {n : ℕ} (b : Bool) {x y : Row Bool n} → Less x y → Less (cons b x) (cons b y)
unfolding at
less_cons b {x} {y} L = record {
  variable = suc L.variable;
  within = suc-le-suc L.within;
  same = same;
  empty =
      L.empty;
  full = L.full;
}
  where
    same : (v : ℕ) → v < suc L.variable → at false (cons b x) v ≡ at false (cons b y) v
    same zero l = refl
    same (suc v) l = L.same v (le_of_suc-le-suc l)

picked_less : (n : ℕ) (p : Row Bool n → Bool) (y : Row Bool n) → T (p y) → ¬ (y ≡ (least n).pick p)
    → Less ((least n).pick p) y
unfolding pick_row
picked_less zero p nil t ne = absurd (ne refl)
picked_less (suc n) p (cons b y) t ne =
    go (p (cons false (rest false))) refl b t ne (λ x. picked_less n (λ w. p (cons x w)) y)
  where
    rest : Bool → Row Bool n
    rest x = (least n).pick (λ w. p (cons x w))

    go : (c : Bool) → p (cons false (rest false)) ≡ c → (b : Bool) → T (p (cons b y))
        → ¬ (cons b y ≡ cons (not c) (rest (not c)))
        → ((x : Bool) → T (p (cons x y)) → ¬ (y ≡ rest x) → Less (rest x) y)
        → Less (cons (not c) (rest (not c))) (cons b y)
    go true e true u ne ih = less_first (rest false) y
    go true e false u ne ih = less_cons false (ih false u (λ e. ne (ap (cons false) e)))
    go false e true u ne ih = less_cons true (ih true u (λ e. ne (ap (cons true) e)))
    go false e false u ne ih = absurd (rw e at ((least n).picked (λ w. p (cons false w)) y u))

pub least_picked : (n : ℕ) (p : Row Bool n → Bool) (y : Row Bool n) → T (p y) → Least (λ x. T (p x)) ((least n).pick p)
least_picked n p y t = record { passes = (least n).picked p y t; least = picked_less n p }

-- ---- the words hold of the fixed solution

-- of the numbers that pass, so many stand before each: 0, 1, ..
count_reaches : (n : ℕ) (p : ℕ → Bool) (r : ℕ) → r < count_below n p → (i : ℕ) × (i < n) × T (p i)
    × (count_below i p ≡ r)
unfolding count_below
count_reaches zero p r l = absurd (not-suc-le-zero l)
count_reaches (suc n) p r l = go (dec_lt r (count_below n p)) (count_reaches n p r)
  where
    last : (b : Bool) → ¬ (r < count_below n p) → r < count_below n p + one b → T b × (count_below n p ≡ r)
    last true m u = (tt, omega arith)
    last false m u = absurd (omega arith)

    go : Dec (r < count_below n p) → (r < count_below n p → (i : ℕ) × (i < n) × T (p i) × (count_below i p ≡ r))
        → (i : ℕ) × (i < suc n) × T (p i) × (count_below i p ≡ r)
    go (yes m) ih = let (i, u, t, e) = ih m in (i, omega arith, t, e)
    go (no m) ih = let (t, e) = last (p n) m l in (n, omega arith, t, e)

module _ {n : ℕ} (h : ℕ) (P : Problem (Row Bool n)) where
  abbrev its_leaf : ℕ → ℕ
  its_leaf = leaf_of (least n) h P

  abbrev its_rank : ℕ → ℕ
  its_rank = rank_of (least n) h P

  rank_left : (j r : ℕ) → r < its_rank j → (i : ℕ) × (i < j) × (its_leaf i ≡ its_leaf j) × (its_rank i ≡ r)
  unfolding rank_of
  rank_left j r l =
      let (i, m, v, e) = count_reaches j (λ i. eqb (its_leaf i) (its_leaf j)) r l in
      let s : its_leaf i ≡ its_leaf j = eqb→eq (its_leaf i) (its_leaf j) v in
      (i, m, s, ap (λ b. count_below i (λ k. eqb (its_leaf k) b)) s ∙ e)

  -- a sub-leaf that holds no disequation
  holds_none : (b r : ℕ) → ((j : ℕ) → j < P.count → its_leaf j ≡ b → ¬ (its_rank j ≡ r))
      → T (not (ltb (held_at (least n) h P b r) P.count))
  holds_none b r none = not_T (ltb (held_at (least n) h P b r) P.count) (λ u.
      let l = ltb→lt (held_at (least n) h P b r) P.count u in
      let (e, f) = held_there (least n) h P b r l in
      none (held_at (least n) h P b r) l e f)

  fixed_at_lem : (W b r : ℕ) → r < 2 ^ (W - h) → fixed_at (least n) h P W (b * 2 ^ (W - h) + r)
      ≡ carried_at (least n) h P b r
  unfolding fixed_at
  fixed_at_lem W b r l = rw (high b (W - h) l, low b (W - h) l)

  module _ (t : T (solvable (least n) h P)) where
    leaf_leftmost : (j : ℕ) → j < P.count → Leftmost h (Together P (Positive P) j) (its_leaf j)
    unfolding leaf_of special_at
    leaf_leftmost j l =
        let (within, u) = leaf_passes (least n) h P t j l in
        let (x, p, d) = both_found (least n) (P.pos (its_leaf j)) (P.dis j (its_leaf j)) u in
        record {
          within = within;
          found = (x, (p, d));
          none_left = λ a m x (p, d). T_not (special_at (least n) P j a)
              (first_least (2 ^ h) (special_at (least n) P j) a m)
              (both_intro (least n) (P.pos a) (P.dis j a) x p d);
        }

    pub fixed_words : (W : ℕ) → P.count ≤ 2 ^ (W - h) → PlainWords h P W (fixed_at (least n) h P W)
    unfolding carried_at plain_at some_choice
    fixed_words W enough = record {
      leaf = its_leaf;
      rank = its_rank;
      leftmost = leaf_leftmost;
      room = λ j l. rank_lt (least n) h P (W - h) j enough l;
      in_order = λ i j l _ e. ranks_in_order (least n) h P i j l e;
      behind = λ j _. zero-le;
      from_left = λ j r _ _ l. rank_left j r l;
      carries = λ j l.
          let b = its_leaf j in
          let (x, (p, d)) = (leaf_leftmost j l).found in
          rw (
            fixed_at_lem W b (its_rank j) (rank_lt (least n) h P (W - h) j enough l),
            at_rank (least n) h P j l,
            cond_passed (ltb j P.count) _ _ (lt→ltb j P.count l),
          )
          (least_same (λ y. and_iff (P.pos b y) (P.dis j b y)) (least_picked n _ x (and_intro (P.pos b x) _ p d)));
      idle = λ b r l _ m none.
          rw (fixed_at_lem W b r m, cond_failed (ltb (held_at (least n) h P b r) P.count) _ _ (holds_none b r none))
          (least_picked n (P.pos b) _ (plain_passes (least n) h P t b l));
    }

-- ---- they say that every sub-leaf carries a choice that counts, and leave nothing undecided

module _ {n : ℕ} (h : ℕ) (P : Problem (Row Bool n)) (W : ℕ) (counts : ℕ → Row Bool n → Type 0) where
  -- sub-leaf r of leaf b holds some disequation, or none
  abbrev Held : {s : ℕ → Row Bool n} → Words h P W s counts none_before → ℕ → ℕ → Type 0
  Held A b r = (j : ℕ) × (j < P.count) × (A.leaf j ≡ b) × (A.rank j ≡ r)

  abbrev Idle : {s : ℕ → Row Bool n} → Words h P W s counts none_before → ℕ → ℕ → Type 0
  Idle A b r = (j : ℕ) → j < P.count → A.leaf j ≡ b → ¬ (A.rank j ≡ r)

  holds_or : {s : ℕ → Row Bool n} (A : Words h P W s counts none_before) (b r : ℕ) → Held A b r ⊎ Idle A b r
  holds_or A b r = go (some_or P.count p)
    where
      p : ℕ → Bool
      p j = eqb (A.leaf j) b && eqb (A.rank j) r

      go : Below P.count p ⊎ ((j : ℕ) → j < P.count → T (not (p j))) → Held A b r ⊎ Idle A b r
      go (inl (j, l, v)) = inl (
        j,
        l,
        eqb→eq (A.leaf j) b (and_left (eqb (A.leaf j) b) _ v),
        eqb→eq (A.rank j) r (and_right (eqb (A.leaf j) b) _ v),
      )
      go (inr none) = inr (λ j l e f.
          T_not (p j) (none j l) (and_intro (eqb (A.leaf j) b) _ (rw e (eqb_refl b)) (rw f (eqb_refl r))))

  pub words_count : {s : ℕ → Row Bool n} → Words h P W s counts none_before → h ≤ W → (i : ℕ) → i < 2 ^ W
      → counts (block_of h W i) (s i)
  words_count {s} A tall i l = subst (λ k. counts b (s k)) (split i (W - h)) (go (holds_or A b r))
    where
      b : ℕ
      b = i / 2 ^ (W - h)

      r : ℕ
      r = i % 2 ^ (W - h)

      go : Held A b r ⊎ Idle A b r → counts b (s (b * 2 ^ (W - h) + r))
      go (inl (j, k, e, f)) = (rw (e, f) at (A.carries j k).passes).0
      go (inr none) = (A.idle b r (block_lt tall l) zero-le (mod-lt i (pow_pos (W - h))) none).passes

  module _ {s t : ℕ → Row Bool n} (A : Words h P W s counts none_before) (B : Words h P W t counts none_before) where
    leaf_one : (j : ℕ) → j < P.count → A.leaf j ≡ B.leaf j
    leaf_one j l = leftmost_one (A.leftmost j l) (B.leftmost j l)

    -- a disequation does not stand further left, where those before it stand at the same places
    rank_least : (j : ℕ) → j < P.count → ((i : ℕ) → i < j → A.rank i ≡ B.rank i) → ¬ (A.rank j < B.rank j)
    rank_least j l ih m =
        let (i, k, e, f) = B.from_left j (A.rank j) l zero-le m in
        omega (arith, A.in_order i j k l (leaf_one i (omega arith) ∙ e ∙ sym (leaf_one j l)), ih i k)

  module _ {s t : ℕ → Row Bool n} (A : Words h P W s counts none_before) (B : Words h P W t counts none_before) where
    ranks_below : (k j : ℕ) → j < k → j < P.count → A.rank j ≡ B.rank j
    ranks_below zero j m l = absurd (not-suc-le-zero m)
    ranks_below (suc k) j m l =
        let ih : (i : ℕ) → i < j → A.rank i ≡ B.rank i = λ i u. ranks_below k i (omega arith) (omega arith) in
        omega (arith, rank_least A B j l ih, rank_least B A j l (λ i u. sym (ih i u)))

    rank_one : (j : ℕ) → j < P.count → A.rank j ≡ B.rank j
    rank_one j l = ranks_below (suc j) j (omega arith) l

    choice_one : (b r : ℕ) → b < 2 ^ h → r < 2 ^ (W - h) → s (b * 2 ^ (W - h) + r) ≡ t (b * 2 ^ (W - h) + r)
    choice_one b r l m = go (holds_or A b r)
      where
        go : Held A b r ⊎ Idle A b r → s (b * 2 ^ (W - h) + r) ≡ t (b * 2 ^ (W - h) + r)
        go (inl (j, k, e, f)) =
            least_one {M = Together P counts j b} (rw (e, f) at (A.carries j k))
            (rw (← (leaf_one A B j k), ← (rank_one j k), e, f) at (B.carries j k))
        go (inr none) =
            least_one (A.idle b r l zero-le m none)
            (B.idle b r l zero-le m (λ j k e f. none j k (leaf_one A B j k ∙ e) (rank_one j k ∙ f)))

    pub words_one : h ≤ W → (i : ℕ) → i < 2 ^ W → s i ≡ t i
    words_one tall i l =
        subst (λ i. s i ≡ t i) (split i (W - h))
        (choice_one (i / 2 ^ (W - h)) (i % 2 ^ (W - h)) (block_lt tall l) (mod-lt i (pow_pos (W - h))))
