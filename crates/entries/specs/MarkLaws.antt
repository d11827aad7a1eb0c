-- Laws of marks. Assumes nothing.
use Rattle.std.specs.Prelude.{◌≡◌, refl, Bool, true, false, not, ◌&&◌, ◌||◌, List, ℕ, ◌+◌, ◌^◌, ◌≤◌, ◌<◌, T, eqb, ltb}
use Rattle.std.specs.Prelude.{length, get_or, set}
use Rattle.std.proofs.Common.{sym, ap, ◌∙◌, subst, arith, T_not, ltb→lt, get_or-set_same, get_or-set_other, eq-eqb}
use Rattle.std.proofs.Common.{ne_eqb, lt-ltb}
use Rattle.std.proofs.Math.Bool.{or-false, or-true, and-true, and-false}
use Rattle.std.proofs.Math.Decide.{ℕ_discrete}
use Rattle.std.specs.Int.Bits.{bit_and, bit_or, and_lt}
use Rattle.std.proofs.Math.Dec.{not_T}
use Rattle.shares.specs.Test.{is_true, is_false, of_true, of_false, and_intro, and_left, and_right, or_left, or_right}
use Rattle.shares.specs.BelowLaws.{some_intro, some_none, some_ext, first_some}
use Rattle.shares.specs.Constant.{bit}
use Rattle.shares.specs.BitLaws.{bit_zero, bit_of_and, bit_of_or}
use Rattle.words.specs.LowestLaws.{lowest_lt}
use Rattle.entries.specs.BitLaws.{bit_added}
use Rattle.entries.specs.Entry.{common, some, InAny, FullMark, Settling, Marked, MarkedAll, MarkedBut}

-- a word has a set bit exactly if it is not 0
pub some_zero : (x : ℕ) → x ≡ 0 → some x ≡ false
some_zero x e = some_none 64 (bit x) (λ i l. ap (λ y. bit y i) e ∙ bit_zero i)

pub some_set : (x : ℕ) → x < 2 ^ 64 → (x ≡ 0 → ⊥) → some x ≡ true
some_set x small n = is_true (some x) (first_some 64 (bit x) (lowest_lt x small n))

pub common_and : (a b : ℕ) → some (bit_and a b) ≡ common a b
unfolding common
common_and a b = some_ext 64 (bit (bit_and a b)) (λ k. bit a k && bit b k) (λ k l. bit_of_and a b k)

pub common_test : (a b : ℕ) → a < 2 ^ 64 → b < 2 ^ 64 → not (eqb (bit_and a b) 0) ≡ common a b
common_test a b ha hb = go (ℕ_discrete (bit_and a b) 0)
  where
    go : Dec (bit_and a b ≡ 0) → not (eqb (bit_and a b) 0) ≡ common a b
    go (yes e) = rw (eq-eqb (bit_and a b) 0 e) (sym (some_zero (bit_and a b) e) ∙ common_and a b)
    go (no n) = rw (ne_eqb (bit_and a b) 0 n) (sym (some_set (bit_and a b) (and_lt 64 a b ha hb) n) ∙ common_and a b)

-- with an empty word nothing is common
pub common_zero : (a b : ℕ) → b ≡ 0 → common a b ≡ false
unfolding common
common_zero a b e = some_none 64 (λ k. bit a k && bit b k) (λ k l. ap (λ y. bit a k && bit y k) e
    ∙ ap (◌&&◌ (bit a k)) (bit_zero k) ∙ and-false (bit a k))

-- where nothing of any of them is common, nothing of one of them is
pub common_none : (count any j : ℕ) (rows : List ℕ) → InAny count any rows → common any (get_or rows j 0) ≡ false
    → (i : ℕ) → i < count → common (get_or rows (32 + i) 0) (get_or rows j 0) ≡ false
unfolding common
common_none count any j rows A e i l = some_none 64 both (λ k m. is_false (both k) (not_T (both k) (none k m)))
  where
    both : ℕ → Bool
    both k = bit (get_or rows (32 + i) 0) k && bit (get_or rows j 0) k

    none : (k : ℕ) → k < 64 → T (both k) → ⊥
    none k m t =
        T_not (common any (get_or rows j 0)) (of_false e)
        (some_intro 64 (λ k. bit any k && bit (get_or rows j 0) k) k m
        (and_intro (bit any k) (bit (get_or rows j 0) k)
        (A i l k m (and_left (bit (get_or rows (32 + i) 0) k) (bit (get_or rows j 0) k) t))
        (and_right (bit (get_or rows (32 + i) 0) k) (bit (get_or rows j 0) k) t)))

-- one word more is among them
pub any_more : (i any y : ℕ) (rows : List ℕ) → 32 + i < length rows → InAny i any rows
    → InAny (i + 1) (bit_or any y) (set rows (32 + i) y)
any_more i any y rows room A j l k m t = subst T (sym (bit_of_or any y k)) (go (ℕ_discrete j i))
  where
    there : (x : ℕ) → get_or (set rows (32 + i) y) (32 + j) 0 ≡ x → T (bit x k)
    there x e = subst T (ap (λ z. bit z k) e) t

    go : Dec (j ≡ i) → T (bit any k || bit y k)
    go (yes e) = or_right (bit any k) (bit y k)
        (there y (ap (λ n. get_or (set rows (32 + i) y) (32 + n) 0) e ∙ get_or-set_same rows (32 + i) y 0 room))
    go (no n) = or_left (bit any k) (bit y k)
        (A j (omega arith) k m (there (get_or rows (32 + j) 0)
        (get_or-set_other rows (32 + i) (32 + j) y 0 (λ q. n (omega arith)))))

-- ---- one mark

module _ (j count wanted here : ℕ) (rows : List ℕ) where
  -- its word is empty
  pub marked_none : T (bit wanted j) → get_or rows j 0 ≡ 0 → Marked j count wanted here rows wanted here rows
  marked_none t e = record {
    there = rw (some_zero (get_or rows j 0) e) (sym (or-false (bit here j)));
    mark = λ i l. rw (common_zero (get_or rows (32 + i) 0) (get_or rows j 0) e)
        (sym (or-false (bit (get_or rows (64 + j) 0) i)));
    settled = λ z. absurd (T_not (bit wanted j) (of_false z) t);
    wanted_kept = λ k l n. refl;
    here_kept = λ k n. refl;
    rows_kept = λ k n. refl;
  }

  -- it is marked
  pub marked_more : (x wanted' : ℕ) → T (bit wanted j) → 64 + j < length rows → get_or rows j 0 < 2 ^ 64
      → (get_or rows j 0 ≡ 0 → ⊥)
      → ((i : ℕ) → i < count → bit x i
      ≡ (bit (get_or rows (64 + j) 0) i || common (get_or rows (32 + i) 0) (get_or rows j 0)))
      → Settling j count x wanted wanted'
      → Marked j count wanted here rows wanted' (bit_or here (2 ^ j)) (set rows (64 + j) x)
  marked_more x wanted' t room small n bits Q = record {
    there = set_here ∙ sym (ap (◌||◌ (bit here j)) (some_set (get_or rows j 0) small n) ∙ or-true (bit here j));
    mark = λ i l. rw (get_or-set_same rows (64 + j) x 0 room) (bits i l);
    settled = λ z. (set_here, λ i l. rw (get_or-set_same rows (64 + j) x 0 room) (Q.settled t z i l));
    wanted_kept = Q.wanted_kept;
    here_kept = λ k a. bit_added here j true refl k ∙ rw (ne_eqb k j a) (or-false (bit here k));
    rows_kept = λ k a. get_or-set_other rows (64 + j) k x 0 a;
  }
    where
      set_here : bit (bit_or here (2 ^ j)) j ≡ true
      set_here = bit_added here j true refl j ∙ rw (eq-eqb j j refl) (or-true (bit here j))

-- ---- all of them, by the bits of those that are left

module _ (n count wanted here : ℕ) (rows : List ℕ) where
  -- those that are not wanted are done
  pub but_start : (rest : ℕ) → ((k : ℕ) → bit rest k ≡ (ltb k n && bit wanted k))
      → MarkedBut rest n count wanted here rows wanted here rows
  but_start rest bits = record {
    there = λ j l z. rw (unwanted j l z) (sym (or-false (bit here j)));
    mark = λ j l z i m. rw (unwanted j l z) (sym (or-false (bit (get_or rows (64 + j) 0) i)));
    settled = λ j l z t u. absurd (T_not (bit wanted j) (of_false u) t);
    inside = λ j t. (
      ltb→lt j n (and_left (ltb j n) (bit wanted j) (subst T (bits j) t)),
      and_right (ltb j n) (bit wanted j) (subst T (bits j) t),
    );
    wanted_kept = λ j t. refl;
    here_kept = λ j t. refl;
    mark_kept = λ j t. refl;
    rows_kept = λ k l. refl;
  }
    where
      unwanted : (j : ℕ) → j < n → bit rest j ≡ false → bit wanted j ≡ false
      unwanted j l z = sym (ap (λ b. b && bit wanted j) (lt-ltb j n l)) ∙ sym (bits j) ∙ z

  -- one of them more
  pub but_more : (i rest rest' wanted' here' : ℕ) (rows' : List ℕ) (wanted'' here'' : ℕ) (rows'' : List ℕ) → n ≤ 32
      → count ≤ 32 → T (bit rest i)
      → ((k : ℕ) → bit rest' k ≡ (bit rest k && not (eqb k i)))
      → MarkedBut rest n count wanted here rows wanted' here' rows'
      → Marked i count wanted' here' rows' wanted'' here'' rows''
      → MarkedBut rest' n count wanted here rows wanted'' here'' rows''
  but_more i rest rest' wanted' here' rows' wanted'' here'' rows'' few low set out A M = record {
    there = λ j l z. there j l z (ℕ_discrete j i);
    mark = λ j l z. mark j l z (ℕ_discrete j i);
    settled = λ j l z. settled j l z (ℕ_discrete j i);
    inside = λ j t. A.inside j (before j t);
    wanted_kept = λ j t. M.wanted_kept j (omega (arith, (A.inside j (before j t)).0)) (other j t)
        ∙ A.wanted_kept j (before j t);
    here_kept = λ j t. M.here_kept j (other j t) ∙ A.here_kept j (before j t);
    mark_kept = λ j t. M.rows_kept (64 + j) (λ q. other j t (omega arith)) ∙ A.mark_kept j (before j t);
    rows_kept = λ k l. M.rows_kept k (λ q. omega arith) ∙ A.rows_kept k l;
  }
    where
      before : (k : ℕ) → T (bit rest' k) → T (bit rest k)
      before k t = and_left (bit rest k) (not (eqb k i)) (subst T (out k) t)

      other : (k : ℕ) → T (bit rest' k) → k ≡ i → ⊥
      other k t q = T_not (eqb k i) (and_right (bit rest k) (not (eqb k i)) (subst T (out k) t))
          (of_true (eq-eqb k i q))

      done : (k : ℕ) → bit rest' k ≡ false → (k ≡ i → ⊥) → bit rest k ≡ false
      done k z n = sym (and-true (bit rest k)) ∙ sym (out k ∙ ap (λ b. bit rest k && not b) (ne_eqb k i n)) ∙ z

      is_wanted : bit wanted i ≡ true
      is_wanted = is_true (bit wanted i) (A.inside i set).1

      there : (k : ℕ) → k < n → bit rest' k ≡ false → Dec (k ≡ i)
          → bit here'' k ≡ (bit here k || (bit wanted k && some (get_or rows k 0)))
      there k l z (yes q) =
          rw (q, is_wanted) (M.there ∙ rw (A.here_kept i set, A.rows_kept i (omega (arith, (A.inside i set).0))))
      there k l z (no a) = M.here_kept k a ∙ A.there k l (done k z a)

      mark : (k : ℕ) → k < n → bit rest' k ≡ false → Dec (k ≡ i) → (m : ℕ) → m < count
          → bit (get_or rows'' (64 + k) 0) m
          ≡ (bit (get_or rows (64 + k) 0) m || (bit wanted k && common (get_or rows (32 + m) 0) (get_or rows k 0)))
      mark k l z (yes q) m h =
          rw (q, is_wanted) (M.mark m h
          ∙ rw (
            A.mark_kept i set,
            A.rows_kept (32 + m) (omega arith),
            A.rows_kept i (omega (arith, (A.inside i set).0)),
          ))
      mark k l z (no a) m h = ap (λ x. bit x m) (M.rows_kept (64 + k) (λ q. a (omega arith)))
          ∙ A.mark k l (done k z a) m h

      settled : (k : ℕ) → k < n → bit rest' k ≡ false → Dec (k ≡ i) → T (bit wanted k) → bit wanted'' k ≡ false
          → (bit here'' k ≡ true) × FullMark count (get_or rows'' (64 + k) 0)
      settled k l z (yes q) t u = rw q (M.settled (rw q at u))
      settled k l z (no a) t u =
          let F = A.settled k l (done k z a) t (sym (M.wanted_kept k (omega arith) a) ∙ u) in
          (M.here_kept k a ∙ F.0, λ m h. ap (λ x. bit x m) (M.rows_kept (64 + k) (λ q. a (omega arith))) ∙ F.1 m h)

  -- none is left
  pub but_none : (rest wanted' here' : ℕ) (rows' : List ℕ) → rest ≡ 0
      → MarkedBut rest n count wanted here rows wanted' here' rows'
      → MarkedAll n count wanted here rows wanted' here' rows'
  but_none rest wanted' here' rows' z A = record {
    there = λ j l. A.there j l (none j);
    mark = λ j l. A.mark j l (none j);
    settled = λ j l. A.settled j l (none j);
  }
    where
      none : (j : ℕ) → bit rest j ≡ false
      none j = ap (λ x. bit x j) z ∙ bit_zero j

-- ---- the words of the first system's disequations, one by one

pub failing_more : (s : ℕ → ℕ → Bool) (rows : List ℕ) (i x : ℕ) → 32 + i < length rows
    → ((k : ℕ) → k < 64 → bit x k ≡ s i k)
    → ((j : ℕ) → j < i → (k : ℕ) → k < 64 → bit (get_or rows (32 + j) 0) k ≡ s j k)
    → (j : ℕ) → j < i + 1 → (k : ℕ) → k < 64 → bit (get_or (set rows (32 + i) x) (32 + j) 0) k ≡ s j k
failing_more s rows i x room bits before j l k h = go (ℕ_discrete j i)
  where
    go : Dec (j ≡ i) → bit (get_or (set rows (32 + i) x) (32 + j) 0) k ≡ s j k
    go (yes q) = rw (q, get_or-set_same rows (32 + i) x 0 room) (bits k h)
    go (no n) = ap (λ y. bit y k) (get_or-set_other rows (32 + i) (32 + j) x 0 (λ q. omega arith))
        ∙ before j (omega arith) k h

pub failing_kept : (old rows : List ℕ) (i x : ℕ) → 32 + i < length rows
    → ((k : ℕ) → (32 ≤ k → 32 + i ≤ k) → get_or rows k 0 ≡ get_or old k 0)
    → (k : ℕ) → (32 ≤ k → 32 + (i + 1) ≤ k) → get_or (set rows (32 + i) x) k 0 ≡ get_or old k 0
failing_kept old rows i x room before k h =
    get_or-set_other rows (32 + i) k x 0 (λ q. omega (arith, h (omega arith))) ∙ before k (λ q. omega (arith, h q))
