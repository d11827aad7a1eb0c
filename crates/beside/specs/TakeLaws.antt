-- Laws of bits taken out of one word, and out of each of several. Assumes nothing.
use Rattle.std.specs.Prelude.{◌≡◌, refl, Bool, false, not, ◌&&◌, List, ℕ, ◌-◌, ◌^◌, ◌≤◌, ◌<◌, T, eqb, ltb, length}
use Rattle.std.specs.Prelude.{get_or, set}
use Rattle.std.proofs.Common.{sym, ap, ◌∙◌, subst, arith, T_not, ltb→lt, get_or-set_same, get_or-set_other, eq-eqb}
use Rattle.std.proofs.Common.{ne_eqb, lt-ltb}
use Rattle.std.proofs.Math.Bool.{and-true}
use Rattle.std.proofs.Math.Decide.{ℕ_discrete}
use Rattle.std.specs.Int.Bits.{bit_and}
use Rattle.shares.specs.Test.{of_true, of_false, and_left, and_right}
use Rattle.shares.specs.Constant.{bit}
use Rattle.shares.specs.BitLaws.{bit_zero, bit_of_and}
use Rattle.words.specs.ClauseLaws.{not_bits}
use Rattle.beside.specs.Beside.{Left, Taken, TakenAll, TakenBut}

-- the bits of y taken out of x
pub taken_out : (x y : ℕ) (s : ℕ → Bool) → y < 2 ^ 64 → ((i : ℕ) → i < 64 → bit y i ≡ s i)
    → Left x s (bit_and x ((2 ^ 64 - 1) - y))
taken_out x y s l e i h = bit_of_and x ((2 ^ 64 - 1) - y) i ∙ ap (◌&&◌ (bit x i)) (not_bits y i (s i) l h (e i h))

-- ---- one word

module _ (j : ℕ) (s : ℕ → Bool) (wanted : ℕ) (left : List ℕ) where
  -- z is what is left of a word that is wanted
  pub taken_set : (wanted' z : ℕ) → j < length left → T (bit wanted j) → Left (get_or left j 0) s z
      → (T (not (bit wanted' j)) → z ≡ 0)
      → ((k : ℕ) → k < 64 → (k ≡ j → ⊥) → bit wanted' k ≡ bit wanted k) → Taken j s wanted left wanted' (set left j z)
  taken_set wanted' z room t word empty kept = record {
    word = λ t. subst (Left (get_or left j 0) s) (sym (get_or-set_same left j z 0 room)) word;
    empty = λ t u. get_or-set_same left j z 0 room ∙ empty u;
    wanted_kept = kept;
    left_kept = λ k h. get_or-set_other left j k z 0 (λ e. T_not (bit wanted j) (h e) t);
  }

-- ---- the first words

-- where nothing is taken
pub taken_nothing : (count : ℕ) (s : ℕ → ℕ → Bool) (wanted : ℕ) (left : List ℕ) → ((j i : ℕ) → s j i ≡ false)
    → TakenAll count s wanted left wanted left
taken_nothing count s wanted left none = record {
  word = λ j h t i l. sym (ap (λ b. bit (get_or left j 0) i && not b) (none j i) ∙ and-true (bit (get_or left j 0) i));
  empty = λ j h t u. absurd (T_not (bit wanted j) u t);
  wanted_kept = λ k h l. refl;
  left_kept = λ k h. refl;
}

module _ (count : ℕ) (s : ℕ → ℕ → Bool) (wanted : ℕ) (old : List ℕ) where
  -- only those that are wanted are left
  pub but_start : (rest : ℕ) → ((k : ℕ) → bit rest k ≡ (ltb k count && bit wanted k))
      → TakenBut rest count s wanted old wanted old
  but_start rest bits = record {
    word = λ j l z t. absurd (T_not (bit wanted j) (of_false (unwanted j l z)) t);
    empty = λ j l z t u. absurd (T_not (bit wanted j) u t);
    inside = λ j t. (
      ltb→lt j count (and_left (ltb j count) (bit wanted j) (subst T (bits j) t)),
      and_right (ltb j count) (bit wanted j) (subst T (bits j) t),
    );
    wanted_same = λ j t. refl;
    left_same = λ j t. refl;
    wanted_kept = λ k h l. refl;
    left_kept = λ k h. refl;
  }
    where
      unwanted : (j : ℕ) → j < count → bit rest j ≡ false → bit wanted j ≡ false
      unwanted j l z = sym (ap (λ b. b && bit wanted j) (lt-ltb j count l)) ∙ sym (bits j) ∙ z

  -- one word more
  pub but_more : (i rest rest' r r' : ℕ) (left left' : List ℕ) → count ≤ 64 → T (bit rest i)
      → ((k : ℕ) → bit rest' k ≡ (bit rest k && not (eqb k i)))
      → TakenBut rest count s wanted old r left → Taken i (s i) r left r' left'
      → TakenBut rest' count s wanted old r' left'
  but_more i rest rest' r r' left left' few set out A B = record {
    word = λ k l z t. word k l z t (ℕ_discrete k i);
    empty = λ k l z t u. empty k l z t u (ℕ_discrete k i);
    inside = λ k t. A.inside k (before k t);
    wanted_same = λ k t. B.wanted_kept k (omega (arith, (A.inside k (before k t)).0)) (other k t)
        ∙ A.wanted_same k (before k t);
    left_same = λ k t. B.left_kept k (λ e. absurd (other k t e)) ∙ A.left_same k (before k t);
    wanted_kept = λ k h l. B.wanted_kept k l (λ e. omega (arith, (A.inside i set).0)) ∙ A.wanted_kept k h l;
    left_kept = λ k h. B.left_kept k
        (λ e. absurd (T_not (bit wanted k) (h (omega (arith, (A.inside i set).0)))
        (subst (λ n. T (bit wanted n)) (sym e) (A.inside i set).1))) ∙ A.left_kept k h;
  }
    where
      before : (k : ℕ) → T (bit rest' k) → T (bit rest k)
      before k t = and_left (bit rest k) (not (eqb k i)) (subst T (out k) t)

      other : (k : ℕ) → T (bit rest' k) → k ≡ i → ⊥
      other k t q = T_not (eqb k i) (and_right (bit rest k) (not (eqb k i)) (subst T (out k) t))
          (of_true (eq-eqb k i q))

      done : (k : ℕ) → bit rest' k ≡ false → (k ≡ i → ⊥) → bit rest k ≡ false
      done k z n = sym (and-true (bit rest k)) ∙ sym (out k ∙ ap (λ b. bit rest k && not b) (ne_eqb k i n)) ∙ z

      word : (k : ℕ) → k < count → bit rest' k ≡ false → T (bit wanted k) → Dec (k ≡ i)
          → Left (get_or old k 0) (s k) (get_or left' k 0)
      word k l z t (yes q) = rw (q, ← A.left_same i set) (B.word (subst T (sym (A.wanted_same i set)) (rw q at t)))
      word k l z t (no n) = subst (Left (get_or old k 0) (s k)) (sym (B.left_kept k (λ e. absurd (n e))))
          (A.word k l (done k z n) t)

      empty : (k : ℕ) → k < count → bit rest' k ≡ false → T (bit wanted k) → T (not (bit r' k)) → Dec (k ≡ i)
          → get_or left' k 0 ≡ 0
      empty k l z t u (yes q) = rw q (B.empty (subst T (sym (A.wanted_same i set)) (rw q at t)) (rw q at u))
      empty k l z t u (no n) =
          B.left_kept k (λ e. absurd (n e))
          ∙ A.empty k l (done k z n) t (subst (λ b. T (not b)) (B.wanted_kept k (omega arith) n) u)

  -- none is left
  pub but_none : (rest r : ℕ) (left : List ℕ) → rest ≡ 0 → TakenBut rest count s wanted old r left
      → TakenAll count s wanted old r left
  but_none rest r left z A = record {
    word = λ j l. A.word j l (none j);
    empty = λ j l. A.empty j l (none j);
    wanted_kept = A.wanted_kept;
    left_kept = A.left_kept;
  }
    where
      none : (j : ℕ) → bit rest j ≡ false
      none j = ap (λ x. bit x j) z ∙ bit_zero j
