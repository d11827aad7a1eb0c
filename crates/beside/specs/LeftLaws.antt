-- Laws of what is left of a word of free choices: beside no words, beside one word more, and beside all own choices.
-- Assumes nothing.
use Rattle.std.specs.Prelude.{◌≡◌, refl, Bool, true, false, not, ◌&&◌, ◌||◌, ℕ, ◌+◌, ◌*◌, ◌/◌, ◌%◌, ◌^◌, ◌≤◌, ◌<◌, T}
use Rattle.std.specs.Prelude.{eqb}
use Rattle.std.proofs.Common.{sym, ap, ◌∙◌, subst, true≢false, div-add-mod', div-lt_iff_lt-mul, add-one, arith, T_not}
use Rattle.std.proofs.Common.{eqb→eq, eq-eqb}
use Rattle.std.proofs.Math.Bool.{and-true}
use Rattle.std.proofs.Math.Arith.{digits_lt, digits_mod}
use Rattle.std.proofs.Math.Dec.{not_T}
use Rattle.shares.specs.Test.{same_test, of_true, holds, and_intro, and_left, and_right}
use Rattle.shares.specs.Below.{some_below}
use Rattle.shares.specs.BelowLaws.{some_found, some_intro, some_more}
use Rattle.shares.specs.Constant.{bit}
use Rattle.shares.specs.BitLaws.{bit_zero}
use Rattle.words.specs.Choices.{word_count, Periodic}
use Rattle.beside.specs.Beside.{Shared, SameFree, Left, beside_words, beside_own}
use Rattle.beside.specs.GatherLaws.{words_pos, own_words}

-- ---- by words

pub left_start : (words w x : ℕ) (p : ℕ → Bool) → Left x (beside_words words w 0 p) x
unfolding some_below
left_start words w x p i h = sym (and-true (bit x i))

-- more bits taken out of what is left
left_more : (x r r' : ℕ) (s t : ℕ → Bool) → Left x s r → Left r (λ i. bit x i && t i) r' → Left x (λ i. s i || t i) r'
left_more x r r' s t f g i h = g i h ∙ ap (λ b. b && not (bit x i && t i)) (f i h) ∙ both (bit x i) (s i) (t i)
  where
    both : (a b c : Bool) → ((a && not b) && not (a && c)) ≡ (a && not (b || c))
    both true true c = refl
    both true false c = refl
    both false b c = refl

-- one word more
pub left_word : (words w o x r r' : ℕ) (p : ℕ → Bool) → Left x (beside_words words w o p) r
    → Left r (λ i. bit x i && p (64 * (o * words + w) + i)) r' → Left x (beside_words words w (o + 1) p) r'
left_word words w o x r r' p f g i h =
    left_more x r r' (beside_words words w o p) (λ i. p (64 * (o * words + w) + i)) f g i h
    ∙ ap (λ b. bit x i && not b) (sym more)
  where
    more : beside_words words w (o + 1) p i ≡ (beside_words words w o p i || p (64 * (o * words + w) + i))
    more = ap (λ c. some_below c (λ k. p (64 * (k * words + w) + i))) (add-one o)
        ∙ some_more o (λ k. p (64 * (k * words + w) + i))

-- where nothing is left, nothing is left beside more words
pub left_empty : (words w o more x r : ℕ) (p : ℕ → Bool) → o ≤ more → r ≡ 0 → Left x (beside_words words w o p) r
    → Left x (beside_words words w more p) r
left_empty words w o more x r p h e f i l = none
    ∙ sym (stays (bit x i) (beside_words words w o p i) (beside_words words w more p i) longer (sym (f i l) ∙ none))
  where
    none : bit r i ≡ false
    none = ap (λ y. bit y i) e ∙ bit_zero i

    longer : T (beside_words words w o p i) → T (beside_words words w more p i)
    longer t =
        let (k, b, u) = some_found o (λ k. p (64 * (k * words + w) + i)) t in
        some_intro more (λ k. p (64 * (k * words + w) + i)) k (omega arith) u

    stays : (a b c : Bool) → (T b → T c) → (a && not b) ≡ false → (a && not c) ≡ false
    stays false b c g z = refl
    stays true true true g z = refl
    stays true true false g z = absurd (g tt)
    stays true false c g z = absurd (true≢false z)

-- ---- beside all own choices

module _ (n m w words : ℕ) (p : ℕ → Bool) (periodic : Periodic (n + m) p) (hw : w < word_count n)
    (enough : words * word_count n ≡ word_count (n + m)) where
  -- some own choice passes exactly if one of the words beside w has a choice that passes, at a bit with the same free
  -- digits
  pub own_beside : (i j : ℕ) → i < 64 → j < 64 → j % 2 ^ n ≡ i % 2 ^ n → T (beside_words (word_count n) w words p j)
      → T (beside_own n m w p i)
  own_beside i j hi hj e t =
      let (k, l, u) = some_found words (λ k. p (64 * (k * word_count n + w) + j)) t in
      (own_words n m p periodic w i hw hi).1 (
        k * word_count n + w,
        j,
        subst (λ c. k * word_count n + w < c) enough (digits_lt l hw),
        hj,
        digits_mod k hw,
        e,
        u,
      )

  pub beside_own_lem : (i : ℕ) → i < 64 → T (beside_own n m w p i)
      → (j : ℕ) × (j < 64) × (j % 2 ^ n ≡ i % 2 ^ n) × T (beside_words (word_count n) w words p j)
  beside_own_lem i hi t =
      let (u, j, hu, hj, e, f, v) = (own_words n m p periodic w i hw hi).0 t in
      let cut : u ≡ u / word_count n * word_count n + w =
      sym (div-add-mod' u (word_count n)) ∙ ap (λ r. u / word_count n * word_count n + r) e in
      let few : u / word_count n < words = (div-lt_iff_lt-mul (words_pos n)).1 (subst (λ c. u < c) (sym enough) hu) in (
        j,
        hj,
        f,
        some_intro words (λ k. p (64 * (k * word_count n + w) + j)) (u / word_count n) few
            (subst (λ u. T (p (64 * u + j))) cut v),
      )

  -- shared among the bits with the same free digits, what is left beside the words is what is left beside all own
  -- choices
  pub left_own : (x r r' : ℕ) → SameFree n x → Left x (beside_words (word_count n) w words p) r → Shared n r r'
      → Left x (beside_own n m w p) r'
  left_own x r r' same f g i h =
      g i h ∙ same_test (not (some_below 64 fails)) (bit x i && not (beside_own n m w p i)) there back
    where
      fails : ℕ → Bool
      fails j = eqb (j % 2 ^ n) (i % 2 ^ n) && not (bit r j)

      there : T (not (some_below 64 fails)) → T (bit x i && not (beside_own n m w p i))
      there t =
          let set : (j : ℕ) → j < 64 → j % 2 ^ n ≡ i % 2 ^ n
          → T (bit x j && not (beside_words (word_count n) w words p j)) =
          λ j l e.
          subst T (f j l)
          (holds (bit r j) (λ u. T_not (some_below 64 fails) t
          (some_intro 64 fails j l (and_intro (eqb (j % 2 ^ n) (i % 2 ^ n)) (not (bit r j))
          (of_true (eq-eqb (j % 2 ^ n) (i % 2 ^ n) e)) u)))) in
          and_intro (bit x i) (not (beside_own n m w p i))
          (and_left (bit x i) (not (beside_words (word_count n) w words p i)) (set i h refl))
          (not_T (beside_own n m w p i) (λ u.
          let (j, l, e, v) = beside_own_lem i h u in
          T_not (beside_words (word_count n) w words p j)
          (and_right (bit x j) (not (beside_words (word_count n) w words p j)) (set j l e)) v))

      back : T (bit x i && not (beside_own n m w p i)) → T (not (some_below 64 fails))
      back t = not_T (some_below 64 fails) (λ u.
          let (j, l, v) = some_found 64 fails u in
          let e = eqb→eq (j % 2 ^ n) (i % 2 ^ n) (and_left (eqb (j % 2 ^ n) (i % 2 ^ n)) (not (bit r j)) v) in
          let a : T (bit x j) = subst T (same i j h l (sym e)) (and_left (bit x i) (not (beside_own n m w p i)) t) in
          T_not (bit r j) (and_right (eqb (j % 2 ^ n) (i % 2 ^ n)) (not (bit r j)) v)
          (subst T (sym (f j l))
          (and_intro (bit x j) (not (beside_words (word_count n) w words p j)) a
          (not_T (beside_words (word_count n) w words p j) (λ b.
          T_not (beside_own n m w p i) (and_right (bit x i) (not (beside_own n m w p i)) t)
          (own_beside i j h l e b))))))
