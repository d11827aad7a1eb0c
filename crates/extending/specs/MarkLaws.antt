-- Laws of sets of choices: the choice at a leaf digit by digit, one choice marked, and the choices at the leaves of a
-- word. Assumes nothing.
use Rattle.std.specs.Prelude.{◌≡◌, ◌⊎◌, Bool, true, false, not, ◌&&◌, ◌||◌, List, ℕ, zero, suc, ◌+◌, ◌-◌, ◌*◌, ◌/◌, ◌%◌}
use Rattle.std.specs.Prelude.{◌^◌, ◌≤◌, ◌<◌, T, eqb, length, get_or, set, replicate}
use Rattle.std.proofs.Math.Path.{refl, ap}
use Rattle.std.proofs.Common.{sym, ap₂, ◌∙◌, subst, inl, inr, pow-suc, mod-lt, lt_of_lt_of_le, add-one, arith, T_not}
use Rattle.std.proofs.Common.{eqb→eq, pow-add, get_or-set_same, get_or-set_other, eq-eqb}
use Rattle.std.specs.Bool.{beq}
use Rattle.std.proofs.Math.Decide.{ℕ_discrete}
use Rattle.std.proofs.Math.Arith.{lt_of_le-ne}
use Rattle.std.specs.Int.Bits.{bit_and, bit_or}
use Rattle.std.proofs.lemmas.Nat.{and_le_l}
use Rattle.std.proofs.Math.Dec.{not_T, eqb_refl}
use Rattle.shares.specs.Test.{of_true, passes, beq_iff, and_intro, and_left, and_right, or_left, or_right, or_cases}
use Rattle.shares.specs.Below.{one}
use Rattle.shares.specs.BlockLaws.{block_lt}
use Rattle.shares.specs.Constant.{bit}
use Rattle.shares.specs.BitLaws.{bit_zero, bit_of_and, bit_of_or}
use Rattle.shares.specs.BitParts.{bit_not}
use Rattle.shares.specs.NumberLaws.{zero_at}
use Rattle.leaves.specs.Choices as rows
use Rattle.leaves.specs.RowNumbers.{value}
use Rattle.leaves.specs.ChoiceLaws.{value_lt}
use Rattle.shares.specs.Shifts.{power_shift, power_bit}
use Rattle.rows.specs.Rows.{row_levels}
use Rattle.unfolded.specs.Unfolded.{row_words, leaf_of}
use Rattle.unfolded.specs.UnfoldedLaws.{leaf_word}
use Rattle.extending.specs.Extending.{choice_at, over}
use Rattle.extending.specs.Looks.{in_set, Added, BitOf, SameAs, Alike}

-- ---- the choice at a leaf

-- one leaf more, the lowest digit
value_more : (n : ℕ) (f : ℕ → Bool) → value (rows.table (suc n) f) ≡ 2 * value (rows.table n f) + one (f n)
unfolding value rows.table
value_more zero f = omega arith
value_more (suc n) f =
    let ih = value_more n (λ i. f (suc i)) in
    go (f zero) ih
  where
    go : (b : Bool) → value (rows.table (suc n) (λ i. f (suc i)))
        ≡ 2 * value (rows.table n (λ i. f (suc i))) + one (f (suc n))
        → one b * 2 ^ suc n + value (rows.table (suc n) (λ i. f (suc i)))
        ≡ 2 * (one b * 2 ^ n + value (rows.table n (λ i. f (suc i)))) + one (f (suc n))
    go true ih = omega (arith, pow-suc 2 n)
    go false ih = omega arith

module _ (levels : ℕ) (table : List ℕ) where
  choice_more : (n i : ℕ)
      → choice_at levels table (n + 1) i ≡ 2 * choice_at levels table n i + one (leaf_of (row_words levels) table n i)
  unfolding choice_at
  choice_more n i =
      ap (λ k. choice_at levels table k i) (add-one n) ∙ value_more n (λ v. leaf_of (row_words levels) table v i)

  pub choice_lt : (n i : ℕ) → choice_at levels table n i < 2 ^ n
  unfolding choice_at
  choice_lt n i = value_lt n (rows.table n (λ v. leaf_of (row_words levels) table v i))

  choice_none : (i : ℕ) → choice_at levels table 0 i ≡ 0
  unfolding choice_at value rows.table
  choice_none i = refl

-- after v variables: the choice so far at leaf i of word w, and leaves that have the same
module _ (levels : ℕ) (table : List ℕ) (w i leaves : ℕ) (small : i < 64) where
  pub same_start : SameAs levels table 0 w i leaves (record { choice = 0; leaves = leaves })
  same_start = record {
    choice = sym (choice_none levels table (64 * w + i));
    same = λ k b. choice_none levels table (64 * w + k) ∙ sym (choice_none levels table (64 * w + i));
    itself = λ b. b;
  }

  pub same_more : (v choice same x like choice' : ℕ) (digit : Bool) → x ≡ get_or table (row_words levels * v + w) 0
      → digit ≡ bit x i → choice' ≡ 2 * choice + one digit → ((k : ℕ) → k < 64 → bit like k ≡ beq (bit x k) digit)
      → SameAs levels table v w i leaves (record { choice = choice; leaves = same })
      → SameAs levels table (v + 1) w i leaves (record { choice = choice'; leaves = bit_and same like })
  same_more v choice same x like choice' digit ex ed ec el S = record {
    choice = ec ∙ ap₂ (λ a b. 2 * a + one b) S.choice (ed ∙ sym (here i small))
        ∙ sym (choice_more levels table v (64 * w + i));
    same = λ k b.
        let t = subst T (bit_of_and same like k) b.1 in
        let e : bit x k ≡ digit = (beq_iff (bit x k) digit).0
        (subst T (el k b.0) (and_right (bit same k) (bit like k) t)) in
        choice_more levels table v (64 * w + k)
        ∙ ap₂ (λ a b. 2 * a + one b) (S.same k (b.0, and_left (bit same k) (bit like k) t)) (here k b.0 ∙ e ∙ ed
        ∙ sym (here i small))
        ∙ sym (choice_more levels table v (64 * w + i));
    itself = λ b. (
      small,
      subst T (sym (bit_of_and same like i))
          (and_intro (bit same i) (bit like i) (S.itself b).1
          (subst T (sym (el i small)) ((beq_iff (bit x i) digit).1 (sym ed)))),
    );
  }
    where
      here : (k : ℕ) → k < 64 → leaf_of (row_words levels) table v (64 * w + k) ≡ bit x k
      here k l = leaf_word (row_words levels) table v w k l ∙ ap (λ y. bit y k) (sym ex)

-- ---- sets

-- a set whose words are all 0 has no choice
pub empty_set : (n c : ℕ) → T (in_set (replicate n 0) c) → ⊥
unfolding in_set
empty_set n c t = subst T (ap (λ x. bit x (c % 64)) (zero_at n (c / 64)) ∙ bit_zero (c % 64)) t

-- no leaf is given
added_none : (choice : ℕ → ℕ) (Given : ℕ → Type 0) (old : List ℕ) → ((i : ℕ) → Given i → ⊥) → Added choice Given old old
added_none choice Given old never = record { kept = λ c t. t; added = λ i g. absurd (never i g); only = λ c t. inl t }

-- the choices at some leaves, and then those at others
added_more : (choice choice' : ℕ → ℕ) (G G' H : ℕ → Type 0) (old mid new : List ℕ)
    → ((i : ℕ) → H i → G i ⊎ ((k : ℕ) × G' k × (choice' k ≡ choice i)))
    → ((i : ℕ) → G i → H i) → ((k : ℕ) → G' k → (i : ℕ) × H i × (choice i ≡ choice' k))
    → Added choice G old mid → Added choice' G' mid new → Added choice H old new
added_more choice choice' G G' H old mid new parts first second A B = record {
  kept = λ c t. B.kept c (A.kept c t);
  added = λ i h. add i (parts i h);
  only = λ c t. from c (B.only c t);
}
  where
    add : (i : ℕ) → G i ⊎ ((k : ℕ) × G' k × (choice' k ≡ choice i)) → T (in_set new (choice i))
    add i (inl g) = B.kept (choice i) (A.added i g)
    add i (inr (k, g, e)) = subst (λ c. T (in_set new c)) e (B.added k g)

    before : (c : ℕ) → T (in_set old c) ⊎ ((i : ℕ) × G i × (choice i ≡ c))
        → T (in_set old c) ⊎ ((i : ℕ) × H i × (choice i ≡ c))
    before c (inl t) = inl t
    before c (inr (i, g, e)) = inr (i, first i g, e)

    from : (c : ℕ) → T (in_set mid c) ⊎ ((k : ℕ) × G' k × (choice' k ≡ c))
        → T (in_set old c) ⊎ ((i : ℕ) × H i × (choice i ≡ c))
    from c (inl t) = before c (A.only c t)
    from c (inr (k, g, e)) = let (i, h, f) = second k g in inr (i, h, f ∙ e)

-- the same leaves, said otherwise
added_as : (choice : ℕ → ℕ) (G H : ℕ → Type 0) (old new : List ℕ) → ((i : ℕ) → H i → G i) → ((i : ℕ) → G i → H i)
    → Added choice G old new → Added choice H old new
added_as choice G H old new back there A = record {
  kept = A.kept;
  added = λ i h. A.added i (back i h);
  only = λ c t. from c (A.only c t);
}
  where
    from : (c : ℕ) → T (in_set old c) ⊎ ((i : ℕ) × G i × (choice i ≡ c))
        → T (in_set old c) ⊎ ((i : ℕ) × H i × (choice i ≡ c))
    from c (inl t) = inl t
    from c (inr (i, g, e)) = inr (i, there i g, e)

-- one bit of a word set
marked_bit : (x j k : ℕ) → j < 64 → bit (bit_or x ((1 * 2 ^ j) % 2 ^ 64)) k ≡ (bit x k || eqb k j)
marked_bit x j k h = bit_of_or x ((1 * 2 ^ j) % 2 ^ 64) k
    ∙ ap (◌||◌ (bit x k)) (ap (λ y. bit y k) (power_shift j h) ∙ power_bit j k)

-- one choice marked
pub added_one : (old : List ℕ) (choice : ℕ) → choice / 64 < length old
    → Added (λ c. c) (λ c. c ≡ choice) old
    (set old (choice / 64) (bit_or (get_or old (choice / 64) 0) ((1 * 2 ^ (choice % 64)) % 2 ^ 64)))
unfolding in_set
added_one old choice room = record {
  kept = λ c t. go c (ℕ_discrete (c / 64) (choice / 64)) t;
  added = λ c e.
      subst (λ c. T (in_set new c)) (sym e)
      (here choice refl (or_right (bit word (choice % 64)) (eqb (choice % 64) (choice % 64)) (eqb_refl (choice % 64))));
  only = λ c t. from c (ℕ_discrete (c / 64) (choice / 64)) t;
}
  where
    word : ℕ
    word = get_or old (choice / 64) 0

    new : List ℕ
    new = set old (choice / 64) (bit_or word ((1 * 2 ^ (choice % 64)) % 2 ^ 64))

    small : choice % 64 < 64
    small = mod-lt choice (omega arith)

    stored : (c : ℕ) → c / 64 ≡ choice / 64 → in_set new c ≡ (bit word (c % 64) || eqb (c % 64) (choice % 64))
    stored c e =
        ap (λ x. bit x (c % 64)) (ap (λ w. get_or new w 0) e ∙ get_or-set_same old (choice / 64) _ 0 room)
        ∙ marked_bit word (choice % 64) (c % 64) small

    here : (c : ℕ) → c / 64 ≡ choice / 64 → T (bit word (c % 64) || eqb (c % 64) (choice % 64)) → T (in_set new c)
    here c e t = subst T (sym (stored c e)) t

    go : (c : ℕ) → Dec (c / 64 ≡ choice / 64) → T (in_set old c) → T (in_set new c)
    go c (yes e) t = here c e (or_left (bit word (c % 64)) (eqb (c % 64) (choice % 64))
        (subst (λ w. T (bit (get_or old w 0) (c % 64))) e t))
    go c (no n) t = subst (λ x. T (bit x (c % 64))) (sym (get_or-set_other old (choice / 64) (c / 64) _ 0 n)) t

    from : (c : ℕ) → Dec (c / 64 ≡ choice / 64) → T (in_set new c)
        → T (in_set old c) ⊎ ((i : ℕ) × (i ≡ choice) × (i ≡ c))
    from c (yes e) t = split (or_cases (bit word (c % 64)) (eqb (c % 64) (choice % 64)) (subst T (stored c e) t))
      where
        split : T (bit word (c % 64)) ⊎ T (eqb (c % 64) (choice % 64))
            → T (in_set old c) ⊎ ((i : ℕ) × (i ≡ choice) × (i ≡ c))
        split (inl u) = inl (subst (λ w. T (bit (get_or old w 0) (c % 64))) (sym e) u)
        split (inr u) = let f = eqb→eq (c % 64) (choice % 64) u in inr (c, omega arith, refl)
    from c (no n) t = inl (subst (λ x. T (bit x (c % 64))) (get_or-set_other old (choice / 64) (c / 64) _ 0 n) t)

-- ---- the leaves of one word

-- the given leaves that are no longer among the rest
abbrev pub Done : ℕ → ℕ → ℕ → Type 0
Done leaves rest k = BitOf leaves k × T (not (bit rest k))

-- a set bit taken out makes a word smaller
pub less_rest : (rest same i : ℕ) → same < 2 ^ 64 → BitOf rest i → BitOf same i
    → bit_and rest ((2 ^ 64 - 1) - same) < rest
less_rest rest same i small r s = lt_of_le-ne (and_le_l rest ((2 ^ 64 - 1) - same)) (λ e.
    T_not (bit same i)
    (subst T (bit_not 64 same i small s.0)
    (and_right (bit rest i) (bit ((2 ^ 64 - 1) - same) i)
    (subst T (sym (ap (λ y. bit y i) e) ∙ bit_of_and rest ((2 ^ 64 - 1) - same) i) r.1)))
    s.1)

-- what is left of the rest
pub rest_more : (leaves rest same k : ℕ) → ((k : ℕ) → BitOf rest k → BitOf leaves k)
    → BitOf (bit_and rest ((2 ^ 64 - 1) - same)) k → BitOf leaves k
rest_more leaves rest same k within b =
    within k (
      b.0,
      and_left (bit rest k) (bit ((2 ^ 64 - 1) - same) k)
          (subst T (bit_of_and rest ((2 ^ 64 - 1) - same) k) b.1),
    )

module _ (levels : ℕ) (table : List ℕ) (n w leaves : ℕ) where
  -- the choices at the leaves of one word
  abbrev pub word_choice : ℕ → ℕ
  word_choice k = choice_at levels table n (64 * w + k)

  pub word_start : (old : List ℕ) → Added word_choice (Done leaves leaves) old old
  word_start old = added_none word_choice (Done leaves leaves) old (λ i d. T_not (bit leaves i) d.1 d.0.1)

  pub word_more : (rest i choice same : ℕ) (old mid new : List ℕ) → same < 2 ^ 64 → BitOf rest i
      → ((k : ℕ) → BitOf rest k → BitOf leaves k)
      → SameAs levels table n w i rest (record { choice = choice; leaves = same })
      → Added word_choice (Done leaves rest) old mid → Added (λ c. c) (λ c. c ≡ choice) mid new
      → Added word_choice (Done leaves (bit_and rest ((2 ^ 64 - 1) - same))) old new
  word_more rest i choice same old mid new small here within S A B =
      added_more word_choice (λ c. c) (Done leaves rest) (λ c. c ≡ choice) (Done leaves rest') old mid new
      (λ k d. part k d (passes (bit rest k))) (λ k d. (d.0, gone k (inl d.1)))
      (λ c e. (i, (within i here, gone i (inr (S.itself here))), sym S.choice ∙ sym e)) A B
    where
      rest' : ℕ
      rest' = bit_and rest ((2 ^ 64 - 1) - same)

      is : (k : ℕ) → k < 64 → bit rest' k ≡ (bit rest k && not (bit same k))
      is k l = bit_of_and rest ((2 ^ 64 - 1) - same) k ∙ ap (◌&&◌ (bit rest k)) (bit_not 64 same k small l)

      gone : (k : ℕ) → T (not (bit rest k)) ⊎ BitOf same k → T (not (bit rest' k))
      gone k (inl t) = not_T (bit rest' k) (λ u.
          T_not (bit rest k) t (and_left (bit rest k) (bit ((2 ^ 64 - 1) - same) k)
          (subst T (bit_of_and rest ((2 ^ 64 - 1) - same) k) u)))
      gone k (inr b) = not_T (bit rest' k) (λ u.
          T_not (bit same k) (and_right (bit rest k) (not (bit same k)) (subst T (is k b.0) u)) b.1)

      part : (k : ℕ) → Done leaves rest' k → T (bit rest k) ⊎ T (not (bit rest k))
          → Done leaves rest k ⊎ ((c : ℕ) × (c ≡ choice) × (c ≡ word_choice k))
      part k d (inr t) = inl (d.0, t)
      part k d (inl t) = taken (passes (bit same k))
        where
          taken : T (bit same k) ⊎ T (not (bit same k))
              → Done leaves rest k ⊎ ((c : ℕ) × (c ≡ choice) × (c ≡ word_choice k))
          taken (inl u) = inr (choice, refl, S.choice ∙ sym (S.same k (d.0.0, u)))
          taken (inr u) =
              absurd (T_not (bit rest' k) d.1
              (subst T (sym (is k d.0.0)) (and_intro (bit rest k) (not (bit same k)) t u)))

  pub word_done : (rest : ℕ) (old new : List ℕ) → rest ≡ 0 → Added word_choice (Done leaves rest) old new
      → Added word_choice (BitOf leaves) old new
  word_done rest old new e =
      added_as word_choice (Done leaves rest) (BitOf leaves) old new
      (λ k b. (b, not_T (bit rest k) (λ t. subst T (ap (λ x. bit x k) e ∙ bit_zero k) t))) (λ k d. d.0)

-- ---- below the leaves of the constants

-- half a word of a row stands below each
over_is : (levels i : ℕ) → over levels i ≡ i / 32
over_is levels i = let e : row_levels levels - levels ≡ 5 = omega arith in ap (λ k. i / 2 ^ k) e

pub over_lt : (levels i : ℕ) → i < 2 ^ row_levels levels → over levels i < 2 ^ levels
over_lt levels i h = block_lt {h = levels} {w = row_levels levels} (omega arith) h

-- those of them that are below leaf a
abbrev pub AlikeTo : ℕ → List ℕ → ℕ → ℕ → ℕ → Type 0
AlikeTo levels keys b a i = Alike levels keys b i × (over levels i < a)

module _ (levels : ℕ) (table keys : List ℕ) (n b : ℕ) where
  -- the choice at a leaf of the rows
  abbrev choice : ℕ → ℕ
  choice = choice_at levels table n

  -- that leaf lies below one that looks like leaf b, before leaf a
  abbrev To : ℕ → ℕ → Type 0
  To = AlikeTo levels keys b

  pub alike_start : (old : List ℕ) → Added choice (To b) old old
  alike_start old = added_none choice (To b) old (λ i d. omega (arith, d.0.1, d.1))

  pub alike_other : (a : ℕ) (old new : List ℕ) → (get_or keys a 0 ≡ get_or keys b 0 → ⊥)
      → Added choice (To a) old new → Added choice (To (a + 1)) old new
  alike_other a old new other =
      added_as choice (To a) (To (a + 1)) old new (λ i d. (d.0, earlier i d (ℕ_discrete (over levels i) a)))
      (λ i d. (d.0, omega (arith, d.1)))
    where
      earlier : (i : ℕ) → To (a + 1) i → Dec (over levels i ≡ a) → over levels i < a
      earlier i d (yes e) = absurd (other (subst (λ k. get_or keys k 0 ≡ get_or keys b 0) e d.0.2))
      earlier i d (no n) = omega (arith, d.1)

  pub alike_more : (a half : ℕ) (old mid new : List ℕ) → b ≤ a → a < 2 ^ levels → get_or keys a 0 ≡ get_or keys b 0
      → ((k : ℕ) → k < 64 → bit half k ≡ eqb (k / 32) (a % 2))
      → Added choice (To a) old mid → Added (λ k. choice (64 * (a / 2) + k)) (BitOf half) mid new
      → Added choice (To (a + 1)) old new
  alike_more a half old mid new later small same bits A B =
      added_more choice (λ k. choice (64 * (a / 2) + k)) (To a) (BitOf half) (To (a + 1)) old mid new
      (λ i d. part i d (ℕ_discrete (over levels i) a)) (λ i d. (d.0, omega (arith, d.1)))
      (λ k h. (64 * (a / 2) + k, given k h, refl)) A B
    where
      part : (i : ℕ) → To (a + 1) i → Dec (over levels i ≡ a)
          → To a i ⊎ ((k : ℕ) × BitOf half k × (choice (64 * (a / 2) + k) ≡ choice i))
      part i d (no n) = inl (d.0, omega (arith, d.1))
      part i d (yes e) =
          let f : i / 32 ≡ a = sym (over_is levels i) ∙ e in
          let l : i % 64 < 64 = mod-lt i (omega arith) in
          let q : i % 64 / 32 ≡ a % 2 = omega arith in
          inr (i % 64, (l, of_true (bits (i % 64) l ∙ eq-eqb (i % 64 / 32) (a % 2) q)), ap choice (omega arith))

      given : (k : ℕ) → BitOf half k → To (a + 1) (64 * (a / 2) + k)
      given k h =
          let l = h.0 in
          let q : k / 32 ≡ a % 2 = eqb→eq (k / 32) (a % 2) (subst T (bits k l) h.1) in
          let f : (64 * (a / 2) + k) / 32 ≡ a = omega arith in
          let e : over levels (64 * (a / 2) + k) ≡ a = over_is levels (64 * (a / 2) + k) ∙ f in
          let wide : 2 ^ row_levels levels ≡ 2 ^ levels * 32 = pow-add 2 levels 5 in
          ((omega arith, omega arith, ap (λ k. get_or keys k 0) e ∙ same), omega arith)

  pub alike_done : (a : ℕ) (old new : List ℕ) → 2 ^ levels ≤ a
      → Added choice (To a) old new → Added choice (Alike levels keys b) old new
  alike_done a old new h =
      added_as choice (To a) (Alike levels keys b) old new
      (λ i d. (d, lt_of_lt_of_le (over_lt levels i d.0) h)) (λ i d. d.0)
