-- Laws of what is found where choices or leaves are looked at: none of them, more of them, the same said otherwise; a
-- word of choices, all words of a set, the leaves of the rows below leaves of the constants, and all leaves of the
-- rows. Assumes nothing.
use Rattle.std.specs.Prelude.{◌≡◌, refl, ◌⊎◌, Bool, ◌&&◌, ◌||◌, Option, Some, None, List, ℕ, ◌+◌, ◌-◌, ◌*◌, ◌/◌, ◌%◌}
use Rattle.std.specs.Prelude.{◌^◌, ◌≤◌, ◌<◌, ltb, eqb, get_or, replicate}
use Rattle.std.proofs.Common.{sym, ap, ◌∙◌, true≢false, mod-eq_of_lt, lt_of_lt_of_le, T_not, eqb→eq, eq-eqb, lt-ltb}
use Rattle.std.proofs.Math.Path.{subst}
use Rattle.std.proofs.Math.Logic.{inl, inr}
use Rattle.std.proofs.Math.Bool.{true, false, not, beq}
use Rattle.std.proofs.lemmas.Bool.{false≢true}
use Rattle.std.proofs.Math.Nat.{mod-lt}
use Rattle.std.proofs.Math.Decide.{dec_lt}
use native.Mathlib.Omega.{arith}
use Rattle.std.proofs.Math.Dec.{T, not_T, eqb_refl}
use Rattle.std.proofs.Math.Pow.{ones_lt}
use Rattle.shares.specs.Test.{is_false, of_true, of_false, passes, holds, same_test, beq_iff, and_intro, and_left}
use Rattle.shares.specs.Test.{and_right}
use Rattle.shares.specs.Below.{every_below, some_below}
use Rattle.shares.specs.BelowLaws.{every_at, every_intro, every_or, some_intro, some_found, some_or}
use Rattle.shares.specs.Constant.{bit}
use Rattle.shares.specs.BitLaws.{bit_zero, bits_zero}
use Rattle.shares.specs.BitParts.{bit_ones, bit_beyond}
use Rattle.format.specs.Stored.{Stored}
use Rattle.rows.specs.Rows.{row_levels}
use Rattle.words.specs.Choices.{word_count, some_own}
use Rattle.beside.specs.Beside.{Merged, SameFree, Left, positives_pass, disequation_passes, Missing}
use Rattle.beside.specs.GatherLaws.{same_free, choices_le}
use Rattle.steps.specs.Tests.{second_meets, second_differs}
use Rattle.extending.specs.Extending.{choice_at, over, values_at_leaf, meets_over, differs_over, extends_in}
use Rattle.extending.specs.Looks.{in_set, Added, Alike, alike, Unmet, AllMet, Looked, ChoicesLooked, SeenBy}
use Rattle.extending.specs.Looks.{LeavesLooked, InWord, InWords, KeysOf}
use Rattle.extending.specs.MarkLaws.{choice_lt, empty_set, over_lt}

-- ---- looked at

-- one that fails is found among more
pub unmet_wider : (meets : ℕ → Bool) (A B : ℕ → Type 0) → ((c : ℕ) → A c → B c) → Unmet meets A → Unmet meets B
unmet_wider meets A B wider (c, a, u) = (c, wider c a, u)

module _ (count : ℕ) (meets : ℕ → Bool) (differs : ℕ → ℕ → Bool) where
  -- nothing
  pub looked_none : (A : ℕ → Type 0) (wanted : ℕ) → ((c : ℕ) → A c → ⊥) → AllMet count meets differs A wanted wanted
  looked_none A wanted never = record {
    fewer = λ j l t. t;
    all = λ c a. absurd (never c a);
    found = λ j l t u. absurd (T_not (bit wanted j) u t);
    none = λ j l u c a. absurd (never c a);
  }

  -- some, none of which fails, and then others
  looked_more : (A B C : ℕ → Type 0) (wanted rest : ℕ) (r : Option ℕ) → count ≤ 64
      → ((c : ℕ) → C c → A c ⊎ B c) → ((c : ℕ) → A c → C c) → ((c : ℕ) → B c → C c)
      → AllMet count meets differs A wanted rest → Looked count meets differs B rest r
      → Looked count meets differs C wanted r
  looked_more A B C wanted rest None few parts first second L M = unmet_wider meets B C second M
  looked_more A B C wanted rest (Some last) few parts first second L M = record {
    fewer = λ j l t. L.fewer j l (M.fewer j l t);
    all = λ c h. every c (parts c h);
    found = λ j l t u. have j l t u (passes (bit rest j));
    none = λ j l u c h. never j l u c (parts c h);
  }
    where
      every : (c : ℕ) → A c ⊎ B c → T (meets c)
      every c (inl a) = L.all c a
      every c (inr b) = M.all c b

      have : (j : ℕ) → j < count → T (bit wanted j) → T (not (bit last j)) → T (bit rest j) ⊎ T (not (bit rest j))
          → (c : ℕ) × C c × T (differs j c)
      have j l t u (inl v) = let (c, b, d) = M.found j l v u in (c, second c b, d)
      have j l t u (inr v) = let (c, a, d) = L.found j l t v in (c, first c a, d)

      never : (j : ℕ) → j < count → T (bit last j) → (c : ℕ) → A c ⊎ B c → T (not (differs j c))
      never j l u c (inl a) = L.none j l (M.fewer j (omega arith) u) c a
      never j l u c (inr b) = M.none j l u c b

  -- none fails
  pub looked_met : (A : ℕ → Type 0) (wanted rest : ℕ) → Looked count meets differs A wanted (Some rest)
      → AllMet count meets differs A wanted rest
  looked_met A wanted rest L = L

  -- one that fails is found among more
  pub looked_wider : (A B : ℕ → Type 0) (wanted : ℕ) → ((c : ℕ) → A c → B c) → Looked count meets differs A wanted None
      → Looked count meets differs B wanted None
  looked_wider A B wanted wider L = unmet_wider meets A B wider L

  -- other numbers, each of which has the tests of one of these, and each of these those of one of them
  looked_as : (meets' : ℕ → Bool) (differs' : ℕ → ℕ → Bool) (A B : ℕ → Type 0) (wanted : ℕ) (r : Option ℕ)
      → ((c : ℕ) → A c → (i : ℕ) × B i × (meets c ≡ meets' i) × ((j : ℕ) → differs j c ≡ differs' j i))
      → ((i : ℕ) → B i → (c : ℕ) × A c × (meets c ≡ meets' i) × ((j : ℕ) → differs j c ≡ differs' j i))
      → Looked count meets differs A wanted r → Looked count meets' differs' B wanted r
  looked_as meets' differs' A B wanted None there back (c, a, u) = let (i, b, e, f) =
      there c a in (i, b, subst (λ x. T (not x)) e u)
  looked_as meets' differs' A B wanted (Some rest) there back L = record {
    fewer = L.fewer;
    all = λ i b. (let (c, a, e, f) = back i b in subst T e (L.all c a));
    found = λ j l t u. (let (c, a, d) = L.found j l t u in let (i, b, e, f) = there c a in (i, b, subst T (f j) d));
    none = λ j l u i b. (let (c, a, e, f) = back i b in subst (λ x. T (not x)) (f j) (L.none j l u c a));
  }

  -- all numbers below N are looked at
  module _ (N : ℕ) (A : ℕ → Type 0) (within : (c : ℕ) → A c → c < N) where
    -- one fails
    looked_unmet : Unmet meets A → (every_below N meets && every_below count (λ j. some_below N (differs j))) ≡ false
    looked_unmet (c, a, u) =
        let rest = every_below count (λ j. some_below N (differs j)) in
        is_false (every_below N meets && rest)
        (not_T (every_below N meets && rest)
        (λ v. T_not (meets c) u (every_at N meets (and_left (every_below N meets) rest v) c (within c a))))

    -- none fails: all have what was wanted exactly if nothing is wanted any more
    looked_all : (wanted rest : ℕ) → AllMet count meets differs A wanted rest → ((c : ℕ) → c < N → A c)
        → wanted ≡ 2 ^ count - 1 → count ≤ 64 → rest < 2 ^ 64
        → eqb rest 0 ≡ (every_below N meets && every_below count (λ j. some_below N (differs j)))
    looked_all wanted rest L every start few small =
        same_test (eqb rest 0) (every_below N meets && every_below count (λ j. some_below N (differs j)))
        (λ z.
        let e = eqb→eq rest 0 z in
        and_intro (every_below N meets) (every_below count (λ j. some_below N (differs j)))
        (every_intro N meets (λ c l. L.all c (every c l)))
        (every_intro count _ (λ j l.
        let (c, a, d) = L.found j l (of_true (ap (λ x. bit x j) start ∙ bit_ones count j l))
        (of_false (ap (λ x. bit x j) e ∙ bit_zero j)) in
        some_intro N (differs j) c (within c a) d)))
        (λ v.
        of_true
        (eq-eqb rest 0
        (bits_zero 64 rest small (λ j l. is_false (bit rest j) (not_T (bit rest j) (unset v j l (dec_lt j count)))))))
      where
        unset : T (every_below N meets && every_below count (λ j. some_below N (differs j))) → (j : ℕ) → j < 64
            → Dec (j < count)
            → T (bit rest j) → ⊥
        unset v j l (yes h) u =
            let (c, b, d) = some_found N (differs j)
            (every_at count (λ j. some_below N (differs j)) (and_right (every_below N meets) _ v) j h) in
            T_not (differs j c) (L.none j h u c (every c b)) d
        unset v j l (no n) u =
            T_not (bit wanted j) (of_false (ap (λ x. bit x j) start
            ∙ bit_beyond count (2 ^ count - 1) j (ones_lt count) (omega arith))) (L.fewer j l u)

-- ---- a word of choices, merged

module _ (n choices x : ℕ) (merged : Merged n choices x) where
  merged_here : (i : ℕ) → i < 64 → T (bit choices i) → T (bit x i)
  merged_here i l t =
      subst T (sym (merged i l))
      (some_intro 64 (λ j. eqb (j % 2 ^ n) (i % 2 ^ n) && bit choices j) i l
      (and_intro (eqb (i % 2 ^ n) (i % 2 ^ n)) (bit choices i) (eqb_refl (i % 2 ^ n)) t))

  merged_found : (i : ℕ) → i < 64 → T (bit x i) → (j : ℕ) × (j < 64) × (j % 2 ^ n ≡ i % 2 ^ n) × T (bit choices j)
  merged_found i l t =
      let (j, h, u) = some_found 64 (λ j. eqb (j % 2 ^ n) (i % 2 ^ n) && bit choices j) (subst T (merged i l) t) in (
        j,
        h,
        eqb→eq (j % 2 ^ n) (i % 2 ^ n) (and_left (eqb (j % 2 ^ n) (i % 2 ^ n)) (bit choices j) u),
        and_right (eqb (j % 2 ^ n) (i % 2 ^ n)) (bit choices j) u,
      )

  pub merged_free : SameFree n x
  merged_free i j hi hj e =
      merged i hi ∙ ap (λ m. some_below 64 (λ k. eqb (k % 2 ^ n) m && bit choices k)) e ∙ sym (merged j hj)

-- what is left of the merged word says it of the choices
module _ (n w choices x r : ℕ) (p : ℕ → Bool) (hw : w < word_count n) (merged : Merged n choices x)
    (left : Left x (λ i. p ((64 * w + i) % 2 ^ n)) r) where
  here : (c : ℕ) → InWord w choices c → T (bit x (c % 64)) × ((64 * w + c % 64) % 2 ^ n ≡ c % 2 ^ n)
  here c (e, t) =
      let q : 64 * w + c % 64 ≡ c = omega arith in
      (merged_here n choices x merged (c % 64) (mod-lt c (omega arith)) t, ap (λ z. z % 2 ^ n) q)

  there : (i : ℕ) → i < 64 → T (bit x i) → (c : ℕ) × InWord w choices c × (c % 2 ^ n ≡ (64 * w + i) % 2 ^ n)
  there i l t =
      let (j, h, e, u) = merged_found n choices x merged i l t in
      let q : (64 * w + j) / 64 ≡ w = omega arith in
      let m : j ≡ (64 * w + j) % 64 = omega arith in
      (64 * w + j, (q, subst (λ k. T (bit choices k)) m u), (same_free n w w i j hw l h).1 (mod-eq_of_lt hw, e))

  -- nothing is left: all pass
  left_nothing : r ≡ 0 → (c : ℕ) → InWord w choices c → T (p (c % 2 ^ n))
  left_nothing e c a =
      let l : c % 64 < 64 = mod-lt c (omega arith) in
      let (t, q) = here c a in
      subst (λ z. T (p z)) q
      (holds (p ((64 * w + c % 64) % 2 ^ n)) (λ u.
      subst T (sym (left (c % 64) l) ∙ ap (λ y. bit y (c % 64)) e ∙ bit_zero (c % 64))
      (and_intro (bit x (c % 64)) (not (p ((64 * w + c % 64) % 2 ^ n))) t u)))

  -- something is left: one fails
  left_something : r < 2 ^ 64 → (r ≡ 0 → ⊥) → (c : ℕ) × InWord w choices c × T (not (p (c % 2 ^ n)))
  left_something small set = go (some_or 64 (bit r))
    where
      go : ((i : ℕ) × (i < 64) × T (bit r i)) ⊎ ((i : ℕ) → i < 64 → T (not (bit r i))) → (c : ℕ) × InWord w choices c
          × T (not (p (c % 2 ^ n)))
      go (inr f) = absurd (set (bits_zero 64 r small (λ i l. is_false (bit r i) (f i l))))
      go (inl (i, l, t)) =
          let u = subst T (left i l) t in
          let (c, a, e) = there i l (and_left (bit x i) (not (p ((64 * w + i) % 2 ^ n))) u) in
          (c, a, subst (λ z. T (not (p z))) (sym e) (and_right (bit x i) (not (p ((64 * w + i) % 2 ^ n))) u))

  -- all is left: all fail
  left_all : T (alike x r) → (c : ℕ) → InWord w choices c → T (not (p (c % 2 ^ n)))
  unfolding alike
  left_all t c a =
      let l : c % 64 < 64 = mod-lt c (omega arith) in
      let (u, q) = here c a in
      let e : bit x (c % 64) ≡ bit r (c % 64) =
      (beq_iff (bit x (c % 64)) (bit r (c % 64))).0 (every_at 64 (λ i. beq (bit x i) (bit r i)) t (c % 64) l) in
      subst (λ z. T (not (p z))) q
      (and_right (bit x (c % 64)) (not (p ((64 * w + c % 64) % 2 ^ n))) (subst T (e ∙ left (c % 64) l) u))

  -- not all is left: one passes
  left_part : T (not (alike x r)) → (c : ℕ) × InWord w choices c × T (p (c % 2 ^ n))
  unfolding alike
  left_part t = go (every_or 64 (λ i. beq (bit x i) (bit r i)))
    where
      go : ((i : ℕ) → i < 64 → T (beq (bit x i) (bit r i))) ⊎ ((i : ℕ) × (i < 64) × T (not (beq (bit x i) (bit r i))))
          → (c : ℕ) × InWord w choices c × T (p (c % 2 ^ n))
      go (inl f) = absurd (T_not (every_below 64 (λ i. beq (bit x i) (bit r i))) t (every_intro 64 _ f))
      go (inr (i, l, u)) =
          let (s, v) = apart (bit x i) (bit r i) (p ((64 * w + i) % 2 ^ n)) (left i l) u in
          let (c, a, e) = there i l s in
          (c, a, subst (λ z. T (p z)) (sym e) v)
        where
          apart : (a b q : Bool) → b ≡ (a && not q) → T (not (beq a b)) → T a × T q
          apart true true q e u = absurd u
          apart true false true e u = (tt, tt)
          apart true false false e u = absurd (false≢true e)
          apart false true q e u = absurd (true≢false e)
          apart false false q e u = absurd u

-- an own choice meets the second system's positive clauses beside free choice y, and its disequation j
module _ (S : Stored) (values : ℕ) where
  abbrev own_meets : ℕ → Bool
  own_meets = some_own S.free S.own (positives_pass S.clauses S.counts S.free S.own values)

  abbrev own_differs : ℕ → ℕ → Bool
  own_differs j = some_own S.free S.own (disequation_passes S.clauses S.counts S.free S.own values j)

module _ (S : Stored) (values w choices x wanted rest : ℕ) (left : List ℕ) (hw : w < word_count S.free)
    (merged : Merged S.free choices x)
    (M : Missing S.clauses S.counts S.free S.own values w x wanted rest left) where
  pub word_unmet : rest < 2 ^ 64 → (rest ≡ 0 → ⊥) → ChoicesLooked S values (InWord w choices) wanted None
  word_unmet small some = left_something S.free w choices x rest (own_meets S values) hw merged M.none small some

  pub word_met : (still : ℕ) → get_or S.counts 3 0 ≤ 64 → rest ≡ 0
      → ((j : ℕ) → j < 64 → bit still j
      ≡ (bit wanted j && (not (ltb j (get_or S.counts 3 0)) || alike x (get_or left j 0))))
      → ChoicesLooked S values (InWord w choices) wanted (Some still)
  word_met still few e bits = record {
    fewer = λ j l t. was j l t;
    all = λ c a. left_nothing S.free w choices x rest (own_meets S values) hw merged M.none e c a;
    found = λ j l t u.
        left_part S.free w choices x (get_or left j 0) (own_differs S values j) hw merged (M.each j l t)
        (not_T (alike x (get_or left j 0)) (λ v.
        T_not (bit still j) u (subst T (sym (wanted_bit j l))
        (and_intro (bit wanted j) (alike x (get_or left j 0)) t v))));
    none = λ j l u c a.
        left_all S.free w choices x (get_or left j 0) (own_differs S values j) hw merged
        (M.each j l (was j (omega arith) u))
        (and_right (bit wanted j) (alike x (get_or left j 0)) (subst T (wanted_bit j l) u)) c a;
  }
    where
      was : (j : ℕ) → j < 64 → T (bit still j) → T (bit wanted j)
      was j l t = and_left (bit wanted j) (not (ltb j (get_or S.counts 3 0)) || alike x (get_or left j 0))
          (subst T (bits j l) t)

      wanted_bit : (j : ℕ) → j < get_or S.counts 3 0 → bit still j ≡ (bit wanted j && alike x (get_or left j 0))
      wanted_bit j l = bits j (omega arith)
          ∙ ap (λ b. bit wanted j && (not b || alike x (get_or left j 0))) (lt-ltb j (get_or S.counts 3 0) l)

-- ---- all words of a set

module _ (count : ℕ) (meets : ℕ → Bool) (differs : ℕ → ℕ → Bool) (present : List ℕ) (wanted : ℕ) where
  pub words_start : AllMet count meets differs (InWords 0 present) wanted wanted
  words_start = looked_none count meets differs (InWords 0 present) wanted (λ c a. omega (arith, a.0))

  pub words_more : (w rest : ℕ) (r : Option ℕ) → count ≤ 64 → AllMet count meets differs (InWords w present) wanted rest
      → Looked count meets differs (InWord w (get_or present w 0)) rest r
      → Looked count meets differs (InWords (w + 1) present) wanted r
  unfolding in_set
  words_more w rest r few =
      looked_more count meets differs (InWords w present) (InWord w (get_or present w 0)) (InWords (w + 1) present)
      wanted rest r few
      (λ c a. part c a (dec_lt c (64 * w))) (λ c a. (omega (arith, a.0), a.1))
      (λ c (e, t). (omega arith, subst (λ v. T (bit (get_or present v 0) (c % 64))) (sym e) t))
    where
      part : (c : ℕ) → InWords (w + 1) present c → Dec (c < 64 * w)
          → InWords w present c ⊎ InWord w (get_or present w 0) c
      part c (l, t) (yes h) = inl (h, t)
      part c (l, t) (no n) = let e : c / 64 ≡ w =
          omega arith in inr (e, subst (λ v. T (bit (get_or present v 0) (c % 64))) e t)

-- ---- the leaves of the rows

module _ (S : Stored) (table keys : List ℕ) (b start wanted : ℕ) (room : b < 2 ^ S.levels) (K : KeysOf S keys)
    (L : LeavesLooked S table b start (Some wanted)) where
  -- leaf b has the values of an earlier leaf
  pub leaf_known : (a : ℕ) → a < b → get_or keys a 0 ≡ get_or keys b 0
      → LeavesLooked S table (b + 1) start (Some wanted)
  leaf_known a l u =
      let e : values_at_leaf S a ≡ values_at_leaf S b = sym (K a (omega arith)) ∙ u ∙ K b room in
      looked_as (get_or S.counts 3 0) (meets_over S table) (differs_over S table) (meets_over S table)
      (differs_over S table) (SeenBy S b) (SeenBy S (b + 1))
      start (Some wanted) (λ i (d, m, h, q). (i, (d, omega arith, h, q), refl, λ j. refl))
      (λ i (d, m, h, q). (i, earlier e i d m h q (dec_lt d b), refl, λ j. refl)) L
    where
      earlier : values_at_leaf S a ≡ values_at_leaf S b → (i d : ℕ) → d < b + 1 → i < 2 ^ row_levels S.levels
          → values_at_leaf S d ≡ values_at_leaf S (over S.levels i) → Dec (d < b) → SeenBy S b i
      earlier e i d m h q (yes k) = (d, k, h, q)
      earlier e i d m h q (no n) = let f : b ≡ d = omega arith in (a, l, h, e ∙ ap (values_at_leaf S) f ∙ q)

  -- the leaves that look like it are looked at
  pub leaf_looked : (words : ℕ) (present : List ℕ) (r : Option ℕ) → get_or S.counts 3 0 ≤ 64
      → Added (choice_at S.levels table S.free) (Alike S.levels keys b) (replicate words 0) present
      → ChoicesLooked S (get_or keys b 0) (InWords (word_count S.free) present) wanted r
      → LeavesLooked S table (b + 1) start r
  leaf_looked words present r few A W =
      looked_more (get_or S.counts 3 0) (meets_over S table) (differs_over S table) (SeenBy S b) (Alike S.levels keys b)
      (SeenBy S (b + 1)) start wanted r few
      (λ i (d, m, h, q). part i h d m q (dec_lt d b)) (λ i (d, m, h, q). (d, omega arith, h, q))
      (λ i (h, m, q). (b, omega arith, h, sym (K b room) ∙ sym q ∙ K (over S.levels i) (over_lt S.levels i h))) L
      (looked_as (get_or S.counts 3 0) (second_meets S (get_or keys b 0)) (second_differs S (get_or keys b 0))
      (meets_over S table) (differs_over S table)
      (InWords (word_count S.free) present) (Alike S.levels keys b) wanted r
      (λ c (l, t). from c (A.only c t))
      (λ i a.
      let small = lt_of_lt_of_le (choice_lt S.levels table S.free i) (choices_le S.free) in
      (choice_at S.levels table S.free i, (small, A.added i a), (same i a).0, (same i a).1)) W)
    where
      -- a leaf below one that looks like leaf b has the values there
      values : (i : ℕ) → Alike S.levels keys b i → get_or keys b 0 ≡ values_at_leaf S (over S.levels i)
      values i (h, m, q) = sym q ∙ K (over S.levels i) (over_lt S.levels i h)

      same : (i : ℕ) → Alike S.levels keys b i
          → (second_meets S (get_or keys b 0) (choice_at S.levels table S.free i) ≡ meets_over S table i)
          × ((j : ℕ)
          → second_differs S (get_or keys b 0) j (choice_at S.levels table S.free i) ≡ differs_over S table j i)
      same i a = (
        ap (λ v. second_meets S v (choice_at S.levels table S.free i)) (values i a),
        λ j. ap (λ v. second_differs S v j (choice_at S.levels table S.free i)) (values i a),
      )

      from : (c : ℕ)
          → T (in_set (replicate words 0) c) ⊎ ((i : ℕ) × Alike S.levels keys b i
          × (choice_at S.levels table S.free i ≡ c))
          → (i : ℕ) × Alike S.levels keys b i × (second_meets S (get_or keys b 0) c ≡ meets_over S table i)
          × ((j : ℕ) → second_differs S (get_or keys b 0) j c ≡ differs_over S table j i)
      from c (inl t) = absurd (empty_set words c t)
      from c (inr (i, a, e)) = (
        i,
        a,
        ap (second_meets S (get_or keys b 0)) (sym e) ∙ (same i a).0,
        λ j. ap (second_differs S (get_or keys b 0) j) (sym e) ∙ (same i a).1 j,
      )

      part : (i : ℕ) → i < 2 ^ row_levels S.levels → (d : ℕ) → d < b + 1
          → values_at_leaf S d ≡ values_at_leaf S (over S.levels i) → Dec (d < b)
          → SeenBy S b i ⊎ Alike S.levels keys b i
      part i h d m q (yes l) = inl (d, l, h, q)
      part i h d m q (no n) =
          let e : d ≡ b = omega arith in
          later (K (over S.levels i) (over_lt S.levels i h) ∙ sym q ∙ ap (values_at_leaf S) e ∙ sym (K b room))
          (dec_lt (over S.levels i) b)
        where
          later : get_or keys (over S.levels i) 0 ≡ get_or keys b 0 → Dec (over S.levels i < b)
              → SeenBy S b i ⊎ Alike S.levels keys b i
          later f (yes l) = inl (over S.levels i, l, h, refl)
          later f (no n) = inr (h, omega arith, f)

-- ---- all leaves of the rows

module _ (S : Stored) (table : List ℕ) where
  pub leaves_start : (start : ℕ) → LeavesLooked S table 0 start (Some start)
  leaves_start start =
      looked_none (get_or S.counts 3 0) (meets_over S table) (differs_over S table) (SeenBy S 0) start
      (λ i (d, m, h, q). omega arith)

  -- one fails
  pub leaves_unmet : (b start : ℕ) → LeavesLooked S table b start None → extends_in S table ≡ false
  leaves_unmet b start =
      looked_unmet (get_or S.counts 3 0) (meets_over S table) (differs_over S table) (2 ^ row_levels S.levels)
      (SeenBy S b)
      (λ i (d, m, h, q). h)

  -- none fails
  pub leaves_all : (b wanted : ℕ) → 2 ^ S.levels ≤ b → get_or S.counts 3 0 ≤ 64 → wanted < 2 ^ 64
      → LeavesLooked S table b (2 ^ get_or S.counts 3 0 - 1) (Some wanted) → eqb wanted 0 ≡ extends_in S table
  leaves_all b wanted last few small L =
      looked_all (get_or S.counts 3 0) (meets_over S table) (differs_over S table) (2 ^ row_levels S.levels)
      (SeenBy S b) (λ i (d, m, h, q). h) (2 ^ get_or S.counts 3 0 - 1) wanted L
      (λ i h. (over S.levels i, lt_of_lt_of_le (over_lt S.levels i h) last, h, refl)) refl few small
