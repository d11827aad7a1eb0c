-- Laws of the tests of the numbers below a bound. Assumes nothing.
use Rattle.std.specs.Prelude.{◌≡◌, refl, ◌⊎◌, ◌↔◌, Bool, true, false, not, ◌&&◌, ◌||◌, ℕ, zero, suc, ◌+◌, ◌-◌, ◌≤◌, ◌<◌}
use Rattle.std.specs.Prelude.{T, eqb}
use Rattle.std.proofs.Common.{sym, ap, ap₂, ◌∙◌, subst, inl, inr, zero-le, suc-le-suc, le_of_suc-le-suc}
use Rattle.std.proofs.Common.{not-suc-le-zero, eq-or-lt_of_le, le_antisymm, lt_of_lt_of_le, arith, T_not, eq-eqb}
use Rattle.std.proofs.Common.{ne_eqb}
use Rattle.std.proofs.Math.Bool.{and-true, or-false, and_assoc, or_assoc}
use Rattle.std.proofs.Math.Decide.{dec_lt}
use Rattle.std.proofs.Math.Dec.{not_T}
use Rattle.shares.specs.Below.{every_below, some_below, first_below, one, count_below}
use Rattle.shares.specs.Test.{is_true, is_false, of_true, of_false, passes, holds, same_test, and_intro, and_left}
use Rattle.shares.specs.Test.{and_right, or_left, or_right, or_cases}

-- ---- every, some

pub every_at : (n : ℕ) (p : ℕ → Bool) → T (every_below n p) → (i : ℕ) → i < n → T (p i)
unfolding every_below
every_at zero p t i h = absurd (not-suc-le-zero h)
every_at (suc n) p t zero h = and_left (p zero) _ t
every_at (suc n) p t (suc i) h = every_at n (λ k. p (suc k)) (and_right (p zero) _ t) i (le_of_suc-le-suc h)

pub every_intro : (n : ℕ) (p : ℕ → Bool) → ((i : ℕ) → i < n → T (p i)) → T (every_below n p)
unfolding every_below
every_intro zero p f = tt
every_intro (suc n) p f =
    and_intro (p zero) _ (f zero (suc-le-suc zero-le))
    (every_intro n (λ k. p (suc k)) (λ i h. f (suc i) (suc-le-suc h)))

pub every_ext : (n : ℕ) (p q : ℕ → Bool) → ((i : ℕ) → i < n → p i ≡ q i) → every_below n p ≡ every_below n q
unfolding every_below
every_ext zero p q e = refl
every_ext (suc n) p q e = ap₂ ◌&&◌ (e zero (suc-le-suc zero-le)) (every_ext n _ _ (λ i h. e (suc i) (suc-le-suc h)))

pub some_intro : (n : ℕ) (p : ℕ → Bool) (i : ℕ) → i < n → T (p i) → T (some_below n p)
unfolding some_below
some_intro zero p i h t = absurd (not-suc-le-zero h)
some_intro (suc n) p zero h t = or_left (p zero) _ t
some_intro (suc n) p (suc i) h t = or_right (p zero) _ (some_intro n (λ k. p (suc k)) i (le_of_suc-le-suc h) t)

-- a number below n that passes
abbrev pub Below : ℕ → (ℕ → Bool) → Type 0
Below n p = (i : ℕ) × (i < n) × T (p i)

pub some_found : (n : ℕ) (p : ℕ → Bool) → T (some_below n p) → Below n p
unfolding some_below
some_found zero p t = absurd t
some_found (suc n) p t = step (or_cases (p zero) _ t) (some_found n (λ k. p (suc k)))
  where
    step : T (p zero) ⊎ T (some_below n (λ k. p (suc k)))
        → (T (some_below n (λ k. p (suc k))) → Below n (λ k. p (suc k))) → Below (suc n) p
    step (inl u) ih = (zero, suc-le-suc zero-le, u)
    step (inr u) ih = let (i, h, v) = ih u in (suc i, suc-le-suc h, v)

pub some_ext : (n : ℕ) (p q : ℕ → Bool) → ((i : ℕ) → i < n → p i ≡ q i) → some_below n p ≡ some_below n q
unfolding some_below
some_ext zero p q e = refl
some_ext (suc n) p q e = ap₂ ◌||◌ (e zero (suc-le-suc zero-le)) (some_ext n _ _ (λ i h. e (suc i) (suc-le-suc h)))

-- one number more

pub every_more : (n : ℕ) (p : ℕ → Bool) → every_below (suc n) p ≡ (every_below n p && p n)
unfolding every_below
every_more zero p = and-true (p zero)
every_more (suc n) p =
    ap (λ b. p zero && b) (every_more n (λ i. p (suc i)))
    ∙ sym (and_assoc (p zero) (every_below n (λ i. p (suc i))) (p (suc n)))

pub some_more : (n : ℕ) (p : ℕ → Bool) → some_below (suc n) p ≡ (some_below n p || p n)
unfolding some_below
some_more zero p = or-false (p zero)
some_more (suc n) p =
    ap (λ b. p zero || b) (some_more n (λ i. p (suc i)))
    ∙ sym (or_assoc (p zero) (some_below n (λ i. p (suc i))) (p (suc n)))

-- where not all of the first k pass, not all pass
pub every_stays : (n k : ℕ) (p : ℕ → Bool) → k ≤ n → every_below k p ≡ false → every_below n p ≡ false
every_stays n k p h e =
    is_false (every_below n p)
    (not_T (every_below n p) (λ t. T_not (every_below k p) (of_false e)
    (every_intro k p (λ i l. every_at n p t i (lt_of_lt_of_le l h)))))

pub some_none : (n : ℕ) (p : ℕ → Bool) → ((i : ℕ) → i < n → p i ≡ false) → some_below n p ≡ false
some_none n p h =
    is_false (some_below n p) (not_T (some_below n p) (λ t. let (i, l, u) =
    some_found n p t in T_not (p i) (of_false (h i l)) u))

-- over a longer range
pub some_add : (a b : ℕ) (p : ℕ → Bool) → some_below (a + b) p ≡ (some_below a p || some_below b (λ i. p (a + i)))
some_add a b p =
    same_test (some_below (a + b) p) (some_below a p || some_below b (λ i. p (a + i)))
    (λ t. let (i, l, u) = some_found (a + b) p t in part i l u (dec_lt i a))
    (λ t. whole (or_cases (some_below a p) (some_below b (λ i. p (a + i))) t))
  where
    part : (i : ℕ) → i < a + b → T (p i) → Dec (i < a) → T (some_below a p || some_below b (λ i. p (a + i)))
    part i l u (yes h) = or_left (some_below a p) (some_below b (λ i. p (a + i))) (some_intro a p i h u)
    part i l u (no h) =
        let e : a + (i - a) ≡ i = omega arith in
        or_right (some_below a p) (some_below b (λ i. p (a + i)))
        (some_intro b (λ i. p (a + i)) (i - a) (omega arith) (subst (λ k. T (p k)) (sym e) u))

    whole : T (some_below a p) ⊎ T (some_below b (λ i. p (a + i))) → T (some_below (a + b) p)
    whole (inl t) = let (i, l, u) = some_found a p t in some_intro (a + b) p i (omega arith) u
    whole (inr t) = let (i, l, u) = some_found b (λ i. p (a + i)) t in some_intro (a + b) p (a + i) (omega arith) u

-- a search settles it: some number passes, or none does
pub some_or : (n : ℕ) (p : ℕ → Bool) → Below n p ⊎ ((i : ℕ) → i < n → T (not (p i)))
some_or n p = go (passes (some_below n p))
  where
    go : T (some_below n p) ⊎ T (not (some_below n p)) → Below n p ⊎ ((i : ℕ) → i < n → T (not (p i)))
    go (inl t) = inl (some_found n p t)
    go (inr t) = inr (λ i l. not_T (p i) (λ u. T_not (some_below n p) t (some_intro n p i l u)))

-- every number passes, or one that fails is found
pub every_or : (n : ℕ) (p : ℕ → Bool) → ((i : ℕ) → i < n → T (p i)) ⊎ Below n (λ i. not (p i))
every_or n p = go (some_or n (λ i. not (p i)))
  where
    go : Below n (λ i. not (p i)) ⊎ ((i : ℕ) → i < n → T (not (not (p i))))
        → ((i : ℕ) → i < n → T (p i)) ⊎ Below n (λ i. not (p i))
    go (inl b) = inr b
    go (inr f) = inl (λ i l. holds (p i) (λ u. T_not (not (p i)) (f i l) u))

-- a claim that is a test of every number below n fails exactly where the test does, at a number that is found
pub fails_iff : {A : Type 0} (n : ℕ) (p : ℕ → Bool) → A ↔ ((i : ℕ) → i < n → T (p i)) → (¬ A) ↔ Below n (λ i. not (p i))
fails_iff {A} n p e = (λ no-a. found no-a (every_or n p), λ (i, l, t) a. T_not (p i) t (e.0 a i l))
  where
    found : ¬ A → ((i : ℕ) → i < n → T (p i)) ⊎ Below n (λ i. not (p i)) → Below n (λ i. not (p i))
    found no-a (inl h) = absurd (no-a (e.1 h))
    found no-a (inr f) = f

-- ---- the first

first_here : (n : ℕ) (p : ℕ → Bool) → T (p zero) → first_below (suc n) p ≡ zero
unfolding first_below
first_here n p t = go (p zero) t
  where
    go : (b : Bool) → T b → elim b as (λ _. ℕ) [ true ↦ zero | false ↦ suc (first_below n (λ i. p (suc i))) ] ≡ zero
    go true u = refl
    go false u = absurd u

first_later : (n : ℕ) (p : ℕ → Bool) → T (not (p zero)) → first_below (suc n) p ≡ suc (first_below n (λ i. p (suc i)))
unfolding first_below
first_later n p t = go (p zero) t
  where
    go : (b : Bool) → T (not b)
        → elim b as (λ _. ℕ) [ true ↦ zero | false ↦ suc (first_below n (λ i. p (suc i))) ]
        ≡ suc (first_below n (λ i. p (suc i)))
    go true u = absurd u
    go false u = refl

-- it is at most n; below n it passes; and none below it does
pub first_le : (n : ℕ) (p : ℕ → Bool) → first_below n p ≤ n
unfolding first_below
first_le zero p = zero-le
first_le (suc n) p = step (passes (p zero)) (first_le n (λ k. p (suc k)))
  where
    step : T (p zero) ⊎ T (not (p zero)) → first_below n (λ k. p (suc k)) ≤ n → first_below (suc n) p ≤ suc n
    step (inl u) ih = rw (first_here n p u) zero-le
    step (inr u) ih = rw (first_later n p u) (suc-le-suc ih)

pub first_below_lem : (n : ℕ) (p : ℕ → Bool) → first_below n p < n → T (p (first_below n p))
unfolding first_below
first_below_lem zero p h = absurd (not-suc-le-zero h)
first_below_lem (suc n) p h = step (passes (p zero)) (first_below_lem n (λ k. p (suc k))) h
  where
    step : T (p zero) ⊎ T (not (p zero))
        → (first_below n (λ k. p (suc k)) < n → T (p (suc (first_below n (λ k. p (suc k))))))
        → first_below (suc n) p < suc n → T (p (first_below (suc n) p))
    step (inl u) ih l = rw (first_here n p u) u
    step (inr u) ih l = rw (first_later n p u) (ih (le_of_suc-le-suc (rw (first_later n p u) at l)))

pub first_least : (n : ℕ) (p : ℕ → Bool) (i : ℕ) → i < first_below n p → T (not (p i))
unfolding first_below
first_least zero p i h = absurd (not-suc-le-zero h)
first_least (suc n) p i h = step (passes (p zero)) i h (first_least n (λ k. p (suc k)))
  where
    step : T (p zero) ⊎ T (not (p zero)) → (k : ℕ) → k < first_below (suc n) p
        → ((m : ℕ) → m < first_below n (λ k. p (suc k)) → T (not (p (suc m)))) → T (not (p k))
    step (inl u) k l ih = absurd (not-suc-le-zero (rw (first_here n p u) at l))
    step (inr u) zero l ih = u
    step (inr u) (suc k) l ih = ih k (le_of_suc-le-suc (rw (first_later n p u) at l))

pub first_min : (n : ℕ) (p : ℕ → Bool) (i : ℕ) → T (p i) → first_below n p ≤ i
first_min n p i t = let f : ¬ (i < first_below n p) = λ l. T_not (p i) (first_least n p i l) t in omega arith

-- if any number below n passes, the first is below n, and passes
pub first_passes : (n : ℕ) (p : ℕ → Bool) (i : ℕ) → i < n → T (p i) → (first_below n p < n) × T (p (first_below n p))
first_passes n p i h t = let l : first_below n p < n = omega (arith, first_min n p i t) in (l, first_below_lem n p l)

-- a search below a bound finds something exactly if something passes
pub first_some : (m : ℕ) (p : ℕ → Bool) → first_below m p < m → T (some_below m p)
first_some m p l = some_intro m p (first_below m p) l (first_below_lem m p l)

-- it is the one number that passes with none below it
pub first_is : (n : ℕ) (p : ℕ → Bool) (r : ℕ) → r < n → ((i : ℕ) → i < r → p i ≡ false) → p r ≡ true
    → first_below n p ≡ r
first_is n p r h before found =
    le_antisymm (first_min n p r (of_true found)) (low (dec_lt (first_below n p) r))
  where
    low : Dec (first_below n p < r) → r ≤ first_below n p
    low (yes l) = absurd (T_not (p (first_below n p)) (of_false (before (first_below n p) l))
        (first_below_lem n p (omega arith)))
    low (no g) = omega arith

pub first_none : (n : ℕ) (p : ℕ → Bool) → ((i : ℕ) → i < n → p i ≡ false) → first_below n p ≡ n
first_none n p none = le_antisymm (first_le n p) (low (dec_lt (first_below n p) n))
  where
    low : Dec (first_below n p < n) → n ≤ first_below n p
    low (yes l) = absurd (T_not (p (first_below n p)) (of_false (none (first_below n p) l)) (first_below_lem n p l))
    low (no g) = omega arith

-- all pass exactly if none is the first that does not
pub every_first : (n : ℕ) (p : ℕ → Bool) → every_below n p ≡ eqb (first_below n (λ i. not (p i))) n
every_first n p = go (every_or n p)
  where
    go : ((i : ℕ) → i < n → T (p i)) ⊎ Below n (λ i. not (p i))
        → every_below n p ≡ eqb (first_below n (λ i. not (p i))) n
    go (inl f) =
        is_true (every_below n p) (every_intro n p f)
        ∙ sym (eq-eqb (first_below n (λ i. not (p i))) n
        (first_none n (λ i. not (p i)) (λ i l. ap not (is_true (p i) (f i l)))))
    go (inr (i, l, t)) =
        let below = (first_passes n (λ i. not (p i)) i l t).0 in
        is_false (every_below n p) (not_T (every_below n p) (λ u. T_not (p i) t (every_at n p u i l)))
        ∙ sym (ne_eqb (first_below n (λ i. not (p i))) n (λ e. omega (arith, below)))

-- a range in which some number passes has the same first number as a longer one
pub first_longer : (a b : ℕ) (p : ℕ → Bool) → a ≤ b → T (some_below a p) → first_below b p ≡ first_below a p
first_longer a b p h t =
    let (i, l, u) = some_found a p t in
    let (below, passed) = first_passes a p i l u in
    first_is b p (first_below a p) (omega arith) (λ k v. is_false (p k) (first_least a p k v))
    (is_true (p (first_below a p)) passed)

pub first_ext : (n : ℕ) (p q : ℕ → Bool) → ((i : ℕ) → i < n → p i ≡ q i) → first_below n p ≡ first_below n q
unfolding first_below
first_ext zero p q e = refl
first_ext (suc n) p q e =
    ap₂ (λ b k. elim b as (λ _. ℕ) [ true ↦ zero | false ↦ suc k ]) (e zero (suc-le-suc zero-le))
    (first_ext n (λ i. p (suc i)) (λ i. q (suc i)) (λ i h. e (suc i) (suc-le-suc h)))

-- ---- counts

pub count_ext : (n : ℕ) (p q : ℕ → Bool) → ((i : ℕ) → i < n → p i ≡ q i) → count_below n p ≡ count_below n q
unfolding count_below
count_ext zero p q e = refl
count_ext (suc n) p q e = ap₂ (λ a b. a + one b) (count_ext n p q (λ i l. e i (omega arith))) (e n (omega arith))

pub count_le : (n : ℕ) (p : ℕ → Bool) → count_below n p ≤ n
unfolding count_below
count_le zero p = zero-le
count_le (suc n) p = go (p n) (count_le n p)
  where
    go : (b : Bool) → count_below n p ≤ n → count_below n p + one b ≤ suc n
    go true ih = omega arith
    go false ih = omega arith

pub count_lt : (n : ℕ) (p : ℕ → Bool) (i : ℕ) → i < n → T (p i) → count_below i p < count_below n p
unfolding count_below
count_lt zero p i h t = absurd (not-suc-le-zero h)
count_lt (suc n) p i h t = go (eq-or-lt_of_le (le_of_suc-le-suc h)) (λ l. count_lt n p i l t)
  where
    last : (b : Bool) → T b → count_below n p < count_below n p + one b
    last true u = omega arith
    last false u = absurd u

    go : (i ≡ n) ⊎ (i < n) → (i < n → count_below i p < count_below n p) → count_below i p < count_below n p + one (p n)
    go (inl e) ih = rw e (last (p n) (rw e at t))
    go (inr l) ih = let m = ih l in omega arith
