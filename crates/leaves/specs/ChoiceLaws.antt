-- Laws of choices: what is picked passes, is the least, and is the first number that passes. Assumes nothing.
use Rattle.std.specs.Prelude.{◌≡◌, refl, Bool, true, false, not, ◌&&◌, ℕ, zero, suc, ◌+◌, ◌-◌, ◌*◌, ◌^◌, ◌≤◌, ◌<◌, T}
use Rattle.std.specs.Prelude.{leb}
use Rattle.std.proofs.Common.{sym, ap, ap₂, ◌∙◌, suc-le-suc, zero-le, le_of_suc-le-suc, not-suc-le-zero, pow-suc}
use Rattle.std.proofs.Common.{le_antisymm, arith, T_not, leb→le, le→leb}
use Rattle.std.proofs.Math.Arith.{lt→nleb}
use Rattle.std.proofs.Math.Dec.{nleb→lt}
use Rattle.shares.specs.Test.{same_test, and_intro, and_left, and_right}
use Rattle.shares.specs.Below.{some_below, first_below, one}
use Rattle.shares.specs.BelowLaws.{some_intro, some_found, some_ext, first_passes, first_min, first_ext}
use Rattle.leaves.specs.Choices.{Picker, some_choice, Row, nil, cons, at, table, leaf_picker, pick_row, least}
use Rattle.leaves.specs.RowNumbers.{value, digits}

pub choice_intro : {X : Type 0} (C : Picker X) (p : X → Bool) (x : X) → T (p x) → T (some_choice C p)
unfolding some_choice
choice_intro C p x t = C.picked p x t

pub choice_found : {X : Type 0} (C : Picker X) (p : X → Bool) → T (some_choice C p) → T (p (C.pick p))
unfolding some_choice
choice_found C p t = t

-- a choice that passes two tests
pub both_intro : {X : Type 0} (C : Picker X) (p q : X → Bool) (x : X) → T (p x) → T (q x)
    → T (some_choice C (λ x. p x && q x))
both_intro C p q x t u = choice_intro C (λ x. p x && q x) x (and_intro (p x) (q x) t u)

pub both_found : {X : Type 0} (C : Picker X) (p q : X → Bool) → T (some_choice C (λ x. p x && q x)) → (x : X) × T (p x)
    × T (q x)
both_found C p q t =
    let x = C.pick (λ x. p x && q x) in
    let u : T (p x && q x) = choice_found C (λ x. p x && q x) t in
    (x, and_left (p x) (q x) u, and_right (p x) (q x) u)

-- ---- rows

pub at_table : {X : Type 0} (d : X) (n : ℕ) (f : ℕ → X) (i : ℕ) → i < n → at d (table n f) i ≡ f i
unfolding at table
at_table d zero f i l = absurd (not-suc-le-zero l)
at_table d (suc n) f zero l = refl
at_table d (suc n) f (suc i) l = at_table d n (λ i. f (suc i)) i (le_of_suc-le-suc l)

-- past its end
pub at_past : {X : Type 0} (d : X) {n : ℕ} (r : Row X n) (i : ℕ) → n ≤ i → at d r i ≡ d
unfolding at
at_past d nil i l = refl
at_past d (cons x r) zero l = absurd (not-suc-le-zero l)
at_past d (cons x r) (suc i) l = at_past d r i (le_of_suc-le-suc l)

-- two rows are equal if their values are
pub row_path : {X : Type 0} (d : X) (n : ℕ) (a b : Row X n) → ((v : ℕ) → v < n → at d a v ≡ at d b v) → a ≡ b
unfolding at
row_path d zero nil nil f = refl
row_path d (suc n) (cons x a) (cons y b) f =
    ap₂ cons (f zero (suc-le-suc zero-le)) (row_path d n a b (λ v l. f (suc v) (suc-le-suc l)))

-- ---- the row that is picked is the least, the first leaf compared first

pub value_lt : (n : ℕ) (v : Row Bool n) → value v < 2 ^ n
unfolding value
value_lt zero nil = omega arith
value_lt (suc n) (cons b v) = rw pow-suc (go b (value_lt n v))
  where
    go : (b : Bool) → value v < 2 ^ n → one b * 2 ^ n + value v < 2 ^ n * 2
    go true l = omega arith
    go false l = omega arith

least_row : (n : ℕ) (p : Row Bool n → Bool) (v : Row Bool n) → T (p v) → value (pick_row leaf_picker n p) ≤ value v
unfolding value pick_row
least_row zero p nil t = omega arith
least_row (suc n) p (cons b v) t = go (p (cons false (rest false))) refl b t (λ x. least_row n (λ w. p (cons x w)) v)
  where
    rest : Bool → Row Bool n
    rest x = pick_row leaf_picker n (λ w. p (cons x w))

    go : (c : Bool) → p (cons false (rest false)) ≡ c → (b : Bool) → T (p (cons b v))
        → ((x : Bool) → T (p (cons x v)) → value (rest x) ≤ value v)
        → one (not c) * 2 ^ n + value (rest (not c)) ≤ one b * 2 ^ n + value v
    go true e true u ih = omega (arith, value_lt n (rest false))
    go true e false u ih = omega (arith, ih false u)
    go false e true u ih = omega (arith, ih true u)
    go false e false u ih = absurd (rw e at ((least n).picked (λ w. p (cons false w)) v u))

-- ---- rows are the numbers below 2 ^ n, in order

pub value_digits : (n k : ℕ) → k < 2 ^ n → value (digits n k) ≡ k
unfolding value digits
value_digits zero k l = omega arith
value_digits (suc n) k l = go (leb (2 ^ n) k) refl (value_digits n) (rw pow-suc at l)
  where
    go : (b : Bool) → leb (2 ^ n) k ≡ b → ((m : ℕ) → m < 2 ^ n → value (digits n m) ≡ m) → k < 2 ^ n * 2
        → one b * 2 ^ n + value (digits n (k - one b * 2 ^ n)) ≡ k
    go true e ih u =
        let m : 2 ^ n ≤ k = leb→le (2 ^ n) k (rw e tt) in
        omega (arith, ih (k - 1 * 2 ^ n) (omega arith))
    go false e ih u =
        let m : k < 2 ^ n = nleb→lt (2 ^ n) k (rw e tt) in
        omega (arith, ih (k - 0 * 2 ^ n) (omega arith))

-- the first digit of a row's number
first_digit : (n : ℕ) (b : Bool) (w : Row Bool n) → leb (2 ^ n) (one b * 2 ^ n + value w) ≡ b
first_digit n true w =
    same_test (leb (2 ^ n) (1 * 2 ^ n + value w)) true (λ _. tt)
    (λ _. le→leb (2 ^ n) (1 * 2 ^ n + value w) (omega arith))
first_digit n false w =
    same_test (leb (2 ^ n) (0 * 2 ^ n + value w)) false
    (T_not (leb (2 ^ n) (0 * 2 ^ n + value w)) (lt→nleb (2 ^ n) (0 * 2 ^ n + value w) (omega (arith, value_lt n w))))
    (λ f. absurd f)

digits_value : {n : ℕ} (w : Row Bool n) → digits n (value w) ≡ w
unfolding value digits
digits_value nil = refl
digits_value (cons {n = n} b w) = go (leb (2 ^ n) (one b * 2 ^ n + value w)) (first_digit n b w) (digits_value w)
  where
    go : (c : Bool) → c ≡ b → digits n (value w) ≡ w → cons c (digits n (one b * 2 ^ n + value w - one c * 2 ^ n))
        ≡ cons b w
    go c e ih =
        let m : one b * 2 ^ n + value w - one b * 2 ^ n ≡ value w = omega arith in
        rw (e, m, ih)

-- the row that is picked is the first number that passes, in digits
pub pick_first : (n : ℕ) (p : Row Bool n → Bool) → T (some_below (2 ^ n) (λ k. p (digits n k)))
    → (least n).pick p ≡ digits n (first_below (2 ^ n) (λ k. p (digits n k)))
pick_first n p t =
    let (k, l, u) = some_found (2 ^ n) (λ k. p (digits n k)) t in
    let f : ℕ = first_below (2 ^ n) (λ k. p (digits n k)) in
    let r : Row Bool n = (least n).pick p in
    let found : (f < 2 ^ n) × T (p (digits n f)) = first_passes (2 ^ n) (λ k. p (digits n k)) k l u in
    let above : f ≤ value r =
    first_min (2 ^ n) (λ k. p (digits n k)) (value r) (rw (digits_value r) ((least n).picked p (digits n f) found.1)) in
    let below : value r ≤ f = rw (value_digits n f found.0) at (least_row n p (digits n f) found.1) in
    sym (digits_value r) ∙ ap (digits n) (le_antisymm below above)

-- and some row passes just where some number does
pub some_row : (n : ℕ) (p : Row Bool n → Bool) → some_choice (least n) p ≡ some_below (2 ^ n) (λ k. p (digits n k))
some_row n p =
    same_test (some_choice (least n) p) (some_below (2 ^ n) (λ k. p (digits n k)))
    (λ t.
    let r : Row Bool n = (least n).pick p in
    some_intro (2 ^ n) (λ k. p (digits n k)) (value r) (value_lt n r)
    (rw (digits_value r) (choice_found (least n) p t)))
    (λ t. let (k, l, u) = some_found (2 ^ n) (λ k. p (digits n k)) t in choice_intro (least n) p (digits n k) u)

-- by a test of their numbers
module _ (n : ℕ) (p : ℕ → Bool) where
  pub some_number : some_choice (least n) (λ v. p (value v)) ≡ some_below (2 ^ n) p
  some_number = some_row n (λ v. p (value v)) ∙ some_ext (2 ^ n) _ p (λ i l. ap p (value_digits n i l))

  pub pick_number : T (some_below (2 ^ n) p) → value ((least n).pick (λ v. p (value v))) ≡ first_below (2 ^ n) p
  pick_number t =
      let same : first_below (2 ^ n) (λ k. p (value (digits n k))) ≡ first_below (2 ^ n) p =
      first_ext (2 ^ n) _ p (λ i l. ap p (value_digits n i l)) in
      let (i, l, u) = some_found (2 ^ n) p t in
      ap value (pick_first n (λ v. p (value v)) (some_intro (2 ^ n) _ i l (rw (value_digits n i l) u)))
      ∙ ap (λ k. value (digits n k)) same
      ∙ value_digits n (first_below (2 ^ n) p) (first_passes (2 ^ n) p i l u).0
