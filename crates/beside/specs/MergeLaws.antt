-- A word turned by k bits, and a word merged: or-ed with itself, turned by every multiple of 2 ^ n. Assumes nothing.
use Rattle.std.specs.Prelude.{◌≡◌, Bool, not, ◌&&◌, ◌||◌, ℕ, suc, ◌+◌, ◌-◌, ◌*◌, ◌/◌, ◌%◌, ◌^◌, ◌≤◌, ◌<◌, T, eqb}
use Rattle.std.proofs.Common.{sym, ap, ap₂, ◌∙◌, subst, mod-lt, mod-eq_of_lt, add_assoc, add-mul, zero-mul, add-zero}
use Rattle.std.proofs.Common.{pow-suc, arith, eqb→eq, pow_pos, pow-add, shr_lt, eq-eqb}
use Rattle.std.proofs.Math.Path.{fun_ext}
use Rattle.std.proofs.Math.Bool.{or-false}
use Rattle.std.proofs.Math.Nat.{mod-add-mod, add-mod-mod, add-mod_right, add-mul-mod_self_right, add-mul-div_right}
use Rattle.std.proofs.Math.Decide.{dec_lt}
use Rattle.std.specs.Int.Bits.{bit_or}
use Rattle.std.proofs.Math.Pow.{split, mod-mod-pow}
use Rattle.std.proofs.lemmas.Nat.{mod-pow-add}
use Rattle.shares.specs.Test.{same_test, of_true, and_intro, and_left, and_right}
use Rattle.shares.specs.Below.{some_below}
use Rattle.shares.specs.BelowLaws.{some_found, some_intro, some_add, some_ext}
use Rattle.shares.specs.Constant.{bit}
use Rattle.shares.specs.BitLaws.{bit_of_or}
use Rattle.shares.specs.BitParts.{bit_shift, bit_mod, bit_beyond, bit_raised_low, bit_raised, bit_not}
use Rattle.beside.specs.Beside.{Merged, MergedTo, Shared}

-- ---- turned by k bits

pub turned_bit : (x k i : ℕ) → x < 2 ^ 64 → k < 64 → i < 64 → bit (bit_or (x / 2 ^ k) (x * 2 ^ (64 - k) % 2 ^ 64)) i
    ≡ bit x ((i + k) % 64)
turned_bit x k i hx hk hi =
    bit_of_or (x / 2 ^ k) (x * 2 ^ (64 - k) % 2 ^ 64) i
    ∙ ap₂ ◌||◌ (bit_shift x k i) (bit_mod (x * 2 ^ (64 - k)) 64 i hi) ∙ go (dec_lt (i + k) 64)
  where
    go : Dec (i + k < 64) → (bit x (k + i) || bit (x * 2 ^ (64 - k)) i) ≡ bit x ((i + k) % 64)
    go (yes l) =
        let e : k + i ≡ (i + k) % 64 = omega arith in
        ap₂ ◌||◌ (ap (bit x) e) (bit_raised_low x (64 - k) i (omega arith)) ∙ or-false (bit x ((i + k) % 64))
    go (no g) =
        let e : i ≡ (64 - k) + (i + k) % 64 = omega arith in
        ap₂ ◌||◌ (bit_beyond 64 x (k + i) hx (omega arith)) (ap (bit (x * 2 ^ (64 - k))) e
        ∙ bit_raised x (64 - k) ((i + k) % 64))

-- ---- merged

pub merge_start : (n x : ℕ) → MergedTo n n x x
unfolding some_below
merge_start n x i h =
    let e : n - n ≡ 0 = omega arith in
    let here : i ≡ (i + 0 * 2 ^ n) % 64 =
    sym (ap (λ k. (i + k) % 64) (zero-mul (2 ^ n)) ∙ mod-eq_of_lt (rw (add-zero i) h) ∙ add-zero i) in
    ap (bit x) here ∙ sym (or-false (bit x ((i + 0 * 2 ^ n) % 64)))
    ∙ sym (ap (λ k. some_below (2 ^ k) (λ j. bit x ((i + j * 2 ^ n) % 64))) e)

pub merge_more : (n p x r s : ℕ) → n ≤ p → MergedTo n p x r
    → ((i : ℕ) → i < 64 → bit s i ≡ (bit r i || bit r ((i + 2 ^ p) % 64))) → MergedTo n (p + 1) x s
merge_more n p x r s h f turn i l =
    turn i l ∙ ap₂ ◌||◌ (f i l) (f ((i + 2 ^ p) % 64) (mod-lt (i + 2 ^ p) (omega arith))
    ∙ ap (some_below half) (fun_ext shifted))
    ∙ sym (ap (λ k. some_below k at) double ∙ some_add half half at)
  where
    half : ℕ
    half = 2 ^ (p - n)

    at : ℕ → Bool
    at j = bit x ((i + j * 2 ^ n) % 64)

    double : 2 ^ (p + 1 - n) ≡ half + half
    double =
        let e : p + 1 - n ≡ suc (p - n) = omega arith in
        ap (λ k. 2 ^ k) e ∙ pow-suc 2 (p - n) ∙ omega arith

    whole : half * 2 ^ n ≡ 2 ^ p
    whole = let e : (p - n) + n ≡ p = omega arith in sym (pow-add 2 (p - n) n) ∙ ap (λ k. 2 ^ k) e

    shifted : (j : ℕ) → bit x (((i + 2 ^ p) % 64 + j * 2 ^ n) % 64) ≡ at (half + j)
    shifted j =
        ap (bit x)
        (mod-add-mod (i + 2 ^ p) 64 (j * 2 ^ n)
        ∙ ap (λ k. k % 64) (add_assoc i (2 ^ p) (j * 2 ^ n)
        ∙ ap (◌+◌ i) (sym (add-mul half j (2 ^ n) ∙ ap (λ k. k + j * 2 ^ n) whole))))

-- merged to the end, a bit is set where a bit with the same low n digits is
pub merge_whole : (n x r : ℕ) → n ≤ 6 → MergedTo n 6 x r → Merged n x r
merge_whole n x r h f i l =
    f i l
    ∙ same_test (some_below (2 ^ (6 - n)) at) (some_below 64 same)
    (λ t.
    let (j, a, u) = some_found (2 ^ (6 - n)) at t in
    some_intro 64 same ((i + j * 2 ^ n) % 64) (mod-lt (i + j * 2 ^ n) (omega arith))
    (and_intro (eqb ((i + j * 2 ^ n) % 64 % 2 ^ n) (i % 2 ^ n)) (bit x ((i + j * 2 ^ n) % 64))
    (of_true (eq-eqb ((i + j * 2 ^ n) % 64 % 2 ^ n) (i % 2 ^ n) (low_same j))) u))
    (λ t.
    let (k, a, u) = some_found 64 same t in
    let e = eqb→eq (k % 2 ^ n) (i % 2 ^ n) (and_left (eqb (k % 2 ^ n) (i % 2 ^ n)) (bit x k) u) in
    some_intro (2 ^ (6 - n)) at (steps k) (mod-lt (k / 2 ^ n + (2 ^ (6 - n) - i / 2 ^ n)) (pow_pos (6 - n)))
    (subst (λ z. T (bit x z)) (sym (reached k a e)) (and_right (eqb (k % 2 ^ n) (i % 2 ^ n)) (bit x k) u)))
  where
    at : ℕ → Bool
    at j = bit x ((i + j * 2 ^ n) % 64)

    same : ℕ → Bool
    same j = eqb (j % 2 ^ n) (i % 2 ^ n) && bit x j

    six : (6 - n) + n ≡ 6
    six = omega arith

    low_same : (j : ℕ) → (i + j * 2 ^ n) % 64 % 2 ^ n ≡ i % 2 ^ n
    low_same j =
        sym (ap (λ k. (i + j * 2 ^ n) % 2 ^ k % 2 ^ n) six) ∙ mod-mod-pow (i + j * 2 ^ n) (6 - n) n
        ∙ add-mul-mod_self_right i j (2 ^ n)

    -- how many steps of 2 ^ n lead from i to k
    steps : ℕ → ℕ
    steps k = (k / 2 ^ n + (2 ^ (6 - n) - i / 2 ^ n)) % 2 ^ (6 - n)

    block : (k : ℕ) → k < 64 → k / 2 ^ n < 2 ^ (6 - n)
    block k a = shr_lt (6 - n) n (subst (λ e. k < 2 ^ e) (sym six) a)

    around : (k : ℕ) → k < 64 → (i / 2 ^ n + steps k) % 2 ^ (6 - n) ≡ k / 2 ^ n
    around k a =
        let e : i / 2 ^ n + (k / 2 ^ n + (2 ^ (6 - n) - i / 2 ^ n)) ≡ k / 2 ^ n + 2 ^ (6 - n) =
        omega (arith, block i l) in
        add-mod-mod (i / 2 ^ n) (k / 2 ^ n + (2 ^ (6 - n) - i / 2 ^ n)) (2 ^ (6 - n))
        ∙ ap (λ z. z % 2 ^ (6 - n)) e ∙ add-mod_right (k / 2 ^ n) (2 ^ (6 - n)) ∙ mod-eq_of_lt (block k a)

    reached : (k : ℕ) → k < 64 → k % 2 ^ n ≡ i % 2 ^ n → (i + steps k * 2 ^ n) % 64 ≡ k
    reached k a e =
        sym (ap (λ c. (i + steps k * 2 ^ n) % 2 ^ c) six) ∙ mod-pow-add (i + steps k * 2 ^ n) (6 - n) n
        ∙ ap₂ (λ u v. u % 2 ^ (6 - n) * 2 ^ n + v) (add-mul-div_right i (steps k) (pow_pos n))
        (add-mul-mod_self_right i (steps k) (2 ^ n))
        ∙ ap₂ (λ u v. u * 2 ^ n + v) (around k a) (sym e) ∙ split k n

-- the bits that fail, merged, fail when shared
pub shared_not : (n x r : ℕ) → x < 2 ^ 64 → r < 2 ^ 64 → Merged n ((2 ^ 64 - 1) - x) r → Shared n x ((2 ^ 64 - 1) - r)
shared_not n x r hx hr f i h =
    bit_not 64 r i hr h
    ∙ ap not
    (f i h
    ∙ some_ext 64 (λ j. eqb (j % 2 ^ n) (i % 2 ^ n) && bit ((2 ^ 64 - 1) - x) j) (λ j. eqb (j % 2 ^ n) (i % 2 ^ n)
    && not (bit x j))
    (λ j l. ap (◌&&◌ (eqb (j % 2 ^ n) (i % 2 ^ n))) (bit_not 64 x j hx l)))
