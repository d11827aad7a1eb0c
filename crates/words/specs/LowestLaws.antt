-- The lowest set bit of a word, and a word without one of its bits. Assumes nothing.
use Rattle.std.specs.Prelude.{◌≡◌, refl, Bool, true, false, not, ◌&&◌, ◌||◌, ℕ, zero, suc, ◌+◌, ◌-◌, ◌*◌, ◌/◌, ◌%◌, ◌^◌}
use Rattle.std.specs.Prelude.{◌≤◌, ◌<◌, T, eqb, ltb}
use Rattle.std.proofs.Common.{sym, ap, ◌∙◌, subst, add-zero, suc-mul, mod-lt, div-one, lt_of_lt_of_le, arith, T_not}
use Rattle.std.proofs.Common.{eqb→eq, pow_pos, pow_mono, eq-eqb, ne_eqb, lt-ltb, le-ltb}
use Rattle.std.proofs.Math.Path.{fun_ext}
use Rattle.std.proofs.Math.Bool.{and-true, and-false, or-false}
use Rattle.std.proofs.Math.Decide.{dec_lt, ℕ_discrete}
use Rattle.std.proofs.Math.Arith.{lt_of_le-ne}
use Rattle.std.specs.Int.Bits.{bit_and}
use Rattle.std.specs.Int.Count.{count_trailing_zeros, under}
use Rattle.std.proofs.Math.Dec.{eqb_refl}
use Rattle.std.proofs.Math.Pow.{pow-lt, split}
use Rattle.shares.specs.Test.{is_true, is_false, and_right}
use Rattle.shares.specs.Below.{first_below}
use Rattle.shares.specs.BelowLaws.{first_below_lem, first_least}
use Rattle.shares.specs.Constant.{bit}
use Rattle.shares.specs.BitLaws.{bit_of_and, bit_half, bits_zero}
use Rattle.shares.specs.BitParts.{bit_beyond, bit_not, bit_ones, bit_mod, bit_shift, bit_high}
use Rattle.shares.specs.Shifts.{power_shift, power_bit}

-- the zeros below the lowest set bit of x
lowest_bit : (x : ℕ) → bit x 0 ≡ eqb (x % 2) 1
unfolding bit
lowest_bit x = ap (λ y. eqb (y % 2) 1) (div-one x)

pub zeros_first : (k x : ℕ) → count_trailing_zeros k x ≡ first_below k (bit x)
unfolding count_trailing_zeros first_below
zeros_first zero x = refl
zeros_first (suc k) x =
    go (x % 2) (lowest_bit x) (mod-lt x (omega arith)) (zeros_first k (x / 2)
    ∙ ap (first_below k) (fun_ext (bit_half x)))
  where
    go : (b : ℕ) → bit x 0 ≡ eqb b 1 → b < 2 → count_trailing_zeros k (x / 2) ≡ first_below k (λ i. bit x (suc i))
        → under b (count_trailing_zeros k (x / 2)) ≡ first_below (suc k) (bit x)
    go zero e h ih = rw (e, first_below) (ap suc ih)
    go (suc zero) e h ih = rw (e, first_below)
    go (suc (suc b)) e h ih = absurd (omega arith)

-- a word that is not 0 has a first set bit
pub lowest_lt : (x : ℕ) → x < 2 ^ 64 → (x ≡ 0 → ⊥) → first_below 64 (bit x) < 64
lowest_lt x h n = go (dec_lt (first_below 64 (bit x)) 64)
  where
    go : Dec (first_below 64 (bit x) < 64) → first_below 64 (bit x) < 64
    go (yes l) = l
    go (no g) = absurd (n (bits_zero 64 x h (λ i l. is_false (bit x i) (first_least 64 (bit x) i (omega arith)))))

-- which is set
pub lowest_set : (x i : ℕ) → x < 2 ^ 64 → (x ≡ 0 → ⊥) → i ≡ first_below 64 (bit x) → (i < 64) × T (bit x i)
lowest_set x i small some e = let l = lowest_lt x small some in rw e (l, first_below_lem 64 (bit x) l)

-- a set bit of a word that is small
pub set_below : (w x i : ℕ) → x < 2 ^ w → T (bit x i) → i < w
set_below w x i small t = go (dec_lt i w)
  where
    go : Dec (i < w) → i < w
    go (yes l) = l
    go (no g) = absurd (subst T (bit_beyond w x i small (omega arith)) t)

-- so the lowest of one that is small
pub lowest_below : (w x i : ℕ) → w ≤ 64 → x < 2 ^ w → (x ≡ 0 → ⊥) → i ≡ first_below 64 (bit x) → (i < w) × T (bit x i)
lowest_below w x i few small some e =
    let t = (lowest_set x i (lt_of_lt_of_le small (pow_mono few)) some e).1 in
    (set_below w x i small t, t)

pub nonzero : (x : ℕ) → (x ≡ 0 → ⊥) → 0 < x
nonzero zero n = absurd (n refl)
nonzero (suc x) n = omega arith

-- ---- a word without its lowest bit

-- half of an odd number, and of the one before it
odd_half : (y : ℕ) → T (bit y 0) → ((y - 1) / 2 ≡ y / 2) × (bit (y - 1) 0 ≡ false) × (0 < y)
odd_half y t =
    let e : y % 2 ≡ 1 = eqb→eq (y % 2) 1 (subst T (lowest_bit y) t) in
    (omega arith, lowest_bit (y - 1) ∙ ne_eqb ((y - 1) % 2) 1 (omega arith), omega arith)

-- its bits
pub without_bit : (x : ℕ) → x < 2 ^ 64 → (x ≡ 0 → ⊥) → (k : ℕ)
    → bit (bit_and x (x - 1)) k ≡ (bit x k && not (eqb k (first_below 64 (bit x))))
without_bit x small some k = bit_of_and x (x - 1) k ∙ go (dec_lt k i) (ℕ_discrete k i)
  where
    i : ℕ
    i = first_below 64 (bit x)

    y : ℕ
    y = x / 2 ^ i

    clear : (j : ℕ) → j < i → bit x j ≡ false
    clear j l = is_false (bit x j) (first_least 64 (bit x) j l)

    parts : y * 2 ^ i ≡ x
    parts = rw (
      bits_zero i (x % 2 ^ i) (mod-lt x (pow_pos i)) (λ j l. bit_mod x i j l ∙ clear j l),
      add-zero (y * 2 ^ i),
    ) at (split x i)

    odd : ((y - 1) / 2 ≡ y / 2) × (bit (y - 1) 0 ≡ false) × (0 < y)
    odd = odd_half y (subst T (ap (bit x) (sym (add-zero i)) ∙ sym (bit_shift x i 0))
        (first_below_lem 64 (bit x) (lowest_lt x small some)))

    before : x - 1 ≡ (y - 1) * 2 ^ i + (2 ^ i - 1)
    before =
        let e : y * 2 ^ i ≡ suc (y - 1) * 2 ^ i = ap (λ z. z * 2 ^ i) (omega (arith, odd.2)) in
        omega (arith, parts, e, suc-mul (y - 1) (2 ^ i), pow_pos i)

    bit_before : (j : ℕ) → bit (x - 1) (i + j) ≡ bit (y - 1) j
    bit_before j = ap (λ z. bit z (i + j)) before ∙ bit_high i (y - 1) (2 ^ i - 1) (omega (arith, pow_pos i)) j

    above : (j : ℕ) → bit (x - 1) (i + suc j) ≡ bit x (i + suc j)
    above j = bit_before (suc j) ∙ sym (bit_half (y - 1) j) ∙ ap (λ z. bit z j) odd.0 ∙ bit_half y j
        ∙ bit_shift x i (suc j)

    same : (b : Bool) → (b && b) ≡ (b && true)
    same true = refl
    same false = refl

    go : Dec (k < i) → Dec (k ≡ i) → (bit x k && bit (x - 1) k) ≡ (bit x k && not (eqb k i))
    go (yes l) d = rw (clear k l) refl
    go (no l) (yes e) =
        let z : bit (x - 1) k ≡ false = ap (bit (x - 1)) (e ∙ sym (add-zero i)) ∙ bit_before 0 ∙ odd.1 in
        rw (z, eq-eqb k i e)
    go (no l) (no n) =
        let e : i + suc (k - i - 1) ≡ k = omega arith in
        let s : bit (x - 1) k ≡ bit x k = subst (λ n. bit (x - 1) n ≡ bit x n) e (above (k - i - 1)) in
        rw (s, ne_eqb k i n) (same (bit x k))

-- it is smaller
pub without_less : (x y i : ℕ) → y ≤ x → ((k : ℕ) → bit y k ≡ (bit x k && not (eqb k i))) → T (bit x i) → y < x
without_less x y i l out t =
    lt_of_le-ne l (λ e. T_not (eqb i i) (and_right (bit x i) _ (subst T (ap (λ z. bit z i) (sym e) ∙ out i) t))
    (eqb_refl i))

-- ---- the first bits of a word

pub first_bits : (x count k : ℕ) → bit (bit_and x (2 ^ count - 1)) k ≡ (ltb k count && bit x k)
first_bits x count k = bit_of_and x (2 ^ count - 1) k ∙ go (dec_lt k count)
  where
    go : Dec (k < count) → (bit x k && bit (2 ^ count - 1) k) ≡ (ltb k count && bit x k)
    go (yes l) = rw (bit_ones count k l, lt-ltb k count l) (and-true (bit x k))
    go (no g) = rw (
      bit_beyond count (2 ^ count - 1) k (omega (arith, pow_pos count)) (omega arith),
      le-ltb k count (omega arith),
    ) (and-false (bit x k))

-- ---- bit after bit

-- r has the values of the bits that are taken out, and now bit i is, with its own
pub moved_over : (r rest v : ℕ → Bool) (i : ℕ) → T (rest i) → (j : ℕ)
    → ((r j || (eqb j i && v i)) || ((rest j && not (eqb j i)) && v j)) ≡ (r j || (rest j && v j))
moved_over r rest v i t j = go (ℕ_discrete j i)
  where
    go : Dec (j ≡ i) → ((r j || (eqb j i && v i)) || ((rest j && not (eqb j i)) && v j)) ≡ (r j || (rest j && v j))
    go (yes e) = rw (e, eq-eqb i i refl, is_true (rest i) t) (or-false (r i || v i))
    go (no n) = rw (ne_eqb j i n, or-false (r j), and-true (rest j))

-- bit j taken out of a word: every other bit stays
pub other_bits : (x j k : ℕ) → j < 64 → k < 64 → (k ≡ j → ⊥) → bit (bit_and x ((2 ^ 64 - 1) - (1 * 2 ^ j) % 2 ^ 64)) k
    ≡ bit x k
other_bits x j k h l n =
    bit_of_and x ((2 ^ 64 - 1) - (1 * 2 ^ j) % 2 ^ 64) k
    ∙ ap (◌&&◌ (bit x k)) (ap (λ y. bit ((2 ^ 64 - 1) - y) k) (power_shift j h) ∙ unset) ∙ and-true (bit x k)
  where
    unset : bit ((2 ^ 64 - 1) - 2 ^ j) k ≡ true
    unset = bit_not 64 (2 ^ j) k (pow-lt {j = 64} h) l ∙ ap not (power_bit j k ∙ ne_eqb k j n)
