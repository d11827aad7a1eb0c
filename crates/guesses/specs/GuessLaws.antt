-- Laws of guesses: the bits of a range of choices, and what one guess more fixes. Assumes nothing.
use Rattle.std.specs.Prelude.{◌≡◌, refl, true, false, not, List, ℕ, zero, suc, ◌+◌, ◌-◌, ◌*◌, ◌/◌, ◌%◌, ◌^◌, ◌≤◌, ◌<◌}
use Rattle.std.specs.Prelude.{ltb, eqb, length, replicate, get_or, set}
use Rattle.std.proofs.Common.{sym, ap, ap₂, ◌∙◌, add-mul, zero-mul, mul_assoc, mul_comm, mod-lt, add-one, arith, T_not}
use Rattle.std.proofs.Common.{length-set, pow_pos, pow_mono, get_or-set_same, get_or-set_other, lt-ltb, le-ltb, eq-eqb}
use Rattle.std.proofs.Common.{ne_eqb}
use Rattle.std.proofs.Math.Nat.{two-pow-succ}
use Rattle.std.proofs.Math.Decide.{dec_lt}
use Rattle.std.specs.Int.Bits.{bit_and}
use Rattle.std.proofs.lemmas.Nat.{and_mask}
use Rattle.std.proofs.lemmas.List.{get_or-replicate}
use Rattle.shares.specs.Test.{is_false, of_false}
use Rattle.shares.specs.BelowLaws.{first_below_lem, first_least}
use Rattle.shares.specs.Constant.{bit}
use Rattle.shares.specs.BitLaws.{bit_zero, bits_zero}
use Rattle.shares.specs.BitParts.{bit_mod}
use Rattle.shares.specs.NumberLaws.{halved}
use Rattle.words.specs.Kept.{lowest_in}
use Rattle.words.specs.KeptLaws.{lowest_in_lt}
use Rattle.shares.specs.Shifts.{power_shift}
use Rattle.words.specs.Stores.{store_law}
use Rattle.guesses.specs.Guesses.{Values, choice_number}

-- some of the k low bits of x is set exactly if the first set bit is one of them
low_bits : (x k : ℕ) → k < 64 → not (eqb (x % 2 ^ k) 0) ≡ ltb (lowest_in x) k
unfolding lowest_in
low_bits x k h = go (dec_lt (lowest_in x) k)
  where
    go : Dec (lowest_in x < k) → not (eqb (x % 2 ^ k) 0) ≡ ltb (lowest_in x) k
    go (yes l) =
        let f = lowest_in x in
        rw (
          lt-ltb f k l,
          ne_eqb (x % 2 ^ k) 0
              (λ e. T_not (bit x f) (of_false (sym (bit_mod x k f l) ∙ ap (λ n. bit n f) e ∙ bit_zero f))
              (first_below_lem 63 (bit x) (omega arith))),
        )
    go (no g) =
        let f = lowest_in x in
        rw (
          le-ltb f k (omega arith),
          eq-eqb (x % 2 ^ k) 0
              (bits_zero k (x % 2 ^ k) (mod-lt x (pow_pos k)) (λ i l. bit_mod x k i l
              ∙ is_false (bit x i) (first_least 63 (bit x) i (omega arith)))),
        )

ltb_shifted : (start f end : ℕ) → start ≤ end → ltb f (end - start) ≡ ltb (start + f) end
ltb_shifted start f end h = go (dec_lt f (end - start))
  where
    go : Dec (f < end - start) → ltb f (end - start) ≡ ltb (start + f) end
    go (yes l) = rw (lt-ltb f (end - start) l, lt-ltb (start + f) end (omega arith))
    go (no g) = rw (le-ltb f (end - start) (omega arith), le-ltb (start + f) end (omega arith))

-- whether the least choice lies below `end`, where the first choice of its word has the number `start`: `end` lies
-- before the word, behind it or within
pub passes_before : (x start end : ℕ) → end ≤ start → false ≡ ltb (start + lowest_in x) end
passes_before x start end h = sym (le-ltb (start + lowest_in x) end (omega arith))

pub passes_behind : (x start end : ℕ) → 64 ≤ end - start → true ≡ ltb (start + lowest_in x) end
passes_behind x start end h = sym (lt-ltb (start + lowest_in x) end (omega (arith, lowest_in_lt x)))

pub passes_within : (x start end : ℕ) → start ≤ end → end - start < 64
    → not (eqb (bit_and x ((1 * 2 ^ (end - start)) % 2 ^ 64 - 1)) 0) ≡ ltb (start + lowest_in x) end
passes_within x start end h l =
    ap (λ m. not (eqb (bit_and x (m - 1)) 0)) (power_shift (end - start) l)
    ∙ ap (λ m. not (eqb m 0)) (and_mask x (end - start))
    ∙ low_bits x (end - start) l ∙ ltb_shifted start (lowest_in x) end h

-- the mask of the bits below `end` is no 0
pub mask_some : (k : ℕ) → k < 64 → 1 ≤ (1 * 2 ^ k) % 2 ^ 64
mask_some k h = rw (power_shift k h) (pow_pos k)

-- ---- the number of a choice

-- a store at a later variable changes nothing
number_kept : (v : ℕ) (values : List ℕ) (t x : ℕ) → v ≤ t → choice_number v (set values t x) ≡ choice_number v values
unfolding choice_number
number_kept zero values t x h = refl
number_kept (suc v) values t x h =
    ap₂ (λ a b. 2 * a + b) (number_kept v values t x (omega arith)) (get_or-set_other values t v x 0 (λ e. omega arith))

pub number_lt : (v : ℕ) (values : List ℕ) → Values values → choice_number v values < 2 ^ v
unfolding choice_number
number_lt zero values h = pow_pos 0
number_lt (suc v) values h = omega (arith, number_lt v values h, two-pow-succ v, h v)

pub number_more : (v : ℕ) (values : List ℕ) → 2 * choice_number v values + get_or values v 0
    ≡ choice_number (v + 1) values
unfolding choice_number
number_more v values = rw (add-one v)

-- at most 12 variables have at most 2 ^ 12 choices
pub few : {k : ℕ} → k ≤ 12 → 2 ^ k ≤ 2 ^ 12
few h = pow_mono h

-- ---- a guess more

-- the values of all variables but the last `left` are guessed, and those are full: the least choice is one of the 2 ^
-- left choices from `low` on, which are those with the guessed values
pub record Guessed (least free left : ℕ) (values : List ℕ) (low span : ℕ) : Type 0 where
  pub within : left ≤ free
  pub range : span ≡ 2 ^ left
  pub start : low ≡ choice_number (free - left) values * span
  pub size : length values ≡ 12
  pub digits : Values values
  pub later : (v : ℕ) → free - left ≤ v → v < 12 → get_or values v 0 ≡ 1
  pub lower : low ≤ least
  pub upper : least < low + span

digit_more : (n d h : ℕ) → (2 * n + d) * h ≡ n * (2 * h) + d * h
digit_more n d h = add-mul (2 * n) d h ∙ ap (λ x. x + d * h) (ap (λ x. x * h) (mul_comm 2 n) ∙ mul_assoc n 2 h)

ones_small : (n : ℕ) → Values (replicate n 1)
ones_small zero v = omega arith
ones_small (suc n) zero = omega arith
ones_small (suc n) (suc v) = ones_small n v

-- nothing is guessed at first
pub guess_none : (least free : ℕ) → least < 2 ^ free → Guessed least free free (replicate 12 1) 0 (2 ^ free)
unfolding choice_number
guess_none least free h =
    let values : List ℕ = replicate 12 1 in
    let e : free - free ≡ 0 = omega arith in
    record {
      within = omega arith;
      range = refl;
      start = sym (ap (λ k. choice_number k values * 2 ^ free) e ∙ zero-mul (2 ^ free));
      size = refl;
      digits = ones_small 12;
      later = λ v l m. get_or-replicate 12 v 1 0 m;
      lower = omega arith;
      upper = omega arith;
    }

module _ (least free left : ℕ) (values : List ℕ) (low span : ℕ) (g : Guessed least free left values low span)
    (h : 0 < left) where
  half_range : span / 2 ≡ 2 ^ (left - 1)
  half_range = omega (arith, g.range, halved left h)

  two_halves : 2 * (span / 2) ≡ span
  two_halves = omega (arith, g.range, halved left h)

  next_start : (new : List ℕ) (d : ℕ) → choice_number (free - left) new ≡ choice_number (free - left) values
      → get_or new (free - left) 0 ≡ d
      → low + d * (span / 2) ≡ choice_number (free - (left - 1)) new * (span / 2)
  next_start new d before here =
      let next : free - (left - 1) ≡ free - left + 1 = omega (arith, g.within) in
      sym
      (ap (λ k. choice_number k new * (span / 2)) next
      ∙ ap (λ n. n * (span / 2)) (sym (number_more (free - left) new) ∙ ap₂ (λ a b. 2 * a + b) before here)
      ∙ digit_more (choice_number (free - left) values) d (span / 2)
      ∙ ap (λ n. n + d * (span / 2)) (ap (λ n. choice_number (free - left) values * n) two_halves ∙ sym g.start))

  -- the least choice is in the lower span of the range: the next variable is empty
  pub guess_empty : free ≤ 12 → least < low + span / 2
      → Guessed least free (left - 1) (set values (free - left) 0) low (span / 2)
  guess_empty f l =
      let inside : free - left < length values = omega (arith, g.size, g.within) in
      let e : low + 0 * (span / 2) ≡ low = omega arith in
      record {
        within = omega (arith, g.within);
        range = half_range;
        start =
            sym e
            ∙ next_start (set values (free - left) 0) 0 (number_kept (free - left) values (free - left) 0 (omega arith))
            (get_or-set_same values (free - left) 0 0 inside);
        size = simp length-set g.size;
        digits = store_law (λ j x. x < 2) values (free - left) 0 inside (λ j n. g.digits j) (omega arith);
        later = λ v k m. get_or-set_other values (free - left) v 0 0 (λ q. omega (arith, g.within))
            ∙ g.later v (omega (arith, g.within)) m;
        lower = g.lower;
        upper = l;
      }

  -- it is in the upper span: the next variable is full, as it was before the guess
  pub guess_full : free ≤ 12 → low + span / 2 ≤ least → Guessed least free (left - 1) values (low + span / 2) (span / 2)
  guess_full f l =
      let e : low + 1 * (span / 2) ≡ low + span / 2 = omega arith in
      record {
        within = omega (arith, g.within);
        range = half_range;
        start = sym e ∙ next_start values 1 refl (g.later (free - left) (omega arith) (omega (arith, g.within)));
        size = g.size;
        digits = g.digits;
        later = λ v k m. g.later v (omega arith) m;
        lower = l;
        upper = omega (arith, g.upper, two_halves);
      }

-- no variable is left
pub guess_all : (least free left : ℕ) (values : List ℕ) (low span : ℕ) → Guessed least free left values low span
    → left ≡ 0
    → choice_number free values ≡ least
guess_all least free left values low span g e =
    let one : span ≡ 1 = g.range ∙ ap (λ k. 2 ^ k) e in
    let all : free - left ≡ free = omega arith in
    let start : low ≡ choice_number free values * 1 = g.start ∙ ap₂ (λ k n. choice_number k values * n) all one in
    omega (arith, g.lower, g.upper)
