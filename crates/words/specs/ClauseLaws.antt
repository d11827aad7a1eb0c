-- Laws of clauses: the tests by Boolean operations, and the parts that a section reads. Assumes nothing.
use Rattle.std.specs.Prelude.{◌≡◌, refl, Bool, true, false, not, cond, ◌||◌, List, ℕ, ◌+◌, ◌-◌, ◌*◌, ◌^◌, ◌≤◌, ◌<◌, T}
use Rattle.std.specs.Prelude.{get_or}
use Rattle.std.proofs.Common.{sym, ◌∙◌, subst, add_assoc, add-one, arith, eq-eqb, ne_eqb}
use Rattle.std.proofs.Math.Path.{ap, ap₂}
use Rattle.std.proofs.Math.Bool.{xor, ◌&&◌, or_comm, not-not}
use Rattle.std.proofs.Math.Option.{none, some}
use Rattle.std.specs.Int.Bits.{bit_and, bit_or, bit_xor, and_lt}
use Rattle.std.proofs.lemmas.Nat.{or_lt}
use Rattle.shares.specs.BelowLaws.{every_ext, every_more, every_stays}
use Rattle.shares.specs.Constant.{bit}
use Rattle.shares.specs.BitLaws.{bit_zero, bit_of_and, bit_of_or, bit_of_xor}
use Rattle.shares.specs.BitParts.{bit_not}
use Rattle.shares.specs.Test.{of_true, holds}
use Rattle.shares.specs.Tree.{join_leaf, is_way, leaf_test}
use Rattle.shares.proofs.WayLaws.{is_way_iff, apart_test}
use Rattle.shares.specs.declared.Way.{Way}
use Rattle.shares.specs.declared.Way.TheVariants.{Holds, Overlap, Surplus, Shortfall}
use Rattle.words.specs.declared.Ways.{Ways}
use Rattle.words.specs.Clause.{test_way, test_value, WaysOf, clause_test, all_clauses, Clauses}

-- ---- the ways of a test by operations on bits

-- with a sum; two bits apart from an overlap are unlike the sum by a surplus or a shortfall
sum_ways : (a b c : Bool) → let w = leaf_test a b (some c) in let unlike = xor (a || b) c && not (a && b) in
    ((a && b) ≡ is_way Overlap w) × ((unlike && not c) ≡ is_way Surplus w) × ((unlike && c) ≡ is_way Shortfall w)
unfolding leaf_test join_leaf xor
sum_ways false false false = (refl, refl, refl)
sum_ways false false true = (refl, refl, refl)
sum_ways false true false = (refl, refl, refl)
sum_ways false true true = (refl, refl, refl)
sum_ways true false false = (refl, refl, refl)
sum_ways true false true = (refl, refl, refl)
sum_ways true true false = (refl, refl, refl)
sum_ways true true true = (refl, refl, refl)

-- without one
apart_ways : (a b : Bool) → let w = leaf_test a b none in
    ((a && b) ≡ is_way Overlap w) × (false ≡ is_way Surplus w) × (false ≡ is_way Shortfall w)
apart_ways a b = rw (apart_test a b) (by_case (a && b))
  where
    by_case : (d : Bool) → let w = cond d Overlap Holds in
        (d ≡ is_way Overlap w) × (false ≡ is_way Surplus w) × (false ≡ is_way Shortfall w)
    by_case true = (refl, refl, refl)
    by_case false = (refl, refl, refl)

-- a test fails in one of three ways
fails_some : (w : Way) → (is_way Overlap w || (is_way Surplus w || is_way Shortfall w)) ≡ not (is_way Holds w)
fails_some Holds = refl
fails_some Overlap = refl
fails_some Surplus = refl
fails_some Shortfall = refl

-- ---- and of words, bit by bit

pub not_bits : (x i : ℕ) (p : Bool) → x < 2 ^ 64 → i < 64 → bit x i ≡ p → bit ((2 ^ 64 - 1) - x) i ≡ not p
not_bits x i p l h e = bit_not 64 x i l h ∙ ap not e

module _ (a b c : ℕ) (x : a < 2 ^ 64) (y : b < 2 ^ 64) (z : c < 2 ^ 64) where
  -- three words that are right of each way are right of the test
  ways_of : (form : ℕ) (w : Ways) → ((i : ℕ) → i < 64 → let t = test_way form (bit a i) (bit b i) (bit c i) in
      (bit w.overlap i ≡ is_way Overlap t) × (bit w.surplus i ≡ is_way Surplus t)
      × (bit w.shortfall i ≡ is_way Shortfall t)) → WaysOf form a b c w
  ways_of form w f = record {
    overlap = λ i h. (f i h).0;
    surplus = λ i h. (f i h).1;
    shortfall = λ i h. (f i h).2;
    fails = λ i h. ap₂ ◌||◌ (f i h).0 (ap₂ ◌||◌ (f i h).1 (f i h).2)
        ∙ fails_some (test_way form (bit a i) (bit b i) (bit c i));
  }

  abbrev unlike : ℕ
  unlike = bit_and (bit_xor (bit_or a b) c) ((2 ^ 64 - 1) - bit_and a b)

  unlike_bits : (i : ℕ) → i < 64 → bit unlike i ≡ (xor (bit a i || bit b i) (bit c i) && not (bit a i && bit b i))
  unlike_bits i h =
      bit_of_and (bit_xor (bit_or a b) c) ((2 ^ 64 - 1) - bit_and a b) i
      ∙ ap₂ ◌&&◌ (bit_of_xor (bit_or a b) c i ∙ ap (λ d. xor d (bit c i)) (bit_of_or a b i))
      (not_bits (bit_and a b) i _ (and_lt 64 _ _ x y) h (bit_of_and a b i))

  pub sum_words : (form : ℕ) → form ≡ 0
      → WaysOf form a b c (record {
        overlap = bit_and a b;
        surplus = bit_and unlike ((2 ^ 64 - 1) - c);
        shortfall =
            bit_and unlike c;
      })
  unfolding test_way
  sum_words form e =
      ways_of form _ (λ i h.
      let S = sum_ways (bit a i) (bit b i) (bit c i) in
      rw (eq-eqb form 0 e) (
        bit_of_and a b i ∙ S.0,
        bit_of_and unlike ((2 ^ 64 - 1) - c) i ∙ ap₂ ◌&&◌ (unlike_bits i h) (not_bits c i _ z h refl) ∙ S.1,
        bit_of_and unlike c i ∙ ap (λ d. d && bit c i) (unlike_bits i h) ∙ S.2,
      ))

  pub apart_words : (form : ℕ) → (form ≡ 0 → ⊥)
      → WaysOf form a b c (record { overlap = bit_and a b; surplus = 0; shortfall = 0 })
  unfolding test_way
  apart_words form n =
      ways_of form _ (λ i h.
      let A = apart_ways (bit a i) (bit b i) in
      rw (ne_eqb form 0 n) (bit_of_and a b i ∙ A.0, bit_zero i ∙ A.1, bit_zero i ∙ A.2))

-- the test holds where none of the three words has its bit
pub holds_word : (form a b c : ℕ) (w : Ways) → WaysOf form a b c w
    → w.overlap < 2 ^ 64 → w.surplus < 2 ^ 64 → w.shortfall < 2 ^ 64 → (i : ℕ) → i < 64
    → bit ((2 ^ 64 - 1) - bit_or (bit_or w.surplus w.shortfall) w.overlap) i
    ≡ test_value form (bit a i) (bit b i) (bit c i)
holds_word form a b c w W x y z i h =
    let off = bit_or w.surplus w.shortfall in
    not_bits (bit_or off w.overlap) i _ (or_lt 64 _ _ (or_lt 64 _ _ y z) x) h
    (bit_of_or off w.overlap i ∙ or_comm (bit off i) (bit w.overlap i)
    ∙ ap (λ d. bit w.overlap i || d) (bit_of_or w.surplus w.shortfall i) ∙ W.fails i h)
    ∙ not-not (test_value form (bit a i) (bit b i) (bit c i))

-- ---- the way at one leaf from the three words

module _ (form a b c : ℕ) (w : Ways) (W : WaysOf form a b c w) (i : ℕ) (h : i < 64) where
  abbrev test : Way
  test = test_way form (bit a i) (bit b i) (bit c i)

  pub way_overlap : bit w.overlap i ≡ true → Overlap ≡ test
  way_overlap e = sym ((is_way_iff Overlap test).0 (of_true (sym (W.overlap i h) ∙ e)))

  pub way_surplus : bit w.surplus i ≡ true → Surplus ≡ test
  way_surplus e = sym ((is_way_iff Surplus test).0 (of_true (sym (W.surplus i h) ∙ e)))

  pub way_shortfall : bit w.shortfall i ≡ true → Shortfall ≡ test
  way_shortfall e = sym ((is_way_iff Shortfall test).0 (of_true (sym (W.shortfall i h) ∙ e)))

  pub way_holds : bit w.overlap i ≡ false → bit w.surplus i ≡ false → bit w.shortfall i ≡ false → Holds ≡ test
  way_holds o s f =
      let none-fails : not (is_way Holds test) ≡ false = sym (W.fails i h) ∙ rw (o, s, f) refl in
      sym ((is_way_iff Holds test).0 (holds (is_way Holds test) (λ t. subst T none-fails t)))

-- ---- sections

-- one clause of a section
pub clauses_at : {clauses : List ℕ} {start count : ℕ} → Clauses clauses start count → (k : ℕ) → k < count
    → Clauses clauses (start + 4 * k) 1
clauses_at {clauses} {start} {count} c k h =
    record {
      room = omega (arith, c.room);
      terms = λ j l.
          rw (add_assoc start (4 * k) j) (c.terms (4 * k + j) (omega arith));
    }

-- a clause reads parts below 64 alone
pub clause_ext : (x y : ℕ → Bool) {clauses : List ℕ} {at : ℕ} → Clauses clauses at 1 → ((t : ℕ) → t < 64 → x t ≡ y t)
    → clause_test clauses x at ≡ clause_test clauses y at
unfolding clause_test
clause_ext x y {clauses} {at} c h =
    rw (
      h (get_or clauses (at + 1) 0) (c.terms 1 (omega arith)),
      h (get_or clauses (at + 2) 0) (c.terms 2 (omega arith)),
      h (get_or clauses (at + 3) 0) (c.terms 3 (omega arith)),
    )

pub section_ext : (x y : ℕ → Bool) {clauses : List ℕ} {start count : ℕ} → Clauses clauses start count
    → ((t : ℕ) → t < 64 → x t ≡ y t)
    → all_clauses clauses x start count ≡ all_clauses clauses y start count
unfolding all_clauses
section_ext x y {clauses} {start} {count} c h =
    every_ext count (λ k. clause_test clauses x (start + 4 * k)) (λ k. clause_test clauses y (start + 4 * k))
    (λ k l. clause_ext x y (clauses_at c k l) h)

-- a bit that passes the first k clauses of a section, and one more
pub section_more : (b : Bool) (clauses : List ℕ) (x : ℕ → Bool) (start k : ℕ)
    → ((b && all_clauses clauses x start k) && clause_test clauses x (start + 4 * k))
    ≡ (b && all_clauses clauses x start (k + 1))
unfolding all_clauses
section_more true clauses x start k = sym (rw (add-one k) (every_more k (λ k. clause_test clauses x (start + 4 * k))))
section_more false clauses x start k = refl

-- where a bit fails the first k clauses of a section, it fails them all
pub section_stays : (b : Bool) (clauses : List ℕ) (x : ℕ → Bool) (start k count : ℕ) → k ≤ count
    → (b && all_clauses clauses x start k) ≡ false
    → (b && all_clauses clauses x start count) ≡ false
unfolding all_clauses
section_stays true clauses x start k count h e = every_stays count k (λ k. clause_test clauses x (start + 4 * k)) h e
section_stays false clauses x start k count h e = refl
