-- Laws of terms: the digit of a variable, the values of the constants, a term's value by its kind, and the parts of a
-- choice.
-- Assumes nothing.
use Rattle.std.specs.Prelude.{◌≡◌, Bool, List, ℕ, ◌+◌, ◌-◌, ◌*◌, ◌%◌, ◌^◌, ◌≤◌, ◌<◌, eqb, get_or}
use Rattle.std.proofs.Common.{sym, ◌∙◌, subst, lt_of_lt_of_le, arith, pow_mono}
use Rattle.std.proofs.Math.Path.{ap, ap₂, fun_ext}
use Rattle.std.proofs.Math.Bool.{not, ◌&&◌}
use Rattle.std.proofs.Math.Decide.{dec_lt}
use borrow.Author.Tests.{lt-ltb, le-ltb}
use Rattle.shares.specs.Blocks.{first_of}
use Rattle.shares.specs.Constant.{bit, number_of}
use Rattle.shares.specs.BitLaws.{bits_same, number_lt, bit_number}
use Rattle.shares.specs.Parts.{full_part}
use Rattle.words.specs.Clause.{clause_test, all_clauses, position, term_value}
use Rattle.words.specs.Choices.{values_at, all_pass, clause_fails, all_pass_but}
use Rattle.shares.specs.BitParts.{bit_beyond, bit_mod, bit_low, bit_high}

-- ---- the digit of a variable

pub position_free : (n m t : ℕ) → t < n → position n m t ≡ n - 1 - t
unfolding position
position_free n m t h = rw (lt-ltb t n h)

pub position_own : (n m t : ℕ) → n ≤ t → position n m t ≡ 2 * n + m - 1 - t
unfolding position
position_own n m t h = rw (le-ltb t n h)

pub position_lt : (n m t : ℕ) → t < n + m → position n m t < n + m
position_lt n m t h = go (dec_lt t n)
  where
    go : Dec (t < n) → position n m t < n + m
    go (yes l) = rw (position_free n m t l) (omega arith)
    go (no g) = rw (position_own n m t (omega arith)) (omega arith)

-- a variable is found from its digit as the digit is found from it
pub position_twice : (n m t : ℕ) → t < n + m → position n m (position n m t) ≡ t
position_twice n m t h = go (dec_lt t n)
  where
    go : Dec (t < n) → position n m (position n m t) ≡ t
    go (yes l) = rw (position_free n m t l, position_free n m (n - 1 - t) (omega arith)) (omega arith)
    go (no g) = rw (position_own n m t (omega arith), position_own n m (2 * n + m - 1 - t) (omega arith)) (omega arith)

-- so `position n m p` is also the variable that has digit p
pub has_digit : (n m p : ℕ) → p < n + m → (position n m p < n + m) × (position n m (position n m p) ≡ p)
has_digit n m p h = (position_lt n m p h, position_twice n m p h)

-- ---- the values of the constants

-- a word whose bits are the values at a leaf is their number
pub values_is : (levels : ℕ) (constants : List ℕ) (named h b r : ℕ) → r < 2 ^ 64
    → ((i : ℕ) → bit r i ≡ (bit named i && bit (get_or constants i 0) (first_of h levels b)))
    → r ≡ values_at levels constants named h b
unfolding values_at
values_is levels constants named h b r small bits =
    bits_same 64 r _ small (number_lt 64 _) (λ i l. bits i ∙ sym (bit_number 64 _ i l))

-- a word whose bits are set in another that is small is small
module _ (w named r : ℕ) (f : ℕ → Bool) (below : named < 2 ^ w) (bits : (i : ℕ) → bit r i ≡ (bit named i && f i)) where
  its_bits : (i : ℕ) → Dec (i < w) → bit r i ≡ bit (number_of w (bit r)) i
  its_bits i (yes k) = sym (bit_number w (bit r) i k)
  its_bits i (no k) =
      bits i ∙ ap (λ b. b && f i) (bit_beyond w named i below (omega arith))
      ∙ sym (bit_beyond w (number_of w (bit r)) i (number_lt w (bit r)) (omega arith))

  pub within_lt : w ≤ 64 → r < 2 ^ 64 → r < 2 ^ w
  within_lt few small =
      let least = number_lt w (bit r) in
      let same = bits_same 64 r (number_of w (bit r)) small (lt_of_lt_of_le least (pow_mono few))
      (λ i l. its_bits i (dec_lt i w)) in
      subst (λ x. x < 2 ^ w) (sym same) least

-- ---- a term's value by its kind

module _ (n m values z t : ℕ) where
  pub value_variable : t < n + m → term_value n m values z t ≡ bit z (position n m t)
  unfolding term_value
  value_variable h = rw (lt-ltb t (n + m) h)

  pub value_constant : n + m ≤ t → 32 ≤ t → term_value n m values z t ≡ bit values (t - 32)
  unfolding term_value
  value_constant h k = rw (le-ltb t (n + m) h, le-ltb t 32 k)

  pub value_none : n + m ≤ t → t < 32 → term_value n m values z t ≡ eqb t full_part
  unfolding term_value
  value_none h k = rw (le-ltb t (n + m) h, lt-ltb t 32 k)

-- what is no variable depends neither on the choice nor on how many variables there are
pub value_fixed : (n m n' m' values z z' t : ℕ) → n + m ≤ t → n' + m' ≤ t
    → term_value n m values z t ≡ term_value n' m' values z' t
unfolding term_value
value_fixed n m n' m' values z z' t h h' = rw (le-ltb t (n + m) h, le-ltb t (n' + m') h')

-- ---- a choice is a free choice x and an own choice y

module _ (n m values y x : ℕ) (h : x < 2 ^ n) where
  pub value_free : (t : ℕ) → t < n → term_value n m values (y * 2 ^ n + x) t ≡ bit x (n - 1 - t)
  value_free t l =
      value_variable n m values (y * 2 ^ n + x) t (omega arith)
      ∙ ap (bit (y * 2 ^ n + x)) (position_free n m t l) ∙ bit_low n y x h (n - 1 - t) (omega arith)

  pub value_own : (u : ℕ) → u < m → term_value n m values (y * 2 ^ n + x) (n + u) ≡ bit y (m - 1 - u)
  value_own u l =
      let e : 2 * n + m - 1 - (n + u) ≡ n + (m - 1 - u) = omega arith in
      value_variable n m values (y * 2 ^ n + x) (n + u) (omega arith)
      ∙ ap (bit (y * 2 ^ n + x)) (position_own n m (n + u) (omega arith) ∙ e) ∙ bit_high n y x h (m - 1 - u)

-- ---- only the low n + m digits of a choice count

module _ (n m values z : ℕ) where
  value_mod : (t : ℕ) → term_value n m values z t ≡ term_value n m values (z % 2 ^ (n + m)) t
  value_mod t = go (dec_lt t (n + m))
    where
      go : Dec (t < n + m) → term_value n m values z t ≡ term_value n m values (z % 2 ^ (n + m)) t
      go (yes l) =
          value_variable n m values z t l ∙ sym (bit_mod z (n + m) (position n m t) (position_lt n m t l))
          ∙ sym (value_variable n m values (z % 2 ^ (n + m)) t l)
      go (no g) = value_fixed n m n m values z (z % 2 ^ (n + m)) t (omega arith) (omega arith)

  pub values_mod : term_value n m values z ≡ term_value n m values (z % 2 ^ (n + m))
  values_mod = fun_ext value_mod

  pub pass_mod : (clauses : List ℕ) (start count : ℕ)
      → all_pass clauses start count n m values z ≡ all_pass clauses start count n m values (z % 2 ^ (n + m))
  unfolding all_pass
  pass_mod clauses start count = ap (λ x. all_clauses clauses x start count) values_mod

  pub fails_mod : (clauses : List ℕ) (at : ℕ)
      → clause_fails clauses at n m values z ≡ clause_fails clauses at n m values (z % 2 ^ (n + m))
  unfolding clause_fails
  fails_mod clauses at = ap (λ x. not (clause_test clauses x at)) values_mod

  pub but_mod : (clauses : List ℕ) (start count at : ℕ)
      → all_pass_but clauses start count at n m values z
      ≡ all_pass_but clauses start count at n m values (z % 2 ^ (n + m))
  unfolding all_pass_but
  but_mod clauses start count at = ap₂ ◌&&◌ (pass_mod clauses start count) (fails_mod clauses at)
