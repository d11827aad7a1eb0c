-- Laws of the tests at a leaf: only the digits of the free variables count, and the words of a table of terms have
-- them. Assumes nothing.
use Rattle.std.specs.Prelude.{◌≡◌, Bool, ◌&&◌, List, ℕ, ◌+◌, ◌*◌, ◌%◌, ◌^◌, ◌≤◌, ◌<◌, get_or}
use Rattle.std.proofs.Common.{sym, ap₂, ◌∙◌, arith}
use Rattle.std.proofs.Math.Path.{ap}
use Rattle.std.proofs.Math.Bool.{not}
use native.Mathlib.Nat.{add-zero, mod-mod}
use Rattle.shares.specs.BelowLaws.{every_ext}
use Rattle.shares.specs.Constant.{bit}
use Rattle.format.specs.Stored.{Stored}
use Rattle.words.specs.Clause.{clause_test, all_clauses, term_value}
use Rattle.words.specs.ClauseLaws.{clauses_at}
use Rattle.words.specs.Choices.{word_count, all_pass, clause_fails, some_own, Periodic}
use Rattle.words.specs.Table.{Terms}
use Rattle.words.specs.TableLaws.{table_section, table_clause}
use Rattle.words.specs.TermLaws.{position_free, value_variable, value_fixed, pass_mod, fails_mod}
use Rattle.beside.specs.declared.Sizes.{Sizes}
use Rattle.beside.specs.Beside.{Readable, SameFree}
use Rattle.beside.specs.GatherLaws.{same_free}
use Rattle.steps.specs.Tests.{first_meets, first_differs, second_meets, second_differs, allowed_in}
use Rattle.steps.specs.Steps.{stored_by}
use Rattle.steps.specs.declared.Search.{Search}
use Rattle.steps.specs.declared.Search.TheVariants.{First, Unmet, Missed}

-- ---- only the free variables' digits of a choice count

pub first_periodic : (S : Stored) (values : ℕ) → Periodic S.free (first_meets S values)
first_periodic S values z =
    pass_mod S.free 0 values z S.clauses 0 (get_or S.counts 0 0)
    ∙ ap (λ d. first_meets S values (z % 2 ^ d)) (add-zero S.free)

pub fails_periodic : (clauses : List ℕ) (at n values : ℕ) → Periodic n (clause_fails clauses at n 0 values)
fails_periodic clauses at n values z =
    fails_mod n 0 values z clauses at ∙ ap (λ d. clause_fails clauses at n 0 values (z % 2 ^ d)) (add-zero n)

low_periodic : (n : ℕ) (p : ℕ → Bool) → Periodic n (λ z. p (z % 2 ^ n))
low_periodic n p z = ap p (sym (mod-mod z (2 ^ n)))

pub meets_periodic : (S : Stored) (values : ℕ) → Periodic S.free (second_meets S values)
meets_periodic S values = low_periodic S.free (some_own S.free S.own _)

pub differs_periodic : (S : Stored) (values j : ℕ) → Periodic S.free (second_differs S values j)
differs_periodic S values j = low_periodic S.free (some_own S.free S.own _)

pub allowed_periodic : (S : Stored) (search : Search) (values : ℕ) → Periodic S.free (allowed_in S search values)
allowed_periodic S First values = first_periodic S values
allowed_periodic S Unmet values = first_periodic S values
allowed_periodic S (Missed j) values =
    λ z. ap₂ (λ x y. x && not y) (first_periodic S values z) (differs_periodic S values j z)

-- so the bits of a word whose numbers have the same low digits are equal
pub word_free : (n w x : ℕ) (p : ℕ → Bool) → w < word_count n → Periodic n p
    → ((i : ℕ) → i < 64 → bit x i ≡ p (64 * w + i)) → SameFree n x
word_free n w x p l periodic bits i j hi hj e =
    bits i hi ∙ periodic (64 * w + i)
    ∙ ap p ((same_free n w w j i l hj hi).1 (native.Mathlib.Nat.mod-eq_of_lt l, e)) ∙ sym (periodic (64 * w + j))
    ∙ sym (bits j hj)

-- ---- the first system's clauses read no own variable

free_same : (n m values z t : ℕ) → t < n → term_value n m values z t ≡ term_value n 0 values z t
free_same n m values z t l =
    value_variable n m values z t (omega arith) ∙ ap (bit z) (position_free n m t l ∙ sym (position_free n 0 t l))
    ∙ sym (value_variable n 0 values z t (omega arith))

fixed_same : (n m values z t : ℕ) → n + m ≤ 12 → 12 ≤ t → term_value n m values z t ≡ term_value n 0 values z t
fixed_same n m values z t h l = value_fixed n m n 0 values z z t (omega arith) (omega arith)

module _ (sizes : Sizes) (clauses constants : List ℕ) (R : Readable clauses sizes.counts sizes.free sizes.own)
    (values w : ℕ) (terms : List ℕ)
    (table : Terms sizes.free sizes.own values w terms) where
  -- the word of its positive clauses
  pub first_bits : (i : ℕ) → i < 64
      → all_clauses clauses (λ t. bit (get_or terms t 0) i) 0 (get_or sizes.counts 0 0)
      ≡ first_meets (stored_by sizes clauses constants) values (64 * w + i)
  unfolding all_pass all_clauses
  first_bits i l =
      table_section sizes.free sizes.own values w terms clauses table 0 (get_or sizes.counts 0 0) R.first_positive i l
      ∙ every_ext (get_or sizes.counts 0 0) _ _ (λ k m.
      R.positive_free k m (term_value sizes.free sizes.own values (64 * w + i))
      (term_value sizes.free 0 values (64 * w + i))
      (λ t. free_same sizes.free sizes.own values (64 * w + i) t)
      (λ t. fixed_same sizes.free sizes.own values (64 * w + i) t R.variables))

  -- the word of its disequation j
  pub differs_bits : (j : ℕ) → j < get_or sizes.counts 1 0 → (i : ℕ) → i < 64
      → not (clause_test clauses (λ t. bit (get_or terms t 0) i) (256 + 4 * j))
      ≡ first_differs (stored_by sizes clauses constants) values j (64 * w + i)
  unfolding clause_fails
  differs_bits j k i l =
      ap not
      (table_clause sizes.free sizes.own values w terms clauses table (256 + 4 * j) (clauses_at R.first_disequation j k)
      i l
      ∙ R.disequation_free j k (term_value sizes.free sizes.own values (64 * w + i))
      (term_value sizes.free 0 values (64 * w + i))
      (λ t. free_same sizes.free sizes.own values (64 * w + i) t)
      (λ t. fixed_same sizes.free sizes.own values (64 * w + i) t R.variables))

-- ---- the searches are apart

number : Search → ℕ
number First = 0
number Unmet = 1
number (Missed j) = 2

pub first_not_unmet : First ≡ Unmet → ⊥
unfolding number
first_not_unmet e = let z : ◌≡◌ {A = ℕ} 0 1 = ap number e in omega arith

pub missed_not_unmet : (j : ℕ) → Missed j ≡ Unmet → ⊥
unfolding number
missed_not_unmet j e = let z : ◌≡◌ {A = ℕ} 2 1 = ap number e in omega arith
