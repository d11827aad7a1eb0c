-- Laws of the table of terms: how it is started and moved, and what clauses say of it. Assumes nothing.
use Rattle.std.specs.Prelude.{◌≡◌, refl, true, false, List, ◌⊎◌, ℕ, ◌+◌, ◌-◌, ◌*◌, ◌^◌, ◌≤◌, ◌<◌, T, eqb, length}
use Rattle.std.specs.Prelude.{get_or, set}
use Rattle.std.proofs.Common.{sym, ap, ◌∙◌, subst, true≢false, inl, inr, arith, T_not, eq-eqb, ne_eqb}
use Rattle.std.proofs.Math.Path.{ap₂}
use Rattle.std.proofs.Math.Bool.{not, ◌&&◌, and-true}
use Rattle.std.proofs.Math.Decide.{dec_lt, dec_le}
use Rattle.shares.specs.Test.{is_true, is_false, passes, and_left, and_right}
use Rattle.shares.specs.Constant.{bit}
use Rattle.shares.specs.BitLaws.{bit_zero}
use Rattle.shares.specs.Parts.{full_part}
use Rattle.words.specs.Clause.{clause_test, all_clauses, position, term_value, Clauses}
use Rattle.words.specs.ClauseLaws.{clause_ext, section_ext}
use Rattle.words.specs.Choices.{all_pass, clause_fails, all_pass_but}
use Rattle.words.specs.Table.{TermWord, Terms, Changed, Within, ConstantWords}
use Rattle.words.specs.Stores.{store_law}
use Rattle.words.specs.TermLaws.{value_variable, value_constant, value_none, value_fixed}
use Rattle.shares.specs.BitParts.{bit_low}

-- the low six digits do not depend on the word
low_digit : (w v i p : ℕ) → i < 64 → p < 6 → bit (64 * w + i) p ≡ bit (64 * v + i) p
low_digit w v i p h l = here w ∙ sym (here v)
  where
    here : (u : ℕ) → bit (64 * u + i) p ≡ bit i p
    here u = let e : 64 * u + i ≡ u * 2 ^ 6 + i = omega arith in ap (λ z. bit z p) e ∙ bit_low 6 u i h p l

-- a table of zeros, once the variables and the part that is always full are set
pub terms_started : (n m x : ℕ) (zero last : List ℕ) → n + m ≤ 12 → length last ≡ 64
    → ((t : ℕ) → t < 64 → get_or zero t 0 ≡ 0)
    → Changed n m 0 0 zero last → ((i : ℕ) → i < 64 → bit x i ≡ true) → Terms n m 0 0 (set last full_part x)
terms_started n m x zero last few size none v ones =
    store_law (λ t y. t < 64 → TermWord n m 0 0 t y) last full_part x (omega arith)
    (λ t other l i k. go t other l i k (dec_lt t (n + m)) (dec_lt t 32))
    (λ l i k. ones i k ∙ sym (value_none n m 0 (64 * 0 + i) full_part (omega arith) (omega arith)))
  where
    blank : (t i : ℕ) → t < 64 → n + m ≤ t → bit (get_or last t 0) i ≡ false
    blank t i l g = ap (λ x. bit x i) (v.kept t (λ q. absurd (omega arith)) ∙ none t l) ∙ bit_zero i

    go : (t : ℕ) → (t ≡ full_part → ⊥) → t < 64 → (i : ℕ) → i < 64 → Dec (t < n + m) → Dec (t < 32)
        → bit (get_or last t 0) i ≡ term_value n m 0 (64 * 0 + i) t
    go t other l i k (yes a) d = v.set t a (omega arith) i k ∙ sym (value_variable n m 0 (64 * 0 + i) t a)
    go t other l i k (no a) (yes b) =
        blank t i l (omega arith) ∙ sym (value_none n m 0 (64 * 0 + i) t (omega arith) b ∙ ne_eqb t full_part other)
    go t other l i k (no a) (no b) =
        blank t i l (omega arith) ∙ sym (value_constant n m 0 (64 * 0 + i) t (omega arith) (omega arith)
        ∙ bit_zero (t - 32))

-- ---- other values of the constants

-- none is set yet
pub words_none : (named values : ℕ) (terms : List ℕ) → ConstantWords named named values terms terms
words_none named values terms =
    record { set = λ i t e. absurd (true≢false (sym (is_true (bit named i) t) ∙ e)); kept = λ t f. refl }

-- one more: that of constant i, which is taken out of the rest
pub words_more : (named rest rest' values : ℕ) (old new : List ℕ) (i x : ℕ) → 32 + i < length new
    → ((k : ℕ) → T (bit rest k) → T (bit named k)) → T (bit rest i)
    → ((k : ℕ) → bit rest' k ≡ (bit rest k && not (eqb k i))) → ((k : ℕ) → k < 64 → bit x k ≡ bit values i)
    → ConstantWords named rest values old new → ConstantWords named rest' values old (set new (32 + i) x)
words_more named rest rest' values old new i x room within here out right c = record {
  set = λ j t e k l. store_law (λ t y. (j : ℕ) → t ≡ 32 + j → T (bit named j) → bit rest' j ≡ false
      → bit y k ≡ bit values j) new (32 + i) x room
      (λ t other j q u f. rw q (c.set j u (still j (λ z. other (omega arith)) f) k l))
      (λ j q u f. let z : i ≡ j = omega arith in right k l ∙ ap (bit values) z) (32 + j) j refl t e;
  kept = λ t f. store_law (λ t y. (32 ≤ t → (bit named (t - 32) ≡ false) ⊎ T (bit rest' (t - 32))) → y ≡ get_or old t 0)
      new (32 + i) x room
      (λ t other f. c.kept t (λ l. before (t - 32) (f l)))
      (λ f. absurd (not_here (f (omega arith)))) t f;
}
  where
    still : (j : ℕ) → (j ≡ i → ⊥) → bit rest' j ≡ false → bit rest j ≡ false
    still j n f = sym (rw (out j, ne_eqb j i n) (and-true (bit rest j))) ∙ f

    before : (j : ℕ) → (bit named j ≡ false) ⊎ T (bit rest' j) → (bit named j ≡ false) ⊎ T (bit rest j)
    before j (inl e) = inl e
    before j (inr t) = inr (and_left (bit rest j) _ (subst T (out j) t))

    gone : (j : ℕ) → j ≡ i → (bit named j ≡ false) ⊎ T (bit rest' j) → ⊥
    gone j q (inl e) = true≢false (sym (is_true (bit named j) (rw q (within i here))) ∙ e)
    gone j q (inr t) = T_not (eqb j i) (and_right (bit rest j) _ (subst T (out j) t)) (rw (eq-eqb j i q) tt)

    not_here : (bit named (32 + i - 32) ≡ false) ⊎ T (bit rest' (32 + i - 32)) → ⊥
    not_here = gone (32 + i - 32) (omega arith)

-- all are set
pub terms_changed : (n m named values old w : ℕ) (terms new : List ℕ) → n + m ≤ 12 → Within named old
    → Within named values
    → ConstantWords named 0 values terms new → Terms n m old w terms → Terms n m values w new
terms_changed n m named values old w terms new h wo wv c r t l i k =
    go (dec_lt t (n + m)) (dec_lt t 32) (passes (bit named (t - 32)))
  where
    go : Dec (t < n + m) → Dec (t < 32) → T (bit named (t - 32)) ⊎ T (not (bit named (t - 32)))
        → bit (get_or new t 0) i ≡ term_value n m values (64 * w + i) t
    go (yes a) _ _ =
        ap (λ x. bit x i) (c.kept t (λ q. absurd (omega arith))) ∙ r t l i k ∙ value_variable n m old (64 * w + i) t a
        ∙ sym (value_variable n m values (64 * w + i) t a)
    go (no a) (yes b) _ =
        ap (λ x. bit x i) (c.kept t (λ q. absurd (omega arith))) ∙ r t l i k
        ∙ value_none n m old (64 * w + i) t (omega arith) b
        ∙ sym (value_none n m values (64 * w + i) t (omega arith) b)
    go (no a) (no b) (inl d) =
        let e : 32 + (t - 32) ≡ t = omega arith in
        ap (λ j. bit (get_or new j 0) i) (sym e) ∙ c.set (t - 32) d (bit_zero (t - 32)) i k
        ∙ sym (value_constant n m values (64 * w + i) t (omega arith) (omega arith))
    go (no a) (no b) (inr d) =
        let e = is_false (bit named (t - 32)) d in
        ap (λ x. bit x i) (c.kept t (λ q. inl e)) ∙ r t l i k
        ∙ value_constant n m old (64 * w + i) t (omega arith) (omega arith)
        ∙ wo (t - 32) e ∙ sym (value_constant n m values (64 * w + i) t (omega arith) (omega arith) ∙ wv (t - 32) e)

pub terms_moved : (n m w : ℕ) (old new : List ℕ) → Changed n m 6 w old new → (values v : ℕ) → Terms n m values v old
    → Terms n m values w new
terms_moved n m w old new c values v r t l i k = go (dec_lt t (n + m)) (dec_le 6 (position n m t))
  where
    go : Dec (t < n + m) → Dec (6 ≤ position n m t) → bit (get_or new t 0) i ≡ term_value n m values (64 * w + i) t
    go (yes a) (yes b) = c.set t a b i k ∙ sym (value_variable n m values (64 * w + i) t a)
    go (yes a) (no b) =
        ap (λ x. bit x i) (c.kept t (λ q. omega arith)) ∙ r t l i k ∙ value_variable n m values (64 * v + i) t a
        ∙ low_digit v w i (position n m t) k (omega arith) ∙ sym (value_variable n m values (64 * w + i) t a)
    go (no a) d =
        ap (λ x. bit x i) (c.kept t (λ q. absurd (a q))) ∙ r t l i k
        ∙ value_fixed n m n m values (64 * v + i) (64 * w + i) t (omega arith) (omega arith)

-- ---- clauses over a right table

module _ (n m values w : ℕ) (terms clauses : List ℕ) (right : Terms n m values w terms) where
  pub table_clause : (at : ℕ) → Clauses clauses at 1 → (i : ℕ) → i < 64
      → clause_test clauses (λ t. bit (get_or terms t 0) i) at
      ≡ clause_test clauses (term_value n m values (64 * w + i)) at
  table_clause at c i h = clause_ext (λ t. bit (get_or terms t 0) i) (term_value n m values (64 * w + i)) c
      (λ t l. right t l i h)

  pub table_section : (start count : ℕ) → Clauses clauses start count → (i : ℕ) → i < 64
      → all_clauses clauses (λ t. bit (get_or terms t 0) i) start count
      ≡ all_pass clauses start count n m values (64 * w + i)
  unfolding all_pass
  table_section start count c i h =
      section_ext (λ t. bit (get_or terms t 0) i) (term_value n m values (64 * w + i)) c (λ t l. right t l i h)

  pub table_but : (start count at : ℕ) → Clauses clauses start count → Clauses clauses at 1 → (i : ℕ) → i < 64
      → (all_clauses clauses (λ t. bit (get_or terms t 0) i) start count
      && not (clause_test clauses (λ t. bit (get_or terms t 0) i) at))
      ≡ all_pass_but clauses start count at n m values (64 * w + i)
  unfolding all_pass_but clause_fails
  table_but start count at c d i h = ap₂ ◌&&◌ (table_section start count c i h) (ap not (table_clause at d i h))
