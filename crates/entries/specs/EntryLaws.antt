-- Laws of entries: one word more. Assumes nothing.
use Rattle.std.specs.Prelude.{◌≡◌, refl, Bool, true, false, not, ◌&&◌, ◌||◌, List, ℕ, ◌+◌, ◌*◌, ◌^◌, ◌≤◌, ◌<◌, T, eqb}
use Rattle.std.specs.Prelude.{length}
use Rattle.std.proofs.Common.{sym, ap, ◌∙◌, subst, arith, T_not, eq-eqb, ne_eqb}
use Rattle.std.proofs.Math.Bool.{and-true, or-false, or-true}
use Rattle.std.proofs.Math.Decide.{ℕ_discrete}
use Rattle.std.specs.Int.Bits.{bit_or}
use Rattle.std.proofs.lemmas.Bool.{not-false}
use Rattle.shares.specs.Test.{is_true, is_false, of_true, of_false, and_left, and_right}
use Rattle.shares.specs.Below.{some_below, first_below}
use Rattle.shares.specs.BelowLaws.{some_none, some_add, some_intro, first_longer}
use Rattle.shares.specs.Constant.{bit}
use Rattle.shares.specs.BitLaws.{bit_zero}
use Rattle.words.specs.Kept.{number_at}
use Rattle.words.specs.KeptLaws.{lowest_in_lem, kept_in, kept_there, kept_others}
use Rattle.words.specs.LowestLaws.{lowest_lt}
use Rattle.entries.specs.BitLaws.{bit_added}
use Rattle.entries.specs.SearchLaws.{found_in_word}
use Rattle.entries.specs.Entry.{Entry, WordOf, Kept, KeptAll, KeptBut}
use Rattle.words.specs.declared.Passing.{Passing}

-- one word more of a test
pub some_word : (t : ℕ) (p : ℕ → Bool)
    → some_below (64 * (t + 1)) p ≡ (some_below (64 * t) p || some_below 64 (λ i. p (64 * t + i)))
some_word t p = let e : 64 * (t + 1) ≡ 64 * t + 64 = omega arith in ap (λ n. some_below n p) e ∙ some_add (64 * t) 64 p

module _ (p : ℕ → Bool) (t : ℕ) where
  -- something has passed already
  pub some_stays : (t' : ℕ) → t ≤ t' → T (some_below (64 * t) p) → some_below (64 * t') p ≡ true
  some_stays t' l s =
      let (i, m, u) = Rattle.shares.specs.BelowLaws.some_found (64 * t) p s in
      is_true (some_below (64 * t') p) (some_intro (64 * t') p i (omega arith) u)

  pub entry_stays : (t' met : ℕ) (firsts : List Passing) (e : ℕ) → t ≤ t' → bit met e ≡ true → Entry p t met firsts e
      → Entry p t' met firsts e
  entry_stays t' met firsts e l b E =
      let s : T (some_below (64 * t) p) = of_true (sym E.found ∙ b) in
      record {
        found = b ∙ sym (some_stays t' l s);
        stored = λ u. E.stored u ∙ sym (first_longer (64 * t) (64 * t') p (omega arith) s);
      }

  -- nothing passes in this word
  pub entry_none : (met : ℕ) (firsts : List Passing) (e : ℕ) → ((i : ℕ) → i < 64 → p (64 * t + i) ≡ false)
      → Entry p t met firsts e → Entry p (t + 1) met firsts e
  entry_none met firsts e none E = go (bit met e) refl
    where
      same : some_below (64 * (t + 1)) p ≡ some_below (64 * t) p
      same = some_word t p ∙ ap (◌||◌ (some_below (64 * t) p)) (some_none 64 (λ i. p (64 * t + i)) none)
          ∙ or-false (some_below (64 * t) p)

      go : (b : Bool) → bit met e ≡ b → Entry p (t + 1) met firsts e
      go true q = entry_stays (t + 1) met firsts e (omega arith) q E
      go false q = record { found = E.found ∙ sym same; stored = λ u. absurd (T_not (bit met e) (of_false q) u) }

  -- nothing has passed yet, and the word y is not 0
  pub entry_found : (met y : ℕ) (firsts : List Passing) (e : ℕ) → e < length firsts → y < 2 ^ 64 → (y ≡ 0 → ⊥)
      → bit met e ≡ false → WordOf (bit y) p t
      → Entry p t met firsts e → Entry p (t + 1) (bit_or met (2 ^ e)) (kept_in firsts e t y) e
  entry_found met y firsts e room small n q w E = record {
    found = bit_added met e true refl e ∙ rw (eq-eqb e e refl) (or-true (bit met e))
        ∙ sym (is_true (some_below (64 * (t + 1)) p) there);
    stored = λ u. kept_there firsts e t y room ∙ ap (◌+◌ (64 * t)) (lowest_in_lem y small n) ∙ first;
  }
    where
      before : (z : ℕ) → z < 64 * t → p z ≡ false
      before z l =
          is_false (p z) (Rattle.shares.specs.Test.holds (not (p z)) (λ u.
          T_not (some_below (64 * t) p) (of_false (sym E.found ∙ q))
          (some_intro (64 * t) p z l (Rattle.shares.specs.Test.holds (p z) (λ v. T_not (not (p z)) u v)))))

      first : 64 * t + first_below 64 (bit y) ≡ first_below (64 * (t + 1)) p
      first = found_in_word p t (t + 1) y (omega arith) small n before w

      there : T (some_below (64 * (t + 1)) p)
      there =
          Rattle.shares.specs.BelowLaws.first_some (64 * (t + 1)) p
          (rw (← first) (omega (arith, lowest_lt y small n)))

module _ (e t : ℕ) (word : ℕ → Bool) (met : ℕ) (firsts : List Passing) where
  -- it has found one already
  pub kept_before : bit met e ≡ true → Kept e t word met firsts met firsts
  kept_before q = record {
    entry = λ p w E. entry_stays p t (t + 1) met firsts e (omega arith) q E;
    met_kept =
        λ k n. refl;
    firsts_kept = λ k n. refl;
  }

  -- it finds none
  pub kept_none : ((i : ℕ) → i < 64 → word i ≡ false) → Kept e t word met firsts met firsts
  kept_none z = record {
    entry = λ p w E. entry_none p t met firsts e (λ i l. sym (w i l) ∙ z i l) E;
    met_kept = λ k n. refl;
    firsts_kept = λ k n. refl;
  }

-- it finds one
pub kept_found : (e t y met : ℕ) (firsts : List Passing) → e < length firsts → y < 2 ^ 64 → (y ≡ 0 → ⊥)
    → bit met e ≡ false
    → Kept e t (bit y) met firsts (bit_or met (2 ^ e)) (kept_in firsts e t y)
kept_found e t y met firsts room small n q = record {
  entry = λ p w E. entry_found p t met y firsts e room small n q w E;
  met_kept = λ k a. bit_added met e true refl k ∙ rw (ne_eqb k e a) (or-false (bit met k));
  firsts_kept = λ k a. kept_others firsts e t y k a;
}

-- the bits of a word may be said otherwise
pub kept_as : (e t : ℕ) (word word' : ℕ → Bool) (met : ℕ) (firsts : List Passing) (met' : ℕ) (firsts' : List Passing)
    → ((i : ℕ) → i < 64 → word i ≡ word' i)
    → Kept e t word met firsts met' firsts' → Kept e t word' met firsts met' firsts'
kept_as e t word word' met firsts met' firsts' same K = record {
  entry = λ p w E. K.entry p (λ i l. same i l ∙ w i l) E;
  met_kept = K.met_kept;
  firsts_kept = K.firsts_kept;
}

-- ---- all of them, by the bits of those that are left

module _ (count t : ℕ) (word : ℕ → ℕ → Bool) (met : ℕ) (firsts : List Passing) where
  -- those that have found one already are done
  pub but_start : (rest : ℕ) → ((k : ℕ) → k < count → bit rest k ≡ not (bit met k))
      → KeptBut rest count t word met firsts met firsts
  but_start rest bits = record {
    entry = λ e l z p w E. entry_stays p t (t + 1) met firsts e (omega arith)
        (not-false (bit met e) (sym (bits e l) ∙ z)) E;
    met_kept = λ k h. refl;
    firsts_kept = λ k h. refl;
  }

  -- one of them more
  pub but_more : (i rest rest' met' : ℕ) (firsts' : List Passing) (met'' : ℕ) (firsts'' : List Passing) → i < count
      → T (bit rest i)
      → ((k : ℕ) → bit rest' k ≡ (bit rest k && not (eqb k i))) → KeptBut rest count t word met firsts met' firsts'
      → Kept i t (word i) met' firsts' met'' firsts'' → KeptBut rest' count t word met firsts met'' firsts''
  but_more i rest rest' met' firsts' met'' firsts'' small set out A K = record {
    entry = λ e l z. entry e l z (ℕ_discrete e i);
    met_kept = λ k h. K.met_kept k (other k h) ∙ A.met_kept k (before k h);
    firsts_kept = λ k h. K.firsts_kept k (other k h) ∙ A.firsts_kept k (before k h);
  }
    where
      other : (k : ℕ) → (k < count → T (bit rest' k)) → k ≡ i → ⊥
      other k h q =
          T_not (eqb k i) (and_right (bit rest k) (not (eqb k i))
          (subst T (out k) (h (subst (λ n. n < count) (sym q) small)))) (of_true (eq-eqb k i q))

      before : (k : ℕ) → (k < count → T (bit rest' k)) → k < count → T (bit rest k)
      before k h l = and_left (bit rest k) (not (eqb k i)) (subst T (out k) (h l))

      entry : (e : ℕ) → e < count → bit rest' e ≡ false → Dec (e ≡ i) → (p : ℕ → Bool) → WordOf (word e) p t
          → Entry p t met firsts e → Entry p (t + 1) met'' firsts'' e
      entry e l z (yes q) p w E =
          rw q (K.entry p (rw q at w) (record {
            found = A.met_kept i (λ m. set) ∙ rw q at E.found;
            stored = λ u. A.firsts_kept i (λ m. set) ∙ (rw q at E.stored) (rw (A.met_kept i (λ m. set)) at u);
          }))
      entry e l z (no n) p w E =
          let y : bit rest e ≡ false =
          sym (and-true (bit rest e)) ∙ sym (out e ∙ ap (λ b. bit rest e && not b) (ne_eqb e i n)) ∙ z in
          let F = A.entry e l y p w E in
          record {
            found = K.met_kept e n ∙ F.found;
            stored = λ u. K.firsts_kept e n ∙ F.stored (rw (K.met_kept e n) at u);
          }

  -- none is left
  pub but_none : (rest met' : ℕ) (firsts' : List Passing) → rest ≡ 0 → KeptBut rest count t word met firsts met' firsts'
      → KeptAll count t word met firsts met' firsts'
  but_none rest met' firsts' z A = record {
    entry = λ e l. A.entry e l (ap (λ x. bit x e) z ∙ bit_zero e);
    met_kept = λ k l. A.met_kept k (λ m. absurd (omega arith));
    firsts_kept = λ k l. A.firsts_kept k (λ m. absurd (omega arith));
  }

-- an entry that is as it was
pub entry_same : (p : ℕ → Bool) (t met : ℕ) (firsts : List Passing) (met' : ℕ) (firsts' : List Passing) (e : ℕ)
    → bit met' e ≡ bit met e → number_at firsts' e ≡ number_at firsts e
    → Entry p t met firsts e → Entry p t met' firsts' e
entry_same p t met firsts met' firsts' e b v E = record { found = b ∙ E.found; stored = λ u. v ∙ E.stored (rw b at u) }
