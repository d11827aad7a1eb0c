-- One leaf more: its words are done, or it looks like an earlier leaf. Assumes nothing.
use Rattle.std.specs.Prelude.{◌≡◌, Bool, true, false, not, ◌&&◌, List, ℕ, ◌+◌, ◌-◌, ◌*◌, ◌^◌, ◌≤◌, ◌<◌, length, get_or}
use Rattle.std.specs.Prelude.{set}
use Rattle.std.proofs.Math.Path.{refl, ap, subst}
use Rattle.std.proofs.Common.{sym, ap₂, ◌∙◌, add-one, arith, T_not, eq-eqb, ne_eqb}
use Rattle.std.proofs.Math.Bool.{and-true, and-false, or-true, or-false}
use native.Mathlib.Nat.{add-zero}
use Rattle.std.proofs.Math.Decide.{dec_lt, ℕ_discrete}
use Rattle.std.proofs.Math.Arith.{digits_lt, digits_div, digits_mod}
use Rattle.std.specs.Int.Bits.{bit_and, bit_or}
use Rattle.std.proofs.Math.Dec.{T, not_T}
use Rattle.shares.specs.Test.{of_true, of_false, same_test, and_left, and_intro}
use Rattle.shares.specs.Below.{some_below, first_below}
use Rattle.shares.specs.BelowLaws.{every_more, every_at, some_found, some_intro, first_longer}
use Rattle.shares.specs.Constant.{bit}
use Rattle.shares.specs.BitLaws.{bit_zero, bit_of_and}
use Rattle.shares.specs.BitParts.{bit_ones, bit_beyond}
use Rattle.format.specs.Stored.{Stored}
use Rattle.words.specs.Choices.{word_count}
use Rattle.words.specs.Kept.{nothing_kept, number_at}
use Rattle.words.specs.KeptLaws.{kept_there, kept_others}
use Rattle.entries.specs.BitLaws.{bit_added}
use Rattle.entries.specs.Entry.{Entry}
use Rattle.entries.specs.EntryLaws.{entry_same, entry_stays, some_stays}
use Rattle.plans.specs.Pairs.{leaf_width}
use Rattle.steps.specs.Tests.{leaf_values, allowed_in}
use Rattle.steps.specs.Steps.{on_pairs, meets_here, unmet_here, Amid}
use Rattle.pass.specs.Pass.{missed_below, Done, After, Put, Copied, Visited}
use Rattle.steps.specs.declared.Search.{Search}
use Rattle.steps.specs.declared.Search.TheVariants.{Unmet, Missed}
use Rattle.steps.specs.declared.Seen.{Seen}
use Rattle.words.specs.declared.Passing.{Passing}

-- the words of b leaves and one more
leaf_more : (b c : ℕ) → b * c + c ≡ (b + 1) * c
leaf_more b c = sym (native.Mathlib.Nat.add-mul b 1 c ∙ ap (◌+◌ (b * c)) (native.Mathlib.Nat.one-mul c))

module _ (S : Stored) (h : ℕ) (search : Search) (b : ℕ) where
  abbrev n : ℕ
  n = S.free

  -- ---- before the first word

  -- the bits of the searches that go on from leaf to leaf
  abbrev searches : ℕ → ℕ
  searches met = bit_and met 0xFFFFFFFF

  searches_kept : (met k : ℕ) → k < 32 → bit (searches met) k ≡ bit met k
  searches_kept met k l = bit_of_and met 0xFFFFFFFF k ∙ ap (λ c. bit met k && c) (bit_ones 32 k l)
      ∙ and-true (bit met k)

  searches_fresh : (met : ℕ) → bit (searches met) 32 ≡ false
  searches_fresh met = bit_of_and met 0xFFFFFFFF 32
      ∙ ap (λ c. bit met 32 && c) (bit_beyond 32 0xFFFFFFFF 32 (omega arith) (omega arith)) ∙ and-false (bit met 32)

  pub amid_start : (seen : Seen) (firsts plains : List Passing) (rows : List ℕ) → get_or S.counts 1 0 ≤ 31
      → After S h search b seen firsts plains rows
      → Amid S h search b 0 (record {
        met = searches seen.met;
        possible = seen.possible;
        here = 0;
        wanted =
            seen.possible;
      }) firsts rows
  unfolding some_below
  amid_start seen firsts plains rows few A = record {
    plain = record {
      found = searches_fresh seen.met;
      stored =
          λ t. absurd (T_not (bit (searches seen.met) 32) (of_false (searches_fresh seen.met)) t);
    };
    entries = λ i l. subst (λ t. Entry (on_pairs S h (meets_here S search i)) t (searches seen.met) firsts i)
        (sym (add-zero (b * word_count n)))
        (entry_same _ _ _ _ _ _ i (searches_kept seen.met i (omega arith)) refl (A.entries i l));
    unmet = λ e. subst (λ t. Entry (on_pairs S h (unmet_here S)) t (searches seen.met) firsts 31)
        (sym (add-zero (b * word_count n)))
        (entry_same _ _ _ _ _ _ 31 (searches_kept seen.met 31 (omega arith)) refl (A.unmet e));
    here = λ e t j l u. bit_zero j;
    marks = λ e t j l u i m.
        A.marks e (subst (λ c. T (not c)) (searches_kept seen.met 31 (omega arith)) t) j l u i m
        ∙ ap (λ t. some_below (64 * t) (on_pairs S h (meets_here S (Missed j) i))) (sym (add-zero (b * word_count n)));
    settled = λ e j l t z. absurd (T_not (bit seen.possible j) (of_false z) t);
  }

  -- ---- where nothing is sought any more

  pub amid_done : (w w' : ℕ) (seen : Seen) (firsts : List Passing) (rows : List ℕ) → w ≤ w'
      → Done search seen.met (get_or S.counts 1 0)
      → Amid S h search b w seen firsts rows → Amid S h search b w' seen firsts rows
  amid_done w w' seen firsts rows l D A = record {
    plain = entry_stays _ w w' seen.met firsts 32 l D.plain A.plain;
    entries = λ i m. entry_stays _ (b * word_count n + w) (b * word_count n + w') seen.met firsts i (omega arith)
        (D.full i m) (A.entries i m);
    unmet = λ e. entry_stays _ (b * word_count n + w) (b * word_count n + w') seen.met firsts 31 (omega arith)
        (D.unmet e) (A.unmet e);
    here = λ e t. absurd (T_not (bit seen.met 31) t (of_true (D.unmet e)));
    marks = λ e t. absurd (T_not (bit seen.met 31) t (of_true (D.unmet e)));
    settled = A.settled;
  }

  -- ---- after the last word

  module _ (seen : Seen) (firsts plains : List Passing) (rows : List ℕ) (A : After S h search b seen firsts plains rows)
      (seen₁ : Seen) (firsts₁ : List Passing) (rows₁ : List ℕ)
      (M : Amid S h search b (word_count n) seen₁ firsts₁ rows₁) (possible_kept : seen₁.possible ≡ seen.possible)
      (plains₁ : List Passing) (P : Put b firsts₁ 32 plains plains₁) where
    -- an unmet choice stays found
    before : search ≡ Unmet → T (not (bit seen₁.met 31)) → T (not (bit seen.met 31))
    before e t =
        not_T (bit seen.met 31) (λ u.
        T_not (bit seen₁.met 31) t
        (of_true ((M.unmet e).found ∙ some_stays (on_pairs S h (unmet_here S)) (b * word_count n)
        (b * word_count n + word_count n) (omega arith) (subst T (A.unmet e).found u))))

    possible_after : search ≡ Unmet → T (not (bit seen₁.met 31)) → (j : ℕ) → j < get_or S.counts 3 0
        → bit (bit_and seen₁.possible seen₁.here) j ≡ missed_below S h (b + 1) j
    possible_after e t j l =
        bit_of_and seen₁.possible seen₁.here j ∙ ap (λ x. bit x j && bit seen₁.here j) (possible_kept)
        ∙ go (bit seen.possible j) refl ∙ sym (ap (λ k. missed_below S h k j) (add-one b) ∙ every_more b _)
      where
        some : Bool
        some = some_below (leaf_width n) (allowed_in S (Missed j) (leaf_values S h b))

        go : (c : Bool) → bit seen.possible j ≡ c → (bit seen.possible j && bit seen₁.here j)
            ≡ (missed_below S h b j && some)
        go true q =
            ap₂ ◌&&◌ (A.possible e (before e t) j l)
            (M.here e t j l (of_true (ap (λ x. bit x j) (possible_kept) ∙ q)))
        go false q = ap (λ c. c && bit seen₁.here j) q
            ∙ sym (ap (λ c. c && some) (sym (A.possible e (before e t) j l) ∙ q))

    pub leaf_done : Visited S h search b (record {
      met = seen₁.met;
      possible = bit_and seen₁.possible seen₁.here;
      here =
          0;
      wanted = 0;
    }) firsts₁ plains₁ rows₁
    leaf_done = record {
      done = λ t. record {
        least = λ a l. plains_of t a l (ℕ_discrete a b);
        found = λ _. t;
        entries = λ i l. subst (λ t. Entry (on_pairs S h (meets_here S search i)) t seen₁.met firsts₁ i)
            (leaf_more b (word_count n)) (M.entries i l);
        unmet = λ e. subst (λ t. Entry (on_pairs S h (unmet_here S)) t seen₁.met firsts₁ 31)
            (leaf_more b (word_count n)) (M.unmet e);
        possible = possible_after;
        marks = λ e u j l v i m.
            M.marks e u j l (and_left (bit seen₁.possible j) (bit seen₁.here j)
            (subst T (bit_of_and seen₁.possible seen₁.here j) v)) i m
            ∙ ap (λ t. some_below (64 * t) (on_pairs S h (meets_here S (Missed j) i))) (leaf_more b (word_count n));
      };
      none = λ t. subst (λ c. T (not c)) M.plain.found t;
    }
      where
        plains_of : T (bit seen₁.met 32) → (a : ℕ) → a < b + 1 → Dec (a ≡ b)
            → T (some_below (leaf_width n) (allowed_in S search (leaf_values S h a)))
            × (number_at plains₁ a ≡ first_below (leaf_width n) (allowed_in S search (leaf_values S h a)))
        plains_of t a l (yes q) = rw q (subst T M.plain.found t, P.stored ∙ M.plain.stored t)
        plains_of t a l (no m) = let (s, e) = A.least a (omega arith) in (s, P.kept a m ∙ e)

  -- ---- a leaf that looks like an earlier one

  module _ (like : ℕ) (earlier : like < b) (same : leaf_values S h like ≡ leaf_values S h b) where
    -- a test of pairs that passes in leaf b passes in the earlier leaf
    repeated : (f : ℕ → ℕ → Bool) → some_below (64 * ((b + 1) * word_count n)) (on_pairs S h f)
        ≡ some_below (64 * (b * word_count n)) (on_pairs S h f)
    repeated f =
        same_test _ _
        (λ t. let (u, l, v) = some_found (64 * ((b + 1) * word_count n)) (on_pairs S h f) t in
        go u l v (dec_lt u (64 * (b * word_count n))))
        (λ t. let (u, l, v) = some_found (64 * (b * word_count n)) (on_pairs S h f) t in
        some_intro (64 * ((b + 1) * word_count n)) (on_pairs S h f) u (omega (arith, sym (leaf_more b (word_count n))))
        v)
      where
        at : (a z : ℕ) → z < leaf_width n → on_pairs S h f (a * leaf_width n + z) ≡ f (leaf_values S h a) z
        at a z l = ap₂ (λ x y. f (leaf_values S h x) y) (digits_div a l) (digits_mod a l)

        width : (a : ℕ) → 64 * (a * word_count n) ≡ a * leaf_width n
        width a = native.Mathlib.Nat.mul_left_comm 64 a (word_count n)

        go : (u : ℕ) → u < 64 * ((b + 1) * word_count n) → T (on_pairs S h f u) → Dec (u < 64 * (b * word_count n))
            → T (some_below (64 * (b * word_count n)) (on_pairs S h f))
        go u l v (yes m) = some_intro (64 * (b * word_count n)) (on_pairs S h f) u m v
        go u l v (no m) =
            let z = u - b * leaf_width n in
            let small : z < leaf_width n = omega (arith, width (b + 1), width b, sym (leaf_more b (leaf_width n))) in
            let e : u ≡ b * leaf_width n + z = omega (arith, width b) in
            let below : like * leaf_width n + z < 64 * (b * word_count n) = rw (width b) (digits_lt earlier small) in
            some_intro (64 * (b * word_count n)) (on_pairs S h f) (like * leaf_width n + z) below
            (subst T (ap (on_pairs S h f) e ∙ at b z small ∙ ap (λ values. f values z) (sym same)
            ∙ sym (at like z small)) v)

    skip : (f : ℕ → ℕ → Bool) (met : ℕ) (firsts : List Passing) (e : ℕ)
        → Entry (on_pairs S h f) (b * word_count n) met firsts e
        → Entry (on_pairs S h f) ((b + 1) * word_count n) met firsts e
    skip f met firsts e E = record {
      found = E.found ∙ sym (repeated f);
      stored = λ u.
          E.stored u
          ∙ sym (first_longer (64 * (b * word_count n)) (64 * ((b + 1) * word_count n)) (on_pairs S h f)
          (omega (arith, sym (leaf_more b (word_count n)))) (subst T E.found u));
    }

    pub leaf_copied : (seen : Seen) (firsts plains : List Passing) (rows : List ℕ) (seen₁ : Seen)
        (plains₁ : List Passing) → get_or S.counts 1 0 ≤ 31 → Copied b like seen plains seen₁ plains₁
        → After S h search b seen firsts plains rows → Visited S h search b seen₁ firsts plains₁ rows
    leaf_copied seen firsts plains rows seen₁ plains₁ few C A = record {
      done = λ _. record {
        least = λ a l. plains_of a l (ℕ_discrete a b);
        found = λ _. of_true C.found;
        entries = λ i l. entry_same _ _ _ _ _ _ i (C.met_kept i (λ q. omega arith)) refl
            (skip (meets_here S search i) seen.met firsts i (A.entries i l));
        unmet = λ e. entry_same _ _ _ _ _ _ 31 apart refl (skip (unmet_here S) seen.met firsts 31 (A.unmet e));
        possible = λ e t j l.
            ap (λ x. bit x j) C.possible_kept ∙ A.possible e (subst (λ c. T (not c)) apart t) j l
            ∙ sym (missed_again j);
        marks = λ e t j l u i m.
            A.marks e (subst (λ c. T (not c)) apart t) j l (rw C.possible_kept at u) i m
            ∙ sym (repeated (meets_here S (Missed j) i));
      };
      none = λ t. absurd (T_not (bit seen₁.met 32) t (of_true C.found));
    }
      where
        apart : bit seen₁.met 31 ≡ bit seen.met 31
        apart = C.met_kept 31 (λ q. omega arith)

        plains_of : (a : ℕ) → a < b + 1 → Dec (a ≡ b)
            → T (some_below (leaf_width n) (allowed_in S search (leaf_values S h a)))
            × (number_at plains₁ a ≡ first_below (leaf_width n) (allowed_in S search (leaf_values S h a)))
        plains_of a l (yes q) = let (s, e) = A.least like earlier in rw (q, ← same) (s, C.put.stored ∙ e)
        plains_of a l (no m) = let (s, e) = A.least a (omega arith) in (s, C.put.kept a m ∙ e)

        missed_again : (j : ℕ) → missed_below S h (b + 1) j ≡ missed_below S h b j
        missed_again j =
            same_test _ _
            (λ t. and_left (missed_below S h b j) (test b)
            (subst T (ap (λ k. missed_below S h k j) (add-one b) ∙ every_more b test) t))
            (λ t. subst T (sym (ap (λ k. missed_below S h k j) (add-one b) ∙ every_more b test))
            (and_intro (missed_below S h b j) (test b) t (rw (← same) (every_at b test t like earlier))))
          where
            test : ℕ → Bool
            test a = some_below (leaf_width n) (allowed_in S (Missed j) (leaf_values S h a))

-- ---- the table of the leaves

-- the words of an entry, stored as those of entry b
pub put_entry : (b : ℕ) (from : List Passing) (a : ℕ) (old : List Passing) → b < length old
    → Put b from a old (set old b (get_or from a nothing_kept))
unfolding number_at
put_entry b from a old room =
    let word = get_or from a nothing_kept in
    record { stored = kept_there old b word.word word.choices room; kept = kept_others old b word.word word.choices }

pub copied : (b a : ℕ) (seen : Seen) (plains plains' : List Passing) → Put b plains a plains plains'
    → Copied b a seen plains (record { met = bit_or seen.met (2 ^ 32); possible = seen.possible; here = 0; wanted = 0 })
    plains'
copied b a seen plains plains' P = record {
  possible_kept = refl;
  found = bit_added seen.met 32 true refl 32 ∙ rw (eq-eqb 32 32 refl) (or-true (bit seen.met 32));
  met_kept = λ k n. bit_added seen.met 32 true refl k ∙ rw (ne_eqb k 32 n) (or-false (bit seen.met k));
  put = P;
}
