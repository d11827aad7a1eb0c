-- What the second system says of one word: from what is left beside the own choices to the bits and marks of its
-- disequations. Assumes nothing.
use Rattle.std.specs.Prelude.{◌≡◌, refl, Bool, true, false, ◌||◌, List, ℕ, ◌+◌, ◌*◌, ◌≤◌, ◌<◌, T, get_or}
use Rattle.std.proofs.Common.{sym, ◌∙◌, arith, T_not}
use Rattle.std.proofs.Math.Path.{ap, ap₂}
use Rattle.std.proofs.Math.Bool.{not, ◌&&◌, or-false}
use Rattle.shares.specs.Test.{of_true, of_false}
use Rattle.shares.specs.Below.{some_below}
use Rattle.shares.specs.BelowLaws.{some_ext}
use Rattle.shares.specs.Constant.{bit}
use Rattle.shares.specs.BitLaws.{bit_zero}
use Rattle.words.specs.Clause.{clause_test}
use Rattle.words.specs.Table.{Terms}
use Rattle.beside.specs.declared.Sizes.{Sizes}
use Rattle.beside.specs.Beside.{Readable, Missing}
use Rattle.entries.specs.Entry.{Kept, common, some, FullMark, MarkedAll}
use Rattle.entries.specs.EntryLaws.{entry_stays}
use Rattle.steps.specs.Tests.{first_meets, first_differs, second_meets, second_differs, allowed_in}
use Rattle.steps.specs.Steps.{stored_by, unmet_here, meets_here, Settled, Second}
use Rattle.steps.specs.TestLaws.{differs_bits}
use Rattle.steps.specs.declared.Search.TheVariants.{Missed}
use Rattle.steps.specs.declared.Seen.{Seen}
use Rattle.steps.specs.declared.Allowed.{Allowed}
use Rattle.words.specs.declared.Passing.{Passing}

-- an unmet choice was found before
pub second_before : (sizes : Sizes) (clauses constants : List ℕ) (values : ℕ) (at : Allowed) (seen : Seen)
    (firsts : List Passing) (rows : List ℕ) → bit seen.met 31 ≡ true
    → Settled (stored_by sizes clauses constants) seen rows
    → Second (stored_by sizes clauses constants) values at seen firsts rows seen firsts rows
second_before sizes clauses constants values at seen firsts rows e Z = record {
  unmet = λ p w E. entry_stays p at.turn (at.turn + 1) seen.met firsts 31 (omega arith) e E;
  stays = λ t. t;
  here = λ t. absurd (T_not (bit seen.met 31) t (of_true e));
  marks = λ t. absurd (T_not (bit seen.met 31) t (of_true e));
  settled = Z;
}

-- the choices of x in which a disequation holds, and those that are left of x
both_left : (a d e : Bool) → ((a && d) && (a && e)) ≡ ((a && e) && d)
both_left true true true = refl
both_left true true false = refl
both_left true false true = refl
both_left true false false = refl
both_left false d e = refl

module _ (sizes : Sizes) (clauses constants : List ℕ) (R : Readable clauses sizes.counts sizes.free sizes.own)
    (values : ℕ) (at : Allowed) (seen : Seen)
    (firsts : List Passing) (rows : List ℕ) (first : (i : ℕ) → i < 64
    → bit at.choices i ≡ first_meets (stored_by sizes clauses constants) values (64 * at.word + i))
    (none : ℕ) (rows₁ : List ℕ)
    (M : Missing clauses sizes.counts sizes.free sizes.own values at.word at.choices seen.wanted none rows₁)
    (kept₁ : (k : ℕ) → 32 ≤ k → get_or rows₁ k 0 ≡ get_or rows k 0) (apart : bit seen.met 31 ≡ false)
    (Z : Settled (stored_by sizes clauses constants) seen rows) (met : ℕ) (firsts' : List Passing)
    (K : Kept 31 at.turn (bit none) seen.met firsts met firsts') where
  -- what is left, as tests
  none_bits : (i : ℕ) → i < 64 → bit none i ≡ unmet_here (stored_by sizes clauses constants) values (64 * at.word + i)
  none_bits i l = M.none i l ∙ ap (λ b. b
      && not (second_meets (stored_by sizes clauses constants) values (64 * at.word + i))) (first i l)

  left_bits : (j : ℕ) → j < get_or sizes.counts 3 0 → T (bit seen.wanted j) → (i : ℕ) → i < 64
      → bit (get_or rows₁ j 0) i ≡ allowed_in (stored_by sizes clauses constants) (Missed j) values (64 * at.word + i)
  left_bits j k t i l = M.each j k t i l
      ∙ ap (λ b. b && not (second_differs (stored_by sizes clauses constants) values j (64 * at.word + i))) (first i l)

  -- where it is no longer wanted it is true that some choice misses it, and each of the first system's was met
  stays_true : (b c : Bool) → b ≡ true → b ≡ (b || c)
  stays_true b c e = rw e

  -- nothing is wanted
  pub second_alone : seen.wanted ≡ 0
      → Second (stored_by sizes clauses constants) values at seen firsts rows
      (record { met = met; possible = seen.possible; here = seen.here; wanted = seen.wanted }) firsts' rows₁
  second_alone e = record {
    unmet = λ p w E. K.entry p (λ i l. none_bits i l ∙ w i l) E;
    stays = λ t. of_false apart;
    here = λ t j l u. stays_true _ _ (Z j l u (unwanted j)).0;
    marks = λ t j l u i m. ap (λ x. bit x i) (kept₁ (64 + j) (omega arith))
        ∙ stays_true _ _ ((Z j l u (unwanted j)).1 i m);
    settled = λ j l u v. ((Z j l u v).0, λ i m. ap (λ x. bit x i) (kept₁ (64 + j) (omega arith)) ∙ (Z j l u v).1 i m);
  }
    where
      unwanted : (j : ℕ) → bit seen.wanted j ≡ false
      unwanted j = ap (λ x. bit x j) e ∙ bit_zero j

  -- bits and marks
  module _ (terms rows₂ : List ℕ) (table : Terms sizes.free sizes.own values at.word terms)
      (filled : (i : ℕ) → i < get_or sizes.counts 1 0 → (k : ℕ) → k < 64
      → bit (get_or rows₂ (32 + i) 0) k
      ≡ (bit at.choices k && not (clause_test clauses (λ t. bit (get_or terms t 0) k) (256 + 4 * i))))
      (kept₂ : (k : ℕ) → (32 ≤ k → 32 + get_or sizes.counts 1 0 ≤ k) → get_or rows₂ k 0 ≡ get_or rows₁ k 0)
      (wanted' here' : ℕ) (rows₃ : List ℕ)
      (A : MarkedAll (get_or sizes.counts 3 0) (get_or sizes.counts 1 0) seen.wanted seen.here rows₂ wanted' here'
      rows₃) where
    row_kept : (j : ℕ) → j < 32 → get_or rows₂ j 0 ≡ get_or rows₁ j 0
    row_kept j l = kept₂ j (λ q. omega arith)

    common_is : (j : ℕ) → j < get_or sizes.counts 3 0 → T (bit seen.wanted j) → (i : ℕ) → i < get_or sizes.counts 1 0
        → common (get_or rows₂ (32 + i) 0) (get_or rows₂ j 0)
        ≡ some_below 64 (λ k. meets_here (stored_by sizes clauses constants) (Missed j) i values (64 * at.word + k))
    unfolding common
    common_is j l t i m = some_ext 64 _ _ (λ k h.
        ap₂ ◌&&◌
        (filled i m k h ∙ ap (◌&&◌ (bit at.choices k))
        (differs_bits sizes clauses constants R values at.word terms table i m k h))
        (ap (λ x. bit x k) (row_kept j (omega (arith, R.few))) ∙ M.each j l t k h)
        ∙ both_left (bit at.choices k) (first_differs (stored_by sizes clauses constants) values i (64 * at.word + k))
        (not (second_differs (stored_by sizes clauses constants) values j (64 * at.word + k)))
        ∙ ap (λ b. (b && not (second_differs (stored_by sizes clauses constants) values j (64 * at.word + k)))
        && first_differs (stored_by sizes clauses constants) values i (64 * at.word + k)) (first k h))

    mark_row : (j : ℕ) → j < get_or sizes.counts 3 0 → get_or rows₂ (64 + j) 0 ≡ get_or rows (64 + j) 0
    mark_row j l = kept₂ (64 + j) (λ q. omega (arith, R.few)) ∙ kept₁ (64 + j) (omega arith)

    here_bit : (j : ℕ) → j < get_or sizes.counts 3 0 → T (bit seen.possible j) → (w : Bool) → bit seen.wanted j ≡ w
        → bit here' j ≡ (bit seen.here j
        || some_below 64 (λ i. allowed_in (stored_by sizes clauses constants) (Missed j) values (64 * at.word + i)))
    here_bit j l u true e =
        A.there j l
        ∙ ap (◌||◌ (bit seen.here j))
        (ap₂ ◌&&◌ e (ap some (row_kept j (omega (arith, R.few)))
        ∙ some_ext 64 _ _ (λ i h. left_bits j l (of_true e) i h)))
    here_bit j l u false e =
        A.there j l ∙ ap (λ b. bit seen.here j || (b && some (get_or rows₂ j 0))) e ∙ or-false (bit seen.here j)
        ∙ stays_true _ _ (Z j l u e).0

    mark_bit : (j : ℕ) → j < get_or sizes.counts 3 0 → T (bit seen.possible j) → (w : Bool) → bit seen.wanted j ≡ w
        → (i : ℕ) → i < get_or sizes.counts 1 0
        → bit (get_or rows₃ (64 + j) 0) i ≡ (bit (get_or rows (64 + j) 0) i
        || some_below 64 (λ k. meets_here (stored_by sizes clauses constants) (Missed j) i values (64 * at.word + k)))
    mark_bit j l u true e i m =
        A.mark j l i m ∙ ap₂ ◌||◌ (ap (λ x. bit x i) (mark_row j l))
        (ap (λ b. b && common (get_or rows₂ (32 + i) 0) (get_or rows₂ j 0)) e ∙ common_is j l (of_true e) i m)
    mark_bit j l u false e i m =
        A.mark j l i m ∙ ap₂ ◌||◌ (ap (λ x. bit x i) (mark_row j l))
        (ap (λ b. b && common (get_or rows₂ (32 + i) 0) (get_or rows₂ j 0)) e)
        ∙ or-false (bit (get_or rows (64 + j) 0) i) ∙ stays_true _ _ ((Z j l u e).1 i m)

    settled_after : (j : ℕ) → j < get_or sizes.counts 3 0 → T (bit seen.possible j) → (w : Bool) → bit seen.wanted j ≡ w
        → bit wanted' j ≡ false
        → (bit here' j ≡ true) × FullMark (get_or sizes.counts 1 0) (get_or rows₃ (64 + j) 0)
    settled_after j l u true e v = A.settled j l (of_true e) v
    settled_after j l u false e v = (
      here_bit j l u false e ∙ sym (stays_true _ _ (Z j l u e).0) ∙ (Z j l u e).0,
      λ i m. mark_bit j l u false e i m ∙ sym (stays_true _ _ ((Z j l u e).1 i m)) ∙ (Z j l u e).1 i m,
    )

    pub second_marked : Second (stored_by sizes clauses constants) values at seen firsts rows
        (record { met = met; possible = seen.possible; here = here'; wanted = wanted' }) firsts' rows₃
    second_marked = record {
      unmet = λ p w E. K.entry p (λ i l. none_bits i l ∙ w i l) E;
      stays = λ t. of_false apart;
      here = λ t j l u. here_bit j l u _ refl;
      marks = λ t j l u i m. mark_bit j l u _ refl i m;
      settled = λ j l u v. settled_after j l u _ refl v;
    }
