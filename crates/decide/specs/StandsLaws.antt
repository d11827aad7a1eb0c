-- What stands for a question poses, in each search, the problem that the question does. Assumes nothing.
use Rattle.std.specs.Prelude.{◌≡◌}
use Rattle.std.proofs.Math.Path.{refl, sym, ap, ap₂, fun_ext}
use Rattle.std.proofs.Common.{◌∙◌, le_of_suc-le-suc, mod-eq_of_lt, arith}
use Rattle.std.proofs.Math.Bool.{Bool, true, false, not, cond, ◌&&◌}
use Prim.Native.Nat.{ℕ, zero, suc, ◌+◌, ◌-◌, ◌*◌, ◌^◌, ◌≤◌, ◌<◌}
use Rattle.std.proofs.Math.Dec.{ltb}
use Rattle.std.proofs.Math.ListN.{get_or, get_or-map}
use borrow.Author.Tests.{ltb-true, ltb-false, le-ltb}
use Rattle.shares.specs.Constant.{bit}
use Rattle.leaves.specs.Choices.{Row, at, least, some_choice}
use Rattle.leaves.specs.RowNumbers.{value}
use Rattle.leaves.specs.ChoiceLaws.{value_lt, some_number}
use Rattle.leaves.specs.Problem.{Problem, solvable}
use Rattle.leaves.specs.Fixed.{fixed_at, with_unmet, with_missed}
use Rattle.leaves.specs.Second as leaf
use Rattle.systems.specs.Clauses.{Atom}
use Rattle.systems.specs.Questions.{Question}
use Rattle.systems.specs.AtLeaves.{read_as, atom_at, all_at, both_at, first_at, second_at}
use Rattle.words.specs.Clause.{term_value}
use Rattle.words.specs.Choices.{all_pass, clause_fails, all_pass_but, some_own}
use Rattle.words.specs.TermLaws.{position_free, value_variable, value_free, value_own}
use Rattle.format.specs.Format.{in_section, variables_for}
use Rattle.format.specs.Stored.{section_start, four_at, Stored, count_of, StoredClause, defined_by, Stands}
use Rattle.format.specs.SectionLaws.{variables_le}
use Rattle.format.proofs.KeepingLaws.{section_count}
use Rattle.format.proofs.Callers.{readings_at_lem}
use Rattle.format.specs.declared.Section.{Section}
use Rattle.format.specs.declared.Section.TheVariants.{FirstPositive, FirstDisequation, SecondPositive}
use Rattle.format.specs.declared.Section.TheVariants.{SecondDisequation}
use Rattle.leaves.specs.Numbers.{numbered}
use Rattle.leaves.proofs.SameLaws.{solvable_same, fixed_same}
use Rattle.steps.specs.Tests.{leaf_values, first_meets, first_differs, second_meets, second_differs, special_in}
use Rattle.steps.specs.Tests.{tests_of}
use Rattle.decide.specs.StoredLaws.{reading_at, row_digit, all_readings, all_read, reading_same, section_same}
use Rattle.decide.specs.NamedLaws.{reading_kept}
use Rattle.steps.specs.declared.Search.TheVariants.{First, Unmet, Missed}

-- what is stored, with n free and m own variables
abbrev pub with_variables : Stored → ℕ → ℕ → Stored
with_variables x n m = record {
  clauses = x.clauses;
  counts = x.counts;
  constants = x.constants;
  levels =
      x.levels;
  named = x.named;
  free = n;
  own = m;
}

module _ {kind : ℕ} (x : Stored) (q : Question) (St : Stands kind x q) (h : ℕ) where
  abbrev S : Stored
  S = with_variables x q.free q.own

  few : q.free + q.own ≤ 12
  few = omega (arith, St.free, St.own, St.variables)

  -- the stored clauses of a section, with the question's own numbers of variables
  clause_at_lem : (σ : Section) (i : ℕ) → i < count_of x.counts σ
      → StoredClause (variables_for q.free q.own σ) (defined_by q) (four_at x.clauses (section_start σ + 4 * i))
  clause_at_lem σ i l = rw (← St.free, ← St.own) (St.clauses σ i l)

  -- a section of the question, where variables have values X and choice z has them as digits
  module _ (b m : ℕ) (few-m : q.free + m ≤ 12) (σ : Section) (X : ℕ → Bool) (z : ℕ)
      (values : (t : ℕ) → t < variables_for q.free q.own σ → X t ≡ term_value q.free m (leaf_values S h b) z t) where
    few_named : variables_for q.free q.own σ ≤ 12
    few_named = omega (arith, variables_le q.free q.own σ, few)

    all_same : all_at h q.constants b X (in_section q σ)
        ≡ all_pass x.clauses (section_start σ) (count_of x.counts σ) q.free m (leaf_values S h b) z
    unfolding all_pass
    all_same =
        all_read h q.constants b X (in_section q σ)
        ∙ ap₂ (λ k l. all_readings h k b X l) St.constants (sym (St.sections σ))
        ∙ section_same S (defined_by q) h b St.constant_counted q.free m few-m (variables_for q.free q.own σ) few_named
        X z values (section_start σ) (count_of x.counts σ)
        (clause_at_lem σ) (reading_kept x q St σ)

    one_same : (j : ℕ) (d : Atom) → j < count_of x.counts σ
        → not (atom_at h q.constants b X (get_or (in_section q σ) j d))
        ≡ clause_fails x.clauses (section_start σ + 4 * j) q.free m (leaf_values S h b) z
    unfolding clause_fails
    one_same j d l =
        ap not
        (ap₂ (λ k t. reading_at h k b X t) St.constants
        (sym (get_or-map read_as (in_section q σ) j d) ∙ ap (λ k. get_or k j (read_as d)) (sym (St.sections σ))
        ∙ readings_at_lem x.clauses (section_start σ) (count_of x.counts σ) j (read_as d) l)
        ∙ reading_same S (defined_by q) h b St.constant_counted q.free m few-m (variables_for q.free q.own σ) few_named
        X z values (section_start σ + 4 * j) (clause_at_lem σ j l)
        (reading_kept x q St σ j l))

  module _ (b : ℕ) (v : Row Bool q.free) where
    free_values : (t : ℕ) → t < q.free → at false v t ≡ term_value q.free 0 (leaf_values S h b) (value v) t
    free_values t l =
        row_digit q.free v t l ∙ ap (bit (value v)) (sym (position_free q.free 0 t l))
        ∙ sym (value_variable q.free 0 (leaf_values S h b) (value v) t (omega arith))

    first_pos : (first_at h q).pos b v ≡ first_meets S (leaf_values S h b) (value v)
    first_pos = all_same b 0 (omega (arith, few)) FirstPositive (at false v) (value v) free_values

    first_dis : (j : ℕ) → j < count_of x.counts FirstDisequation
        → (first_at h q).dis j b v ≡ first_differs S (leaf_values S h b) j (value v)
    first_dis j l = one_same b 0 (omega (arith, few)) FirstDisequation (at false v) (value v) free_values j _ l

    module _ (u : Row Bool q.own) where
      both_values : (t : ℕ) → t < q.free + q.own
          → both_at q.free (at false v) (at false u) t
          ≡ term_value q.free q.own (leaf_values S h b) (value u * 2 ^ q.free + value v) t
      unfolding both_at
      both_values t l = go (ltb t q.free) refl
        where
          go : (c : Bool) → ltb t q.free ≡ c
              → cond c (at false v t) (at false u (t - q.free))
              ≡ term_value q.free q.own (leaf_values S h b) (value u * 2 ^ q.free + value v) t
          go true e =
              let k = ltb-true t q.free e in
              row_digit q.free v t k ∙ sym
              (value_free q.free q.own (leaf_values S h b) (value u) (value v) (value_lt q.free v) t k)
          go false e =
              let k : q.free ≤ t = ltb-false t q.free e in
              row_digit q.own u (t - q.free) (omega arith)
              ∙ sym (value_own q.free q.own (leaf_values S h b) (value u) (value v) (value_lt q.free v) (t - q.free)
              (omega arith))
              ∙ ap (term_value q.free q.own (leaf_values S h b) (value u * 2 ^ q.free + value v)) (omega arith)

      second_pos : (second_at h q).pos b v u
          ≡ all_pass x.clauses 384 (count_of x.counts SecondPositive) q.free q.own (leaf_values S h b)
          (value u * 2 ^ q.free + value v)
      second_pos = all_same b q.own few SecondPositive _ _ both_values

      second_dis : (j : ℕ) → j < count_of x.counts SecondDisequation → (second_at h q).dis j b v u
          ≡ clause_fails x.clauses (640 + 4 * j) q.free q.own (leaf_values S h b) (value u * 2 ^ q.free + value v)
      second_dis j l = one_same b q.own few SecondDisequation _ _ both_values j _ l

    pub second_meets_lem : leaf.meets (least q.own) (second_at h q) b v ≡ second_meets S (leaf_values S h b) (value v)
    unfolding leaf.meets some_own
    second_meets_lem =
        ap (some_choice (least q.own)) (fun_ext second_pos) ∙ some_number q.own _
        ∙ ap (λ y. second_all y) (sym (mod-eq_of_lt (value_lt q.free v)))
      where
        second_all : ℕ → Bool
        second_all y = some_own q.free q.own
            (all_pass x.clauses 384 (count_of x.counts SecondPositive) q.free q.own (leaf_values S h b)) y

    pub second_with : (j : ℕ) → j < count_of x.counts SecondDisequation
        → leaf.meets_with (least q.own) (second_at h q) j b v ≡ second_differs S (leaf_values S h b) j (value v)
    unfolding leaf.meets_with some_own all_pass_but
    second_with j l =
        ap (some_choice (least q.own)) (fun_ext (λ u. ap₂ ◌&&◌ (second_pos u) (second_dis u j l))) ∙ some_number q.own _
        ∙ ap (λ y. second_but y) (sym (mod-eq_of_lt (value_lt q.free v)))
      where
        second_but : ℕ → Bool
        second_but y =
            some_own q.free q.own (all_pass_but x.clauses 384 (count_of x.counts SecondPositive) (640 + 4 * j) q.free
            q.own (leaf_values S h b)) y

  -- ---- the problem of each search is the question's

  -- the same answer of the test, and the same fixed solution
  pub record Same (P : Problem (Row Bool q.free)) (R : Problem ℕ) : Type 0 where
    pub count : P.count ≡ R.count
    pub solvable_is : solvable (least q.free) h P ≡ solvable (least q.free) h (numbered q.free R)
    pub fixed_is : (k s : ℕ) → s < 2 ^ (h + k)
        → fixed_at (least q.free) h P (h + k) s ≡ fixed_at (least q.free) h (numbered q.free R) (h + k) s

  same_of : (P : Problem (Row Bool q.free)) (R : Problem ℕ) → P.count ≡ R.count
      → ((b : ℕ) (v : Row Bool q.free) → P.pos b v ≡ R.pos b (value v))
      → ((j : ℕ) → j < P.count → (b : ℕ) (v : Row Bool q.free) → P.dis j b v ≡ R.dis j b (value v)) → Same P R
  same_of P R c p d = record {
    count = c;
    solvable_is = solvable_same (least q.free) h P (numbered q.free R) c (λ b l v. p b v) (λ j l b m v. d j l b v);
    fixed_is = fixed_same (least q.free) h P (numbered q.free R) c (λ b l v. p b v) (λ j l b m v. d j l b v);
  }

  -- the stored disequations come after the extra ones
  stored_after : (extra i e b : ℕ) (v : Row Bool q.free) → e ≡ extra + i → i < (first_at h q).count
      → (first_at h q).dis i b v ≡ special_in x.clauses q.free (leaf_values S h b) (second_meets S (leaf_values S h b))
      extra e (value v)
  unfolding special_in
  stored_after extra i e b v at l =
      first_dis b v i (rw (section_count x q St FirstDisequation) at l)
      ∙ rw (le-ltb e extra (omega arith)) (ap (λ j. first_differs S (leaf_values S h b) j (value v)) {y =
      e - extra} (omega arith))

  pub same_first : Same (first_at h q) (tests_of S h First)
  same_first = same_of _ _ (section_count x q St FirstDisequation ∙ omega arith) first_pos
      (λ j l b v. stored_after 0 j j b v (omega arith) l)

  pub same_unmet : Same (with_unmet (least q.own) (second_at h q) (first_at h q)) (tests_of S h Unmet)
  unfolding special_in
  same_unmet = same_of _ _ (ap suc (section_count x q St FirstDisequation) ∙ omega arith) first_pos go
    where
      go : (j : ℕ) → j < suc (first_at h q).count → (b : ℕ) (v : Row Bool q.free)
          → (with_unmet (least q.own) (second_at h q) (first_at h q)).dis j b v ≡ (tests_of S h Unmet).dis j b (value v)
      go zero l b v = ap not (second_meets_lem b v)
      go (suc j) l b v = stored_after 1 j (suc j) b v (omega arith) (le_of_suc-le-suc l)

  pub same_missed : (j : ℕ) → j < count_of x.counts SecondDisequation
      → Same (with_missed (least q.own) (second_at h q) (first_at h q) j) (tests_of S h (Missed j))
  same_missed j l =
      same_of _ _ (section_count x q St FirstDisequation ∙ omega arith)
      (λ b v. ap₂ (λ y z. y && not z) (first_pos b v) (second_with b v j l))
      (λ i m b v. stored_after 0 i i b v (omega arith) m)
