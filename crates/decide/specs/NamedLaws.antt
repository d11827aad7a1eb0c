-- What stands for a question has a bit for each constant that some clause names, and for no other. Assumes nothing.
use Rattle.std.specs.Prelude.{◌≡◌, ℕ, ◌+◌, ◌*◌, ◌^◌, ◌≤◌, ◌<◌, T, get_or}
use Rattle.std.proofs.Common.{sym, ap, ◌∙◌, subst, arith, get_or-take}
use Rattle.std.proofs.Math.Decide.{dec_lt}
use Rattle.std.proofs.Math.ListN.{get_or-map}
use Rattle.shares.proofs.TreeLaws.{tree_of_height}
use Rattle.shares.specs.Constant.{number_tree, bit}
use Rattle.shares.specs.BitLaws.{number_lt, bit_number}
use Rattle.shares.specs.BitParts.{bit_beyond}
use Rattle.systems.specs.Clauses.{variable, equal, constant_tree}
use Rattle.systems.specs.Questions.{Question, InSystem, named_in, named_by, is_among, question_height}
use Rattle.systems.specs.SystemLaws.{InAtoms, in_positives, in_disequations, in_at}
use Rattle.systems.specs.NamedLaws.{among_left, among_right, among_low, among_least, system_named}
use Rattle.systems.specs.AtLeaves.{read_as}
use Rattle.systems.proofs.AtomLaws.{InReading, in_reading}
use Rattle.format.specs.Format.{most_constants, in_section}
use Rattle.format.specs.Stored.{reading_from, section_start, four_at, Stored, count_of, defined_by, named_word, Stands}
use Rattle.format.proofs.KeepingLaws.{section_count}
use Rattle.format.proofs.Callers.{levels_are, readings_at_lem}
use Rattle.format.specs.declared.Section.{Section}
use Rattle.format.specs.declared.Section.TheVariants.{FirstPositive, FirstDisequation, SecondPositive}
use Rattle.format.specs.declared.Section.TheVariants.{SecondDisequation}
use Rattle.decide.specs.Decision.{tallest_of}
use Rattle.decide.specs.TallestLaws.{tallest_is}
use Rattle.decide.specs.StoredLaws.{Kept}

-- ---- the bits of the word

word_bit : (q : Question) (i : ℕ) → i < most_constants → bit (named_word q) i ≡ is_among i (named_by q)
unfolding named_word
word_bit q i l = bit_number most_constants _ i l

word_lt : (q : Question) → named_word q < 2 ^ most_constants
unfolding named_word
word_lt q = number_lt most_constants _

module _ {kind : ℕ} (x : Stored) (q : Question) (St : Stands kind x q) where
  pub named_lt : x.named < 2 ^ most_constants
  named_lt = rw St.named (word_lt q)

  -- a constant that some clause names has its bit
  bit_set : (i : ℕ) → T (is_among i (named_by q)) → T (bit x.named i)
  bit_set i t = rw St.named (subst T (sym (word_bit q i (omega (arith, St.named_defined i t, St.constant_counted)))) t)

  -- and one with a bit is named by some clause
  bit_named : (i : ℕ) → T (bit x.named i) → T (is_among i (named_by q))
  bit_named i t = go (dec_lt i most_constants)
    where
      go : Dec (i < most_constants) → T (is_among i (named_by q))
      go (yes l) = subst T (ap (λ w. bit w i) St.named ∙ word_bit q i l) t
      go (no g) = absurd (subst T (bit_beyond most_constants x.named i named_lt (omega arith)) t)

  pub bit_defined : (i : ℕ) → T (bit x.named i) → i < defined_by q
  bit_defined i t = St.named_defined i (bit_named i t)

  -- ---- the height of the question

  tree_is : (i : ℕ) → i < defined_by q → constant_tree q.constants i ≡ number_tree x.levels (get_or x.constants i 0)
  tree_is i l =
      ap (λ cs. constant_tree cs i) St.constants
      ∙ ap (number_tree x.levels) (get_or-take (defined_by q) x.constants i 0 l)

  pub height_is : tallest_of x.levels x.constants x.named ≡ question_height q
  height_is =
      sym (tallest_is x.levels x.constants x.named (question_height q)
      (λ i t. omega (arith, bit_defined i t, St.constant_counted))
      (λ i t. rw (← tree_is i (bit_defined i t)) (among_low q.constants (named_by q) i (bit_named i t)))
      (λ k f. among_least q.constants (named_by q) k
      (λ i t. rw (tree_is i (St.named_defined i t)) (f i (bit_set i t)))))

  pub question_low : question_height q ≤ x.levels
  question_low =
      among_least q.constants (named_by q) x.levels
      (λ i t. omega (
        arith,
        tree_of_height q.constants.levels (λ j. bit (get_or q.constants.numbers i 0) j),
        levels_are x q St,
      ))

  -- ---- every constant in a clause has its bit

  pub first_kept : InSystem (Kept x.named) q.first
  first_kept = system_named _ (λ v. tt) q.first
      (λ i t. bit_set i (among_left i (named_in q.first) (named_in q.second) t))

  second_kept : InSystem (Kept x.named) q.second
  second_kept = system_named _ (λ v. tt) q.second
      (λ i t. bit_set i (among_right i (named_in q.first) (named_in q.second) t))

  section_kept : (σ : Section) → InAtoms (Kept x.named) (in_section q σ)
  section_kept FirstPositive = in_positives _ q.first first_kept
  section_kept FirstDisequation = in_disequations _ q.first first_kept
  section_kept SecondPositive = in_positives _ q.second second_kept
  section_kept SecondDisequation = in_disequations _ q.second second_kept

  pub reading_kept : (σ : Section) (i : ℕ) → i < count_of x.counts σ
      → InReading (Kept x.named) (reading_from (four_at x.clauses (section_start σ + 4 * i)))
  reading_kept σ i l =
      let a = equal (variable 0) (variable 0) in
      subst (InReading (Kept x.named))
      (sym (get_or-map read_as (in_section q σ) i a) ∙ ap (λ k. get_or k i (read_as a)) (sym (St.sections σ))
      ∙ readings_at_lem x.clauses (section_start σ) (count_of x.counts σ) i (read_as a) l)
      (in_reading (Kept x.named) (get_or (in_section q σ) i a)
      (in_at (Kept x.named) (in_section q σ) a (section_kept σ) i (rw (section_count x q St σ) l)))
