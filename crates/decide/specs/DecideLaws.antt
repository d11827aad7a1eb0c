-- What the searches find decides the question. Assumes nothing.
use Rattle.std.specs.Prelude.{◌≡◌, Bool, false, not, List, ℕ, ◌^◌, get_or}
use Rattle.std.proofs.Math.Path.{refl, sym, ap}
use Rattle.std.proofs.Common.{ap₂, ◌∙◌, suc-le-suc, zero-le, le_refl, T_not}
use Rattle.std.proofs.Math.Bool.{true}
use Rattle.std.proofs.Math.Dec.{T, not_T}
use borrow.Author.Tests.{lt-ltb, le-ltb}
use Rattle.shares.specs.Test.{is_true, is_false, of_true, of_false, and_right}
use Rattle.shares.specs.Below.{every_below, some_below, first_below}
use Rattle.shares.specs.BelowLaws.{every_at, first_ext, first_below_lem}
use Rattle.leaves.specs.Choices.{Row, least}
use Rattle.leaves.specs.Problem.{Problem, plain_at, special_at, solvable}
use Rattle.leaves.specs.Fixed.{with_unmet}
use Rattle.leaves.specs.Entailment.{can_be_unmet, can_be_missed, first_missed}
use Rattle.leaves.proofs.SecondLaws.{unmet_solvable}
use Rattle.systems.specs.Questions.{satisfiability, entailment, Question, question_height, second_count}
use Rattle.systems.specs.Answers.{satisfied, unsatisfied, vacuous, entailed, unmet, missed, shows}
use Rattle.systems.specs.AtLeaves.{first_at, second_at}
use Rattle.systems.specs.Decide.{can_solve, some_unmet, lowest_missed, decide_kind, decide}
use Rattle.format.specs.Stored.{Stored, Stands}
use Rattle.format.proofs.KeepingLaws.{section_count}
use Rattle.format.specs.declared.Section.TheVariants.{SecondDisequation}
use Rattle.steps.specs.Tests.{tests_of}
use Rattle.steps.specs.declared.Search.{Search}
use Rattle.steps.specs.declared.Search.TheVariants.{First, Unmet, Missed}
use Rattle.search.specs.Found.{solvable_in, lowest_missed_in, SolvedAs, SurveyedAs}
use Rattle.search.specs.declared.Survey.{Survey}
use Rattle.decide.specs.StandsLaws.{with_variables, Same, same_first, same_unmet, same_missed}
use Rattle.decide.specs.Findings.{answer_of}
use Rattle.decide.specs.Decision.{search_of, Decided}
use Rattle.decide.specs.declared.Finding.{Finding}
use Rattle.decide.specs.declared.Finding.TheVariants.{Satisfied, Unsatisfied, Vacuous, Entailed, Unmet, Missed}
use Rattle.words.specs.declared.Passing.{Passing}

-- a test and its negation
pub flip : (a : Bool) {b : Bool} → not a ≡ b → a ≡ not b
flip true e = ap not e
flip false e = ap not e

-- a problem with one disequation more, before the others, is solvable only if some leaf meets that one
unmet_somewhere : (h : ℕ) (q : Question)
    → T (solvable (least q.free) h (with_unmet (least q.own) (second_at h q) (first_at h q))) → T (some_unmet h q)
unfolding solvable can_be_unmet special_at
unmet_somewhere h q t =
    every_at _ (λ j. some_below (2 ^ h) (special_at (least q.free) P j))
    (and_right (every_below (2 ^ h) (plain_at (least q.free) P)) _ t) 0 (suc-le-suc zero-le)
  where
    P : Problem (Row Bool q.free)
    P = with_unmet (least q.own) (second_at h q) (first_at h q)

module _ {k : ℕ} (x : Stored) (q : Question) (St : Stands k x q) where
  abbrev H : ℕ
  H = question_height q

  -- ---- the searches are the question's

  -- whether a search is solvable
  search_is : (search : Search) (P : Problem (Row Bool q.free))
      → Same x q St H P (tests_of (with_variables x q.free q.own) H search)
      → solvable_in x H search ≡ solvable (least q.free) H P
  search_is search P same = ap₂ (λ n m. solvable_in (with_variables x n m) H search) St.free St.own
      ∙ sym same.solvable_is

  first_is : solvable_in x H First ≡ can_solve H q
  first_is = search_is First (first_at H q) (same_first x q St H)

  unmet_is : solvable_in x H Unmet ≡ solvable (least q.free) H (with_unmet (least q.own) (second_at H q) (first_at H q))
  unmet_is = search_is Unmet _ (same_unmet x q St H)

  count : get_or x.counts 3 0 ≡ second_count q
  count = sym (section_count x q St SecondDisequation)

  lowest_is : lowest_missed_in x H ≡ lowest_missed H q
  unfolding first_missed can_be_missed
  lowest_is =
      first_ext (get_or x.counts 3 0) _ _ (λ i l. search_is (Missed i) _ (same_missed x q St H i l))
      ∙ ap (λ n. first_below n (can_be_missed (least q.free) (least q.own) H (first_at H q) (second_at H q))) count

  -- ---- a finding with which a solution is shown, and one with which none is

  with_pairs : (f : Finding) (firsts leaves : List Passing) → decide q ≡ answer_of f
      → SolvedAs x H (search_of f) true firsts leaves → Decided x q f firsts leaves
  with_pairs f firsts leaves d D = record { answer = sym d; solved = λ _. D }

  without_pairs : (f : Finding) (firsts leaves : List Passing) → shows (answer_of f) ≡ false → decide q ≡ answer_of f
      → Decided x q f firsts leaves
  without_pairs f firsts leaves s d = record { answer = sym d; solved = λ t. absurd (rw (d, s) at t) }

  -- ---- of satisfiability

  module _ (found : Bool) (firsts leaves : List Passing) (D : SolvedAs x H First found firsts leaves)
      (kind : q.kind ≡ satisfiability) where
    pub decided_satisfied : found ≡ true → Decided x q Satisfied firsts leaves
    unfolding decide_kind
    decided_satisfied e =
        let d : decide q ≡ satisfied = rw (kind, sym (D.found_is ∙ first_is) ∙ e) in
        with_pairs Satisfied firsts leaves d (rw e at D)

    pub decided_unsatisfied : found ≡ false → Decided x q Unsatisfied firsts leaves
    unfolding decide_kind
    decided_unsatisfied e =
        let d : decide q ≡ unsatisfied = rw (kind, sym (D.found_is ∙ first_is) ∙ e) in
        without_pairs Unsatisfied firsts leaves refl d

  -- ---- of an entailment

  module _ (firsts leaves : List Passing) (kind : q.kind ≡ entailment) where
    pub decided_vacuous : SurveyedAs x H Survey.Unsolvable firsts leaves → Decided x q Vacuous firsts leaves
    unfolding decide_kind
    decided_vacuous e =
        let d : decide q ≡ vacuous = rw (kind, sym first_is ∙ e) in
        without_pairs Vacuous firsts leaves refl d

    pub decided_unmet : SurveyedAs x H Survey.Unmet firsts leaves → Decided x q Unmet firsts leaves
    unfolding decide_kind
    decided_unmet (e, f, pairs) =
        let breaks : some_unmet H q ≡ true = is_true _ (unmet_somewhere H q (of_true (sym unmet_is ∙ f))) in
        let d : decide q ≡ unmet = rw (kind, sym first_is ∙ e, breaks) in
        with_pairs Unmet firsts leaves d (record { found_is = sym f; pairs_are = λ _. pairs })

    module _ (e : solvable_in x H First ≡ true) (f : solvable_in x H Unmet ≡ false) where
      can : can_solve H q ≡ true
      can = sym first_is ∙ e

      holds_on : some_unmet H q ≡ false
      holds_on =
          is_false (some_unmet H q) (not_T (some_unmet H q) (λ t.
          T_not (solvable (least q.free) H (with_unmet (least q.own) (second_at H q) (first_at H q)))
          (of_false (sym unmet_is ∙ f))
          (unmet_solvable (least q.free) (least q.own) H (first_at H q) (second_at H q) (of_true can) t)))

    pub decided_entailed : SurveyedAs x H Survey.Entailed firsts leaves → Decided x q Entailed firsts leaves
    unfolding decide_kind
    decided_entailed (e, f, none) =
        let lowest : get_or x.counts 3 0 ≡ lowest_missed H q = sym none ∙ lowest_is in
        let d : decide q ≡ entailed =
        rw (
          kind,
          can e f,
          holds_on e f,
          ← lowest,
          ← count,
          le-ltb (get_or x.counts 3 0) (get_or x.counts 3 0) (le_refl (get_or x.counts 3 0)),
        ) in
        without_pairs Entailed firsts leaves refl d

    pub decided_missed : (j : ℕ) → SurveyedAs x H (Survey.Missed j) firsts leaves
        → (found : Bool) (third fourth : List Passing) → SolvedAs x H (Missed j) found third fourth
        → Decided x q (Missed j) third fourth
    unfolding decide_kind
    decided_missed j (e, f, l, first) found third fourth G =
        let lowest : j ≡ lowest_missed H q = sym first ∙ lowest_is in
        let d : decide q ≡ missed j =
        rw (kind, can e f, holds_on e f, ← lowest, ← count, lt-ltb j (get_or x.counts 3 0) l) in
        with_pairs (Missed j) third fourth d (rw (G.found_is ∙ is_true _ there) at G)
      where
        there : T (solvable_in x H (Missed j))
        there = rw first at (first_below_lem (get_or x.counts 3 0) (λ i. solvable_in x H (Missed i)) (rw first l))
