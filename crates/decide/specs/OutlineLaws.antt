-- What is to be planned of a question that was read, and the height given with a finding. Assumes nothing.
use Rattle.std.specs.Prelude.{◌≡◌, refl, true, false, ℕ, ◌+◌, ◌≤◌, get_or}
use Rattle.std.proofs.Common.{sym, ◌∙◌, true≢false, arith}
use Rattle.leaves.specs.Heights.{c}
use Rattle.leaves.proofs.HeightLaws.{c_most}
use Rattle.systems.specs.Questions.{Question, question_height, first_count}
use Rattle.systems.specs.Answers.{shows, height_given}
use Rattle.format.specs.Stored.{Stored, Stands}
use Rattle.format.proofs.KeepingLaws.{section_count}
use Rattle.format.specs.declared.Section.TheVariants.{FirstDisequation}
use Rattle.steps.specs.Tests.{extra_of, room_of}
use Rattle.steps.specs.declared.Search.{Search}
use Rattle.steps.specs.declared.Search.TheVariants.{First, Unmet, Missed}
use Rattle.beside.specs.declared.Sizes.{Sizes}
use Rattle.decide.specs.NamedLaws.{height_is, question_low}
use Rattle.decide.specs.Findings.{answer_of}
use Rattle.decide.specs.Decision.{tallest_of, search_of, SizedFor, outline_of}
use Rattle.decide.specs.declared.Finding.{Finding}
use Rattle.decide.specs.declared.Finding.TheVariants.{Satisfied, Unsatisfied, Vacuous, Entailed, Unmet, Missed}

-- ---- a search and its room

pub extra_most : (search : Search) → extra_of search ≤ 1
extra_most First = omega arith
extra_most Unmet = omega arith
extra_most (Missed j) = omega arith

-- it has room for its disequations, and for at most one more than the first system's
pub room_enough : (search : Search) (d : ℕ) → extra_of search + d ≤ room_of search d
room_enough First d = omega arith
room_enough Unmet d = omega arith
room_enough (Missed j) d = omega arith

pub room_most : (search : Search) (d : ℕ) → room_of search d ≤ d + 1
room_most First d = omega arith
room_most Unmet d = omega arith
room_most (Missed j) d = omega arith

-- ---- what is to be planned

module _ {kind : ℕ} (x : Stored) (q : Question) (St : Stands kind x q) where
  pub count_is : get_or x.counts 1 0 ≡ first_count q
  count_is = sym (section_count x q St FirstDisequation)

  pub count_few : first_count q ≤ 31
  count_few = omega (arith, St.counted FirstDisequation, count_is)

  pub splits_few : (search : Search) → c (room_of search (first_count q)) ≤ 5
  splits_few search = c_most (room_of search (first_count q)) 5
      (omega (arith, room_most search (first_count q), count_few))

  pub outline_is : (search : Search) (height room splits extra : ℕ) → height ≡ tallest_of x.levels x.constants x.named
      → room ≡ room_of search (get_or x.counts 1 0) → splits ≡ c room → extra ≡ extra_of search
      → record { free = x.free; height = height; splits = splits; extra = extra; count = get_or x.counts 1 0 }
      ≡ outline_of q search
  outline_is search height room splits extra h r s e = rw (St.free, h ∙ height_is x q St, s, r, e, count_is)

-- from the numbers of a question that was read
module _ (sizes : Sizes) (q : Question) (S : SizedFor sizes q) where
  pub count_sized : get_or sizes.counts 1 0 ≤ 31
  count_sized = rw S.sized (S.standing.stands.counted FirstDisequation)

  pub outline_sized : (search : Search) (room splits extra : ℕ) → room ≡ room_of search (get_or sizes.counts 1 0)
      → splits ≡ c room → extra ≡ extra_of search
      → record {
        free = sizes.free;
        height = sizes.height;
        splits = splits;
        extra = extra;
        count =
            get_or sizes.counts 1 0;
      } ≡ outline_of q search
  outline_sized search room splits extra r s e =
      rw S.sized (outline_is _ q S.standing.stands search _ room splits extra refl (rw S.sized at r) s e)

  pub heights_low : (search : Search) → (question_height q ≤ 5) × (c (room_of search (first_count q)) ≤ 5)
  heights_low search = (question_low _ q S.standing.stands, splits_few _ q S.standing.stands search)

-- ---- the height given

-- where a solution is shown it is the height of what is to be planned
pub shown_height : (q : Question) (f : Finding) → shows (answer_of f) ≡ true
    → (outline_of q (search_of f)).height + (outline_of q (search_of f)).splits
    ≡ height_given (question_height q) q (answer_of f)
shown_height q Satisfied e = refl
shown_height q Unsatisfied e = absurd (true≢false (sym e))
shown_height q Vacuous e = absurd (true≢false (sym e))
shown_height q Entailed e = absurd (true≢false (sym e))
shown_height q Unmet e = refl
shown_height q (Missed j) e = refl

-- where none is shown it is 0
pub no_height : (q : Question) (f : Finding) → shows (answer_of f) ≡ false
    → height_given (question_height q) q (answer_of f) ≡ 0
no_height q Satisfied e = absurd (true≢false e)
no_height q Unsatisfied e = refl
no_height q Vacuous e = refl
no_height q Entailed e = refl
no_height q Unmet e = absurd (true≢false e)
no_height q (Missed j) e = absurd (true≢false e)
