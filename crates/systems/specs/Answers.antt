-- What asking gives: the answers, what each says, their numbers, and the solution that is shown. Assumes nothing.
use Rattle.std.specs.Prelude.{◌≡◌, Bool, true, false, ℕ, ◌+◌, ◌≤◌, ◌<◌}
use Rattle.leaves.specs.Heights.{c}
use Rattle.systems.specs.Clauses.{Assignment}
use Rattle.systems.specs.Questions.{Kind, satisfiability, entailment, Question, first_count, second_count}
use Rattle.systems.specs.Solutions.{height_of, SolvesFirst, Solution, Extends, MeetsPositives, MeetsWith, Every}
use Rattle.systems.specs.Solutions.{SomeNot, Entails}

-- An answer to kind 0: yes; no. To kind 1: yes, the first system has no solution; any other yes; no, some solution
-- cannot even meet the second's positive clauses; no, disequation j of the second is the lowest that some solution
-- cannot have beside them.
pub data Answer : Type 0 where
  satisfied : Answer
  unsatisfied : Answer
  vacuous : Answer
  entailed : Answer
  unmet : Answer
  missed : ℕ → Answer

-- the kind of question that it answers
abbrev pub kind_of : Answer → Kind
kind_of satisfied = satisfiability
kind_of unsatisfied = satisfiability
kind_of vacuous = entailment
kind_of entailed = entailment
kind_of unmet = entailment
kind_of (missed j) = entailment

-- what it says, of the first system's solutions whose height is among A
abbrev pub Says : (ℕ → Type 0) → Question → Answer → Type 0
Says A q satisfied = Solution A q
Says A q unsatisfied = ¬ Solution A q
Says A q vacuous = ¬ Solution A q
Says A q entailed = Solution A q × Entails A q
Says A q unmet = SomeNot A q (MeetsPositives q)
Says A q (missed j) =
    (j < second_count q)
    × Every A q (MeetsPositives q)
    × SomeNot A q (MeetsWith j q)
    × ((i : ℕ) → i < j → Every A q (MeetsWith i q))

-- it is the right answer to q, read with only those solutions
abbrev pub Answers : (ℕ → Type 0) → Question → Answer → Type 0
Answers A q a = (kind_of a ≡ q.kind) × Says A q a

-- ---- its numbers

-- the verdict: 1 yes, 2 no
abbrev pub verdict : Answer → ℕ
verdict satisfied = 1
verdict unsatisfied = 2
verdict vacuous = 1
verdict entailed = 1
verdict unmet = 2
verdict (missed j) = 2

-- the reason
abbrev pub reason : Answer → ℕ
reason satisfied = 0
reason unsatisfied = 0
reason vacuous = 1
reason entailed = 0
reason unmet = 2
reason (missed j) = 3

-- the disequation number
abbrev pub disequation_number : Answer → ℕ
disequation_number satisfied = 0
disequation_number unsatisfied = 0
disequation_number vacuous = 0
disequation_number entailed = 0
disequation_number unmet = 0
disequation_number (missed j) = j

-- yes, of a question: kind 0, there is a solution; kind 1, every solution of the first system extends to the second
abbrev pub Yes : (ℕ → Type 0) → Kind → Question → Type 0
Yes A satisfiability q = Solution A q
Yes A entailment q = Entails A q

-- ---- heights

-- how many sub-leaves a leaf may have to hold: the first system's d disequations, and for entailment one more
abbrev pub needed : Kind → ℕ → ℕ
needed satisfiability d = d
needed entailment d = d + 1

-- ---- the solution that is shown

-- whether one is shown
abbrev pub shows : Answer → Bool
shows satisfied = true
shows unsatisfied = false
shows vacuous = false
shows entailed = false
shows unmet = true
shows (missed j) = true

-- the height given, where h is the question's: 0 if no solution is shown
abbrev pub height_given : ℕ → Question → Answer → ℕ
height_given h q satisfied = h + c (first_count q)
height_given h q unsatisfied = 0
height_given h q vacuous = 0
height_given h q entailed = 0
height_given h q unmet = h + c (first_count q + 1)
height_given h q (missed j) = h + c (first_count q + 1)

-- σ, shown with a no, does not extend, for the reason given: it cannot even meet the second's positive clauses; or it
-- cannot have disequation j beside them
abbrev pub Fails : Question → Assignment → Answer → Type 0
Fails q σ satisfied = Unit {0}
Fails q σ unsatisfied = Unit {0}
Fails q σ vacuous = Unit {0}
Fails q σ entailed = Unit {0}
Fails q σ unmet = (¬ Extends q σ) × ¬ MeetsPositives q σ
Fails q σ (missed j) = (¬ Extends q σ) × ¬ MeetsWith j q σ

-- σ may be shown: it solves the first system, is no taller than the height given and, for a no, does not extend, for
-- the reason given
pub record Shown (h : ℕ) (q : Question) (a : Answer) (σ : Assignment) : Type 0 where
  pub solves : SolvesFirst q σ
  pub low : height_of q σ ≤ height_given h q a
  pub fails : Fails q σ a
