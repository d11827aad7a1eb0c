-- Questions worked by hand, in one table: those of docs/SPEC.md, section 12, that are marked P, in its order. Assumes
-- nothing.
use Rattle.std.specs.Prelude.{◌≡◌, ◌↔◌, List, [], ◌∷◌, ℕ}
use Rattle.shares.specs.Constant.{constant_levels}
use Rattle.leaves.specs.Heights.{any_height, exactly}
use Rattle.systems.specs.Clauses.{Term, variable, constant, joined, equal, Clause, positive, negated, System, Constants}
use Rattle.systems.specs.Questions.{satisfiability, entailment, Question, WellFormed, question_height}
use Rattle.systems.specs.Policies.{may_write, may_read, may_be_held_together}
use Rattle.systems.specs.Solutions.{Solution}
use Rattle.systems.specs.Answers.{Answer, satisfied, unsatisfied, vacuous, entailed, unmet, missed, Answers}
use Rattle.systems.specs.Answers.{height_given}

-- a question, its answer, the height given with it (0 where no solution is shown), and heights that no solution has
pub record Example : Type 0 where
  pub question : Question
  pub answer : Answer
  pub height : ℕ
  pub never : List ℕ

-- no solution of the first system has one of these heights
abbrev pub Never : Question → List ℕ → Type 0
Never q [] = Unit {0}
Never q (k ∷ l) = (¬ Solution (exactly k) q) × Never q l

-- an example is right: its question is well formed, its answer is the right one and the only one, and its heights are
-- as it says
pub record Right (x : Example) : Type 0 where
  pub formed : WellFormed x.question
  pub right_answer : (a : Answer) → Answers any_height x.question a ↔ (x.answer ≡ a)
  pub given : height_given (question_height x.question) x.question x.answer ≡ x.height
  pub never : Never x.question x.never

-- every example of a table is
abbrev pub AllRight : List Example → Type 0
AllRight [] = Unit {0}
AllRight (x ∷ l) = Right x × AllRight l

-- ---- words for the table

-- the constants: empty, full, the left half and the right half
abbrev halves : Constants
halves = record { levels = constant_levels; numbers = 0x00000000 ∷ 0xFFFFFFFF ∷ 0x0000FFFF ∷ 0xFFFF0000 ∷ [] }

-- the first two of them
abbrev wholes : Constants
wholes = record { levels = constant_levels; numbers = 0x00000000 ∷ 0xFFFFFFFF ∷ [] }

-- the first three of them and T, which has the first of 32 leaves
abbrev with_t : Constants
with_t = record { levels = constant_levels; numbers = 0x00000000 ∷ 0xFFFFFFFF ∷ 0x0000FFFF ∷ 0x00000001 ∷ [] }

-- empty, full and the two halves as terms
abbrev empty : Term
empty = constant 0

abbrev full : Term
full = constant 1

abbrev L : Term
L = constant 2

abbrev R : Term
R = constant 3

-- no constant
abbrev no_constants : Constants
no_constants = record { levels = constant_levels; numbers = [] }

-- variable number i
abbrev v : ℕ → Term
v i = variable i

-- "a join b is c"
abbrev join_is : Term → Term → Term → Clause
join_is a b c = positive (joined a b c)

-- "a is b"
abbrev is : Term → Term → Clause
is a b = positive (equal a b)

-- "a is not b"
abbrev is_not : Term → Term → Clause
is_not a b = negated (equal a b)

-- is a system of n variables satisfiable
abbrev asks : ℕ → Constants → System → Question
asks n cs s = record { kind = satisfiability; free = n; own = 0; constants = cs; first = s; second = [] }

-- does a system of n variables entail a second, which has m more of its own
abbrev entails : ℕ → ℕ → Constants → System → System → Question
entails n m cs s t = record { kind = entailment; free = n; own = m; constants = cs; first = s; second = t }

-- an example that names no height that solutions lack
abbrev example : Question → Answer → ℕ → Example
example q a k = record { question = q; answer = a; height = k; never = [] }

-- one that does
abbrev example_never : Question → Answer → ℕ → List ℕ → Example
example_never q a k l = record { question = q; answer = a; height = k; never = l }

-- ---- the table

-- each question, in the words above it
abbrev pub worked : List Example
worked =
    -- no variable, no clause: yes, height 0
    example (asks 0 wholes []) satisfied 0
    -- v0 join v0 is full: no
    ∷ example (asks 1 wholes (join_is (v 0) (v 0) full ∷ [])) unsatisfied 0
    -- v0 join v0 is v1, v1 not empty: no
    ∷ example (asks 2 wholes (join_is (v 0) (v 0) (v 1) ∷ is_not (v 1) empty ∷ [])) unsatisfied 0
    -- v0 join v1 is v2, none of the three empty: yes, height 2 given; no solution has height 0
    ∷ example_never (asks 3 wholes (join_is (v 0) (v 1) (v 2) ∷ is_not (v 0) empty ∷ is_not (v 1) empty
    ∷ is_not (v 2) empty ∷ [])) satisfied 2 (0 ∷ [])
    -- v0 join v1 is v2, v2 join v3 is v4, none of the five empty: yes, height 3 given; none has height 0 or 1
    ∷ example_never
    (asks 5 wholes
    (join_is (v 0) (v 1) (v 2) ∷ join_is (v 2) (v 3) (v 4)
    ∷ is_not (v 0) empty ∷ is_not (v 1) empty ∷ is_not (v 2) empty ∷ is_not (v 3) empty ∷ is_not (v 4) empty ∷ []))
    satisfied 3 (0 ∷ 1 ∷ [])
    -- v0 join v1 is full, v0 not L, v1 not empty: yes
    ∷ example (asks 2 halves (join_is (v 0) (v 1) full ∷ is_not (v 0) L ∷ is_not (v 1) empty ∷ [])) satisfied 2
    -- not (full join full is full): yes
    ∷ example (asks 0 wholes (negated (joined full full full) ∷ [])) satisfied 0
    -- v0 join v0 is full entails v0 empty: yes, reason 1
    ∷ example (entails 1 0 wholes (join_is (v 0) (v 0) full ∷ []) (is (v 0) empty ∷ [])) vacuous 0
    -- v0 not empty, v1 is R, entails L join own v2 is v0: no, reason 2
    ∷ example (entails 2 1 halves (is_not (v 0) empty ∷ is (v 1) R ∷ []) (join_is L (v 2) (v 0) ∷ [])) unmet 2
    -- v0 not empty entails own v1 join own v2 is v0, neither empty: yes
    ∷ example (entails 1 2 wholes (is_not (v 0) empty ∷ []) (join_is (v 1) (v 2) (v 0) ∷ is_not (v 1) empty
    ∷ is_not (v 2) empty ∷ [])) entailed 0
    -- v0 join v1 is full entails v0 not empty: no, reason 3 with 0, height 0
    ∷ example (entails 2 0 wholes (join_is (v 0) (v 1) full ∷ []) (is_not (v 0) empty ∷ [])) (missed 0) 0
    -- v0 is L entails v0 not empty: yes
    ∷ example (entails 1 0 halves (is (v 0) L ∷ []) (is_not (v 0) empty ∷ [])) entailed 0
    -- v0 may write, v1 may read, and the two may be held together: no
    ∷ example (asks 2 no_constants (may_write (v 0) ∷ may_read (v 1) ∷ may_be_held_together (v 0) (v 1) ∷ []))
    unsatisfied 0
    -- v0 and v1 may read, and may be held together: yes, height 1 given; no solution has height 0
    ∷ example_never (asks 2 no_constants (may_read (v 0) ∷ may_read (v 1) ∷ may_be_held_together (v 0) (v 1) ∷ []))
    satisfied 1 (0 ∷ [])
    -- v0 may read entails v0 may write: no, reason 2
    ∷ example (entails 1 0 no_constants (may_read (v 0) ∷ []) (may_write (v 0) ∷ [])) unmet 1
    -- v0 may write entails v0 may read: yes
    ∷ example (entails 1 0 no_constants (may_write (v 0) ∷ []) (may_read (v 0) ∷ [])) entailed 0
    -- v0 may write entails own v1 may read, held together with v0: no, reason 3 with 0, height 0
    ∷ example (entails 1 1 no_constants (may_write (v 0) ∷ []) (may_read (v 1) ∷ may_be_held_together (v 0) (v 1) ∷ []))
    (missed 0) 0
    -- v0 join L is full, beside T, which no clause names: yes, height 1
    ∷ example (asks 1 with_t (join_is (v 0) L full ∷ [])) satisfied 1
    -- v0 may read, beside T, which no clause names: yes, height 0
    ∷ example (asks 1 with_t (may_read (v 0) ∷ [])) satisfied 0
    -- v0 may write entails v0 is L, which the second system alone names: no, reason 2, height 1
    ∷ example (entails 1 0 halves (may_write (v 0) ∷ []) (is (v 0) L ∷ [])) unmet 1
    -- v0 not L, which a disequation alone names: yes, height 1
    ∷ example (asks 1 halves (is_not (v 0) L ∷ [])) satisfied 1
    -- no clause entails v0 not L: no, reason 3 with 0, height 1
    ∷ example (entails 1 0 halves [] (is_not (v 0) L ∷ [])) (missed 0) 1
    ∷ []
