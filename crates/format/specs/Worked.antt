-- Worked byte strings: each refusal, each order of two faults at one command, and the limits, computed. Assumes
-- nothing.
use Rattle.std.specs.Prelude.{◌≡◌, refl, List, [], ◌∷◌, ◌++◌, map, ℕ, zero, suc, replicate, Some, None}
use Rattle.shares.specs.Constant.{constant_levels, number_of, number}
use Rattle.systems.specs.Clauses.{variable, constant, joined, equal, is_full, is_empty, together, positive, negated}
use Rattle.systems.specs.Clauses.{positives, disequations}
use Rattle.systems.specs.Questions.{Question, satisfiability, entailment, named_in, is_among}
use Rattle.format.specs.declared.Kind.TheVariants.{Entailment}
use Rattle.format.specs.declared.Section.TheVariants.{FirstPositive, FirstDisequation, SecondPositive}
use Rattle.format.specs.declared.Section.TheVariants.{SecondDisequation}
use Rattle.format.specs.declared.Shape.{Shape}
use Rattle.format.specs.Format.{Result, refused, accepted, most_of, entry_of, command_of, whole_at, read_at, term_of}
use Rattle.format.specs.Format.{names, fault, taken, ended, turn, run, head_fits, opened, head_of, read}
use Rattle.format.specs.Stored.{clause_bytes, named_word, Reading, refused_with, held, reading_of, written_by}
use Rattle.format.specs.Stored.{clauses_after}

pub record Worked : Type 0 where
  pub bytes : List ℕ
  pub result : Result

abbrev gives : List ℕ → Result → Worked
gives s r = record { bytes = s; result = r }

-- heads: kind 0 with one free variable; kind 1 with one free and one own variable
abbrev alone : List ℕ
alone = 0x01 ∷ 0x00 ∷ 0x01 ∷ 0x00 ∷ []

abbrev both : List ℕ
both = 0x01 ∷ 0x01 ∷ 0x01 ∷ 0x01 ∷ []

-- v0 is v0, in the first system
abbrev itself : List ℕ
itself = 0x12 ∷ 0x00 ∷ 0x00 ∷ []

-- ---- short ones, each by itself, so that a wrong definition shows in two values

-- what a byte announces
announced : map entry_of (0x02 ∷ 0x03 ∷ 0x14 ∷ []) ≡ None ∷ Some Shape.Constant ∷ None ∷ []
unfolding entry_of
announced = refl

-- how many clauses each section may have
rooms : map most_of (FirstPositive ∷ FirstDisequation ∷ SecondPositive ∷ SecondDisequation ∷ []) ≡ 64 ∷ 31 ∷ 64 ∷ 31
    ∷ []
rooms = refl

-- no first byte; no byte where a command is due, at the length; an unknown byte with nothing behind it; a byte after
-- the end
places : (read [] ≡ refused 1 0) × (read alone ≡ refused 2 4) × (read (alone ++ (0x02 ∷ [])) ≡ refused 3 4)
    × (read (alone ++ (0x00 ∷ 0x99 ∷ [])) ≡ refused 10 5)
unfolding read head_of head_fits opened run turn ended fault read_at whole_at command_of entry_of
places = (refl, refl, refl, refl)

-- ---- a table

-- the printing program's example, and its question: v0 join the left half is full
abbrev example : List ℕ
example = 0x01 ∷ 0x00 ∷ 0x01 ∷ 0x00 ∷ 0x03 ∷ 0xFF ∷ 0xFF ∷ 0x00 ∷ 0x00 ∷ 0x03 ∷ 0xFF ∷ 0xFF ∷ 0xFF ∷ 0xFF ∷ 0x10 ∷ 0x00
    ∷ 0x20 ∷ 0x21 ∷ 0x00 ∷ []

abbrev example_question : Question
example_question = record {
  kind = satisfiability;
  free = 1;
  own = 0;
  constants = record { levels = constant_levels; numbers = 0x0000FFFF ∷ 0xFFFFFFFF ∷ [] };
  first = positive (joined (variable 0) (constant 0) (constant 1)) ∷ [];
  second = [];
}

-- v0 is not c0 entails: own v1 is v0, and not (v0 join v1 is c0); the two systems alternate
abbrev entails : List ℕ
entails = both ++ (0x03 ∷ 0x01 ∷ 0x00 ∷ 0x00 ∷ 0x80 ∷ 0x22 ∷ 0x01 ∷ 0x00 ∷ 0x13 ∷ 0x00 ∷ 0x20 ∷ 0x21 ∷ 0x00 ∷ 0x01
    ∷ 0x20 ∷ 0x00 ∷ [])

abbrev entails_question : Question
entails_question = record {
  kind = entailment;
  free = 1;
  own = 1;
  constants = record { levels = constant_levels; numbers = 0x80000001 ∷ [] };
  first = negated (equal (variable 0) (constant 0)) ∷ [];
  second = positive (equal (variable 1) (variable 0)) ∷ negated (joined (variable 0) (variable 1) (constant 0)) ∷ [];
}

-- a writer, a reader, and the two held together, in each system
abbrev policies : List ℕ
policies = both ++ (0x30 ∷ 0x00 ∷ 0x31 ∷ 0x00 ∷ 0x32 ∷ 0x00 ∷ 0x00 ∷ 0x38 ∷ 0x01 ∷ 0x39 ∷ 0x00 ∷ 0x3A ∷ 0x00 ∷ 0x01
    ∷ 0x00 ∷ [])

abbrev policies_question : Question
policies_question = record {
  kind = entailment;
  free = 1;
  own = 1;
  constants = record { levels = constant_levels; numbers = [] };
  first = positive (is_full (variable 0)) ∷ negated (is_empty (variable 0))
      ∷ positive (together (variable 0) (variable 0)) ∷ [];
  second = positive (is_full (variable 1)) ∷ negated (is_empty (variable 0))
      ∷ positive (together (variable 0) (variable 1)) ∷ [];
}

pub table : List Worked
table =
    gives example (accepted example_question)
    ∷ gives entails (accepted entails_question)
    ∷ gives policies (accepted policies_question)
    -- 1: not 01, though its operands are cut short
    ∷ gives (0x03 ∷ 0x00 ∷ []) (refused 1 0)
    -- 2: no byte where a command is due, at the length
    ∷ gives (alone ++ itself) (refused 2 7)
    -- 3: an unknown byte, whatever follows it
    ∷ gives (alone ++ (0x14 ∷ 0x00 ∷ 0x00 ∷ 0x00 ∷ [])) (refused 3 4)
    ∷ gives (alone ++ (0x33 ∷ 0x00 ∷ [])) (refused 3 4)
    ∷ gives (both ++ (0x3B ∷ 0x00 ∷ 0x00 ∷ [])) (refused 3 4)
    -- 2, cut short: before 5, 4 (twice), 9 and 8
    ∷ gives (0x01 ∷ 0x02 ∷ 0x0D ∷ []) (refused 2 0)
    ∷ gives (alone ++ (0x01 ∷ 0x00 ∷ 0x01 ∷ [])) (refused 2 4)
    ∷ gives (alone ++ itself ++ (0x03 ∷ 0x00 ∷ 0x00 ∷ 0x00 ∷ [])) (refused 2 7)
    ∷ gives (alone ++ (0x20 ∷ 0x00 ∷ 0x00 ∷ [])) (refused 2 4)
    ∷ gives (alone ++ (0x10 ∷ 0x0C ∷ 0x0C ∷ [])) (refused 2 4)
    ∷ gives (alone ++ (0x30 ∷ [])) (refused 2 4)
    ∷ gives (alone ++ (0x31 ∷ [])) (refused 2 4)
    ∷ gives (alone ++ (0x32 ∷ 0x0C ∷ [])) (refused 2 4)
    ∷ gives (alone ++ (0x3A ∷ 0x0C ∷ [])) (refused 2 4)
    -- 4: a second head, before 5; a constant after a clause of either system
    ∷ gives (alone ++ (0x01 ∷ 0x02 ∷ 0x0D ∷ 0x00 ∷ [])) (refused 4 4)
    ∷ gives (alone ++ itself ++ (0x03 ∷ 0x00 ∷ 0x00 ∷ 0x00 ∷ 0x00 ∷ [])) (refused 4 7)
    ∷ gives (both ++ (0x22 ∷ 0x01 ∷ 0x00 ∷ 0x03 ∷ 0x00 ∷ 0x00 ∷ 0x00 ∷ 0x00 ∷ [])) (refused 4 7)
    -- 5: the kind; n + m; m with kind 0
    ∷ gives (0x01 ∷ 0x02 ∷ 0x00 ∷ 0x00 ∷ 0x00 ∷ []) (refused 5 0)
    ∷ gives (0x01 ∷ 0x01 ∷ 0x07 ∷ 0x06 ∷ 0x00 ∷ []) (refused 5 0)
    ∷ gives (0x01 ∷ 0x01 ∷ 0xFF ∷ 0x0D ∷ 0x00 ∷ []) (refused 5 0)
    ∷ gives (0x01 ∷ 0x00 ∷ 0x01 ∷ 0x01 ∷ 0x00 ∷ []) (refused 5 0)
    -- 9: a second-system clause with kind 0, before 8
    ∷ gives (alone ++ (0x22 ∷ 0x00 ∷ 0x00 ∷ 0x00 ∷ [])) (refused 9 4)
    ∷ gives (alone ++ (0x21 ∷ 0x0C ∷ 0x40 ∷ 0xFF ∷ [])) (refused 9 4)
    ∷ gives (alone ++ (0x38 ∷ 0x00 ∷ 0x00 ∷ [])) (refused 9 4)
    ∷ gives (alone ++ (0x39 ∷ 0x0C ∷ [])) (refused 9 4)
    ∷ gives (alone ++ (0x3A ∷ 0x00 ∷ 0x0C ∷ [])) (refused 9 4)
    -- 8: an absent variable; bytes that are no term; a constant not defined so far; an own variable in the first system
    ∷ gives (alone ++ (0x12 ∷ 0x00 ∷ 0x01 ∷ [])) (refused 8 4)
    ∷ gives (alone ++ (0x10 ∷ 0x00 ∷ 0x00 ∷ 0x0C ∷ [])) (refused 8 4)
    ∷ gives (alone ++ (0x13 ∷ 0x1F ∷ 0x00 ∷ [])) (refused 8 4)
    ∷ gives (alone ++ (0x12 ∷ 0x40 ∷ 0x00 ∷ [])) (refused 8 4)
    ∷ gives (alone ++ (0x03 ∷ 0x00 ∷ 0x00 ∷ 0x00 ∷ 0x00 ∷ 0x12 ∷ 0x20 ∷ 0x21 ∷ [])) (refused 8 9)
    ∷ gives (both ++ (0x22 ∷ 0x01 ∷ 0x00 ∷ 0x12 ∷ 0x01 ∷ 0x00 ∷ [])) (refused 8 7)
    ∷ gives (both ++ (0x38 ∷ 0x01 ∷ 0x30 ∷ 0x01 ∷ [])) (refused 8 6)
    ∷ gives (both ++ (0x31 ∷ 0x0C ∷ [])) (refused 8 4)
    ∷ gives (both ++ (0x3A ∷ 0x01 ∷ 0x0D ∷ [])) (refused 8 4)
    -- 10: bytes after the end, at the first of them
    ∷ gives (example ++ (0x00 ∷ [])) (refused 10 19)
    ∷ gives (0x01 ∷ 0x00 ∷ 0x00 ∷ 0x00 ∷ 0x00 ∷ 0x99 ∷ 0x99 ∷ []) (refused 10 5)
    -- the first fault decides, though a byte after the end follows
    ∷ gives (alone ++ (0x12 ∷ 0x00 ∷ 0x01 ∷ 0x00 ∷ 0x00 ∷ [])) (refused 8 4)
    ∷ []

-- ---- the limits, and one past each

-- a part, so many times
pub times : ℕ → List ℕ → List ℕ
times zero s = []
times (suc n) s = s ++ times n s

-- no number where the string is accepted; else the refusal's number and place
abbrev pub refusal_in : Result → List ℕ
refusal_in (accepted q) = []
refusal_in (refused n place) = n ∷ place ∷ []

abbrev large : ℕ → ℕ → List ℕ
large n m = 0x01 ∷ 0x01 ∷ n ∷ m ∷ []

-- a head with 12 variables and so many constants
abbrev constants : ℕ → List ℕ
constants n = large 12 0 ++ times n (0x03 ∷ 0x01 ∷ 0x02 ∷ 0x03 ∷ 0x04 ∷ [])

-- a head with 12 variables and so many clauses "v0 is v0" of a command
abbrev clauses : ℕ → ℕ → List ℕ
clauses n command = large 12 0 ++ times n (command ∷ 0x00 ∷ 0x00 ∷ [])

-- every limit met: the longest question but for its end
abbrev full : List ℕ
full =
    constants 32 ++ times 64 (0x10 ∷ 0x00 ∷ 0x00 ∷ 0x3F ∷ []) ++ times 31 (0x11 ∷ 0x0B ∷ 0x00 ∷ 0x20 ∷ [])
    ++ times 64 (0x20 ∷ 0x00 ∷ 0x0B ∷ 0x3F ∷ []) ++ times 31 (0x21 ∷ 0x0B ∷ 0x0B ∷ 0x20 ∷ [])

pub limits : List (List ℕ)
limits =
    (large 12 0 ++ (0x00 ∷ []))
    ∷ (large 5 7 ++ (0x00 ∷ []))
    ∷ (large 13 0 ++ (0x00 ∷ []))
    ∷ (large 6 7 ++ (0x00 ∷ []))
    ∷ (constants 32 ++ (0x00 ∷ []))
    ∷ constants 33
    -- a 33rd constant after a clause: 4 before 6
    ∷ (constants 32 ++ (0x12 ∷ 0x00 ∷ 0x00 ∷ 0x03 ∷ 0x01 ∷ 0x02 ∷ 0x03 ∷ 0x04 ∷ []))
    ∷ (clauses 64 0x12 ++ (0x00 ∷ []))
    ∷ clauses 65 0x12
    ∷ clauses 32 0x13
    ∷ clauses 65 0x22
    ∷ clauses 32 0x23
    -- old and new clauses counted together
    ∷ (clauses 64 0x32 ++ (0x30 ∷ 0x00 ∷ []))
    ∷ (clauses 31 0x23 ++ (0x39 ∷ 0x00 ∷ []))
    -- a 33rd constant and a 65th clause that are cut short: 2 before 6 and 7
    ∷ (constants 32 ++ (0x03 ∷ 0x01 ∷ 0x02 ∷ 0x03 ∷ []))
    ∷ (clauses 64 0x12 ++ (0x12 ∷ 0x00 ∷ []))
    -- one too many with a term that names nothing: 7 before 8
    ∷ (clauses 31 0x13 ++ (0x11 ∷ 0x0C ∷ 0x40 ∷ 0x00 ∷ []))
    ∷ (full ++ (0x00 ∷ []))
    ∷ []

-- the two tables, as one claim: each refusal from 1 to 10, each order of two faults at one command, and each limit
pub worked_right : (map (λ w. read w.bytes) table ≡ map (λ w. w.result) table)
    × (map (λ s. refusal_in (read s)) limits
    ≡ [] ∷ [] ∷ (5 ∷ 0 ∷ []) ∷ (5 ∷ 0 ∷ []) ∷ [] ∷ (6 ∷ 164 ∷ []) ∷ (4 ∷ 167 ∷ []) ∷ [] ∷ (7 ∷ 196 ∷ []) ∷ (7 ∷ 97 ∷ [])
    ∷ (7 ∷ 196 ∷ []) ∷ (7 ∷ 97 ∷ [])
    ∷ (7 ∷ 196 ∷ []) ∷ (7 ∷ 97 ∷ [])
    ∷ (2 ∷ 164 ∷ []) ∷ (2 ∷ 196 ∷ []) ∷ (7 ∷ 97 ∷ []) ∷ [] ∷ [])
unfolding table limits times read head_of head_fits opened run turn ended taken fault names term_of read_at whole_at
    command_of entry_of number positives disequations
worked_right = (refl, refl)

-- ---- what is stored

-- the clauses' bytes before, whatever they hold
abbrev nines : List ℕ
nines = replicate clause_bytes 9

-- two clauses, the second of which names no variable
abbrev second : List ℕ
second = alone ++ itself ++ (0x12 ∷ 0x00 ∷ 0x01 ∷ [])

-- the word of the constants that a question names
abbrev names_held : Reading → ℕ
names_held (refused_with n place) = 0
names_held (held x) = x.named

-- the struct of a question, and a refusal; the clauses' bytes after a question, after a string that is refused at its
-- second clause, and after one whose head is refused; and after one with policies in both systems. Of 32 constants the
-- longest question names the first and the last
pub stored_right : (reading_of (read entails)
    ≡ held (record {
      kind = Entailment;
      free = 1;
      own = 1;
      constants = 0x80000001 ∷ replicate 31 0;
      defined = 1;
      named =
          1;
      counts = 0 ∷ 1 ∷ 1 ∷ 1 ∷ [];
    }))
    × (reading_of (read second) ≡ refused_with 8 7)
    × (map (λ s. clauses_after s nines) (entails ∷ second ∷ (0x01 ∷ 0x02 ∷ []) ∷ policies ∷ [])
    ≡ (replicate 256 9 ++ (0x00 ∷ 0x00 ∷ 0x0C ∷ 0x20 ∷ replicate 124 9) ++ (0x00 ∷ 0x01 ∷ 0x0C ∷ 0x00 ∷ replicate 252 9)
    ++ (0x00 ∷ 0x00 ∷ 0x01 ∷ 0x20 ∷ replicate 124 9))
    ∷ (0x00 ∷ 0x00 ∷ 0x0C ∷ 0x00 ∷ replicate 764 9)
    ∷ nines
    ∷ (
    (0x00 ∷ 0x00 ∷ 0x0C ∷ 0x0D ∷ 0x01 ∷ 0x00 ∷ 0x00 ∷ 0x0C ∷ replicate 248 9)
    ++ (0x00 ∷ 0x00 ∷ 0x0C ∷ 0x0C ∷ replicate 124 9)
    ++ (0x00 ∷ 0x01 ∷ 0x0C ∷ 0x0D ∷ 0x01 ∷ 0x00 ∷ 0x01 ∷ 0x0C ∷ replicate 248 9)
    ++ (0x00 ∷ 0x00 ∷ 0x0C ∷ 0x0C ∷ replicate 124 9)
    )
    ∷ [])
    × (names_held (reading_of (read (full ++ (0x00 ∷ [])))) ≡ 0x80000001)
unfolding times read head_of head_fits opened run turn ended taken fault names term_of read_at whole_at command_of
    entry_of number positives disequations written_by clauses_after named_word number_of is_among named_in
stored_right = (refl, refl, refl, refl)
