-- What a byte string is, not how it is read: the faults of docs/SPEC.md, 7.1, and the order of 7.3. Assumes nothing.
use Rattle.std.specs.Prelude.{◌≡◌, true, List, [], ◌∷◌, ◌⊎◌, ℕ, ◌+◌, ◌≤◌, ◌<◌, length, get_or, Some, None}
use Rattle.systems.specs.Questions.{satisfiability, Question, Defined}
use Rattle.format.specs.declared.Section.{Section}
use Rattle.format.specs.declared.Test.{Test}
use Rattle.format.specs.declared.Shape.{Shape}
use Rattle.format.specs.Format.{most_variables, most_constants, entry_of, term_count, operands, command_of}
use Rattle.format.specs.Format.{is_second, most_of, in_section, term_of, variables_for, taken, opened}

-- ---- a command at an offset

-- its byte is there and announces this shape
pub record Announced (s : List ℕ) (at : ℕ) (h : Shape) : Type 0 where
  pub there : at < length s
  pub known : entry_of (get_or s at 0) ≡ Some h

-- where it ends, if its operands are there
abbrev pub after : ℕ → Shape → ℕ
after at h = at + 1 + operands h

-- ---- the faults, each by its row of SPEC 7.1; q is what the commands before it give

-- 7.1.1: the first byte is missing or is not 01
abbrev pub NoHead : List ℕ → Type 0
NoHead s = (length s ≡ 0) ⊎ (get_or s 0 0 ≡ 0x01 → ⊥)

-- 7.1.2: no byte where a command is due
abbrev pub NoByte : List ℕ → ℕ → Type 0
NoByte s at = at ≡ length s

-- 7.1.3: the operands of a command are cut short
abbrev pub CutShort : List ℕ → ℕ → Type 0
CutShort s at = (h : Shape) × Announced s at h × (length s < after at h)

-- 7.1.4: an unknown command byte
abbrev pub UnknownByte : List ℕ → ℕ → Type 0
UnknownByte s at = (at < length s) × (entry_of (get_or s at 0) ≡ None)

-- 7.1.5: a second head, or a constant after a clause of either system
abbrev pub OutOfPlace : List ℕ → ℕ → Question → Type 0
OutOfPlace s at q =
    Announced s at Shape.Head ⊎ (Announced s at Shape.Constant × (0 < length q.first + length q.second))

-- 7.1.6: kind above 1, n + m above 12, or m above 0 with kind 0
abbrev pub Unfit : ℕ → ℕ → ℕ → Type 0
Unfit kind n m = (1 < kind) ⊎ (most_variables < n + m) ⊎ ((0 < m) × (kind ≡ 0))

-- in a head
abbrev pub UnfitHead : List ℕ → ℕ → Type 0
UnfitHead s at = Announced s at Shape.Head × Unfit (get_or s (at + 1) 0) (get_or s (at + 2) 0) (get_or s (at + 3) 0)

-- 7.1.7: a 33rd constant
abbrev pub ConstantTooMany : List ℕ → ℕ → Question → Type 0
ConstantTooMany s at q = Announced s at Shape.Constant × (most_constants ≤ length q.constants.numbers)

-- 7.1.8: a 65th positive clause or a 32nd disequation in one system
abbrev pub ClauseTooMany : List ℕ → ℕ → Question → Type 0
ClauseTooMany s at q =
    (σ : Section) × (t : Test) × Announced s at (Shape.Clause σ t) × (most_of σ ≤ length (in_section q σ))

-- 7.1.9: a term, number k from 0, that names nothing defined, or an own variable in a clause of the first system
abbrev pub NamesNothing : List ℕ → ℕ → Question → Type 0
NamesNothing s at q =
    (σ : Section) × (t : Test) × (k : ℕ) × Announced s at (Shape.Clause σ t) × (k < term_count t)
    × (Defined (variables_for q.free q.own σ) q.constants (term_of (get_or s (at + 1 + k) 0)) → ⊥)

-- 7.1.10: a clause of the second system with kind 0
abbrev pub ForeignClause : List ℕ → ℕ → Question → Type 0
ForeignClause s at q =
    (σ : Section) × (t : Test) × Announced s at (Shape.Clause σ t) × (is_second σ ≡ true) × (q.kind ≡ satisfiability)

-- 7.1.11: bytes after the end
abbrev pub BytesAfter : List ℕ → ℕ → Type 0
BytesAfter s at = at < length s

-- ---- their order at one command

-- what is due at an offset: the head; a command, where those before it give q; nothing, after the end of q
pub data Due : Type 0 where
  head_due : Due
  command_due : Question → Due
  nothing_due : Question → Due

-- SPEC 7.3: 1, 2 (no byte), 3, 2 (cut short), 4, 5, 9, 6, 7, 8, and 10 after the end; of these, what can be wrong there
abbrev pub faults_at : List ℕ → ℕ → Due → List (ℕ × Type 0)
faults_at s at head_due =
    (1, NoHead s)
    ∷ (2, NoByte s at)
    ∷ (3, UnknownByte s at)
    ∷ (2, CutShort s at)
    ∷ (5, UnfitHead s at)
    ∷ []
faults_at s at (command_due q) =
    (2, NoByte s at)
    ∷ (3, UnknownByte s at)
    ∷ (2, CutShort s at)
    ∷ (4, OutOfPlace s at q)
    ∷ (5, UnfitHead s at)
    ∷ (9, ForeignClause s at q)
    ∷ (6, ConstantTooMany s at q)
    ∷ (7, ClauseTooMany s at q)
    ∷ (8, NamesNothing s at q)
    ∷ []
faults_at s at (nothing_due q) = (10, BytesAfter s at) ∷ []

-- none of them is so
abbrev pub NoneOf : List (ℕ × Type 0) → Type 0
NoneOf [] = Unit {0}
NoneOf (f ∷ l) = (f.1 → ⊥) × NoneOf l

-- the first of them that is so has the number n
abbrev pub FirstOf : List (ℕ × Type 0) → ℕ → Type 0
FirstOf [] n = ⊥
FirstOf (f ∷ l) n = ((n ≡ f.0) × f.1) ⊎ ((f.1 → ⊥) × FirstOf l n)

-- ---- from the left

-- what is due after a command: nothing after the end; after any other a command, with what it adds
abbrev pub due_after : List ℕ → ℕ → Due → Shape → Due
due_after s at head_due h = command_due (opened (get_or s (at + 1) 0) (get_or s (at + 2) 0) (get_or s (at + 3) 0))
due_after s at (command_due q) Shape.End = nothing_due q
due_after s at (command_due q) Shape.Head = command_due (taken q (command_of s (at + 1) Shape.Head))
due_after s at (command_due q) Shape.Constant = command_due (taken q (command_of s (at + 1) Shape.Constant))
due_after s at (command_due q) (Shape.Clause σ t) = command_due (taken q (command_of s (at + 1) (Shape.Clause σ t)))
due_after s at (nothing_due q) h = nothing_due q

-- up to an offset, where this is due, commands stand one after the other, each without a fault after those before it
pub data Reached (s : List ℕ) : ℕ → Due → Type 0 where
  start : Reached s 0 head_due
  further : {at : ℕ} {d : Due} {h : Shape} → Reached s at d → NoneOf (faults_at s at d) → Announced s at h
      → Reached s (after at h) (due_after s at d h)

-- the string is that of q: a head that fits, commands without a fault, the end, and nothing more
abbrev pub AcceptedAs : List ℕ → Question → Type 0
AcceptedAs s q = Reached s (length s) (nothing_due q)

-- its first fault from the left has the number n and the place p
abbrev pub FirstFault : List ℕ → ℕ → ℕ → Type 0
FirstFault s n p = (d : Due) × Reached s p d × FirstOf (faults_at s p d) n
