-- A question in bytes: what reading gives for every byte string, by docs/SPEC.md, sections 3 and 7. Assumes nothing.
use Rattle.std.specs.Prelude.{Bool, true, false, cond, ◌&&◌, List, [], ◌∷◌, ◌++◌, ℕ, zero, suc, ◌+◌, ◌-◌, eqb, ltb, leb}
use Rattle.std.specs.Prelude.{length, get_or, take, drop}
use Rattle.shares.specs.Constant.{constant_levels, number, bytes_at}
use Rattle.systems.specs.Clauses.{Term, variable, constant, Atom, joined, equal, is_full, is_empty, together, Clause}
use Rattle.systems.specs.Clauses.{positive, negated, positives, disequations}
use Rattle.systems.specs.Questions.{Kind, satisfiability, entailment, Question}
use Rattle.format.specs.declared.Section.{Section}
use Rattle.format.specs.declared.Section.TheVariants.{FirstPositive, FirstDisequation, SecondPositive}
use Rattle.format.specs.declared.Section.TheVariants.{SecondDisequation}
use Rattle.format.specs.declared.Test.{Test}
use Rattle.format.specs.declared.Test.TheVariants.{Join, Equality, Full, Empty, Together}
use Rattle.format.specs.declared.Shape.{Shape}
use Rattle.std.specs.Prelude.{Option, Some, None}
use Rattle.format.specs.declared.Command.{Command}

-- what reading gives: the number and the place of a refusal, or a question of the model
pub data Result : Type 0 where
  refused : ℕ → ℕ → Result
  accepted : Question → Result

-- what a string starts with: a head of this kind with so many free and own variables, or the number of its refusal
pub data Head : Type 0 where
  Opens : ℕ → ℕ → ℕ → Head
  Wrong : ℕ → Head

-- what reading one command gives: the command and the offset after it, or the number of its refusal
pub data Step : Type 0 where
  Take : Command → ℕ → Step
  Refused : ℕ → Step

-- ---- the limits

abbrev pub most_variables : ℕ
most_variables = 12

abbrev pub most_constants : ℕ
most_constants = 32

abbrev pub most_positive : ℕ
most_positive = 64

abbrev pub most_disequations : ℕ
most_disequations = 31

-- ---- the table of commands

-- what a command byte announces: each clause with its system, positive or a disequation, and its test
unfoldable pub entry_of : ℕ → Option Shape
entry_of b =
    cond (eqb b 0x00) (Some Shape.End)
    (cond (eqb b 0x01) (Some Shape.Head)
    (cond (eqb b 0x03) (Some Shape.Constant)
    (cond (eqb b 0x10) (Some (Shape.Clause FirstPositive Join))
    (cond (eqb b 0x11) (Some (Shape.Clause FirstDisequation Join))
    (cond (eqb b 0x12) (Some (Shape.Clause FirstPositive Equality))
    (cond (eqb b 0x13) (Some (Shape.Clause FirstDisequation Equality))
    (cond (eqb b 0x20) (Some (Shape.Clause SecondPositive Join))
    (cond (eqb b 0x21) (Some (Shape.Clause SecondDisequation Join))
    (cond (eqb b 0x22) (Some (Shape.Clause SecondPositive Equality))
    (cond (eqb b 0x23) (Some (Shape.Clause SecondDisequation Equality))
    (cond (eqb b 0x30) (Some (Shape.Clause FirstPositive Full))
    (cond (eqb b 0x31) (Some (Shape.Clause FirstDisequation Empty))
    (cond (eqb b 0x32) (Some (Shape.Clause FirstPositive Together))
    (cond (eqb b 0x38) (Some (Shape.Clause SecondPositive Full))
    (cond (eqb b 0x39) (Some (Shape.Clause SecondDisequation Empty))
    (cond (eqb b 0x3A) (Some (Shape.Clause SecondPositive Together))
    None))))))))))))))))

-- how many terms a test takes
abbrev pub term_count : Test → ℕ
term_count Join = 3
term_count Equality = 2
term_count Full = 1
term_count Empty = 1
term_count Together = 2

-- how many bytes of operands follow a command byte
abbrev pub operands : Shape → ℕ
operands Shape.End = 0
operands Shape.Head = 3
operands Shape.Constant = bytes_at constant_levels
operands (Shape.Clause σ t) = term_count t

-- ---- a command with its operands

-- the byte of term number k of n, 0 where there is none; their bytes start at an offset
abbrev pub term_byte : List ℕ → ℕ → ℕ → ℕ → ℕ
term_byte s i n k = cond (ltb k n) (get_or s (i + k) 0) 0

-- a clause by its number of terms
abbrev pub clause_at : List ℕ → ℕ → Section → Test → Command
clause_at s i σ t = Command.Clause σ t (term_byte s i (term_count t) 0) (term_byte s i (term_count t) 1)
    (term_byte s i (term_count t) 2)

-- the command whose operands start at an offset; a constant's leaf i is bit i of its number
unfoldable pub command_of : List ℕ → ℕ → Shape → Command
command_of s i Shape.End = Command.End
command_of s i Shape.Head = Command.Head
command_of s i Shape.Constant = Command.Constant (number (take (bytes_at constant_levels) (drop i s)))
command_of s i (Shape.Clause σ t) = clause_at s i σ t

-- an unknown byte is refused first (3), then operands that are cut short (2); else the command and the offset after it
unfoldable pub whole_at : List ℕ → ℕ → Option Shape → Step
whole_at s at None = Refused 3
whole_at s at (Some h) =
    cond (ltb (length s - (at + 1)) (operands h)) (Refused 2) (Take (command_of s (at + 1) h) (at + 1 + operands h))

-- what stands at an offset where a command is due
unfoldable pub read_at : List ℕ → ℕ → Step
read_at s at = cond (ltb at (length s)) (whole_at s at (entry_of (get_or s at 0))) (Refused 2)

-- ---- sections: the positive clauses and the disequations of each system

-- it is one of the second system's
abbrev pub is_second : Section → Bool
is_second FirstPositive = false
is_second FirstDisequation = false
is_second SecondPositive = true
is_second SecondDisequation = true

-- how many clauses a section may have
abbrev pub most_of : Section → ℕ
most_of FirstPositive = most_positive
most_of FirstDisequation = most_disequations
most_of SecondPositive = most_positive
most_of SecondDisequation = most_disequations

-- those read so far, in order
abbrev pub in_section : Question → Section → List Atom
in_section q FirstPositive = positives q.first
in_section q FirstDisequation = disequations q.first
in_section q SecondPositive = positives q.second
in_section q SecondDisequation = disequations q.second

-- ---- terms

-- a term's byte: below 20 a variable, from 20 on a constant
unfoldable pub term_of : ℕ → Term
term_of t = cond (ltb t 0x20) (variable t) (constant (t - 0x20))

-- it names something defined: one of n variables (at most 12, so none from 0C on) or one of k constants (at most 32, so
-- none from 40 on)
unfoldable pub names : ℕ → ℕ → ℕ → Bool
names n k t = cond (ltb t 0x20) (ltb t n) (ltb (t - 0x20) k)

-- the variables that a clause may name: the free ones, and in the second system the own ones too
abbrev pub variables_for : ℕ → ℕ → Section → ℕ
variables_for free own σ = cond (is_second σ) (free + own) free

-- term number i of so many names something defined, where it is there
abbrev pub term_named : ℕ → ℕ → ℕ → ℕ → ℕ → Bool
term_named n k count i t = cond (ltb i count) (names n k t) true

-- each term of a test names something defined
abbrev pub all_named : ℕ → ℕ → Test → ℕ → ℕ → ℕ → Bool
all_named n k t a b c = term_named n k (term_count t) 0 a
    && (term_named n k (term_count t) 1 b && term_named n k (term_count t) 2 c)

-- what a test with its terms says
abbrev pub atom_of : Test → ℕ → ℕ → ℕ → Atom
atom_of Join a b c = joined (term_of a) (term_of b) (term_of c)
atom_of Equality a b c = equal (term_of a) (term_of b)
atom_of Full a b c = is_full (term_of a)
atom_of Empty a b c = is_empty (term_of a)
atom_of Together a b c = together (term_of a) (term_of b)

-- ---- what is wrong with a whole command, 0 for nothing

-- kind 0 has no second system
abbrev pub is_foreign : Kind → Section → Bool
is_foreign satisfiability σ = is_second σ
is_foreign entailment σ = false

-- a clause: of a second system that is not there (9), then one too many (7), then a term that names nothing defined (8)
abbrev pub clause_fault : Bool → Bool → Bool → ℕ
clause_fault foreign filled named = cond foreign 9 (cond filled 7 (cond named 0 8))

-- a constant: after a clause (4), then one too many (6)
abbrev pub constant_fault : Bool → Bool → ℕ
constant_fault begun spent = cond begun 4 (cond spent 6 0)

-- a clause was read
abbrev pub begun : Question → Bool
begun q = ltb 0 (length q.first + length q.second)

-- after q was read before it; a head that is not the first command is a second one (4)
unfoldable pub fault : Question → Command → ℕ
fault q Command.End = 0
fault q Command.Head = 4
fault q (Command.Constant x) = constant_fault (begun q) (leb most_constants (length q.constants.numbers))
fault q (Command.Clause σ t a b c) =
    clause_fault (is_foreign q.kind σ) (leb (most_of σ) (length (in_section q σ)))
    (all_named (variables_for q.free q.own σ) (length q.constants.numbers) t a b c)

-- the command, or the refusal of its fault
abbrev pub judged : Question → Step → Step
judged q (Refused n) = Refused n
judged q (Take c next) = cond (eqb (fault q c) 0) (Take c next) (Refused (fault q c))

-- ---- the question with one command more

-- a clause more, at the end of the first system
abbrev pub with_first : Question → Clause → Question
with_first q c = record {
  kind = q.kind;
  free = q.free;
  own = q.own;
  constants = q.constants;
  first =
      q.first ++ (c ∷ []);
  second = q.second;
}

-- at the end of the second
abbrev pub with_second : Question → Clause → Question
with_second q c = record {
  kind = q.kind;
  free = q.free;
  own = q.own;
  constants = q.constants;
  first = q.first;
  second =
      q.second ++ (c ∷ []);
}

-- in the system and of the polarity that its section says
abbrev pub with_clause : Question → Section → Atom → Question
with_clause q FirstPositive a = with_first q (positive a)
with_clause q FirstDisequation a = with_first q (negated a)
with_clause q SecondPositive a = with_second q (positive a)
with_clause q SecondDisequation a = with_second q (negated a)

-- the next constant
abbrev pub with_constant : Question → ℕ → Question
with_constant q x = record {
  kind = q.kind;
  free = q.free;
  own = q.own;
  constants = record { levels = q.constants.levels; numbers = q.constants.numbers ++ (x ∷ []) };
  first = q.first;
  second = q.second;
}

-- a command more
unfoldable pub taken : Question → Command → Question
taken q Command.End = q
taken q Command.Head = q
taken q (Command.Constant x) = with_constant q x
taken q (Command.Clause σ t a b c) = with_clause q σ (atom_of t a b c)

-- ---- from the left, the first fault decides

-- after the end command, at the offset after it: nothing, or bytes that are refused (10)
unfoldable pub ended : List ℕ → ℕ → Question → Result
ended s next q = cond (eqb next (length s)) (accepted q) (refused 10 next)

-- one command: go on with a question at an offset, or stop
pub data Turn : Type 0 where
  go : Question → ℕ → Turn
  stop : Result → Turn

-- a refusal stops at its command's offset, and the end stops; any other command is taken
abbrev pub onward : List ℕ → ℕ → Question → Step → Turn
onward s at q (Refused n) = stop (refused n at)
onward s at q (Take Command.End next) = stop (ended s next q)
onward s at q (Take Command.Head next) = go (taken q Command.Head) next
onward s at q (Take (Command.Constant x) next) = go (taken q (Command.Constant x)) next
onward s at q (Take (Command.Clause σ t a b c) next) = go (taken q (Command.Clause σ t a b c)) next

-- the command at an offset, after q was read before it
unfoldable pub turn : List ℕ → ℕ → Question → Turn
turn s at q = onward s at q (judged q (read_at s at))

-- what follows a turn
abbrev pub following : (Question → ℕ → Result) → Turn → Result
following f (go q at) = f q at
following f (stop r) = r

-- command by command; the first number bounds how many, and a string's length is enough, since each takes a byte or
-- more
unfoldable pub run : ℕ → List ℕ → ℕ → Question → Result
run zero s at q = refused 2 at
run (suc k) s at q = following (λ q' at'. run k s at' q') (turn s at q)

-- ---- the head, first

-- kind at most 1, n + m at most 12, and m is 0 for kind 0
unfoldable pub head_fits : ℕ → ℕ → ℕ → Bool
head_fits kind n m = cond (ltb 1 kind) false
    (cond (ltb most_variables (n + m)) false (cond (eqb kind 0) (eqb m 0) true))

-- the kind's number
abbrev pub kind_from : ℕ → Kind
kind_from kind = cond (eqb kind 0) satisfiability entailment

-- nothing but the head read
unfoldable pub opened : ℕ → ℕ → ℕ → Question
opened kind n m = record {
  kind = kind_from kind;
  free = n;
  own = m;
  constants = record { levels = constant_levels; numbers = [] };
  first = [];
  second = [];
}

-- the head at the start of a byte string: it must be there (1), whole (2), and fit (5)
unfoldable pub head_of : List ℕ → Head
head_of s =
    cond (ltb 0 (length s) && eqb (get_or s 0 0) 0x01)
    (cond (ltb (length s) 4) (Wrong 2)
    (cond (head_fits (get_or s 1 0) (get_or s 2 0) (get_or s 3 0)) (Opens (get_or s 1 0) (get_or s 2 0) (get_or s 3 0))
    (Wrong 5)))
    (Wrong 1)

-- the commands after a head that fits start at offset 4
abbrev pub after_head : List ℕ → Head → Result
after_head s (Opens kind n m) = run (length s) s 4 (opened kind n m)
after_head s (Wrong n) = refused n 0

-- the reading of a byte string
unfoldable pub read : List ℕ → Result
read s = after_head s (head_of s)
