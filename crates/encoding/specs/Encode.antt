-- A question written as bytes, by docs/SPEC.md, section 3, and which questions can be written. Assumes nothing.
use Rattle.std.specs.Prelude.{List, [], ◌∷◌, ◌++◌, map, ℕ, zero, suc, ◌/◌, ◌%◌, ◌^◌, ◌<◌, get_or, take}
use Rattle.shares.specs.Constant.{constant_levels, bytes_at}
use Rattle.systems.specs.Clauses.{Term, Atom, joined, equal, is_full, is_empty, together, Clause, positive, negated}
use Rattle.systems.specs.Clauses.{System}
use Rattle.systems.specs.Questions.{Question, WellFormed}
use Rattle.systems.specs.AtLeaves.{of}
use Rattle.format.specs.declared.Section.{Section}
use Rattle.format.specs.declared.Section.TheVariants.{FirstPositive, FirstDisequation, SecondPositive}
use Rattle.format.specs.declared.Section.TheVariants.{SecondDisequation}
use Rattle.format.specs.declared.Test.{Test}
use Rattle.format.specs.declared.Test.TheVariants.{Join, Equality, Full, Empty, Together}
use Rattle.format.specs.declared.Shape.{Shape}
use Rattle.format.specs.declared.Command.{Command}
use Rattle.format.specs.Format.{term_count}
use Rattle.format.specs.Stored.{kind_number, part_byte}
use Rattle.format.specs.Limits.{Limited}

-- ---- the bytes of a command

-- the byte of what has no command, as "a is empty", not negated: no command byte, and no question that can be written
-- has it
abbrev pub no_command : ℕ
no_command = 0xFF

-- the byte of a clause's command, by its section and its test
abbrev pub clause_byte : Section → Test → ℕ
clause_byte FirstPositive Join = 0x10
clause_byte FirstPositive Equality = 0x12
clause_byte FirstPositive Full = 0x30
clause_byte FirstPositive Empty = no_command
clause_byte FirstPositive Together = 0x32
clause_byte FirstDisequation Join = 0x11
clause_byte FirstDisequation Equality = 0x13
clause_byte FirstDisequation Full = no_command
clause_byte FirstDisequation Empty = 0x31
clause_byte FirstDisequation Together = no_command
clause_byte SecondPositive Join = 0x20
clause_byte SecondPositive Equality = 0x22
clause_byte SecondPositive Full = 0x38
clause_byte SecondPositive Empty = no_command
clause_byte SecondPositive Together = 0x3A
clause_byte SecondDisequation Join = 0x21
clause_byte SecondDisequation Equality = 0x23
clause_byte SecondDisequation Full = no_command
clause_byte SecondDisequation Empty = 0x39
clause_byte SecondDisequation Together = no_command

-- the byte of a command
abbrev pub command_byte : Shape → ℕ
command_byte Shape.End = 0x00
command_byte Shape.Head = 0x01
command_byte Shape.Constant = 0x03
command_byte (Shape.Clause σ t) = clause_byte σ t

-- the n lowest bytes of a number, the lowest first
unfoldable pub lowest_bytes : ℕ → ℕ → List ℕ
lowest_bytes zero x = []
lowest_bytes (suc n) x = x % 2 ^ 8 ∷ lowest_bytes n (x / 2 ^ 8)

-- a constant's bytes, with 2 ^ levels leaves
abbrev pub constant_bytes : ℕ → ℕ → List ℕ
constant_bytes levels x = lowest_bytes (bytes_at levels) x

-- what announces a command
abbrev pub shape_of : Command → Shape
shape_of Command.End = Shape.End
shape_of Command.Head = Shape.Head
shape_of (Command.Constant x) = Shape.Constant
shape_of (Command.Clause σ t a b c) = Shape.Clause σ t

-- its operands; a head's are no part of the command, see `head_bytes`
abbrev pub operand_bytes : Command → List ℕ
operand_bytes Command.End = []
operand_bytes Command.Head = []
operand_bytes (Command.Constant x) = constant_bytes constant_levels x
operand_bytes (Command.Clause σ t a b c) = take (term_count t) (a ∷ b ∷ c ∷ [])

-- a command in bytes
abbrev pub encode_command : Command → List ℕ
encode_command c = command_byte (shape_of c) ∷ operand_bytes c

-- commands in bytes, one after the other
unfoldable pub encode_commands : List Command → List ℕ
encode_commands [] = []
encode_commands (c ∷ cs) = encode_command c ++ encode_commands cs

-- ---- the commands of a question

-- a term's byte: variable v is v, constant i is 20 + i
abbrev pub term_byte_of : Term → ℕ
term_byte_of u = part_byte (of u)

-- an atom in a section; a term that the test does not take is 0
abbrev pub clause_command : Section → Atom → Command
clause_command σ (joined a b c) = Command.Clause σ Join (term_byte_of a) (term_byte_of b) (term_byte_of c)
clause_command σ (equal a b) = Command.Clause σ Equality (term_byte_of a) (term_byte_of b) 0
clause_command σ (is_full a) = Command.Clause σ Full (term_byte_of a) 0 0
clause_command σ (is_empty a) = Command.Clause σ Empty (term_byte_of a) 0 0
clause_command σ (together a b) = Command.Clause σ Together (term_byte_of a) (term_byte_of b) 0

-- a clause of the first system
abbrev pub first_command : Clause → Command
first_command (positive a) = clause_command FirstPositive a
first_command (negated a) = clause_command FirstDisequation a

-- of the second
abbrev pub second_command : Clause → Command
second_command (positive a) = clause_command SecondPositive a
second_command (negated a) = clause_command SecondDisequation a

-- the constants, then the first system's clauses in order, then the second's
abbrev pub commands_for : Question → List Command
commands_for q = map Command.Constant q.constants.numbers ++ (map first_command q.first ++ map second_command q.second)

-- ---- a question in bytes

-- the head: its byte, the kind's number, the free variables and the own ones
abbrev pub head_bytes : Question → List ℕ
head_bytes q = command_byte Shape.Head ∷ kind_number q.kind ∷ q.free ∷ q.own ∷ []

-- the head, the commands, the end
unfoldable pub encode : Question → List ℕ
encode q = head_bytes q ++ (encode_commands (commands_for q) ++ encode_command Command.End)

-- ---- which questions can be written

-- a clause that has a command: joins and equalities and their negations, "a is full", "a is not empty", "a and b may be
-- held together"
abbrev pub HasCommand : Clause → Type 0
HasCommand (positive (joined a b c)) = Unit {0}
HasCommand (positive (equal a b)) = Unit {0}
HasCommand (positive (is_full a)) = Unit {0}
HasCommand (positive (is_empty a)) = ⊥
HasCommand (positive (together a b)) = Unit {0}
HasCommand (negated (joined a b c)) = Unit {0}
HasCommand (negated (equal a b)) = Unit {0}
HasCommand (negated (is_full a)) = ⊥
HasCommand (negated (is_empty a)) = Unit {0}
HasCommand (negated (together a b)) = ⊥

-- each clause of a system has one
abbrev pub AllHaveCommands : System → Type 0
AllHaveCommands [] = Unit {0}
AllHaveCommands (c ∷ s) = HasCommand c × AllHaveCommands s

-- well formed, within the limits, each constant no more than its leaves, and each clause with a command
pub record Writable (q : Question) : Type 0 where
  pub formed : WellFormed q
  pub limited : Limited q
  pub small : (i : ℕ) → get_or q.constants.numbers i 0 < 2 ^ (2 ^ q.constants.levels)
  pub first : AllHaveCommands q.first
  pub second : AllHaveCommands q.second
