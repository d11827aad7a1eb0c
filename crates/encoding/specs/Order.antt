-- Going over a byte string command by command: the commands that stand in it, and the clauses that they say, in order.
-- Assumes nothing.
use Rattle.std.specs.Prelude.{List, [], ◌∷◌, ◌++◌, ℕ, zero, suc, length}
use Rattle.systems.specs.Clauses.{Atom, positive, negated, System}
use Rattle.format.specs.declared.Section.{Section}
use Rattle.format.specs.declared.Section.TheVariants.{FirstPositive, FirstDisequation, SecondPositive}
use Rattle.format.specs.declared.Section.TheVariants.{SecondDisequation}
use Rattle.format.specs.declared.Command.{Command}
use Rattle.format.specs.Format.{Step, Take, Refused, atom_of, read_at}

-- ---- the commands

-- what is read first, and then the rest; nothing at the end and at a refusal
abbrev pub read_on : (ℕ → List Command) → Step → List Command
read_on f (Refused n) = []
read_on f (Take Command.End next) = []
read_on f (Take Command.Head next) = Command.Head ∷ f next
read_on f (Take (Command.Constant x) next) = Command.Constant x ∷ f next
read_on f (Take (Command.Clause σ t a b c) next) = Command.Clause σ t a b c ∷ f next

-- the commands from an offset up to the end or the first that cannot be read, without the end; the first number bounds
-- how many
unfoldable pub commands_from : ℕ → List ℕ → ℕ → List Command
commands_from zero s at = []
commands_from (suc k) s at = read_on (commands_from k s) (read_at s at)

-- those after the head; a string's length is bound enough, since each takes a byte or more
abbrev pub commands_of : List ℕ → List Command
commands_of s = commands_from (length s) s 4

-- ---- the clauses that they say

-- what a section makes of an atom in the first system: a clause, or nothing
abbrev pub first_said : Section → Atom → System
first_said FirstPositive a = positive a ∷ []
first_said FirstDisequation a = negated a ∷ []
first_said SecondPositive a = []
first_said SecondDisequation a = []

-- in the second
abbrev pub second_said : Section → Atom → System
second_said FirstPositive a = []
second_said FirstDisequation a = []
second_said SecondPositive a = positive a ∷ []
second_said SecondDisequation a = negated a ∷ []

-- the clause of the first system that a command says, if it says one
abbrev pub first_clause : Command → System
first_clause Command.End = []
first_clause Command.Head = []
first_clause (Command.Constant x) = []
first_clause (Command.Clause σ t a b c) = first_said σ (atom_of t a b c)

-- of the second
abbrev pub second_clause : Command → System
second_clause Command.End = []
second_clause Command.Head = []
second_clause (Command.Constant x) = []
second_clause (Command.Clause σ t a b c) = second_said σ (atom_of t a b c)

-- the clauses of the first system that commands say, in order, positive ones and disequations together
unfoldable pub first_clauses : List Command → System
first_clauses [] = []
first_clauses (c ∷ cs) = first_clause c ++ first_clauses cs

-- of the second
unfoldable pub second_clauses : List Command → System
second_clauses [] = []
second_clauses (c ∷ cs) = second_clause c ++ second_clauses cs
