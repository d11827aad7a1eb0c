-- Going over a question's commands with the rows in a table: definitions for the code. Assumes nothing.
use Rattle.std.specs.Prelude.{◌≡◌, Bool, true, false, not, cond, Option, Some, None, MatchOption, List, ◌++◌, ℕ, ◌+◌}
use Rattle.std.specs.Prelude.{◌^◌, ◌<◌, eqb, ltb, length, take}
use Rattle.shares.specs.declared.Way.{Way}
use Rattle.shares.specs.declared.Way.TheVariants.{Holds}
use Rattle.systems.specs.Clauses.{System}
use Rattle.systems.specs.Questions.{Question, InSystem}
use Rattle.format.specs.declared.Section.{Section}
use Rattle.format.specs.declared.Section.TheVariants.{FirstPositive, FirstDisequation, SecondPositive}
use Rattle.format.specs.declared.Section.TheVariants.{SecondDisequation}
use Rattle.format.specs.declared.LeafJoin.{LeafJoin}
use Rattle.format.specs.declared.Command.{Command}
use Rattle.format.specs.Format.{accepted, is_second, read}
use Rattle.format.specs.Stored.{join_for, defined_by}
use Rattle.decide.specs.StoredLaws.{Kept}
use Rattle.encoding.specs.Order.{commands_from, first_clauses}
use Rattle.rows.specs.Rows.{row_levels}
use Rattle.unfolded.specs.Unfolded.{row_words, Unfolded, join_way, join_failing, PartsIn}
use Rattle.judging.specs.Judging.{Judgement, Accepted, Broken, clause_met, clause_of, lowest_broken, broken_as}
use Rattle.judging.specs.Told.{broken_told}
use Rattle.judging.specs.declared.BrokenClause.{BrokenClause}

-- the lowest clause that is broken, of the first system alone
abbrev pub first_told : Option BrokenClause → Judgement
first_told None = Accepted
first_told (Some b) = broken_told b

-- a clause of a section is broken, where its atom holds at every leaf or not: only those of the first system count
abbrev pub breaks_in : Section → Bool → Bool
breaks_in FirstPositive holds = not holds
breaks_in FirstDisequation holds = holds
breaks_in SecondPositive holds = false
breaks_in SecondDisequation holds = false

-- what is said of clause k of a section, which is broken, where its atom comes out so at each leaf and fails first at
-- one
abbrev pub said_in : Section → (ℕ → Way) → ℕ → ℕ → Judgement
said_in FirstPositive way leaf k = Broken k (way leaf) leaf
said_in FirstDisequation way leaf k = Broken k Holds 0
said_in SecondPositive way leaf k = Accepted
said_in SecondDisequation way leaf k = Accepted

-- both, of a clause that reads so, by the rows of a table
abbrev pub join_breaks : ℕ → List ℕ → Section → LeafJoin → Bool
join_breaks levels table σ j = breaks_in σ (eqb (join_failing levels table j) (2 ^ row_levels levels))

abbrev pub join_said : ℕ → List ℕ → Section → LeafJoin → ℕ → Judgement
join_said levels table σ j k = said_in σ (join_way (row_words levels) table j) (join_failing levels table j) k

-- and of a command's clause
abbrev pub command_breaks : ℕ → List ℕ → Command → Bool
command_breaks levels table Command.End = false
command_breaks levels table Command.Head = false
command_breaks levels table (Command.Constant x) = false
command_breaks levels table (Command.Clause σ t a b c) = join_breaks levels table σ (join_for t a b c)

abbrev pub command_said : ℕ → List ℕ → Command → ℕ → Judgement
command_said levels table Command.End k = Accepted
command_said levels table Command.Head k = Accepted
command_said levels table (Command.Constant x) k = Accepted
command_said levels table (Command.Clause σ t a b c) k = join_said levels table σ (join_for t a b c) k

-- r is what is said of clause k that reads so if it is broken, and nothing if it is not; the same of a command's clause
abbrev pub JoinBroken : ℕ → List ℕ → Section → LeafJoin → ℕ → Option BrokenClause → Type 0
JoinBroken levels table σ j k r =
    MatchOption r (join_breaks levels table σ j ≡ false) (λ b. (join_breaks levels table σ j ≡ true)
    × (broken_told b ≡ join_said levels table σ j k))

abbrev pub CommandBroken : ℕ → List ℕ → Command → ℕ → Option BrokenClause → Type 0
CommandBroken levels table c k r =
    MatchOption r (command_breaks levels table c ≡ false) (λ b. (command_breaks levels table c ≡ true)
    × (broken_told b ≡ command_said levels table c k))

-- its parts have a place in the table
abbrev pub CommandFits : Command → Type 0
CommandFits Command.End = Unit {0}
CommandFits Command.Head = Unit {0}
CommandFits (Command.Constant x) = Unit {0}
CommandFits (Command.Clause σ t a b c) = PartsIn (join_for t a b c)

-- a command is a clause of the first system
abbrev pub says_first : Command → Bool
says_first Command.End = false
says_first Command.Head = false
says_first (Command.Constant x) = false
says_first (Command.Clause σ t a b c) = not (is_second σ)

-- a table has the rows, and those of the constants of the question q, of so many levels, that some clause names
pub record Laid (levels : ℕ) (q : Question) (rows constants : List ℕ) (named : ℕ) (table : List ℕ) : Type 0 where
  pub constants_are : q.constants ≡ record { levels = levels; numbers = take (defined_by q) constants }
  pub kept : InSystem (Kept named) q.first
  pub unfolded : Unfolded levels rows constants named table

-- the judgement of the first system alone: its lowest clause that is broken, or accepted
abbrev pub first_judged : Question → List ℕ → Judgement
first_judged q rows =
    cond (ltb (lowest_broken q rows) (length q.first))
    (broken_as q.constants rows (lowest_broken q rows) (clause_of q.first (lowest_broken q rows))) Accepted

-- r is that of the first system of a question in bytes and the rows of a table
abbrev pub First : ℕ → List ℕ → List ℕ → Judgement → Type 0
First levels s table r =
    (q : Question) (rows constants : List ℕ) (named : ℕ) → read s ≡ accepted q
    → Laid levels q rows constants named table
    → r ≡ first_judged q rows

-- at an offset of the question q, n clauses of its first system have been met: the commands from there on say the
-- others
pub record Walk (s : List ℕ) (q : Question) (at n : ℕ) : Type 0 where
  pub bound : ℕ
  pub enough : length s < at + bound
  pub met : System
  pub count : length met ≡ n
  pub rest : q.first ≡ met ++ first_clauses (commands_from bound s at)

-- the first n clauses of the first system hold
abbrev pub HeldBelow : Question → List ℕ → ℕ → Type 0
HeldBelow q rows n = (k : ℕ) → k < n → not (clause_met q.constants rows (clause_of q.first k)) ≡ false

-- the commands before an offset have been gone over, and the n clauses of the first system among them hold
abbrev pub Gone : ℕ → List ℕ → List ℕ → ℕ → ℕ → Type 0
Gone levels s table at n =
    (q : Question) → read s ≡ accepted q → Walk s q at n
    × ((rows constants : List ℕ) (named : ℕ) → Laid levels q rows constants named table → HeldBelow q rows n)
