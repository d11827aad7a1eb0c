-- What the reader keeps from command to command, and how it judges a command by it. Assumes nothing.
use Rattle.std.specs.Prelude.{Bool, true, false, cond, ◌&&◌, ◌||◌, List, ℕ, zero, suc, ◌+◌, ◌*◌, ◌≤◌, ◌<◌, eqb, ltb}
use Rattle.std.specs.Prelude.{leb, get_or, set, take, drop}
use Rattle.std.specs.Int.Bits.{bit_or}
use Rattle.shares.specs.Constant.{constant_levels, number_of, number, bytes_at}
use Rattle.format.specs.declared.Section.{Section}
use Rattle.format.specs.declared.LeafJoin.{LeafJoin}
use Rattle.format.specs.declared.Command.{Command}
use Rattle.format.specs.Format.{Step, Take, Refused, most_constants, is_second, most_of, all_named, variables_for}
use Rattle.format.specs.Format.{clause_fault, constant_fault}
use Rattle.format.specs.Numbers.{section_number}
use Rattle.format.specs.Stored.{constant_at, place_of, join_for, clause_bytes, section_start, count_of, clause_written}

-- ---- one command kept

abbrev pub kept_constants : List ℕ → ℕ → Command → List ℕ
kept_constants l n Command.End = l
kept_constants l n Command.Head = l
kept_constants l n (Command.Constant x) = set l n x
kept_constants l n (Command.Clause σ t a b c) = l

abbrev pub constant_count : ℕ → Command → ℕ
constant_count n Command.End = n
constant_count n Command.Head = n
constant_count n (Command.Constant x) = n + 1
constant_count n (Command.Clause σ t a b c) = n

-- where the next clause of a section goes
abbrev pub next_slot : List ℕ → Section → ℕ
next_slot counts σ = section_start σ + 4 * count_of counts σ

abbrev pub kept_clauses : List ℕ → List ℕ → Command → List ℕ
kept_clauses l counts Command.End = l
kept_clauses l counts Command.Head = l
kept_clauses l counts (Command.Constant x) = l
kept_clauses l counts (Command.Clause σ t a b c) = clause_written l (next_slot counts σ) (join_for t a b c)

abbrev pub clause_counts : List ℕ → Command → List ℕ
clause_counts counts Command.End = counts
clause_counts counts Command.Head = counts
clause_counts counts (Command.Constant x) = counts
clause_counts counts (Command.Clause σ t a b c) = set counts (section_number σ) (count_of counts σ + 1)

-- the word with bit i set for each constant among the parts of a join
unfoldable pub constants_in : LeafJoin → ℕ
constants_in j = number_of most_constants (λ i. eqb (0x20 + i) j.first
    || (eqb (0x20 + i) j.second || eqb (0x20 + i) j.sum))

-- which constants are named, with one command more
abbrev pub kept_names : ℕ → Command → ℕ
kept_names named Command.End = named
kept_names named Command.Head = named
kept_names named (Command.Constant x) = named
kept_names named (Command.Clause σ t a b c) = bit_or named (constants_in (join_for t a b c))

-- the numbers of a join's parts are below 64
abbrev pub PartsSmall : LeafJoin → Type 0
PartsSmall j = (j.first < 64) × (j.second < 64) × (j.sum < 64)

-- so are those of the clause that a command announces
abbrev pub SmallIn : Command → Type 0
SmallIn Command.End = Unit {0}
SmallIn Command.Head = Unit {0}
SmallIn (Command.Constant x) = Unit {0}
SmallIn (Command.Clause σ t a b c) = PartsSmall (join_for t a b c)

-- there is room for its four bytes
abbrev pub Slot : List ℕ → Command → Type 0
Slot counts Command.End = Unit {0}
Slot counts Command.Head = Unit {0}
Slot counts (Command.Constant x) = Unit {0}
Slot counts (Command.Clause σ t a b c) = next_slot counts σ + 4 ≤ clause_bytes

-- ---- the constants that stand first

-- after n of them: the list with the numbers of those that follow, if there are at most k more
unfoldable pub lead_into : ℕ → List ℕ → ℕ → List ℕ → List ℕ
lead_into zero s n l = l
lead_into (suc k) s n l = cond (constant_at s (place_of n))
    (lead_into k s (n + 1) (set l n (number (take (bytes_at constant_levels) (drop (place_of n + 1) s))))) l

-- ---- what is wrong with a command, by the counts that are kept

abbrev pub clause_total : List ℕ → ℕ
clause_total counts = get_or counts 0 0 + get_or counts 1 0 + (get_or counts 2 0 + get_or counts 3 0)

abbrev pub foreign_to : ℕ → Section → Bool
foreign_to kind σ = eqb kind 0 && is_second σ

unfoldable pub fault_of : ℕ → ℕ → ℕ → ℕ → List ℕ → Command → ℕ
fault_of kind free own n counts Command.End = 0
fault_of kind free own n counts Command.Head = 4
fault_of kind free own n counts (Command.Constant x) =
    constant_fault (ltb 0 (clause_total counts)) (leb most_constants n)
fault_of kind free own n counts (Command.Clause σ t a b c) =
    clause_fault (foreign_to kind σ) (leb (most_of σ) (count_of counts σ))
    (all_named (variables_for free own σ) n t a b c)

abbrev pub judged_of : ℕ → ℕ → ℕ → ℕ → List ℕ → Step → Step
judged_of kind free own n counts (Refused f) = Refused f
judged_of kind free own n counts (Take c next) =
    cond (eqb (fault_of kind free own n counts c) 0) (Take c next) (Refused (fault_of kind free own n counts c))

abbrev pub is_end : Command → Bool
is_end Command.End = true
is_end Command.Head = false
is_end (Command.Constant x) = false
is_end (Command.Clause σ t a b c) = false
