-- A question as it is stored once it is read: the fields of a struct and the clauses' bytes, and when they stand for a
-- question of the model. Assumes nothing.
use Rattle.std.specs.Prelude.{◌≡◌, Bool, true, false, cond, ◌||◌, List, [], ◌∷◌, ◌++◌, map, ℕ, zero, suc, ◌+◌, ◌-◌, ◌*◌}
use Rattle.std.specs.Prelude.{◌^◌, ◌≤◌, ◌<◌, T, eqb, length, get_or, set, take, replicate}
use Rattle.shares.specs.Constant.{constant_levels, number_of, bytes_at}
use Rattle.shares.specs.Parts.{empty_part, full_part}
use Rattle.systems.specs.Clauses.{variable, constant}
use Rattle.systems.specs.Questions.{Kind, satisfiability, entailment, Question as Asked, named_by, is_among}
use Rattle.systems.specs.AtLeaves.{Part, of, always, LeafReading, joins_to, apart, read_as}
use Rattle.std.specs.Prelude.{Option, Some, None}
use Rattle.std.specs.Prelude as code
use Rattle.format.specs.declared.Kind.{Kind as HeldKind}
use Rattle.format.specs.declared.Kind.TheVariants.{Satisfiability, Entailment}
use Rattle.format.specs.declared.Section.{Section}
use Rattle.format.specs.declared.Section.TheVariants.{FirstPositive, FirstDisequation, SecondPositive}
use Rattle.format.specs.declared.Section.TheVariants.{SecondDisequation}
use Rattle.format.specs.declared.Test.{Test}
use Rattle.format.specs.declared.LeafJoin.{LeafJoin}
use Rattle.format.specs.declared.Command.{Command}
use Rattle.format.specs.Numbers.{fault_number, section_number}
use Rattle.format.specs.Format.{Step, Take, Refused, Head, Opens, Wrong}
use Rattle.format.specs.declared.Leading.{Leading}
use Rattle.format.specs.declared.Question.{Question}
use Rattle.format.specs.declared.Refused.{Refused as RefusedAt}
use Rattle.format.specs.Format.{Result, refused, accepted, most_variables, most_constants, most_of, in_section, term_of}
use Rattle.format.specs.Format.{names, variables_for, atom_of, read_at, judged, taken, opened, head_of}

-- ---- the numbers of the cases

abbrev pub kind_number : Kind → ℕ
kind_number satisfiability = 0
kind_number entailment = 1

-- a kind of the model as the code holds it
abbrev pub kind_held : Kind → HeldKind
kind_held satisfiability = Satisfiability
kind_held entailment = Entailment

-- ---- a clause in four bytes: how it reads as a join at one leaf

-- its form, its two parts and their sum; form 0: "the first part join the second is the sum"; form 1: the two do not
-- overlap, and no sum is asked
abbrev pub four : ℕ → ℕ → ℕ → ℕ → LeafJoin
four f p q r = record { form = f; first = p; second = q; sum = r }

-- a part's byte: its term's, or one that is no term's
abbrev pub part_byte : Part → ℕ
part_byte (of (variable v)) = v
part_byte (of (constant i)) = 0x20 + i
part_byte (always false) = empty_part
part_byte (always true) = full_part

-- a reading in four bytes; that of form 1 has 0C for a sum, which is not read
abbrev pub four_of : LeafReading → LeafJoin
four_of (joins_to p q r) = four 0 (part_byte p) (part_byte q) (part_byte r)
four_of (apart p q) = four 1 (part_byte p) (part_byte q) empty_part

-- the reading of a test with the bytes of its terms
abbrev pub join_for : Test → ℕ → ℕ → ℕ → LeafJoin
join_for t a b c = four_of (read_as (atom_of t a b c))

-- the part that a byte stands for
unfoldable pub part_of : ℕ → Part
part_of t = cond (eqb t empty_part) (always false) (cond (eqb t full_part) (always true) (of (term_of t)))

-- the reading that four bytes stand for
unfoldable pub reading_from : LeafJoin → LeafReading
reading_from j = cond (eqb j.form 0) (joins_to (part_of j.first) (part_of j.second) (part_of j.sum))
    (apart (part_of j.first) (part_of j.second))

-- ---- the clauses' bytes, section after section

abbrev pub clause_bytes : ℕ
clause_bytes = 768

-- where a section starts
abbrev pub section_start : Section → ℕ
section_start FirstPositive = 0
section_start FirstDisequation = 256
section_start SecondPositive = 384
section_start SecondDisequation = 640

-- the four bytes that start at an offset
abbrev pub four_at : List ℕ → ℕ → LeafJoin
four_at l i = four (get_or l i 0) (get_or l (i + 1) 0) (get_or l (i + 2) 0) (get_or l (i + 3) 0)

-- the readings of the n clauses that start at an offset, in order
unfoldable pub readings_at : List ℕ → ℕ → ℕ → List LeafReading
readings_at l start zero = []
readings_at l start (suc n) = readings_at l start n ++ (reading_from (four_at l (start + 4 * n)) ∷ [])

-- ---- what is stored of a question

-- the clauses' bytes and how many clauses each section has, the constants, their number of levels and which of them
-- some clause names, and how many variables there are
pub record Stored : Type 0 where
  pub clauses : List ℕ
  pub counts : List ℕ
  pub constants : List ℕ
  pub levels : ℕ
  pub named : ℕ
  pub free : ℕ
  pub own : ℕ

-- from its parts, as the code keeps them: constants of `constant_levels` levels
abbrev pub stored : List ℕ → List ℕ → List ℕ → ℕ → ℕ → ℕ → Stored
stored clauses counts constants named free own =
    record {
      clauses = clauses;
      counts = counts;
      constants = constants;
      levels = constant_levels;
      named = named;
      free =
          free;
      own = own;
    }

-- from the struct and the clauses' bytes
abbrev pub stored_of : Question → List ℕ → Stored
stored_of x clauses = stored clauses x.counts x.constants x.named x.free x.own

-- how many clauses a section has
abbrev pub count_of : List ℕ → Section → ℕ
count_of counts σ = get_or counts (section_number σ) 0

-- no section has more clauses than it may
abbrev pub Counted : List ℕ → Type 0
Counted counts = (σ : Section) → count_of counts σ ≤ most_of σ

-- a part is always empty, or always full, or names something defined
abbrev pub part_named : ℕ → ℕ → ℕ → Bool
part_named n k t = eqb t empty_part || (eqb t full_part || names n k t)

-- a stored clause: a form that there is, and three such parts
pub record StoredClause (n k : ℕ) (j : LeafJoin) : Type 0 where
  pub form : j.form < 2
  pub first : T (part_named n k j.first)
  pub second : T (part_named n k j.second)
  pub sum : T (part_named n k j.sum)

-- the four bytes at an offset are such a clause, of a section, where so many constants are defined
abbrev pub StoredAt : Stored → ℕ → Section → ℕ → Type 0
StoredAt x defined σ i = StoredClause (variables_for x.free x.own σ) defined (four_at x.clauses i)

-- how many constants a question has
abbrev pub defined_by : Asked → ℕ
defined_by q = length q.constants.numbers

-- the word with bit i set for each constant that some clause names
unfoldable pub named_word : Asked → ℕ
named_word q = number_of most_constants (λ i. is_among i (named_by q))

-- a kind and what is stored stand for the question q, and what is safe to rely on in them
pub record Stands (k : ℕ) (x : Stored) (q : Asked) : Type 0 where
  pub kind : k ≡ kind_number q.kind
  pub free : x.free ≡ q.free
  pub own : x.own ≡ q.own
  pub constants : q.constants ≡ record { levels = x.levels; numbers = take (defined_by q) x.constants }
  pub named : x.named ≡ named_word q
  pub named_defined : (i : ℕ) → T (is_among i (named_by q)) → i < defined_by q
  pub sections : (σ : Section) → readings_at x.clauses (section_start σ) (count_of x.counts σ)
      ≡ map read_as (in_section q σ)
  pub variables : x.free + x.own ≤ most_variables
  pub counted : Counted x.counts
  pub constant_counted : defined_by q ≤ most_constants
  pub small : (i : ℕ) → i < defined_by q → get_or x.constants i 0 < 2 ^ (8 * bytes_at constant_levels)
  pub clauses : (σ : Section) (i : ℕ) → i < count_of x.counts σ → StoredAt x (defined_by q) σ (section_start σ + 4 * i)
  pub sizes : (length x.constants ≡ most_constants) × (length x.clauses ≡ clause_bytes) × (length x.counts ≡ 4)

-- ---- what reading hands over

-- the struct of a question: its constants, then 0, how many there are, which of them some clause names, and its number
-- of clauses in each section
abbrev pub held_as : Asked → Question
held_as q = record {
  kind = kind_held q.kind;
  free = q.free;
  own = q.own;
  constants = q.constants.numbers ++ replicate (most_constants - defined_by q) 0;
  defined = defined_by q;
  named = named_word q;
  counts =
      length (in_section q FirstPositive)
      ∷ length (in_section q FirstDisequation)
      ∷ length (in_section q SecondPositive)
      ∷ length (in_section q SecondDisequation)
      ∷ [];
}

-- what is handed over: the number and the place of a refusal, or the struct of a question
pub data Reading : Type 0 where
  refused_with : ℕ → ℕ → Reading
  held : Question → Reading

abbrev pub reading_of : Result → Reading
reading_of (refused n place) = refused_with n place
reading_of (accepted q) = held (held_as q)

-- what the code hands over: a refusal by its number
abbrev pub reading_told : code.Result Question RefusedAt → Reading
reading_told (code.Ok x) = held x
reading_told (code.Err r) = refused_with (fault_number r.fault) r.place

-- four bytes written at an offset
abbrev pub clause_written : List ℕ → ℕ → LeafJoin → List ℕ
clause_written l i j = set (set (set (set l i j.form) (i + 1) j.first) (i + 2) j.second) (i + 3) j.sum

-- the clauses' bytes with one command more, after q was read before it: a clause takes the next four bytes of its
-- section
abbrev pub command_written : Asked → List ℕ → Command → List ℕ
command_written q l Command.End = l
command_written q l Command.Head = l
command_written q l (Command.Constant x) = l
command_written q l (Command.Clause σ t a b c) =
    clause_written l (section_start σ + 4 * length (in_section q σ)) (join_for t a b c)

-- a refusal and the end leave them; any other command goes on
abbrev pub written_onward : (Command → ℕ → List ℕ) → List ℕ → Step → List ℕ
written_onward f l (Refused n) = l
written_onward f l (Take Command.End next) = l
written_onward f l (Take Command.Head next) = f Command.Head next
written_onward f l (Take (Command.Constant x) next) = f (Command.Constant x) next
written_onward f l (Take (Command.Clause σ t a b c) next) = f (Command.Clause σ t a b c) next

-- command by command, as `run` reads them
unfoldable pub written_by : ℕ → List ℕ → ℕ → Asked → List ℕ → List ℕ
written_by zero s at q l = l
written_by (suc k) s at q l =
    written_onward (λ c next. written_by k s next (taken q c) (command_written q l c)) l (judged q (read_at s at))

abbrev pub written_after_head : List ℕ → List ℕ → Head → List ℕ
written_after_head s l (Opens kind n m) = written_by (length s) s 4 (opened kind n m) l
written_after_head s l (Wrong n) = l

-- what the clauses' bytes hold once a byte string is read, refused or not: each clause before the end or the first
-- fault is written
unfoldable pub clauses_after : List ℕ → List ℕ → List ℕ
clauses_after s l = written_after_head s l (head_of s)

-- ---- the constants that stand first

-- a constant's command has this many bytes
abbrev pub constant_size : ℕ
constant_size = 1 + bytes_at constant_levels

-- the constant that was read at an offset, with the offset after it, or something else
abbrev pub leading_of : Step → Option Leading
leading_of (Refused n) = None
leading_of (Take Command.End next) = None
leading_of (Take Command.Head next) = None
leading_of (Take (Command.Constant x) next) = Some (record { number = x; next = next })
leading_of (Take (Command.Clause σ t a b c) next) = None

abbrev pub is_leading : Option Leading → Bool
is_leading (Some x) = true
is_leading None = false

-- a constant stands at an offset, with all its bytes
abbrev pub constant_at : List ℕ → ℕ → Bool
constant_at s at = is_leading (leading_of (read_at s at))

-- where constant number n stands, if all before it are constants
abbrev pub place_of : ℕ → ℕ
place_of n = 4 + constant_size * n

-- after n constants: how many stand first in all, if there are at most k more
unfoldable pub leading : ℕ → List ℕ → ℕ → ℕ
leading zero s n = n
leading (suc k) s n = cond (constant_at s (place_of n)) (leading k s (n + 1)) n
