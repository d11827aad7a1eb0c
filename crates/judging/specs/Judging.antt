-- Judging: what is given for every byte string as a question and every byte string as rows. Assumes nothing.
use Rattle.std.specs.Prelude.{Bool, true, not, cond, ◌&&◌, List, [], ◌∷◌, ℕ, ◌*◌, ◌^◌, eqb, ltb, length, get_or, drop}
use Rattle.shares.specs.Below.{every_below, first_below}
use Rattle.shares.specs.Blocks.{block_of}
use Rattle.shares.specs.Tree.{is_way}
use Rattle.shares.specs.declared.Way.{Way}
use Rattle.shares.specs.declared.Way.TheVariants.{Holds}
use Rattle.leaves.specs.Choices.{Row, table, least}
use Rattle.leaves.specs.Problem.{solvable}
use Rattle.leaves.specs.Second.{beside}
use Rattle.systems.specs.Clauses.{Constants, variable, Atom, equal, Clause, positive, negated, System}
use Rattle.systems.specs.Questions.{Kind, satisfiability, entailment, Question}
use Rattle.systems.specs.AtLeaves.{atom_way, second_at}
use Rattle.format.specs.Format.{Result, refused, accepted, read}
use Rattle.rows.specs.Rows.{row_levels, row_bytes, answer_bytes, row_leaf, row_part}

-- ---- whether rows are judged

-- a question and rows are turned away, with a number and a place, or the rows are judged
pub data Judged : Type 0 where
  turned_away : ℕ → ℕ → Judged
  judged : Question → Judged

-- no byte of a part has a bit set
unfoldable pub is_zero : List ℕ → Bool
is_zero [] = true
is_zero (b ∷ part) = eqb b 0 && is_zero part

-- what was read, with these rows: the reader's refusal, then 18 (the rows have another length), then 19 (a row of no
-- free variable has a bit set)
abbrev pub handed_to : Result → List ℕ → Judged
handed_to (refused n place) rows = turned_away n place
handed_to (accepted q) rows =
    cond (eqb (length rows) (answer_bytes q.constants.levels))
    (cond (is_zero (drop (q.free * row_bytes q.constants.levels) rows)) (judged q) (turned_away 19 0))
    (turned_away 18 0)

-- a question in bytes, with these rows
unfoldable pub judged_with : List ℕ → List ℕ → Judged
judged_with s rows = handed_to (read s) rows

-- ---- the rows, leaf by leaf

-- variable v at leaf i of the rows, where constants have so many levels
abbrev pub row_at : ℕ → List ℕ → ℕ → ℕ → Bool
row_at levels rows i v = row_leaf (row_part (row_levels levels) rows v) i

-- how an atom comes out at leaf i of the rows
abbrev pub row_way : Constants → List ℕ → Atom → ℕ → Way
row_way cs rows a i = atom_way cs.levels cs (block_of cs.levels (row_levels cs.levels) i) (row_at cs.levels rows i) a

-- it holds at every leaf of the rows
unfoldable pub everywhere : Constants → List ℕ → Atom → Bool
everywhere cs rows a = every_below (2 ^ row_levels cs.levels) (λ i. is_way Holds (row_way cs rows a i))

-- the lowest leaf of the rows at which it does not hold; their count if there is none
unfoldable pub failing_leaf : Constants → List ℕ → Atom → ℕ
failing_leaf cs rows a = first_below (2 ^ row_levels cs.levels) (λ i. not (is_way Holds (row_way cs rows a i)))

-- a clause that stands for none
abbrev pub no_clause : Clause
no_clause = positive (equal (variable 0) (variable 0))

-- a positive clause holds at every leaf; a disequation if its atom does not, which is at one leaf
abbrev pub clause_met : Constants → List ℕ → Clause → Bool
clause_met cs rows (positive a) = everywhere cs rows a
clause_met cs rows (negated a) = not (everywhere cs rows a)

-- clause number k of a system, from 0, positive clauses and disequations together (past the last: a clause that nothing
-- rests on)
abbrev pub clause_of : System → ℕ → Clause
clause_of s k = get_or s k no_clause

-- the lowest clause of the first system that the rows break; their count if there is none
abbrev pub lowest_broken : Question → List ℕ → ℕ
lowest_broken q rows = first_below (length q.first) (λ k. not (clause_met q.constants rows (clause_of q.first k)))

-- the choice of the free variables at each leaf of the rows
abbrev pub choices : (q : Question) → List ℕ → ℕ → Row Bool q.free
choices q rows i = table q.free (row_at q.constants.levels rows i)

-- the rows extend: at every leaf some own choice meets the second system's positive clauses, and each of its
-- disequations beside them at some leaf
abbrev pub extends_at : Question → List ℕ → Bool
extends_at q rows =
    solvable (least q.own) (row_levels q.constants.levels)
    (beside q.constants.levels (second_at q.constants.levels q) (row_levels q.constants.levels) (choices q rows))

-- ---- the result

-- what judging gives: a refusal, with its number and its place; accepted; rejected because clause number k of the first
-- system is broken, the lowest such; or because the rows extend. Of a broken positive clause: how its test comes out at
-- the lowest leaf where it does not hold, and that leaf; of a disequation neither
pub data Judgement : Type 0 where
  Refused : ℕ → ℕ → Judgement
  Accepted : Judgement
  Broken : ℕ → Way → ℕ → Judgement
  Extending : Judgement

-- clause k is broken: of a positive one, how it comes out at the lowest leaf at which it does not hold, and that leaf;
-- of a disequation neither
abbrev pub broken_as : Constants → List ℕ → ℕ → Clause → Judgement
broken_as cs rows k (positive a) = Broken k (row_way cs rows a (failing_leaf cs rows a)) (failing_leaf cs rows a)
broken_as cs rows k (negated a) = Broken k Holds 0

-- where no clause of the first system is broken: only an entailment asks whether the rows extend
abbrev pub unbroken : Kind → Bool → Judgement
unbroken satisfiability extends = Accepted
unbroken entailment extends = cond extends Extending Accepted

-- what judging gives
abbrev pub judgement_of : Judged → List ℕ → Judgement
judgement_of (turned_away n place) rows = Refused n place
judgement_of (judged q) rows =
    cond (ltb (lowest_broken q rows) (length q.first))
    (broken_as q.constants rows (lowest_broken q rows) (clause_of q.first (lowest_broken q rows)))
    (unbroken q.kind (extends_at q rows))
