-- Rows judged by hand, computed: constants of one leaf, so rows of 32. Assumes nothing.
use Rattle.std.specs.Prelude.{◌≡◌, refl, true, List, [], ◌∷◌, ◌++◌, ℕ}
use Rattle.shares.specs.Below.{every_below, some_below, first_below}
use Rattle.shares.specs.Tree.{join_leaf, leaf_test}
use Rattle.shares.specs.Constant.{bit}
use Rattle.shares.specs.declared.Way.TheVariants.{Holds, Overlap, Surplus, Shortfall}
use Rattle.leaves.specs.Choices.{some_choice, at, table, pick_row}
use Rattle.leaves.specs.Problem.{plain_at, special_at, solvable}
use Rattle.systems.specs.Clauses.{variable, joined, equal, is_full, is_empty, together, positive, negated, System}
use Rattle.systems.specs.Clauses.{positives, disequations}
use Rattle.systems.specs.Questions.{Kind, satisfiability, entailment, Question}
use Rattle.systems.specs.AtLeaves.{reading_way, term_at, part_at, all_at, both_at}
use Rattle.format.specs.Format.{refused, accepted}
use Rattle.rows.specs.Rows.{row_leaf, row_range, row_part, zeros}
use Rattle.judging.specs.Judging.{turned_away, judged, is_zero, handed_to, everywhere, failing_leaf, extends_at}
use Rattle.judging.specs.Judging.{judgement_of}
use Rattle.judging.specs.Judging.{Accepted, Broken, Extending}

-- ---- the questions

-- without constants
abbrev asks : Kind → ℕ → ℕ → System → System → Question
asks kind free own first second =
    record {
      kind = kind;
      free = free;
      own = own;
      constants = record { levels = 0; numbers = [] };
      first =
          first;
      second = second;
    }

-- v0 is not v1; v0 is full
abbrev unlike : Question
unlike = asks satisfiability 2 0 (negated (equal (variable 0) (variable 1)) ∷ positive (is_full (variable 0)) ∷ []) []

-- v0 is v1; v0 and v1 may be held together; v0 join v1 is the empty share v2
abbrev alike : Question
alike = asks satisfiability 2 0 (positive (equal (variable 0) (variable 1)) ∷ []) []

abbrev beside : Question
beside = asks satisfiability 2 0 (positive (together (variable 0) (variable 1)) ∷ []) []

abbrev empty : Question
empty = asks satisfiability 3 0 (positive (joined (variable 0) (variable 1) (variable 2)) ∷ []) []

-- v0 is not empty; entails: it is full
abbrev whole : Question
whole = asks entailment 1 0 (negated (is_empty (variable 0)) ∷ []) (positive (is_full (variable 0)) ∷ [])

-- v0 is not empty; entails: it is the join of two own shares, neither of which is empty
abbrev parted : Question
parted =
    asks entailment 1 2 (negated (is_empty (variable 0)) ∷ [])
    (positive (joined (variable 1) (variable 2) (variable 0)) ∷ negated (is_empty (variable 1))
    ∷ negated (is_empty (variable 2)) ∷ [])

-- entails: own v2 may be held together with v0, is not empty, and does not fill it up to v1
abbrev filled : Question
filled =
    asks entailment 2 1 []
    (positive (together (variable 0) (variable 2)) ∷ negated (is_empty (variable 2))
    ∷ negated (joined (variable 0) (variable 2) (variable 1)) ∷ [])

-- ---- the rows, four bytes each

-- a full row; the same without its last leaf; that leaf alone
abbrev full : List ℕ
full = 0xFF ∷ 0xFF ∷ 0xFF ∷ 0xFF ∷ []

abbrev less : List ℕ
less = 0xFF ∷ 0xFF ∷ 0xFF ∷ 0x7F ∷ []

abbrev last : List ℕ
last = 0x00 ∷ 0x00 ∷ 0x00 ∷ 0x80 ∷ []

-- these of the first eight leaves
abbrev leaves : ℕ → List ℕ
leaves byte = byte ∷ zeros 3

-- those of v0 and v1, and zero for the others
abbrev rows_with : List ℕ → List ℕ → List ℕ
rows_with r s = r ++ (s ++ zeros 40)

-- ---- what is given

-- the disequation stands first, so it is clause 0, and one leaf will do for it; the positive clause is asked at every
-- leaf, and fails at the last
pub first_judged_lem : (judgement_of (judged unlike) (rows_with full full) ≡ Broken 0 Holds 0)
    × (judgement_of (judged unlike) (rows_with full less) ≡ Accepted)
    × (judgement_of (judged unlike) (rows_with less full) ≡ Broken 1 Shortfall 31)
unfolding every_below first_below join_leaf leaf_test bit positives disequations reading_way term_at part_at row_leaf
    row_range row_part zeros everywhere failing_leaf
first_judged_lem = (refl, refl, refl)

-- of two leaves that fail the left one is named: leaf 3 is full in the first alone, and leaf 4 in the second alone; and
-- of overlaps too
pub ways_judged : (judgement_of (judged alike) (rows_with (leaves 0x08) (leaves 0x10)) ≡ Broken 0 Surplus 3)
    × (judgement_of (judged alike) (rows_with (leaves 0x10) (leaves 0x08)) ≡ Broken 0 Shortfall 3)
    × (judgement_of (judged beside) (rows_with (leaves 0x70) (leaves 0x60)) ≡ Broken 0 Overlap 5)
    × (judgement_of (judged empty) (rows_with (leaves 0x30) (leaves 0x20)) ≡ Broken 0 Surplus 4)
    × (judgement_of (judged empty) (rows_with (leaves 0x20) (leaves 0x20)) ≡ Broken 0 Overlap 5)
unfolding every_below first_below join_leaf leaf_test bit positives disequations reading_way term_at part_at row_leaf
    row_range row_part zeros everywhere failing_leaf
ways_judged = (refl, refl, refl, refl, refl)

-- a share with one full leaf is not full; but it is the join of two, which are taller than the rows; and so is a share
-- that is neither empty nor full within one leaf
pub second_judged : (judgement_of (judged whole) (rows_with last (zeros 4)) ≡ Accepted)
    × (extends_at filled (rows_with less full) ≡ true)
    × (judgement_of (judged parted) (rows_with last (zeros 4)) ≡ Extending)
unfolding every_below some_below first_below join_leaf leaf_test bit some_choice at table pick_row plain_at special_at
    solvable positives disequations reading_way term_at part_at all_at both_at row_leaf row_range row_part zeros
    everywhere
second_judged = (refl, refl, refl)

-- rows of another length, shorter or longer, are 18, whatever is set in them; a bit in the row of an own variable is
-- 19;
-- but the reader's refusal comes first
pub turned_away_lem : (handed_to (accepted parted) (full ++ last) ≡ turned_away 18 0)
    × (handed_to (accepted parted) (rows_with full (zeros 5)) ≡ turned_away 18 0)
    × (handed_to (accepted parted) (rows_with full last) ≡ turned_away 19 0)
    × (handed_to (refused 3 4) [] ≡ turned_away 3 4)
unfolding is_zero zeros
turned_away_lem = (refl, refl, refl, refl)
