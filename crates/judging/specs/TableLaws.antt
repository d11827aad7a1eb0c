-- The joins of a table are the readings of atoms at the leaves of the rows. Assumes nothing.
use Rattle.std.specs.Prelude.{◌≡◌, true, false, List, ℕ, ◌-◌, ◌^◌, ◌≤◌, ◌<◌, length, take}
use Rattle.std.proofs.Math.Path.{refl, ap}
use Rattle.std.proofs.Common.{◌∙◌, get_or-take}
use Rattle.std.proofs.Math.Bool.{not}
use Rattle.std.proofs.Math.Nat.{mul-one}
use native.Mathlib.Omega.{arith}
use Rattle.std.proofs.Math.ListN.{length-take}
use Rattle.shares.specs.BelowLaws.{first_ext}
use Rattle.shares.specs.Blocks.{block_of}
use Rattle.shares.specs.Tree.{is_way}
use Rattle.shares.specs.declared.Way.TheVariants.{Holds}
use Rattle.systems.specs.Clauses.{Term, variable, constant, Constants, Atom}
use Rattle.systems.specs.Questions.{Defined, InAtom}
use Rattle.systems.specs.AtLeaves.{Part, of, always, LeafReading, joins_to, apart, read_as, reading_way, term_at}
use Rattle.systems.specs.AtLeaves.{part_at}
use Rattle.systems.proofs.AtomLaws.{InPart, InReading, in_reading}
use Rattle.format.specs.Stored.{part_byte, four_of}
use Rattle.words.specs.Clause.{test_way}
use Rattle.decide.specs.StoredLaws.{Kept}
use Rattle.rows.specs.Rows.{row_levels, row_count}
use Rattle.unfolded.specs.Unfolded.{row_words, leaf_of, Unfolded, join_way, join_failing, PartsIn}
use Rattle.judging.specs.Judging.{row_at, row_way, failing_leaf}

-- a term names something defined and, if it is a constant, its bit is set among those that are named
abbrev pub DefinedKept : ℕ → Constants → ℕ → Term → Type 0
DefinedKept n cs named t = Defined n cs t × Kept named t

module _ (levels : ℕ) (rows constants : List ℕ) (named : ℕ) (table : List ℕ)
    (U : Unfolded levels rows constants named table) (count : ℕ) where
  -- the constants as the model has them
  abbrev cs : Constants
  cs = record { levels = levels; numbers = take count constants }

  module _ (n : ℕ) (few : n ≤ row_count) where
    module _ (i : ℕ) (l : i < 2 ^ row_levels levels) where
      -- a part at a leaf
      part_leaf : (p : Part) → InPart (DefinedKept n cs named) p
          → leaf_of (row_words levels) table (part_byte p) i
          ≡ part_at levels cs (block_of levels (row_levels levels) i) (row_at levels rows i) p
      unfolding part_at term_at
      part_leaf (of (variable v)) d = U.variable v i (omega (arith, d.0)) l
      part_leaf (of (constant c)) d =
          let m : c < count = omega (arith, d.0, length-take count constants) in
          let same : levels - levels ≡ 0 = omega arith in
          U.constant c i d.1 l ∙ rw (
            get_or-take count constants c 0 m,
            same,
            mul-one (block_of levels (row_levels levels) i),
          ) refl
      part_leaf (always false) d = U.empty i l
      part_leaf (always true) d = U.full i l

      -- a join there
      join_leaf_lem : (t : LeafReading) → InReading (DefinedKept n cs named) t
          → join_way (row_words levels) table (four_of t) i
          ≡ reading_way (part_at levels cs (block_of levels (row_levels levels) i) (row_at levels rows i)) t
      unfolding test_way reading_way
      join_leaf_lem (joins_to u v w) d = rw (part_leaf u d.0, part_leaf v d.1, part_leaf w d.2) refl
      join_leaf_lem (apart u v) d = rw (part_leaf u d.0, part_leaf v d.1) refl

    module _ (a : Atom) (d : InAtom (DefinedKept n cs named) a) where
      -- an atom there
      pub join_way_lem : (i : ℕ) → i < 2 ^ row_levels levels → join_way (row_words levels) table (four_of (read_as a)) i
          ≡ row_way cs rows a i
      join_way_lem i l = join_leaf_lem i l (read_as a) (in_reading (DefinedKept n cs named) a d)

      -- the lowest leaf at which it does not hold
      pub join_failing_lem : join_failing levels table (four_of (read_as a)) ≡ failing_leaf cs rows a
      unfolding failing_leaf
      join_failing_lem = first_ext (2 ^ row_levels levels) _ _
          (λ i l. ap (λ w. not (is_way Holds w)) (join_way_lem i l))

-- ---- the parts of an atom have a place in the table

module _ (n : ℕ) (cs : Constants) (few : n ≤ row_count) (some : length cs.numbers ≤ 32) where
  part_in : (p : Part) → InPart (Defined n cs) p → part_byte p < 64
  part_in (of (variable v)) d = omega arith
  part_in (of (constant c)) d = omega arith
  part_in (always false) d = omega arith
  part_in (always true) d = omega arith

  reading_in : (t : LeafReading) → InReading (Defined n cs) t → PartsIn (four_of t)
  reading_in (joins_to u v w) d = (part_in u d.0, part_in v d.1, part_in w d.2)
  reading_in (apart u v) d = (part_in u d.0, part_in v d.1, omega arith)

  pub parts_in : (a : Atom) → InAtom (Defined n cs) a → PartsIn (four_of (read_as a))
  parts_in a d = reading_in (read_as a) (in_reading (Defined n cs) a d)
