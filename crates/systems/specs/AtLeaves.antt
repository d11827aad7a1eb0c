-- A question at the leaves: how an atom reads there as a join, and the problems that the two systems pose. Assumes
-- nothing.
use Rattle.std.specs.Prelude.{Bool, true, false, not, cond, ◌&&◌, List, [], ◌∷◌, ℕ, ◌-◌, ltb, length, get_or}
use Rattle.std.proofs.Math.Option.{none, some}
use Rattle.shares.specs.Blocks.{first_of}
use Rattle.shares.specs.Constant.{bit}
use Rattle.shares.specs.Tree.{Tree, leaf, leaf_at, is_way, leaf_test}
use Rattle.shares.specs.declared.Way.{Way}
use Rattle.shares.specs.declared.Way.TheVariants.{Holds}
use Rattle.leaves.specs.Choices.{Row, at}
use Rattle.leaves.specs.Problem.{Problem}
use Rattle.leaves.specs.Second.{Second}
use Rattle.systems.specs.Clauses.{Constants, Term, variable, constant, Atom, joined, equal, is_full, is_empty, together}
use Rattle.systems.specs.Clauses.{positives, disequations, disequation, Assignment, value_of}
use Rattle.systems.specs.Questions.{Question}

-- ---- the reading of an atom as a join

-- a part of a join at one leaf: a term, or a leaf that is always empty or always full
pub data Part : Type 0 where
  of : Term → Part
  always : Bool → Part

-- a reading: "the first part join the second is the third"; or that the two do not overlap, whatever they give
pub data LeafReading : Type 0 where
  joins_to : Part → Part → Part → LeafReading
  apart : Part → Part → LeafReading

-- how each atom reads
abbrev pub read_as : Atom → LeafReading
read_as (joined a b c) = joins_to (of a) (of b) (of c)
read_as (equal a b) = joins_to (of a) (always false) (of b)
read_as (is_full a) = joins_to (of a) (always false) (always true)
read_as (is_empty a) = joins_to (of a) (always false) (always false)
read_as (together a b) = apart (of a) (of b)

-- how a reading comes out where each part has a value
unfoldable pub reading_way : (Part → Bool) → LeafReading → Way
reading_way f (joins_to u v w) = leaf_test (f u) (f v) (some (f w))
reading_way f (apart u v) = leaf_test (f u) (f v) none

-- ---- at one leaf

-- a term at leaf b of 2 ^ h, where variable v is x v; a constant has there the first of its own leaves below it
unfoldable pub term_at : ℕ → Constants → ℕ → (ℕ → Bool) → Term → Bool
term_at h cs b x (variable v) = x v
term_at h cs b x (constant i) = bit (get_or cs.numbers i 0) (first_of h cs.levels b)

-- a part there
unfoldable pub part_at : ℕ → Constants → ℕ → (ℕ → Bool) → Part → Bool
part_at h cs b x (of t) = term_at h cs b x t
part_at h cs b x (always v) = v

-- how an atom comes out there
abbrev pub atom_way : ℕ → Constants → ℕ → (ℕ → Bool) → Atom → Way
atom_way h cs b x a = reading_way (part_at h cs b x) (read_as a)

-- it holds there
abbrev pub atom_at : ℕ → Constants → ℕ → (ℕ → Bool) → Atom → Bool
atom_at h cs b x a = is_way Holds (atom_way h cs b x a)

-- all of some atoms
unfoldable pub all_at : ℕ → Constants → ℕ → (ℕ → Bool) → List Atom → Bool
all_at h cs b x [] = true
all_at h cs b x (a ∷ l) = atom_at h cs b x a && all_at h cs b x l

-- ---- at one leaf of trees

-- the tree of a part
abbrev pub part_tree : Constants → Assignment → Part → Tree
part_tree cs ρ (of t) = value_of cs ρ t
part_tree cs ρ (always b) = leaf b

-- how an atom comes out at leaf i of the shares, all unfolded to height k
abbrev pub tree_way : ℕ → Constants → Assignment → Atom → ℕ → Way
tree_way k cs ρ a i = reading_way (λ p. leaf_at k (part_tree cs ρ p) i) (read_as a)

-- ---- the problems that the systems pose at the leaves

-- the n free variables first, then the own ones
unfoldable pub both_at : ℕ → (ℕ → Bool) → (ℕ → Bool) → ℕ → Bool
both_at n x y v = cond (ltb v n) (x v) (y (v - n))

-- what the first system asks of the free variables at each leaf
abbrev pub first_at : ℕ → (q : Question) → Problem (Row Bool q.free)
first_at h q = record {
  pos = λ b x. all_at h q.constants b (at false x) (positives q.first);
  count = length (disequations q.first);
  dis = λ j b x. not (atom_at h q.constants b (at false x) (disequation q.first j));
}

-- what the second asks of the own ones beside them
abbrev pub second_at : ℕ → (q : Question) → Second (Row Bool q.free) (Row Bool q.own)
second_at h q = record {
  pos = λ b x y. all_at h q.constants b (both_at q.free (at false x) (at false y)) (positives q.second);
  count = length (disequations q.second);
  dis = λ j b x y. not (atom_at h q.constants b (both_at q.free (at false x) (at false y)) (disequation q.second j));
}
