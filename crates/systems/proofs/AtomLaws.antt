-- Terms and atoms at the leaves of trees: an atom holds exactly if its reading does, and that exactly if it does at
-- every leaf, for every height from h up. Assumes nothing.
use Rattle.std.specs.Prelude.{◌≡◌, Bool, true, false, not, ◌↔◌, T, length, get_or}
use Rattle.std.proofs.Math.Path.{refl, sym}
use Rattle.std.proofs.Common.{ap, ◌∙◌, le_trans}
use mathlib.Core.List.{List, [], ◌∷◌, map}
use Rattle.std.proofs.Math.Logic.Iff
use Rattle.std.proofs.Math.Option.{some}
use Prim.Native.Nat.{ℕ, ◌^◌, ◌≤◌, ◌<◌, zero-le}
use Rattle.shares.specs.Test.{and_intro, and_left, and_right}
use Rattle.shares.specs.BelowLaws.{Below, fails_iff}
use Rattle.shares.specs.Blocks.{block_of, first_of}
use Rattle.shares.specs.BlockLaws.{block_lt, first_lt, block_first}
use Rattle.shares.specs.Tree.{Tree, leaf, Folded, height, leaf_at, join_leaf, join, leaf_test}
use Rattle.shares.specs.declared.Way.{Way}
use Rattle.shares.specs.declared.Way.TheVariants as way
use Rattle.shares.proofs.WayLaws.{is_way_iff}
use Rattle.shares.proofs.TreeLaws.{leaf_at_leaf, blocks}
use Rattle.shares.proofs.JoinLaws.{join_iff, join_defined_iff, join_empty_iff}
use Rattle.shares.specs.Constant.{bit, number_tree}
use Rattle.shares.proofs.ConstantLaws.{leaf_number}
use Rattle.leaves.specs.Choices.{nil}
use Rattle.systems.specs.Clauses.{Term, variable, constant, Atom, joined, equal, is_full, is_empty, together, negated}
use Rattle.systems.specs.Clauses.{System, positives, disequations, disequation, Constants, constant_tree, Assignment}
use Rattle.systems.specs.Clauses.{value_of, Holds, AllHold}
use Rattle.systems.specs.Questions.{satisfiability, Question, Defined, InAtom, InSystem}
use Rattle.systems.specs.Bounds.{Within}
use Rattle.systems.specs.SystemLaws.{value_folded, InAtoms, in_positives, in_disequation}
use Rattle.systems.specs.AtLeaves.{Part, of, always, LeafReading, joins_to, apart, read_as, term_at, reading_way}
use Rattle.systems.specs.AtLeaves.{part_at, atom_way, atom_at, all_at, part_tree, tree_way, first_at}

-- ---- an example, computed: full join full is undefined, so its negation holds

abbrev full_twice : Question
full_twice = record {
  kind = satisfiability;
  free = 0;
  own = 0;
  constants = record { levels = 0; numbers = 1 ∷ [] };
  first = negated (joined (constant 0) (constant 0) (constant 0)) ∷ [];
  second = [];
}

full_twice_denied : (first_at 0 full_twice).dis 0 0 nil ≡ true
unfolding disequations term_at part_at reading_way leaf_test join_leaf bit
full_twice_denied = refl

-- ---- another: at one leaf, of a full and of an empty share, how each of the atoms without a third term comes out

abbrev full_and_empty : Constants
full_and_empty = record { levels = 0; numbers = 1 ∷ 0 ∷ [] }

abbrev comes_out : (Term → Atom) → List Way
comes_out a = map (λ i. atom_way 0 full_and_empty 0 (λ v. false) (a (constant i))) (0 ∷ 1 ∷ [])

read_at_a_leaf : (comes_out is_full ≡ way.Holds ∷ way.Shortfall ∷ [])
    × (comes_out is_empty ≡ way.Surplus ∷ way.Holds ∷ [])
    × (comes_out (equal (constant 0)) ≡ way.Holds ∷ way.Surplus ∷ [])
    × (comes_out (equal (constant 1)) ≡ way.Shortfall ∷ way.Holds ∷ [])
    × (comes_out (together (constant 0)) ≡ way.Overlap ∷ way.Holds ∷ [])
    × (comes_out (together (constant 1)) ≡ way.Holds ∷ way.Holds ∷ [])
unfolding term_at part_at reading_way leaf_test join_leaf bit
read_at_a_leaf = (refl, refl, refl, refl, refl, refl)

-- ---- what a reading says of trees

-- a reading holds of trees
abbrev ReadingHolds : Constants → Assignment → LeafReading → Type 0
ReadingHolds cs ρ (joins_to u v w) = join (part_tree cs ρ u) (part_tree cs ρ v) ≡ some (part_tree cs ρ w)
ReadingHolds cs ρ (apart u v) = (t : Tree) × (join (part_tree cs ρ u) (part_tree cs ρ v) ≡ some t)

-- P holds of a part's term, if it is one, and of every term of a reading
abbrev pub InPart : (Term → Type 0) → Part → Type 0
InPart P (of t) = P t
InPart P (always b) = Unit {0}

abbrev pub InReading : (Term → Type 0) → LeafReading → Type 0
InReading P (joins_to u v w) = InPart P u × InPart P v × InPart P w
InReading P (apart u v) = InPart P u × InPart P v

-- an atom reads no other terms than its own
pub in_reading : (P : Term → Type 0) (a : Atom) → InAtom P a → InReading P (read_as a)
in_reading P (joined u v w) g = g
in_reading P (equal u v) g = (g.0, tt, g.1)
in_reading P (is_full u) g = (g, tt, tt)
in_reading P (is_empty u) g = (g, tt, tt)
in_reading P (together u v) g = g

-- ---- terms and atoms, at every leaf

-- a term names something defined, no taller than h
abbrev pub Good : ℕ → ℕ → Constants → Term → Type 0
Good n h cs t = Defined n cs t × Within h cs t

-- the bits x i v are leaf i of variable v's tree, which is no taller than k, for each of the first n variables
pub record Reads (n k : ℕ) (ρ : Assignment) (x : ℕ → ℕ → Bool) : Type 0 where
  pub low : (v : ℕ) → v < n → height (ρ v).tree ≤ k
  pub bits : (i : ℕ) → i < 2 ^ k → (v : ℕ) → v < n → x i v ≡ leaf_at k (ρ v).tree i

-- a constant of 2 ^ w leaves, no taller than h, at leaf b
constant_at_lem : (w h m b : ℕ) → h ≤ w → height (number_tree w m) ≤ h → b < 2 ^ h
    → bit m (first_of h w b) ≡ leaf_at h (number_tree w m) b
constant_at_lem w h m b hw low l =
    sym (leaf_number w m (first_of h w b) (first_lt hw l))
    ∙ blocks h w (number_tree w m) (first_of h w b) low hw
    ∙ ap (leaf_at h (number_tree w m)) (block_first h w b)

module _ (n h : ℕ) (cs : Constants) (hw : h ≤ cs.levels) (k : ℕ) (hk : h ≤ k) (ρ : Assignment) (x : ℕ → ℕ
    → Bool) (R : Reads n k ρ x) where
  term_low : (t : Term) → Good n h cs t → height (value_of cs ρ t) ≤ k
  term_low (variable v) g = R.low v g.0
  term_low (constant i) g = le_trans g.1 hk

  term_at_lem : (t : Term) → Good n h cs t → (i : ℕ) → i < 2 ^ k
      → term_at h cs (block_of h k i) (x i) t ≡ leaf_at k (value_of cs ρ t) i
  unfolding term_at
  term_at_lem (variable v) g i l = R.bits i l v g.0
  term_at_lem (constant m) g i l =
      constant_at_lem cs.levels h (get_or cs.numbers m 0) (block_of h k i) hw g.1 (block_lt hk l)
      ∙ sym (blocks h k (constant_tree cs m) i g.1 hk)

  -- ---- parts and readings

  part_folded : (p : Part) → Folded (part_tree cs ρ p)
  part_folded (of t) = value_folded cs ρ t
  part_folded (always b) = tt

  part_low : (p : Part) → InPart (Good n h cs) p → height (part_tree cs ρ p) ≤ k
  unfolding height
  part_low (of t) g = term_low t g
  part_low (always b) g = zero-le

  part_at_lem : (p : Part) → InPart (Good n h cs) p → (i : ℕ) → i < 2 ^ k
      → part_at h cs (block_of h k i) (x i) p ≡ leaf_at k (part_tree cs ρ p) i
  unfolding part_at
  part_at_lem (of t) g i l = term_at_lem t g i l
  part_at_lem (always b) g i l = sym (leaf_at_leaf k b i)

  -- a reading comes out at a leaf as it does at that leaf of trees
  reading_at_lem : (t : LeafReading) → InReading (Good n h cs) t → (i : ℕ) → i < 2 ^ k
      → reading_way (part_at h cs (block_of h k i) (x i)) t ≡ reading_way (λ p. leaf_at k (part_tree cs ρ p) i) t
  unfolding reading_way
  reading_at_lem (joins_to u v w) g i l = rw (part_at_lem u g.0 i l, part_at_lem v g.1 i l, part_at_lem w g.2 i l) refl
  reading_at_lem (apart u v) g i l = rw (part_at_lem u g.0 i l, part_at_lem v g.1 i l) refl

  -- it holds of trees exactly if it does at every leaf
  reading_iff : (t : LeafReading) → InReading (Good n h cs) t
      → ReadingHolds cs ρ t ↔ ((i : ℕ) → i < 2 ^ k → reading_way (λ p. leaf_at k (part_tree cs ρ p) i) t ≡ way.Holds)
  unfolding reading_way
  reading_iff (joins_to u v w) g =
      join_iff k (part_tree cs ρ u) (part_tree cs ρ v) (part_tree cs ρ w) (part_folded w) (part_low u g.0)
      (part_low v g.1) (part_low w g.2)
  reading_iff (apart u v) g = join_defined_iff k (part_tree cs ρ u) (part_tree cs ρ v) (part_low u g.0) (part_low v g.1)

  -- an atom holds of trees exactly if its reading does
  reads_iff : (a : Atom) → Holds cs ρ a ↔ ReadingHolds cs ρ (read_as a)
  reads_iff (joined u v w) = Iff.rfl
  reads_iff (equal u v) = Iff.symm
      (join_empty_iff (value_of cs ρ u) (value_of cs ρ v) (value_folded cs ρ u) (value_folded cs ρ v))
  reads_iff (is_full u) = Iff.symm (join_empty_iff (value_of cs ρ u) (leaf true) (value_folded cs ρ u) tt)
  reads_iff (is_empty u) = Iff.symm (join_empty_iff (value_of cs ρ u) (leaf false) (value_folded cs ρ u) tt)
  reads_iff (together u v) = Iff.rfl

  -- an atom comes out at a leaf as it does at that leaf of trees
  pub atom_way_lem : (a : Atom) → InAtom (Good n h cs) a → (i : ℕ) → i < 2 ^ k
      → atom_way h cs (block_of h k i) (x i) a ≡ tree_way k cs ρ a i
  atom_way_lem a g = reading_at_lem (read_as a) (in_reading (Good n h cs) a g)

  -- it holds exactly if it does at every leaf
  pub atom_iff : (a : Atom) → InAtom (Good n h cs) a
      → Holds cs ρ a ↔ ((i : ℕ) → i < 2 ^ k → T (atom_at h cs (block_of h k i) (x i) a))
  atom_iff a g =
      let E = Iff.trans (reads_iff a) (reading_iff (read_as a) (in_reading (Good n h cs) a g)) in (
        λ e i l. (is_way_iff way.Holds _).1 (atom_way_lem a g i l ∙ E.0 e i l),
        λ f. E.1 (λ i l. sym (atom_way_lem a g i l) ∙ (is_way_iff way.Holds _).0 (f i l)),
      )

  all_iff : (l : List Atom) → InAtoms (Good n h cs) l
      → AllHold cs ρ l ↔ ((i : ℕ) → i < 2 ^ k → T (all_at h cs (block_of h k i) (x i) l))
  unfolding all_at
  all_iff [] g = (λ e i m. tt, λ f. tt)
  all_iff (a ∷ l) g = (
    λ e i m. and_intro (atom_at h cs (block_of h k i) (x i) a) _ ((atom_iff a g.0).0 e.0 i m)
        ((all_iff l g.1).0 e.1 i m),
    λ f. (
      (atom_iff a g.0).1 (λ i m. and_left (atom_at h cs (block_of h k i) (x i) a) _ (f i m)),
      (all_iff l g.1).1 (λ i m. and_right (atom_at h cs (block_of h k i) (x i) a) _ (f i m)),
    ),
  )

  module _ (s : System) (g : InSystem (Good n h cs) s) where
    -- positive clauses hold exactly if they do at every leaf
    pub positives_iff : AllHold cs ρ (positives s) ↔ ((i : ℕ) → i < 2 ^ k
        → T (all_at h cs (block_of h k i) (x i) (positives s)))
    positives_iff = all_iff (positives s) (in_positives (Good n h cs) s g)

    -- a disequation holds exactly if it does at one leaf
    pub disequation_iff : (j : ℕ) → j < length (disequations s)
        → (¬ Holds cs ρ (disequation s j)) ↔ Below (2 ^ k)
        (λ i. not (atom_at h cs (block_of h k i) (x i) (disequation s j)))
    disequation_iff j l =
        fails_iff (2 ^ k) (λ i. atom_at h cs (block_of h k i) (x i) (disequation s j))
        (atom_iff (disequation s j) (in_disequation (Good n h cs) s g j l))
