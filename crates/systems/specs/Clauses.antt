-- Terms, clauses and systems, and when they hold: over trees of every height. Assumes nothing.
use Rattle.std.specs.Prelude.{◌≡◌, true, false, List, [], ◌∷◌, ℕ, get_or}
use Rattle.std.proofs.Math.Option.{some}
use Rattle.shares.specs.Tree.{Tree, leaf, Share, join}
use Rattle.shares.specs.Constant.{number_tree}

-- a term: variable number v, or constant number i, both from 0
pub data Term : Type 0 where
  variable : ℕ → Term
  constant : ℕ → Term

-- what a clause says or denies: "a join b is c"; "a is b"; "a is full"; "a is empty"; "a and b may be held together"
pub data Atom : Type 0 where
  joined : Term → Term → Term → Atom
  equal : Term → Term → Atom
  is_full : Term → Atom
  is_empty : Term → Atom
  together : Term → Term → Atom

-- a clause: an atom, or its negation
pub data Clause : Type 0 where
  positive : Atom → Clause
  negated : Atom → Clause

-- a system: a list of clauses
abbrev pub System : Type 0
System = List Clause

-- its positive clauses, in order
unfoldable pub positives : System → List Atom
positives [] = []
positives (positive a ∷ s) = a ∷ positives s
positives (negated a ∷ s) = positives s

-- its disequations, in order: what is negated, each counted as often as it stands
unfoldable pub disequations : System → List Atom
disequations [] = []
disequations (positive a ∷ s) = disequations s
disequations (negated a ∷ s) = a ∷ disequations s

-- what its disequation number j, from 0, denies (past the last: an atom that nothing rests on)
abbrev pub disequation : System → ℕ → Atom
disequation s j = get_or (disequations s) j (equal (variable 0) (variable 0))

-- ---- when they hold

-- the constants of a question: each a number that has leaf i, of 2 ^ levels, at bit i
pub record Constants : Type 0 where
  pub levels : ℕ
  pub numbers : List ℕ

-- the tree of constant number i
abbrev pub constant_tree : Constants → ℕ → Tree
constant_tree cs i = number_tree cs.levels (get_or cs.numbers i 0)

-- a share for each variable, of any height; only those of the variables that are there count
abbrev pub Assignment : Type 0
Assignment = ℕ → Share

-- the tree of a term, where cs are the constants
abbrev pub value_of : Constants → Assignment → Term → Tree
value_of cs σ (variable v) = (σ v).tree
value_of cs σ (constant i) = constant_tree cs i

-- "a join b is c" holds if the join is defined and is c; equality as usual; a is full if it is the full leaf, and empty
-- if it is the empty one; two shares may be held together if their join is defined
abbrev pub Holds : Constants → Assignment → Atom → Type 0
Holds cs σ (joined a b c) = join (value_of cs σ a) (value_of cs σ b) ≡ some (value_of cs σ c)
Holds cs σ (equal a b) = value_of cs σ a ≡ value_of cs σ b
Holds cs σ (is_full a) = value_of cs σ a ≡ leaf true
Holds cs σ (is_empty a) = value_of cs σ a ≡ leaf false
Holds cs σ (together a b) = (t : Tree) × (join (value_of cs σ a) (value_of cs σ b) ≡ some t)

-- a negation holds otherwise, so also where the join is undefined
abbrev pub ClauseHolds : Constants → Assignment → Clause → Type 0
ClauseHolds cs σ (positive a) = Holds cs σ a
ClauseHolds cs σ (negated a) = ¬ Holds cs σ a

-- a system holds if all its clauses do
abbrev pub SystemHolds : Constants → Assignment → System → Type 0
SystemHolds cs σ [] = Unit {0}
SystemHolds cs σ (c ∷ s) = ClauseHolds cs σ c × SystemHolds cs σ s

-- all of some atoms hold
abbrev pub AllHold : Constants → Assignment → List Atom → Type 0
AllHold cs σ [] = Unit {0}
AllHold cs σ (a ∷ l) = Holds cs σ a × AllHold cs σ l
