-- A question, when it is well formed, and its numbers h, d and e. Assumes nothing.
use Rattle.std.specs.Prelude.{◌≡◌, Bool, false, ◌||◌, List, [], ◌∷◌, ◌++◌, ℕ, ◌+◌, ◌<◌, max, eqb, length}
use Rattle.shares.specs.Tree.{height}
use Rattle.shares.specs.Constant.{number_tree}
use Rattle.systems.specs.Clauses.{Constants, constant_tree, Term, variable, constant, Atom, joined, equal, is_full}
use Rattle.systems.specs.Clauses.{is_empty, together, Clause, positive, negated, System, disequations}

-- kind 0 asks whether the first system is satisfiable, kind 1 whether it entails the second
pub data Kind : Type 0 where
  satisfiability : Kind
  entailment : Kind

-- a question: its free variables come first, then the second system's own ones
pub record Question : Type 0 where
  pub kind : Kind
  pub free : ℕ
  pub own : ℕ
  pub constants : Constants
  pub first : System
  pub second : System

-- ---- well formed

-- a term names something defined: one of n variables, or one of the constants
abbrev pub Defined : ℕ → Constants → Term → Type 0
Defined n cs (variable v) = v < n
Defined n cs (constant i) = i < length cs.numbers

-- P holds of every term of an atom
abbrev pub InAtom : (Term → Type 0) → Atom → Type 0
InAtom P (joined a b c) = P a × P b × P c
InAtom P (equal a b) = P a × P b
InAtom P (is_full a) = P a
InAtom P (is_empty a) = P a
InAtom P (together a b) = P a × P b

-- P holds of every term of a system
abbrev pub InSystem : (Term → Type 0) → System → Type 0
InSystem P [] = Unit {0}
InSystem P (positive a ∷ s) = InAtom P a × InSystem P s
InSystem P (negated a ∷ s) = InAtom P a × InSystem P s

-- a question of satisfiability has no own variable and no second system
abbrev pub Alone : Kind → ℕ → System → Type 0
Alone satisfiability m s = (m ≡ 0) × (s ≡ [])
Alone entailment m s = Unit {0}

-- every term names something defined, and a first-system clause names no own variable
pub record WellFormed (q : Question) : Type 0 where
  pub alone : Alone q.kind q.own q.second
  pub first : InSystem (Defined q.free q.constants) q.first
  pub second : InSystem (Defined (q.free + q.own) q.constants) q.second

-- ---- what its clauses name

-- the terms of an atom
abbrev pub terms_of : Atom → List Term
terms_of (joined a b c) = a ∷ b ∷ c ∷ []
terms_of (equal a b) = a ∷ b ∷ []
terms_of (is_full a) = a ∷ []
terms_of (is_empty a) = a ∷ []
terms_of (together a b) = a ∷ b ∷ []

-- the terms that a clause names, be it positive or a disequation
abbrev pub clause_terms : Clause → List Term
clause_terms (positive a) = terms_of a
clause_terms (negated a) = terms_of a

-- the terms that some clause of a system names
unfoldable pub named_in : System → List Term
named_in [] = []
named_in (c ∷ s) = clause_terms c ++ named_in s

-- the terms that some clause of a question names, in either system
abbrev pub named_by : Question → List Term
named_by q = named_in q.first ++ named_in q.second

-- whether constant number i is among some terms
unfoldable pub is_among : ℕ → List Term → Bool
is_among i [] = false
is_among i (variable v ∷ l) = is_among i l
is_among i (constant j ∷ l) = eqb i j || is_among i l

-- ---- its numbers

-- the height of the tallest constant among some terms, 0 if there is none
unfoldable pub tallest_among : Constants → List Term → ℕ
tallest_among cs [] = 0
tallest_among cs (variable v ∷ l) = tallest_among cs l
tallest_among cs (constant i ∷ l) = max (height (constant_tree cs i)) (tallest_among cs l)

-- h: the height of a question is that of the tallest constant that some clause names
abbrev pub question_height : Question → ℕ
question_height q = tallest_among q.constants (named_by q)

-- the height of the tallest of some constants of 2 ^ k leaves, 0 if there is none
unfoldable pub tallest_constant : ℕ → List ℕ → ℕ
tallest_constant k [] = 0
tallest_constant k (n ∷ l) = max (height (number_tree k n)) (tallest_constant k l)

-- the height of the tallest constant of all, named or not
abbrev pub height_of_all : Question → ℕ
height_of_all q = tallest_constant q.constants.levels q.constants.numbers

-- d: how many disequations the first system has
abbrev pub first_count : Question → ℕ
first_count q = length (disequations q.first)

-- e: how many the second has
abbrev pub second_count : Question → ℕ
second_count q = length (disequations q.second)
