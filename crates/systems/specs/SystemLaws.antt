-- Laws of terms and systems: a system is its positive clauses and its disequations, and so are its terms. Assumes
-- nothing.
use Rattle.std.specs.Prelude.{List, [], ◌∷◌, ℕ, zero, suc, ◌<◌, length, get_or}
use Rattle.std.proofs.Common.{suc-le-suc, zero-le, not-suc-le-zero, le_of_suc-le-suc}
use Rattle.shares.specs.Tree.{Folded}
use Rattle.shares.proofs.TreeLaws.{tree_of_folded}
use Rattle.systems.specs.Clauses.{Term, variable, constant, Atom, joined, equal, is_full, is_empty, together, positive}
use Rattle.systems.specs.Clauses.{negated, System, positives, disequations, disequation, Constants, Assignment}
use Rattle.systems.specs.Clauses.{value_of, Holds, SystemHolds, AllHold}
use Rattle.systems.specs.Questions.{InAtom, InSystem}

-- ---- the tree of a term is folded

pub value_folded : (cs : Constants) (ρ : Assignment) (t : Term) → Folded (value_of cs ρ t)
value_folded cs ρ (variable v) = (ρ v).folded
value_folded cs ρ (constant i) = tree_of_folded cs.levels _

-- ---- a system holds exactly if its positive clauses and each of its disequations do

-- its positive clauses hold, and so does each of its disequations
abbrev pub Parts : Constants → Assignment → System → Type 0
Parts cs ρ s = AllHold cs ρ (positives s) × ((j : ℕ) → j < length (disequations s) → ¬ Holds cs ρ (disequation s j))

pub whole : (cs : Constants) (ρ : Assignment) (s : System) → Parts cs ρ s → SystemHolds cs ρ s
unfolding positives disequations
whole cs ρ [] p = tt
whole cs ρ (positive a ∷ s) p = (p.0.0, whole cs ρ s (p.0.1, p.1))
whole cs ρ (negated a ∷ s) p = (p.1 zero (suc-le-suc zero-le), whole cs ρ s (p.0, λ j l. p.1 (suc j) (suc-le-suc l)))

pub parts : (cs : Constants) (ρ : Assignment) (s : System) → SystemHolds cs ρ s → Parts cs ρ s
unfolding positives disequations
parts cs ρ [] h = (tt, λ j l. absurd (not-suc-le-zero l))
parts cs ρ (positive a ∷ s) h = ((h.0, (parts cs ρ s h.1).0), (parts cs ρ s h.1).1)
parts cs ρ (negated a ∷ s) h = ((parts cs ρ s h.1).0, from (parts cs ρ s h.1).1)
  where
    from : ((j : ℕ) → j < length (disequations s) → ¬ Holds cs ρ (disequation s j))
        → (j : ℕ) → j < suc (length (disequations s))
        → ¬ Holds cs ρ (get_or (a ∷ disequations s) j (equal (variable 0) (variable 0)))
    from f zero l = h.0
    from f (suc j) l = f j (le_of_suc-le-suc l)

-- ---- the terms of a system

-- P holds of every term of some atoms
abbrev pub InAtoms : (Term → Type 0) → List Atom → Type 0
InAtoms P [] = Unit {0}
InAtoms P (a ∷ l) = InAtom P a × InAtoms P l

module _ (P Q R : Term → Type 0) (f : (t : Term) → P t → Q t → R t) where
  in_atom : (a : Atom) → InAtom P a → InAtom Q a → InAtom R a
  in_atom (joined u v w) p q = (f u p.0 q.0, f v p.1 q.1, f w p.2 q.2)
  in_atom (equal u v) p q = (f u p.0 q.0, f v p.1 q.1)
  in_atom (is_full u) p q = f u p q
  in_atom (is_empty u) p q = f u p q
  in_atom (together u v) p q = (f u p.0 q.0, f v p.1 q.1)

  -- what follows of a term follows of every term of a system
  pub in_system : (s : System) → InSystem P s → InSystem Q s → InSystem R s
  in_system [] p q = tt
  in_system (positive a ∷ s) p q = (in_atom a p.0 q.0, in_system s p.1 q.1)
  in_system (negated a ∷ s) p q = (in_atom a p.0 q.0, in_system s p.1 q.1)

pub in_positives : (P : Term → Type 0) (s : System) → InSystem P s → InAtoms P (positives s)
unfolding positives
in_positives P [] p = tt
in_positives P (positive a ∷ s) p = (p.0, in_positives P s p.1)
in_positives P (negated a ∷ s) p = in_positives P s p.1

pub in_disequations : (P : Term → Type 0) (s : System) → InSystem P s → InAtoms P (disequations s)
unfolding disequations
in_disequations P [] p = tt
in_disequations P (positive a ∷ s) p = in_disequations P s p.1
in_disequations P (negated a ∷ s) p = (p.0, in_disequations P s p.1)

pub in_at : (P : Term → Type 0) (l : List Atom) (d : Atom) → InAtoms P l → (j : ℕ) → j < length l
    → InAtom P (get_or l j d)
in_at P [] d p j m = absurd (not-suc-le-zero m)
in_at P (a ∷ l) d p zero m = p.0
in_at P (a ∷ l) d p (suc j) m = in_at P l d p.1 j (le_of_suc-le-suc m)

pub in_disequation : (P : Term → Type 0) (s : System) → InSystem P s → (j : ℕ) → j < length (disequations s)
    → InAtom P (disequation s j)
in_disequation P s p j l = in_at P (disequations s) _ (in_disequations P s p) j l
