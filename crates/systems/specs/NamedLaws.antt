-- Laws of the constants that clauses name: the tallest of them, and what holds of every term of a system. Assumes
-- nothing.
use Rattle.std.specs.Prelude.{◌≡◌, refl, ◌||◌, ◌⊎◌, eqb}
use Rattle.std.proofs.Common.{sym, ap, ◌∙◌, subst, inl, inr, arith, eqb→eq}
use Rattle.std.proofs.Math.Bool.{or-false, or_assoc}
use mathlib.Core.List.{List, [], ◌∷◌, ◌++◌}
use Prim.Native.Nat.{ℕ, ◌≤◌, zero-le, max}
use Rattle.std.proofs.Math.Nat.{max-le}
use Rattle.std.proofs.Math.Dec.{T, eqb_refl}
use Rattle.shares.specs.Test.{or_left, or_right, or_cases}
use Rattle.shares.specs.Tree.{height}
use Rattle.systems.specs.NamedExamples
use Rattle.systems.specs.Clauses.{Constants, constant_tree, Term, variable, constant, Atom, joined, equal, is_full}
use Rattle.systems.specs.Clauses.{is_empty, together, Clause, positive, negated, System}
use Rattle.systems.specs.Questions.{InAtom, InSystem, terms_of, clause_terms, named_in, is_among, tallest_among}

-- ---- among the terms of two lists

pub among_append : (i : ℕ) (l m : List Term) → is_among i (l ++ m) ≡ (is_among i l || is_among i m)
unfolding is_among
among_append i [] m = refl
among_append i (variable v ∷ l) m = among_append i l m
among_append i (constant j ∷ l) m = ap (◌||◌ (eqb i j)) (among_append i l m)
    ∙ sym (or_assoc (eqb i j) (is_among i l) (is_among i m))

pub among_left : (i : ℕ) (l m : List Term) → T (is_among i l) → T (is_among i (l ++ m))
among_left i l m t = subst T (sym (among_append i l m)) (or_left (is_among i l) (is_among i m) t)

pub among_right : (i : ℕ) (l m : List Term) → T (is_among i m) → T (is_among i (l ++ m))
among_right i l m t = subst T (sym (among_append i l m)) (or_right (is_among i l) (is_among i m) t)

-- ---- the tallest among some terms: no constant there is taller, and it is the least such bound

module _ (cs : Constants) where
  pub among_low : (l : List Term) (i : ℕ) → T (is_among i l) → height (constant_tree cs i) ≤ tallest_among cs l
  unfolding is_among tallest_among
  among_low [] i t = absurd t
  among_low (variable v ∷ l) i t = among_low l i t
  among_low (constant j ∷ l) i t = go (or_cases (eqb i j) (is_among i l) t) (among_low l i)
    where
      go : T (eqb i j) ⊎ T (is_among i l) → (T (is_among i l) → height (constant_tree cs i) ≤ tallest_among cs l)
          → height (constant_tree cs i) ≤ max (height (constant_tree cs j)) (tallest_among cs l)
      go (inl e) f = rw (eqb→eq i j e) (omega arith)
      go (inr u) f = omega (arith, f u)

  pub among_least : (l : List Term) (k : ℕ) → ((i : ℕ) → T (is_among i l) → height (constant_tree cs i) ≤ k)
      → tallest_among cs l ≤ k
  unfolding is_among tallest_among
  among_least [] k f = zero-le
  among_least (variable v ∷ l) k f = among_least l k f
  among_least (constant j ∷ l) k f =
      max-le (f j (or_left (eqb j j) (is_among j l) (eqb_refl j)))
      (among_least l k (λ i t. f i (or_right (eqb i j) (is_among i l) t)))

-- ---- what holds of every variable, and of every constant that is named, holds of every term

module _ (P : Term → Type 0) (variables : (v : ℕ) → P (variable v)) where
  -- it holds of each constant among some terms
  abbrev Each : List Term → Type 0
  Each l = (i : ℕ) → T (is_among i l) → P (constant i)

  here : (t : Term) (l : List Term) → Each (t ∷ l) → P t
  unfolding is_among
  here (variable v) l f = variables v
  here (constant i) l f = f i (or_left (eqb i i) (is_among i l) (eqb_refl i))

  after : (t : Term) (l : List Term) → Each (t ∷ l) → Each l
  unfolding is_among
  after (variable v) l f = f
  after (constant j) l f = λ i t. f i (or_right (eqb i j) (is_among i l) t)

  atom_named : (a : Atom) → Each (terms_of a) → InAtom P a
  atom_named (joined a b c) f = (here a _ f, here b _ (after a _ f), here c [] (after b _ (after a _ f)))
  atom_named (equal a b) f = (here a _ f, here b [] (after a _ f))
  atom_named (is_full a) f = here a [] f
  atom_named (is_empty a) f = here a [] f
  atom_named (together a b) f = (here a _ f, here b [] (after a _ f))

  pub system_named : (s : System) → Each (named_in s) → InSystem P s
  unfolding named_in
  system_named [] f = tt
  system_named (positive a ∷ s) f = (
    atom_named a (λ i t. f i (among_left i (terms_of a) (named_in s) t)),
    system_named s (λ i t. f i (among_right i (terms_of a) (named_in s) t)),
  )
  system_named (negated a ∷ s) f = (
    atom_named a (λ i t. f i (among_left i (terms_of a) (named_in s) t)),
    system_named s (λ i t. f i (among_right i (terms_of a) (named_in s) t)),
  )

-- ---- and the other way: what holds of every term of an atom holds of the constants that it names

module _ (P : Term → Type 0) (i : ℕ) where
  at_head : (t : Term) (l : List Term) → P t → (T (is_among i l) → P (constant i)) → T (is_among i (t ∷ l))
      → P (constant i)
  unfolding is_among
  at_head (variable v) l p f u = f u
  at_head (constant j) l p f u = go (or_cases (eqb i j) (is_among i l) u)
    where
      go : T (eqb i j) ⊎ T (is_among i l) → P (constant i)
      go (inl e) = rw (eqb→eq i j e) p
      go (inr w) = f w

  none : T (is_among i []) → P (constant i)
  unfolding is_among
  none u = absurd u

  pub atom_among : (a : Atom) → InAtom P a → T (is_among i (terms_of a)) → P (constant i)
  atom_among (joined a b c) g = at_head a _ g.0 (at_head b _ g.1 (at_head c [] g.2 none))
  atom_among (equal a b) g = at_head a _ g.0 (at_head b [] g.1 none)
  atom_among (is_full a) g = at_head a [] g none
  atom_among (is_empty a) g = at_head a [] g none
  atom_among (together a b) g = at_head a _ g.0 (at_head b [] g.1 none)

-- ---- one clause more at the end of a system

pub among_more : (i : ℕ) (s : System) (c : Clause)
    → is_among i (named_in (s ++ (c ∷ []))) ≡ (is_among i (named_in s) || is_among i (clause_terms c))
unfolding named_in is_among
among_more i [] c = among_append i (clause_terms c) [] ∙ or-false (is_among i (clause_terms c))
among_more i (d ∷ s) c =
    among_append i (clause_terms d) (named_in (s ++ (c ∷ [])))
    ∙ ap (◌||◌ (is_among i (clause_terms d))) (among_more i s c)
    ∙ sym (or_assoc (is_among i (clause_terms d)) (is_among i (named_in s)) (is_among i (clause_terms c)))
    ∙ ap (λ b. b || is_among i (clause_terms c)) (sym (among_append i (clause_terms d) (named_in s)))
