-- Whether a question is well formed, as a test. Assumes nothing.
use Rattle.std.specs.Prelude.{refl, Bool, true, false, ◌&&◌, [], ◌∷◌, ℕ, ◌+◌, T, ltb, eqb, length}
use Rattle.std.proofs.Common.{ltb→lt, eqb→eq}
use Rattle.shares.specs.Test.{and_left, and_right}
use Rattle.systems.specs.Clauses.{Term, variable, constant, Atom, joined, equal, is_full, is_empty, together, positive}
use Rattle.systems.specs.Clauses.{negated, System, Constants}
use Rattle.systems.specs.Questions.{Kind, satisfiability, entailment, Question, Defined, InAtom, InSystem, Alone}
use Rattle.systems.specs.Questions.{WellFormed}

-- a term names something defined
abbrev defined_test : ℕ → Constants → Term → Bool
defined_test n cs (variable v) = ltb v n
defined_test n cs (constant i) = ltb i (length cs.numbers)

-- every term of an atom passes
abbrev atom_test : (Term → Bool) → Atom → Bool
atom_test p (joined u v w) = p u && (p v && p w)
atom_test p (equal u v) = p u && p v
atom_test p (is_full u) = p u
atom_test p (is_empty u) = p u
atom_test p (together u v) = p u && p v

-- every term of a system passes
abbrev system_test : (Term → Bool) → System → Bool
system_test p [] = true
system_test p (positive a ∷ s) = atom_test p a && system_test p s
system_test p (negated a ∷ s) = atom_test p a && system_test p s

-- a question of satisfiability has no own variable and no second system
abbrev alone_test : Kind → ℕ → System → Bool
alone_test satisfiability m [] = eqb m 0
alone_test satisfiability m (x ∷ s) = false
alone_test entailment m s = true

-- a question is well formed
abbrev pub formed_test : Question → Bool
formed_test q =
    alone_test q.kind q.own q.second
    && (system_test (defined_test q.free q.constants) q.first
    && system_test (defined_test (q.free + q.own) q.constants) q.second)

-- ---- where it passes, the question is well formed

defined_of : (n : ℕ) (cs : Constants) (t : Term) → T (defined_test n cs t) → Defined n cs t
defined_of n cs (variable v) t = ltb→lt v n t
defined_of n cs (constant i) t = ltb→lt i (length cs.numbers) t

module _ (p : Term → Bool) (P : Term → Type 0) (f : (t : Term) → T (p t) → P t) where
  atom_of_lem : (a : Atom) → T (atom_test p a) → InAtom P a
  atom_of_lem (joined u v w) t =
      let r = and_right (p u) _ t in
      (f u (and_left (p u) _ t), f v (and_left (p v) _ r), f w (and_right (p v) _ r))
  atom_of_lem (equal u v) t = (f u (and_left (p u) _ t), f v (and_right (p u) _ t))
  atom_of_lem (is_full u) t = f u t
  atom_of_lem (is_empty u) t = f u t
  atom_of_lem (together u v) t = (f u (and_left (p u) _ t), f v (and_right (p u) _ t))

  system_of : (s : System) → T (system_test p s) → InSystem P s
  system_of [] t = tt
  system_of (positive a ∷ s) t =
      (atom_of_lem a (and_left (atom_test p a) _ t), system_of s (and_right (atom_test p a) _ t))
  system_of (negated a ∷ s) t =
      (atom_of_lem a (and_left (atom_test p a) _ t), system_of s (and_right (atom_test p a) _ t))

alone_of : (k : Kind) (m : ℕ) (s : System) → T (alone_test k m s) → Alone k m s
alone_of satisfiability m [] t = (eqb→eq m 0 t, refl)
alone_of satisfiability m (x ∷ s) t = absurd t
alone_of entailment m s t = tt

pub formed_of : (q : Question) → T (formed_test q) → WellFormed q
formed_of q t =
    let p₁ = defined_test q.free q.constants in
    let p₂ = defined_test (q.free + q.own) q.constants in
    let r = and_right (alone_test q.kind q.own q.second) _ t in
    record {
      alone = alone_of q.kind q.own q.second (and_left (alone_test q.kind q.own q.second) _ t);
      first = system_of p₁ _ (defined_of q.free q.constants) q.first (and_left (system_test p₁ q.first) _ r);
      second = system_of p₂ _ (defined_of (q.free + q.own) q.constants) q.second
          (and_right (system_test p₁ q.first) _ r);
    }
