-- A writer and a reader of one cell whose shares may be held together never satisfy a system. Assumes nothing.
use Rattle.std.specs.Prelude.{◌≡◌, true, false, [], ◌∷◌, ◌⊎◌, ℕ}
use Rattle.std.proofs.Common.{◌∙◌, subst, inl, inr}
use Rattle.shares.specs.Tree.{leaf}
use Rattle.shares.proofs.JoinLaws.{join_comm, join_full}
use Rattle.systems.specs.Clauses.{Term, together, Clause, System, Constants, Assignment, value_of, Holds, ClauseHolds}
use Rattle.systems.specs.Clauses.{SystemHolds}
use Rattle.systems.specs.Questions.{Question}
use Rattle.systems.specs.Solutions.{Solution}
use Rattle.systems.specs.SystemLaws.{value_folded}
use Rattle.systems.specs.Policies.{may_be_held_together, Among, WriterAndReader}

module _ (cs : Constants) (σ : Assignment) where
  -- every clause of a system that holds does
  among_holds : (c : Clause) (s : System) → Among c s → SystemHolds cs σ s → ClauseHolds cs σ c
  among_holds c [] m h = absurd m
  among_holds c (d ∷ s) (inl e) h = subst (ClauseHolds cs σ) e h.0
  among_holds c (d ∷ s) (inr m) h = among_holds c s m h.1

  -- what is held together with the full share is empty
  beside_full : (a b : Term) → value_of cs σ a ≡ leaf true → Holds cs σ (together a b) → value_of cs σ b ≡ leaf false
  beside_full a b e (t, j) = join_full (value_of cs σ b) t (value_folded cs σ b) (rw e at j)

  either_order : (a b : Term) (s : System) → Among (may_be_held_together a b) s ⊎ Among (may_be_held_together b a) s
      → SystemHolds cs σ s → Holds cs σ (together a b)
  either_order a b s (inl m) h = among_holds _ s m h
  either_order a b s (inr m) h = let (t, j) =
      among_holds _ s m h in (t, join_comm (value_of cs σ a) (value_of cs σ b) ∙ j)

  -- so no shares satisfy the system
  pub never_satisfied : (a b : Term) (s : System) → WriterAndReader a b s → ¬ SystemHolds cs σ s
  never_satisfied a b s W h = among_holds _ s W.reads h
      (beside_full a b (among_holds _ s W.writes h) (either_order a b s W.held h))

-- it has no solution of any height
pub no_solution : (A : ℕ → Type 0) (q : Question) (a b : Term) → WriterAndReader a b q.first → ¬ Solution A q
no_solution A q a b W S = never_satisfied q.constants S.values a b q.first W S.solves
