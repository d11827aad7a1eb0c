-- Solutions of the first system, their heights, and when one extends to the second. Assumes nothing.
use Rattle.std.specs.Prelude.{cond, ℕ, zero, suc, ◌-◌, max, ltb}
use Rattle.shares.specs.Tree.{height}
use Rattle.leaves.specs.Heights.{any_height}
use Rattle.systems.specs.Clauses.{Assignment, positives, disequation, Holds, SystemHolds, AllHold}
use Rattle.systems.specs.Questions.{Question}

-- the height of the tallest tree of the first n variables, 0 without one
unfoldable pub tallest : ℕ → Assignment → ℕ
tallest zero σ = 0
tallest (suc n) σ = max (tallest n σ) (height (σ n).tree)

-- the height of the shares that free variables have
abbrev pub height_of : Question → Assignment → ℕ
height_of q σ = tallest q.free σ

-- σ solves the first system: all its clauses hold
abbrev pub SolvesFirst : Question → Assignment → Type 0
SolvesFirst q σ = SystemHolds q.constants σ q.first

-- a solution whose height is among A: it gives every free variable a share, so that all clauses of the first system
-- hold
pub record Solution (A : ℕ → Type 0) (q : Question) : Type 0 where
  pub values : Assignment
  pub allowed : A (height_of q values)
  pub solves : SolvesFirst q values

-- the n free variables first, then the own ones
unfoldable pub both : ℕ → Assignment → Assignment → Assignment
both n σ τ v = cond (ltb v n) (σ v) (τ (v - n))

-- shares for the own variables, their height among A, with which P holds beside σ
pub record Beside (A : ℕ → Type 0) (q : Question) (σ : Assignment) (P : Assignment → Type 0) : Type 0 where
  pub own : Assignment
  pub allowed : A (tallest q.own own)
  pub holds : P (both q.free σ own)

-- σ extends by own shares whose height is among A: all clauses of the second system hold beside it
abbrev pub ExtendsBy : (ℕ → Type 0) → Question → Assignment → Type 0
ExtendsBy A q σ = Beside A q σ (λ ρ. SystemHolds q.constants ρ q.second)

-- σ extends: by own shares of any height
abbrev pub Extends : Question → Assignment → Type 0
Extends q σ = ExtendsBy any_height q σ

-- σ can meet the second system's positive clauses
abbrev pub MeetsPositives : Question → Assignment → Type 0
MeetsPositives q σ = Beside any_height q σ (λ ρ. AllHold q.constants ρ (positives q.second))

-- σ can have disequation j of the second system beside them
abbrev pub MeetsWith : ℕ → Question → Assignment → Type 0
MeetsWith j q σ = Beside any_height q σ
    (λ ρ. AllHold q.constants ρ (positives q.second) × ¬ Holds q.constants ρ (disequation q.second j))

-- every solution of the first system whose height is among A has the property P
abbrev pub Every : (ℕ → Type 0) → Question → (Assignment → Type 0) → Type 0
Every A q P = (S : Solution A q) → P S.values

-- some such solution lacks it
abbrev pub SomeNot : (ℕ → Type 0) → Question → (Assignment → Type 0) → Type 0
SomeNot A q P = (S : Solution A q) × ¬ P S.values

-- entailment: every solution of the first system extends
abbrev pub Entails : (ℕ → Type 0) → Question → Type 0
Entails A q = Every A q (Extends q)
