-- What a byte that announces a command rules out: each fault of another command. Assumes nothing.
use Rattle.std.specs.Prelude.{◌≡◌, false, List, ℕ, ◌≤◌, eqb, length, Some, None}
use Rattle.std.proofs.Common.{sym, ap, ◌∙◌, inl, inr, arith}
use Rattle.std.proofs.lemmas.Bool.{eqb-false}
use Rattle.systems.specs.Questions.{Question}
use Rattle.format.specs.declared.Shape.{Shape}
use Rattle.format.specs.Format.{operands}
use Rattle.format.specs.Faults.{Announced, after, NoByte, CutShort, UnknownByte, OutOfPlace, UnfitHead}
use Rattle.format.specs.Faults.{ConstantTooMany, ClauseTooMany, NamesNothing, ForeignClause}

-- a number for each sort of shape
abbrev pub sort : Shape → ℕ
sort Shape.End = 0
sort Shape.Head = 1
sort Shape.Constant = 2
sort (Shape.Clause σ t) = 3

-- one shape at most is announced
pub one_shape : {s : List ℕ} {at : ℕ} {h h' : Shape} → Announced s at h → Announced s at h' → h ≡ h'
one_shape {h} {h'} a b = let e : Some h ≡ Some h' = sym a.known ∙ b.known in cc

-- a byte that announces a shape is there and is known, and not cut short where its operands are there
module _ {s : List ℕ} {at : ℕ} {h : Shape} (a : Announced s at h) where
  pub byte_there : NoByte s at → ⊥
  byte_there z = omega (arith, a.there)

  pub byte_known : UnknownByte s at → ⊥
  byte_known u =
      let e : Some h ≡ None = sym a.known ∙ u.1 in
      let z : ◌≡◌ {A = ℕ} 0 1 = cc in
      omega arith

  pub not_cut : after at h ≤ length s → CutShort s at → ⊥
  not_cut l c = omega (arith, ap operands (one_shape a c.1), c.2)

  -- a shape of another sort is not
  pub other : (h' : Shape) → eqb (sort h) (sort h') ≡ false → Announced s at h' → ⊥
  other h' e b = eqb-false (sort h) (sort h') e (ap sort (one_shape a b))

  pub no_head : eqb (sort h) 1 ≡ false → UnfitHead s at → ⊥
  no_head e b = other Shape.Head e b.0

-- nor is a fault of another command so
module _ {s : List ℕ} {at : ℕ} (q : Question) {h : Shape} (a : Announced s at h) where
  pub no_constant : eqb (sort h) 2 ≡ false → ConstantTooMany s at q → ⊥
  no_constant e b = other a Shape.Constant e b.0

  pub in_place : eqb (sort h) 1 ≡ false → eqb (sort h) 2 ≡ false → OutOfPlace s at q → ⊥
  in_place e f (inl b) = other a Shape.Head e b
  in_place e f (inr b) = other a Shape.Constant f b.0

  pub no_foreign : eqb (sort h) 3 ≡ false → ForeignClause s at q → ⊥
  no_foreign e b = other a (Shape.Clause b.0 b.1) e b.2

  pub no_clause_lem : eqb (sort h) 3 ≡ false → ClauseTooMany s at q → ⊥
  no_clause_lem e b = other a (Shape.Clause b.0 b.1) e b.2

  pub no_term : eqb (sort h) 3 ≡ false → NamesNothing s at q → ⊥
  no_term e b = other a (Shape.Clause b.0 b.1) e b.3
