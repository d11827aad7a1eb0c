-- Laws of sections: what a clause or a constant more does to them. Assumes nothing.
use Rattle.std.specs.Prelude.{◌≡◌, refl, List, [], ◌∷◌, ◌++◌, ◌⊎◌, ◌≢◌, ℕ, suc, ◌+◌, ◌*◌, ◌≤◌, ◌<◌, length}
use Rattle.std.proofs.Common.{ap, ◌∙◌, append-nil, inl, inr, arith, length-append}
use Rattle.systems.specs.Clauses.{Atom, positive, negated, System, positives, disequations}
use Rattle.systems.specs.Questions.{Question}
use Rattle.format.specs.Worked
use Rattle.format.specs.declared.Section.{Section}
use Rattle.format.specs.declared.Section.TheVariants.{FirstPositive, FirstDisequation, SecondPositive}
use Rattle.format.specs.declared.Section.TheVariants.{SecondDisequation}
use Rattle.format.specs.Format.{most_of, in_section, variables_for, with_clause, with_constant}
use Rattle.format.specs.Numbers.{section_number}
use Rattle.format.specs.Stored.{clause_bytes, section_start, count_of}
use Rattle.format.specs.Keeping.{next_slot}

-- ---- lists

pub positives_append : (s t : System) → positives (s ++ t) ≡ positives s ++ positives t
unfolding positives
positives_append [] t = refl
positives_append (positive a ∷ s) t = ap (λ l. a ∷ l) (positives_append s t)
positives_append (negated a ∷ s) t = positives_append s t

pub disequations_append : (s t : System) → disequations (s ++ t) ≡ disequations s ++ disequations t
unfolding disequations
disequations_append [] t = refl
disequations_append (positive a ∷ s) t = disequations_append s t
disequations_append (negated a ∷ s) t = ap (λ l. a ∷ l) (disequations_append s t)

-- each clause is positive or a disequation
pub both_counts : (s : System) → length s ≡ length (positives s) + length (disequations s)
unfolding positives disequations
both_counts [] = refl
both_counts (positive a ∷ s) = omega (arith, both_counts s)
both_counts (negated a ∷ s) = omega (arith, both_counts s)

-- ---- a clause more: its section has it at its end, and the others are as they were

pub added : (q : Question) (σ : Section) (a : Atom) → in_section (with_clause q σ a) σ ≡ in_section q σ ++ (a ∷ [])
unfolding positives disequations
added q FirstPositive a = positives_append q.first (positive a ∷ [])
added q FirstDisequation a = disequations_append q.first (negated a ∷ [])
added q SecondPositive a = positives_append q.second (positive a ∷ [])
added q SecondDisequation a = disequations_append q.second (negated a ∷ [])

positives_kept : (s : System) (a : Atom) → positives (s ++ (negated a ∷ [])) ≡ positives s
unfolding positives
positives_kept s a = positives_append s (negated a ∷ []) ∙ append-nil (positives s)

disequations_kept : (s : System) (a : Atom) → disequations (s ++ (positive a ∷ [])) ≡ disequations s
unfolding disequations
disequations_kept s a = disequations_append s (positive a ∷ []) ∙ append-nil (disequations s)

-- two sections apart: a clause more in one leaves the other, and so do its number and its bytes
pub record Apart (σ τ : Section) : Type 0 where
  pub kept : (q : Question) (a : Atom) → in_section (with_clause q σ a) τ ≡ in_section q τ
  pub number : section_number τ ≢ section_number σ
  pub clear : (section_start τ + 4 * most_of τ ≤ section_start σ) ⊎ (section_start σ + 4 * most_of σ ≤ section_start τ)

-- two sections are the same or apart
pub data Alike : Section → Section → Type 0 where
  same : {σ : Section} → Alike σ σ
  other : {σ τ : Section} → Apart σ τ → Alike σ τ

apart : (σ τ : Section) → ((q : Question) (a : Atom) → in_section (with_clause q σ a) τ ≡ in_section q τ)
    → section_number τ ≢ section_number σ
    → (section_start τ + 4 * most_of τ ≤ section_start σ) ⊎ (section_start σ + 4 * most_of σ ≤ section_start τ)
    → Alike σ τ
apart σ τ k n c = other (record { kept = k; number = n; clear = c })

pub alike : (σ τ : Section) → Alike σ τ
alike FirstPositive FirstPositive = same
alike FirstPositive FirstDisequation =
    apart FirstPositive FirstDisequation (λ q a. disequations_kept q.first a) (omega arith) (inr (omega arith))
alike FirstPositive SecondPositive = apart FirstPositive SecondPositive (λ q a. refl) (omega arith) (inr (omega arith))
alike FirstPositive SecondDisequation =
    apart FirstPositive SecondDisequation (λ q a. refl) (omega arith) (inr (omega arith))
alike FirstDisequation FirstPositive =
    apart FirstDisequation FirstPositive (λ q a. positives_kept q.first a) (omega arith) (inl (omega arith))
alike FirstDisequation FirstDisequation = same
alike FirstDisequation SecondPositive =
    apart FirstDisequation SecondPositive (λ q a. refl) (omega arith) (inr (omega arith))
alike FirstDisequation SecondDisequation =
    apart FirstDisequation SecondDisequation (λ q a. refl) (omega arith) (inr (omega arith))
alike SecondPositive FirstPositive = apart SecondPositive FirstPositive (λ q a. refl) (omega arith) (inl (omega arith))
alike SecondPositive FirstDisequation =
    apart SecondPositive FirstDisequation (λ q a. refl) (omega arith) (inl (omega arith))
alike SecondPositive SecondPositive = same
alike SecondPositive SecondDisequation =
    apart SecondPositive SecondDisequation (λ q a. disequations_kept q.second a) (omega arith) (inr (omega arith))
alike SecondDisequation FirstPositive =
    apart SecondDisequation FirstPositive (λ q a. refl) (omega arith) (inl (omega arith))
alike SecondDisequation FirstDisequation =
    apart SecondDisequation FirstDisequation (λ q a. refl) (omega arith) (inl (omega arith))
alike SecondDisequation SecondPositive =
    apart SecondDisequation SecondPositive (λ q a. positives_kept q.second a) (omega arith) (inl (omega arith))
alike SecondDisequation SecondDisequation = same

-- ---- a constant or a clause more, and what stays

pub constant_sections : (q : Question) (x : ℕ) (σ : Section) → in_section (with_constant q x) σ ≡ in_section q σ
constant_sections q x FirstPositive = refl
constant_sections q x FirstDisequation = refl
constant_sections q x SecondPositive = refl
constant_sections q x SecondDisequation = refl

-- a question with another clause, and the same but for its systems
pub record Keeps (q r : Question) : Type 0 where
  pub kind : r.kind ≡ q.kind
  pub free : r.free ≡ q.free
  pub own : r.own ≡ q.own
  pub constants : r.constants ≡ q.constants
  pub clauses : length r.first + length r.second ≡ suc (length q.first + length q.second)

pub clause_keeps : (q : Question) (σ : Section) (a : Atom) → Keeps q (with_clause q σ a)
clause_keeps q FirstPositive a =
    record { kind = refl; free = refl; own = refl; constants = refl; clauses = simp length-append (omega arith) }
clause_keeps q FirstDisequation a =
    record { kind = refl; free = refl; own = refl; constants = refl; clauses = simp length-append (omega arith) }
clause_keeps q SecondPositive a =
    record { kind = refl; free = refl; own = refl; constants = refl; clauses = simp length-append (omega arith) }
clause_keeps q SecondDisequation a =
    record { kind = refl; free = refl; own = refl; constants = refl; clauses = simp length-append (omega arith) }

-- ---- where sections lie

pub section_below : (σ : Section) → section_number σ < 4
section_below FirstPositive = omega arith
section_below FirstDisequation = omega arith
section_below SecondPositive = omega arith
section_below SecondDisequation = omega arith

-- a section's bytes lie within the clauses' bytes
pub section_room : (σ : Section) → section_start σ + 4 * most_of σ ≤ clause_bytes
section_room FirstPositive = omega arith
section_room FirstDisequation = omega arith
section_room SecondPositive = omega arith
section_room SecondDisequation = omega arith

-- and so do the four bytes of its next clause
pub slot_fits : (counts : List ℕ) (σ : Section) → count_of counts σ < most_of σ → next_slot counts σ + 4 ≤ clause_bytes
slot_fits counts σ h = omega (arith, section_room σ)

-- no section names more variables than there are
pub variables_le : (free own : ℕ) (σ : Section) → variables_for free own σ ≤ free + own
variables_le free own FirstPositive = omega arith
variables_le free own FirstDisequation = omega arith
variables_le free own SecondPositive = omega arith
variables_le free own SecondDisequation = omega arith
