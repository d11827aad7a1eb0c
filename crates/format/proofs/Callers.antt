-- What a caller of the reader may rely on: its answer, and what is stored of the question. Assumes nothing.
use Rattle.std.specs.Prelude.{◌≡◌, refl, List, [], ◌∷◌, ◌++◌, ◌⊎◌, ℕ, zero, suc, ◌+◌, ◌*◌, ◌<◌, get_or}
use Rattle.std.proofs.Common.{sym, ap, ◌∙◌, inl, inr, eq-or-lt_of_le, le_of_suc-le-suc, not-suc-le-zero, arith}
use Rattle.std.proofs.Math.ListN.{get_or-append}
use Rattle.std.proofs.lemmas.List.{get_or_at}
use Rattle.systems.specs.Questions.{Kind, satisfiability, entailment, Question, WellFormed}
use Rattle.systems.specs.AtLeaves.{LeafReading}
use Rattle.format.specs.declared.Question.{Question as Held}
use Rattle.format.specs.Numbers.{kind_value}
use Rattle.format.specs.Format.{Result, refused, accepted, read}
use Rattle.format.specs.Stored.{kind_number, reading_from, four_at, readings_at, Stored, stored_of, Stands}
use Rattle.format.specs.Stored.{refused_with, held, reading_of}
use Rattle.format.proofs.FormatLaws.{accepted_formed}
use Rattle.format.proofs.KeepingLaws.{readings_length}

-- ---- the answer

-- a question is handed over: the bytes are those of one, and what is stored stands for it
pub record Taken (s : List ℕ) (x : Held) (clauses : List ℕ) : Type 0 where
  pub question : Question
  pub read : read s ≡ accepted question
  pub stands : Stands (kind_value x.kind) (stored_of x clauses) question
  pub formed : WellFormed question

pub answer_taken : (s : List ℕ) (x : Held) → held x ≡ reading_of (read s) → (clauses : List ℕ)
    → ((q : Question) → read s ≡ accepted q → Stands (kind_value x.kind) (stored_of x clauses) q) → Taken s x clauses
answer_taken s x e clauses d = pick (read s) refl e
  where
    pick : (o : Result) → read s ≡ o → held x ≡ reading_of o → Taken s x clauses
    pick (accepted q) h b = record { question = q; read = h; stands = d q h; formed = accepted_formed s q h }
    pick (refused n p) h b = let z : ◌≡◌ {A = ℕ} 0 1 = cc in absurd (omega arith)

-- a refusal: its number and its place are those of the definition
pub answer_refused : (s : List ℕ) (n place : ℕ) → refused_with n place ≡ reading_of (read s) → read s ≡ refused n place
answer_refused s n place e = pick (read s) refl e
  where
    pick : (o : Result) → read s ≡ o → refused_with n place ≡ reading_of o → read s ≡ refused n place
    pick (accepted q) h b = let z : ◌≡◌ {A = ℕ} 0 1 = cc in absurd (omega arith)
    pick (refused m p) h b =
        let k : n ≡ m = cc in
        let l : place ≡ p = cc in
        rw (k, l) h

-- ---- the levels of the constants, and the kind

module _ {k : ℕ} (x : Stored) (q : Question) (d : Stands k x q) where
  -- how many levels its constants have
  pub levels_are : q.constants.levels ≡ x.levels
  levels_are = ap (λ c. c.levels) d.constants

  pub kind_satisfiability : k ≡ 0 → q.kind ≡ satisfiability
  kind_satisfiability e = pick q.kind (sym d.kind ∙ e)
    where
      pick : (o : Kind) → kind_number o ≡ 0 → o ≡ satisfiability
      pick satisfiability f = refl
      pick entailment f = absurd (omega arith)

  pub kind_entailment : (k ≡ 0 → ⊥) → q.kind ≡ entailment
  kind_entailment e = pick q.kind d.kind
    where
      pick : (o : Kind) → k ≡ kind_number o → o ≡ entailment
      pick satisfiability f = absurd (e f)
      pick entailment f = refl

-- ---- clauses in bytes

-- the reading of clause number i of n that start at an offset
pub readings_at_lem : (l : List ℕ) (start n i : ℕ) (t : LeafReading) → i < n
    → get_or (readings_at l start n) i t ≡ reading_from (four_at l (start + 4 * i))
unfolding readings_at
readings_at_lem l start zero i t h = absurd (not-suc-le-zero h)
readings_at_lem l start (suc n) i t h = pick (eq-or-lt_of_le (le_of_suc-le-suc h)) (readings_at_lem l start n i t)
  where
    pick : (i ≡ n) ⊎ (i < n) → (i < n → get_or (readings_at l start n) i t ≡ reading_from (four_at l (start + 4 * i)))
        → get_or (readings_at l start n ++ (reading_from (four_at l (start + 4 * n)) ∷ [])) i t
        ≡ reading_from (four_at l (start + 4 * i))
    pick (inl e) ih =
        get_or_at (readings_at l start n) (reading_from (four_at l (start + 4 * n))) [] t i (readings_length l start n
        ∙ sym e) ∙ ap (λ j. reading_from (four_at l (start + 4 * j))) (sym e)
    pick (inr k) ih = get_or-append (readings_at l start n) (reading_from (four_at l (start + 4 * n)) ∷ []) t i
        (rw readings_length k) ∙ ih k
