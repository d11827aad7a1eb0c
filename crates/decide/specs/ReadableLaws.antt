-- What stands for a question can be read. Assumes nothing.
use Rattle.std.specs.Prelude.{◌≡◌, Bool, cond, List, ◌⊎◌, ℕ, ◌+◌, ◌-◌, ◌*◌, ◌/◌, ◌%◌, ◌≤◌, ◌<◌, get_or}
use Rattle.std.proofs.Math.Path.{refl}
use Rattle.std.proofs.Math.Bool.{true, false}
use Rattle.std.proofs.Common.{inl, inr, mod-lt, arith, ltb→lt}
use Rattle.std.proofs.Math.Decide.{ℕ_discrete}
use Rattle.std.proofs.Math.Dec.{T, ltb}
use borrow.Author.Tests.{ltb-false}
use Rattle.shares.specs.Parts.{empty_part, full_part}
use Rattle.systems.specs.Questions.{Question}
use Rattle.words.specs.Clause.{clause_test, Clauses}
use Rattle.format.specs.Format.{names}
use Rattle.format.specs.Stored.{section_start, four_at, Stored, count_of, part_named, StoredClause, defined_by, Stands}
use Rattle.format.proofs.KeepingLaws.{part_cases, parts_small}
use Rattle.format.specs.SectionLaws.{section_room, variables_le}
use Rattle.format.specs.declared.Section.{Section}
use Rattle.format.specs.declared.Section.TheVariants.{FirstPositive, FirstDisequation, SecondPositive}
use Rattle.format.specs.declared.Section.TheVariants.{SecondDisequation}
use Rattle.beside.specs.Beside.{ReadsFree, Readable}

-- one of four bytes
one_of_four : (l : List ℕ) (p r : ℕ) → r < 4 → get_or l p 0 < 64 → get_or l (p + 1) 0 < 64 → get_or l (p + 2) 0 < 64
    → get_or l (p + 3) 0 < 64 → get_or l (p + r) 0 < 64
one_of_four l p r m b₀ b₁ b₂ b₃ = pick (ℕ_discrete r 0) (ℕ_discrete r 1) (ℕ_discrete r 2)
  where
    pick : Dec (r ≡ 0) → Dec (r ≡ 1) → Dec (r ≡ 2) → get_or l (p + r) 0 < 64
    pick (yes e) _ _ = let q : p + r ≡ p = omega arith in rw q b₀
    pick (no _) (yes e) _ = rw e b₁
    pick (no _) (no _) (yes e) = rw e b₂
    pick (no u) (no v) (no w) = let e : r ≡ 3 = omega arith in rw e b₃

-- ---- a clause reads the terms that it names, and no others

module _ (n k : ℕ) (x y : ℕ → Bool) (low : (t : ℕ) → t < n → x t ≡ y t) (high : (t : ℕ) → 12 ≤ t → x t ≡ y t) where
  -- one that names one of n variables or a constant
  named_same : (t : ℕ) → T (names n k t) → x t ≡ y t
  unfolding names
  named_same t = go (ltb t 32) refl
    where
      go : (v : Bool) → ltb t 32 ≡ v → T (cond v (ltb t n) (ltb (t - 32) k)) → x t ≡ y t
      go true e d = low t (ltb→lt t n d)
      go false e d = high t (omega (arith, ltb-false t 32 e))

  -- or that is no term's
  part_same : (t : ℕ) → T (part_named n k t) → x t ≡ y t
  part_same t d = go (part_cases n k t d)
    where
      go : (t ≡ empty_part) ⊎ ((t ≡ full_part) ⊎ T (names n k t)) → x t ≡ y t
      go (inl e) = high t (omega arith)
      go (inr (inl e)) = high t (omega arith)
      go (inr (inr u)) = named_same t u

reads_free : (l : List ℕ) (n k at : ℕ) → StoredClause n k (four_at l at) → ReadsFree l n at
unfolding clause_test
reads_free l n k at C x y low high =
    rw (part_same n k x y low high _ C.first, part_same n k x y low high _ C.second, part_same n k x y low high _ C.sum)
    refl

-- ---- what stands for a question

module _ {kind : ℕ} (x : Stored) (q : Question) (St : Stands kind x q) where
  section_clauses : (σ : Section) → Clauses x.clauses (section_start σ) (count_of x.counts σ)
  section_clauses σ = record { room = omega (arith, section_room σ, St.counted σ); terms = small }
    where
      small : (k : ℕ) → k < 4 * count_of x.counts σ → get_or x.clauses (section_start σ + k) 0 < 64
      small k l =
          let C = St.clauses σ (k / 4) (omega arith) in
          let B = parts_small _ _ _ C (omega (arith, variables_le x.free x.own σ, St.variables))
          (omega (arith, St.constant_counted)) in
          let e : section_start σ + k ≡ section_start σ + 4 * (k / 4) + k % 4 = omega arith in
          rw e (one_of_four x.clauses (section_start σ + 4 * (k / 4)) (k % 4) (mod-lt k (omega arith))
          (omega (arith, C.form)) B.0 B.1 B.2)

  pub readable : Readable x.clauses x.counts x.free x.own
  readable = record {
    variables = St.variables;
    first_positive = section_clauses FirstPositive;
    first_disequation = section_clauses FirstDisequation;
    second_positive = section_clauses SecondPositive;
    second_disequation = section_clauses SecondDisequation;
    positive_free = λ k l. reads_free x.clauses x.free (defined_by q) (0 + 4 * k) (St.clauses FirstPositive k l);
    disequation_free = λ k l. reads_free x.clauses x.free (defined_by q) (256 + 4 * k)
        (St.clauses FirstDisequation k l);
    few = (St.counted FirstDisequation, St.counted SecondDisequation);
  }
