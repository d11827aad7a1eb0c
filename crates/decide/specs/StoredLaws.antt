-- The tests of a question's stored clauses are the readings of its atoms at the leaves. Assumes nothing.
use Rattle.std.specs.Prelude.{◌≡◌, Bool, cond, List, [], ◌∷◌, ◌++◌, map, ◌⊎◌, eqb, get_or, take}
use Rattle.std.proofs.Math.Path.{refl, sym, ap, ap₂}
use Rattle.std.proofs.Common.{◌∙◌, subst, inl, inr, le_of_suc-le-suc, not-suc-le-zero, arith, lit<, get_or-take}
use Rattle.std.proofs.Math.Bool.{true, false, ◌&&◌, and-true, and_assoc}
use Rattle.std.proofs.Math.Option.{none, some}
use Prim.Native.Nat.{ℕ, zero, suc, ◌+◌, ◌-◌, ◌*◌, ◌^◌, ◌≤◌, ◌<◌}
use Rattle.std.proofs.Math.Dec.{T, ltb, ltb→lt}
use Rattle.shares.specs.Test.{is_true}
use Rattle.shares.specs.Parts.{empty_part, full_part}
use Rattle.shares.specs.Below.{every_below, one}
use Rattle.shares.specs.Blocks.{first_of}
use Rattle.shares.specs.Tree.{is_way, leaf_test}
use Rattle.shares.specs.declared.Way.TheVariants.{Holds}
use Rattle.shares.specs.Constant.{bit}
use Rattle.shares.specs.BitLaws.{bit_number}
use Rattle.leaves.specs.Choices.{Row, nil, cons, at}
use Rattle.leaves.specs.RowNumbers.{value}
use Rattle.leaves.specs.ChoiceLaws.{value_lt}
use Rattle.systems.specs.Clauses.{Term, variable, constant, Atom, Constants}
use Rattle.systems.specs.AtLeaves.{LeafReading, joins_to, apart, read_as, reading_way, term_at, part_at, atom_at}
use Rattle.systems.specs.AtLeaves.{all_at}
use Rattle.systems.proofs.AtomLaws.{InPart, InReading}
use Rattle.words.specs.Clause.{test_way, clause_test, all_clauses, term_value}
use Rattle.words.specs.Choices.{values_at}
use Rattle.shares.specs.BitParts.{bit_low, bit_high}
use Rattle.shares.specs.BelowLaws.{every_more}
use Rattle.words.specs.TermLaws.{value_constant, value_none}
use Rattle.format.specs.Format.{term_of, names}
use Rattle.format.specs.declared.LeafJoin.{LeafJoin}
use Rattle.format.specs.Stored.{part_of, reading_from, four_at, readings_at, Stored, part_named, StoredClause}
use Rattle.format.proofs.KeepingLaws.{part_of_lem, empty_part_lem, full_part_lem, part_cases}
use Rattle.steps.specs.Tests.{leaf_values}

-- ---- a row's values are the digits of its number

one_digit : (b : Bool) → bit (one b) 0 ≡ b
unfolding bit
one_digit true = refl
one_digit false = refl

pub row_digit : (n : ℕ) (v : Row Bool n) (t : ℕ) → t < n → at false v t ≡ bit (value v) (n - 1 - t)
unfolding at value
row_digit zero nil t l = absurd (not-suc-le-zero l)
row_digit (suc n) (cons b v) zero l =
    sym (ap (bit (one b * 2 ^ n + value v)) (omega arith) ∙ bit_high n (one b) (value v) (value_lt n v) 0 ∙ one_digit b)
row_digit (suc n) (cons b v) (suc t) l =
    row_digit n v t (le_of_suc-le-suc l)
    ∙ sym (ap (bit (one b * 2 ^ n + value v)) (omega arith)
    ∙ bit_low n (one b) (value v) (value_lt n v) (n - 1 - t) (omega arith))

-- ---- readings in a list

-- a reading holds at a leaf
abbrev pub reading_at : ℕ → Constants → ℕ → (ℕ → Bool) → LeafReading → Bool
reading_at h cs b X t = is_way Holds (reading_way (part_at h cs b X) t)

-- all of some readings
abbrev pub all_readings : ℕ → Constants → ℕ → (ℕ → Bool) → List LeafReading → Bool
all_readings h cs b X [] = true
all_readings h cs b X (t ∷ l) = reading_at h cs b X t && all_readings h cs b X l

-- all of some atoms, as they read
pub all_read : (h : ℕ) (cs : Constants) (b : ℕ) (X : ℕ → Bool) (l : List Atom)
    → all_at h cs b X l ≡ all_readings h cs b X (map read_as l)
unfolding all_at
all_read h cs b X [] = refl
all_read h cs b X (a ∷ l) = ap (λ y. atom_at h cs b X a && y) (all_read h cs b X l)

all_append : (h : ℕ) (cs : Constants) (b : ℕ) (X : ℕ → Bool) (l : List LeafReading) (t : LeafReading)
    → all_readings h cs b X (l ++ (t ∷ [])) ≡ (all_readings h cs b X l && reading_at h cs b X t)
all_append h cs b X [] t = and-true (reading_at h cs b X t)
all_append h cs b X (x ∷ l) t = ap (λ y. reading_at h cs b X x && y) (all_append h cs b X l t)
    ∙ sym (and_assoc (reading_at h cs b X x) (all_readings h cs b X l) (reading_at h cs b X t))

-- ---- terms

-- the constants as the model has them, so many of them
abbrev pub stored_constants : Stored → ℕ → Constants
stored_constants S d = record { levels = S.levels; numbers = take d S.constants }

-- the bit of a term that is a constant is set among those that are named
abbrev pub Kept : ℕ → Term → Type 0
Kept named (variable v) = Unit {0}
Kept named (constant i) = T (bit named i)

module _ (S : Stored) (d h b : ℕ) (few : d ≤ 32) where
  -- the values of the constants
  leaf_bit : (i : ℕ) → i < d → T (bit S.named i)
      → bit (leaf_values S h b) i ≡ bit (get_or S.constants i 0) (first_of h S.levels b)
  unfolding values_at
  leaf_bit i l t = bit_number 64 _ i (omega arith) ∙ rw (is_true (bit S.named i) t)

  -- variables have the values X in the model, and choice z has them as digits
  module _ (n m : ℕ) (few-variables : n + m ≤ 12) (k : ℕ) (few_named : k ≤ 12) (X : ℕ → Bool) (z : ℕ)
      (values : (t : ℕ) → t < k → X t ≡ term_value n m (leaf_values S h b) z t) where
    term_same : (t : ℕ) → T (names k d t) → Kept S.named (term_of t) → n + m ≤ 32
        → term_at h (stored_constants S d) b X (term_of t) ≡ term_value n m (leaf_values S h b) z t
    unfolding term_of names term_at
    term_same t = cond_split (ltb t 32) refl
      where
        cond_split : (v : Bool) → ltb t 32 ≡ v → T (cond v (ltb t k) (ltb (t - 32) d))
            → Kept S.named (cond v (variable t) (constant (t - 32))) → n + m ≤ 32
            → term_at h (stored_constants S d) b X (cond v (variable t) (constant (t - 32)))
            ≡ term_value n m (leaf_values S h b) z t
        cond_split true e f p u = values t (ltb→lt t k f)
        cond_split false e f p u =
            let l : t - 32 < d = ltb→lt (t - 32) d f in
            let g : 32 ≤ t = borrow.Author.Tests.ltb-false t 32 e in
            ap (λ x. bit x (first_of h S.levels b)) (get_or-take d S.constants (t - 32) 0 l)
            ∙ sym (leaf_bit (t - 32) l p)
            ∙ sym (value_constant n m (leaf_values S h b) z t (omega arith) g)

    -- a part's byte has the part's value
    part_same : (t : ℕ) → T (part_named k d t) → InPart (Kept S.named) (part_of t)
        → part_at h (stored_constants S d) b X (part_of t) ≡ term_value n m (leaf_values S h b) z t
    unfolding part_at
    part_same t f = go (part_cases k d t f)
      where
        go : (t ≡ empty_part) ⊎ ((t ≡ full_part) ⊎ T (names k d t)) → InPart (Kept S.named) (part_of t)
            → part_at h (stored_constants S d) b X (part_of t) ≡ term_value n m (leaf_values S h b) z t
        go (inl e) p = rw (e, empty_part_lem)
            (sym (value_none n m (leaf_values S h b) z empty_part (omega arith) (lit< tt)))
        go (inr (inl e)) p = rw (e, full_part_lem)
            (sym (value_none n m (leaf_values S h b) z full_part (omega arith) (lit< tt)))
        go (inr (inr u)) p = let e = part_of_lem k d t few_named u in
            rw e (term_same t u (subst (InPart (Kept S.named)) e p) (omega arith))

    -- the test of a stored clause is the reading that its bytes stand for
    pub reading_same : (at : ℕ) → StoredClause k d (four_at S.clauses at)
        → InReading (Kept S.named) (reading_from (four_at S.clauses at))
        → reading_at h (stored_constants S d) b X (reading_from (four_at S.clauses at))
        ≡ clause_test S.clauses (term_value n m (leaf_values S h b) z) at
    unfolding reading_from clause_test test_way reading_way
    reading_same at C p = go (eqb (get_or S.clauses at 0) 0) p
      where
        j : LeafJoin
        j = four_at S.clauses at

        val : ℕ → Bool
        val = term_value n m (leaf_values S h b) z

        go : (v : Bool) → InReading (Kept S.named)
            (cond v (joins_to (part_of j.first) (part_of j.second) (part_of j.sum))
            (apart (part_of j.first) (part_of j.second)))
            → reading_at h (stored_constants S d) b X
            (cond v (joins_to (part_of j.first) (part_of j.second) (part_of j.sum))
            (apart (part_of j.first) (part_of j.second)))
            ≡ is_way Holds (leaf_test (val j.first) (val j.second) (cond v (some (val j.sum)) none))
        go true g = rw (part_same j.first C.first g.0, part_same j.second C.second g.1, part_same j.sum C.sum g.2) refl
        go false g = rw (part_same j.first C.first g.0, part_same j.second C.second g.1) refl

    -- and so does a section
    pub section_same : (start count : ℕ) → ((i : ℕ) → i < count → StoredClause k d (four_at S.clauses (start + 4 * i)))
        → ((i : ℕ) → i < count → InReading (Kept S.named) (reading_from (four_at S.clauses (start + 4 * i))))
        → all_readings h (stored_constants S d) b X (readings_at S.clauses start count)
        ≡ all_clauses S.clauses (term_value n m (leaf_values S h b) z) start count
    unfolding readings_at all_clauses every_below
    section_same start zero C p = refl
    section_same start (suc count) C p =
        all_append h (stored_constants S d) b X (readings_at S.clauses start count)
        (reading_from (four_at S.clauses (start + 4 * count)))
        ∙ ap₂ ◌&&◌ (section_same start count (λ i l. C i (omega arith)) (λ i l. p i (omega arith)))
        (reading_same (start + 4 * count) (C count (omega arith)) (p count (omega arith)))
        ∙ sym (every_more count (λ i. clause_test S.clauses (term_value n m (leaf_values S h b) z) (start + 4 * i)))
