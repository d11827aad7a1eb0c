-- The word of the constants that are named, with one clause more. Assumes nothing.
use Rattle.std.specs.Prelude.{◌≡◌, refl, Bool, true, false, cond, ◌||◌, [], ◌∷◌, ◌++◌, ℕ, ◌+◌, ◌-◌, ◌/◌, ◌^◌, ◌<◌, ltb}
use Rattle.std.proofs.Common.{sym, ap, ap₂, ◌∙◌, arith}
use Rattle.std.proofs.Math.Bool.{or-false, or_assoc}
use Rattle.std.proofs.Math.Decide.{ℕ_discrete}
use Rattle.std.specs.Int.Bits.{bit_or}
use Rattle.std.proofs.lemmas.Nat.{or_lt}
use Rattle.std.proofs.Math.Dec.{eqb}
use Rattle.std.proofs.Math.Pow.{pow-lt}
use borrow.Author.Tests.{ltb-true, eq-eqb, ne_eqb}
use Rattle.shares.specs.Constant.{bit}
use Rattle.shares.specs.BitLaws.{bit_of_or, bits_same, number_lt, bit_number}
use Rattle.shares.specs.BitParts.{bit_shift}
use Rattle.shares.specs.Shifts.{power_bit}
use Rattle.shares.specs.Parts.{empty_part, full_part}
use Rattle.systems.specs.Clauses.{Term, variable, constant, Atom, joined, equal, is_full, is_empty, together, Clause}
use Rattle.systems.specs.Clauses.{positive, negated}
use Rattle.systems.specs.Questions.{Question, InAtom, terms_of, clause_terms, named_in, named_by, is_among}
use Rattle.systems.specs.AtLeaves.{of, read_as}
use Rattle.systems.specs.NamedLaws.{among_append, among_more}
use Rattle.format.specs.declared.Section.{Section}
use Rattle.format.specs.declared.Section.TheVariants.{FirstPositive, FirstDisequation, SecondPositive}
use Rattle.format.specs.declared.Section.TheVariants.{SecondDisequation}
use Rattle.format.specs.declared.LeafJoin.{LeafJoin}
use Rattle.format.specs.Format.{most_constants, term_of, with_first, with_second, with_clause}
use Rattle.format.specs.Stored.{part_byte, four_of, named_word}
use Rattle.format.specs.Keeping.{constants_in, PartsSmall}

-- ---- the bytes of a clause

-- a variable's number is below those of the constants
abbrev pub LowTerm : Term → Type 0
LowTerm (variable v) = v < 0x20
LowTerm (constant i) = Unit {0}

pub low_term : (t : ℕ) → LowTerm (term_of t)
unfolding term_of
low_term t = pick (ltb t 0x20) refl
  where
    pick : (b : Bool) → ltb t 0x20 ≡ b → LowTerm (cond b (variable t) (constant (t - 0x20)))
    pick true e = ltb-true t 0x20 e
    pick false e = tt

module _ (i : ℕ) where
  -- whether a part's byte is that of constant i
  abbrev at : ℕ → Bool
  at t = eqb (0x20 + i) t

  term_byte_lem : (t : Term) → LowTerm t → at (part_byte (of t)) ≡ is_among i (t ∷ [])
  unfolding is_among
  term_byte_lem (variable v) l = ne_eqb (0x20 + i) v (omega arith)
  term_byte_lem (constant j) l = go (ℕ_discrete i j)
    where
      go : Dec (i ≡ j) → eqb (0x20 + i) (0x20 + j) ≡ (eqb i j || false)
      go (yes e) = rw (eq-eqb (0x20 + i) (0x20 + j) (omega arith), eq-eqb i j e)
      go (no n) = rw (ne_eqb (0x20 + i) (0x20 + j) (omega arith), ne_eqb i j n)

  at_empty : at empty_part ≡ false
  at_empty = ne_eqb (0x20 + i) empty_part (omega arith)

  at_full : at full_part ≡ false
  at_full = ne_eqb (0x20 + i) full_part (omega arith)

  -- whether one of a join's parts is constant i
  abbrev has : LeafJoin → Bool
  has j = at j.first || (at j.second || at j.sum)

  -- the constants of an atom are those of its reading
  atom_bytes : (a : Atom) → InAtom LowTerm a → has (four_of (read_as a)) ≡ is_among i (terms_of a)
  atom_bytes (joined a b c) g =
      ap₂ ◌||◌ (term_byte_lem a g.0) (ap₂ ◌||◌ (term_byte_lem b g.1) (term_byte_lem c g.2)
      ∙ sym (among_append i (b ∷ []) (c ∷ [])))
      ∙ sym (among_append i (a ∷ []) (b ∷ c ∷ []))
  atom_bytes (equal a b) g = rw at_empty (ap₂ ◌||◌ (term_byte_lem a g.0) (term_byte_lem b g.1)
      ∙ sym (among_append i (a ∷ []) (b ∷ [])))
  atom_bytes (is_full a) g = rw (at_empty, at_full) (or-false (at (part_byte (of a))) ∙ term_byte_lem a g)
  atom_bytes (is_empty a) g = rw at_empty (or-false (at (part_byte (of a))) ∙ term_byte_lem a g)
  atom_bytes (together a b) g =
      rw at_empty (ap₂ ◌||◌ (term_byte_lem a g.0) (or-false (at (part_byte (of b))) ∙ term_byte_lem b g.1)
      ∙ sym (among_append i (a ∷ []) (b ∷ [])))

  -- ---- one clause more

  later : (a b c : Bool) → ((a || b) || c) ≡ ((a || c) || b)
  later true b c = refl
  later false true true = refl
  later false true false = refl
  later false false true = refl
  later false false false = refl

  first_more : (q : Question) (c : Clause)
      → is_among i (named_by (with_first q c)) ≡ (is_among i (named_by q) || is_among i (clause_terms c))
  first_more q c =
      among_append i (named_in (q.first ++ (c ∷ []))) (named_in q.second)
      ∙ ap (λ b. b || is_among i (named_in q.second)) (among_more i q.first c)
      ∙ later (is_among i (named_in q.first)) (is_among i (clause_terms c)) (is_among i (named_in q.second))
      ∙ ap (λ b. b || is_among i (clause_terms c)) (sym (among_append i (named_in q.first) (named_in q.second)))

  second_more : (q : Question) (c : Clause)
      → is_among i (named_by (with_second q c)) ≡ (is_among i (named_by q) || is_among i (clause_terms c))
  second_more q c =
      among_append i (named_in q.first) (named_in (q.second ++ (c ∷ [])))
      ∙ ap (◌||◌ (is_among i (named_in q.first))) (among_more i q.second c)
      ∙ sym (or_assoc (is_among i (named_in q.first)) (is_among i (named_in q.second)) (is_among i (clause_terms c)))
      ∙ ap (λ b. b || is_among i (clause_terms c)) (sym (among_append i (named_in q.first) (named_in q.second)))

  pub among_clause : (q : Question) (σ : Section) (a : Atom)
      → is_among i (named_by (with_clause q σ a)) ≡ (is_among i (named_by q) || is_among i (terms_of a))
  among_clause q FirstPositive a = first_more q (positive a)
  among_clause q FirstDisequation a = first_more q (negated a)
  among_clause q SecondPositive a = second_more q (positive a)
  among_clause q SecondDisequation a = second_more q (negated a)

-- the word with it
pub named_more : (q : Question) (σ : Section) (a : Atom) → InAtom LowTerm a
    → bit_or (named_word q) (constants_in (four_of (read_as a))) ≡ named_word (with_clause q σ a)
unfolding named_word constants_in
named_more q σ a g =
    let n = most_constants in
    bits_same n _ _ (or_lt n _ _ (number_lt n _) (number_lt n _)) (number_lt n _) (λ i l.
    bit_of_or (named_word q) (constants_in (four_of (read_as a))) i
    ∙ ap₂ ◌||◌ (bit_number n _ i l) (bit_number n _ i l ∙ atom_bytes i a g)
    ∙ sym (among_clause i q σ a)
    ∙ sym (bit_number n _ i l))

-- ---- the constants among the parts of a join, as three bits and a shift give them

pub constants_are : (j : LeafJoin) → PartsSmall j → bit_or (bit_or (2 ^ j.first) (2 ^ j.second)) (2 ^ j.sum) / 2 ^ 32
    ≡ constants_in j
unfolding constants_in
constants_are j (l, m, n) =
    bits_same most_constants _ _
    (omega (
      arith,
      or_lt 64 (bit_or a b) c (or_lt 64 a b (pow-lt {j = 64} l) (pow-lt {j = 64} m))
          (pow-lt {j = 64} n),
    )) (number_lt most_constants _) (λ i k.
    bit_shift _ 32 i
    ∙ bit_of_or (bit_or a b) c (32 + i)
    ∙ ap (λ x. x || bit c (32 + i)) (bit_of_or a b (32 + i))
    ∙ or_assoc (bit a (32 + i)) (bit b (32 + i)) (bit c (32 + i))
    ∙ ap₂ ◌||◌ (power_bit j.first (32 + i)) (ap₂ ◌||◌ (power_bit j.second (32 + i)) (power_bit j.sum (32 + i)))
    ∙ sym (bit_number most_constants _ i k))
  where
    a : ℕ
    a = 2 ^ j.first

    b : ℕ
    b = 2 ^ j.second

    c : ℕ
    c = 2 ^ j.sum
