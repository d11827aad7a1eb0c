-- Laws of what is kept of a question: its counts, its faults, and one command more. Assumes nothing.
use Rattle.std.specs.Prelude.{◌≡◌, Bool, true, false, cond, ◌||◌, ◌⊎◌, ◌≢◌, ℕ, zero, suc, ◌+◌, ◌-◌, ◌*◌, ◌^◌, ◌≤◌, ◌<◌}
use Rattle.std.specs.Prelude.{eqb, ltb, leb, set, drop, replicate}
use Rattle.std.proofs.Math.Path.{refl, sym, ap, ap₂, subst}
use Rattle.std.proofs.Common.{◌∙◌, eq-or-lt_of_le, le_of_suc-le-suc, le_trans, arith, ltb-false, ne_eqb, ltb→lt, eqb→eq}
use Rattle.std.proofs.Common.{lit<, length-take, length-drop, take-append-drop, pow-add, pow_mono, take-suc-set}
use Rattle.std.proofs.Common.{get_or-drop, ext_get_or}
use mathlib.Core.List.{List, [], ◌∷◌, ◌++◌, map, map-append}
use Rattle.std.proofs.Math.Logic.{inl, inr}
use Rattle.std.proofs.Math.Numerals.{add-one}
use Rattle.std.specs.Int.Bits.{bit_or}
use Rattle.std.proofs.Math.Dec.{T}
use Rattle.std.proofs.Math.ListN.{length, get_or, take, length-set, length-append}
use Rattle.std.proofs.lemmas.List.{length-map, length-replicate, get_or-replicate}
use Rattle.std.proofs.Math.Seq.{get_or-set_same, get_or-set_other}
use Rattle.shares.specs.Constant.{constant_levels, number, bytes_at}
use Rattle.shares.specs.Parts.{empty_part, full_part}
use Rattle.shares.specs.Test.{or_right, or_cases}
use Rattle.systems.specs.Clauses.{Term, variable, constant}
use Rattle.systems.specs.Questions.{Kind, satisfiability, entailment, Question, Defined, InAtom, terms_of, named_by}
use Rattle.systems.specs.Questions.{is_among}
use Rattle.systems.specs.AtLeaves.{Part, of, always, LeafReading, joins_to, apart, read_as}
use Rattle.systems.proofs.AtomLaws.{InPart, InReading, in_reading}
use Rattle.systems.specs.NamedLaws.{atom_among}
use Rattle.format.specs.declared.Section.{Section}
use Rattle.format.specs.declared.Section.TheVariants.{FirstPositive, FirstDisequation, SecondPositive}
use Rattle.format.specs.declared.Section.TheVariants.{SecondDisequation}
use Rattle.format.specs.declared.Test.{Test}
use Rattle.format.specs.declared.LeafJoin.{LeafJoin}
use Rattle.format.specs.declared.Shape.{Shape}
use Rattle.std.specs.Prelude.{Option, Some, None}
use Rattle.format.specs.declared.Command.{Command}
use Rattle.format.specs.Format.{Step, Take, Refused}
use Rattle.format.specs.declared.Question.{Question as Struct}
use Rattle.format.specs.Format.{most_variables, most_constants, term_of, entry_of, operands, command_of, whole_at}
use Rattle.format.specs.Format.{read_at, most_of, in_section, names, variables_for, all_named, atom_of, is_foreign}
use Rattle.format.specs.Format.{constant_fault, fault, judged, with_clause, with_constant, taken}
use Rattle.format.specs.Numbers.{kind_value, section_number}
use Rattle.format.specs.declared.Kind.{Kind as HeldKind}
use Rattle.format.specs.declared.Kind.TheVariants.{Satisfiability, Entailment}
use Rattle.format.specs.Stored.{kind_number, kind_held, part_byte, four_of, join_for, part_of, reading_from}
use Rattle.format.specs.Stored.{clause_bytes, section_start, four_at, readings_at, Stored, stored, count_of, Counted}
use Rattle.format.specs.Stored.{part_named, StoredClause, StoredAt, defined_by, named_word, Stands, held_as}
use Rattle.format.specs.Stored.{clause_written, command_written}
use Rattle.format.specs.Keeping.{next_slot, kept_constants, constant_count, kept_clauses, clause_counts, constants_in}
use Rattle.format.specs.Keeping.{kept_names, PartsSmall, SmallIn, Slot, clause_total, foreign_to, fault_of, judged_of}
use Rattle.format.specs.SectionLaws.{both_counts, added, Apart, Alike, same, other, alike, constant_sections}
use Rattle.format.specs.SectionLaws.{clause_keeps, section_below, slot_fits, variables_le}
use Rattle.format.proofs.FormatLaws.{branch, ClauseFits, clause_fits, ConstantFits, constant_fits, in_test}
use Rattle.format.proofs.FormatLaws.{named_defined_lem}
use Rattle.format.specs.NameLaws.{LowTerm, low_term, among_clause, named_more}

-- ---- what a command of bytes holds

-- each is a byte
abbrev pub Bytes : List ℕ → Type 0
Bytes s = (i : ℕ) → get_or s i 0 < 2 ^ 8

number_fits : (l : List ℕ) → Bytes l → number l < 2 ^ (8 * length l)
unfolding number
number_fits [] h = omega arith
number_fits (b ∷ bs) h = omega (arith, number_fits bs (λ i. h (suc i)), h 0, power)
  where
    power : 2 ^ (8 * suc (length bs)) ≡ 2 ^ (8 * length bs) * 256
    power = ap (λ n. 2 ^ n) (omega arith) ∙ pow-add 2 (8 * length bs) 8

pub take_bytes : (n : ℕ) (l : List ℕ) → Bytes l → Bytes (take n l)
take_bytes zero l h j = omega arith
take_bytes (suc n) [] h j = omega arith
take_bytes (suc n) (a ∷ l) h zero = h zero
take_bytes (suc n) (a ∷ l) h (suc j) = take_bytes n l (λ i. h (suc i)) j

-- a constant fits its bytes
abbrev pub Proper : Command → Type 0
Proper Command.End = Unit {0}
Proper Command.Head = Unit {0}
Proper (Command.Constant x) = x < 2 ^ (8 * bytes_at constant_levels)
Proper (Command.Clause σ t a b c) = Unit {0}

abbrev pub ProperStep : Step → Type 0
ProperStep (Take c next) = Proper c
ProperStep (Refused n) = Unit {0}

pub command_proper : (s : List ℕ) → Bytes s → (i : ℕ) (h : Shape) → Proper (command_of s i h)
unfolding command_of
command_proper s h i Shape.End = tt
command_proper s h i Shape.Head = tt
command_proper s h i Shape.Constant =
    let l = take (bytes_at constant_levels) (drop i s) in
    let n : 8 * length l ≤ 8 * bytes_at constant_levels = simp length-take (omega arith) in
    le_trans (number_fits l (take_bytes (bytes_at constant_levels) (drop i s) (λ j. rw get_or-drop (h (i + j)))))
    (pow_mono n)
command_proper s h i (Shape.Clause σ t) = tt

pub read_proper : (s : List ℕ) → Bytes s → (at : ℕ) → ProperStep (read_at s at)
unfolding read_at whole_at
read_proper s h at = branch ProperStep (ltb at (length s)) _ (Refused 2) (λ _. entry (entry_of (get_or s at 0)))
    (λ _. tt)
  where
    entry : (e : Option Shape) → ProperStep (whole_at s at e)
    entry None = tt
    entry (Some k) =
        branch ProperStep (ltb (length s - (at + 1)) (operands k)) (Refused 2)
        (Take (command_of s (at + 1) k) (at + 1 + operands k)) (λ _. tt)
        (λ _. command_proper s h (at + 1) k)

-- ---- four bytes written

module _ (l : List ℕ) (i : ℕ) (w : LeafJoin) where
  abbrev t : ℕ
  t = w.form

  abbrev a : ℕ
  a = w.first

  abbrev b : ℕ
  b = w.second

  abbrev c : ℕ
  c = w.sum

  pub stored_length : length (clause_written l i w) ≡ length l
  stored_length = simp length-set

  pub stored_other : (j : ℕ) → (j < i) ⊎ (i + 4 ≤ j) → get_or (clause_written l i w) j 0 ≡ get_or l j 0
  stored_other j h = past (apart h)
    where
      apart : (j < i) ⊎ (i + 4 ≤ j) → (j ≢ i) × (j ≢ i + 1) × (j ≢ i + 2) × (j ≢ i + 3)
      apart (inl k) = (omega arith, omega arith, omega arith, omega arith)
      apart (inr k) = (omega arith, omega arith, omega arith, omega arith)

      past : (j ≢ i) × (j ≢ i + 1) × (j ≢ i + 2) × (j ≢ i + 3) → get_or (clause_written l i w) j 0 ≡ get_or l j 0
      past n =
          get_or-set_other (set (set (set l i t) (i + 1) a) (i + 2) b) (i + 3) j c 0 n.3
          ∙ get_or-set_other (set (set l i t) (i + 1) a) (i + 2) j b 0 n.2
          ∙ get_or-set_other (set l i t) (i + 1) j a 0 n.1
          ∙ get_or-set_other l i j t 0 n.0

  module _ (h : i + 4 ≤ length l) where
    byte_0 : get_or (clause_written l i w) i 0 ≡ t
    byte_0 =
        get_or-set_other (set (set (set l i t) (i + 1) a) (i + 2) b) (i + 3) i c 0 (omega arith)
        ∙ get_or-set_other (set (set l i t) (i + 1) a) (i + 2) i b 0 (omega arith)
        ∙ get_or-set_other (set l i t) (i + 1) i a 0 (omega arith)
        ∙ get_or-set_same l i t 0 (omega arith)

    byte_1 : get_or (clause_written l i w) (i + 1) 0 ≡ a
    byte_1 =
        get_or-set_other (set (set (set l i t) (i + 1) a) (i + 2) b) (i + 3) (i + 1) c 0 (omega arith)
        ∙ get_or-set_other (set (set l i t) (i + 1) a) (i + 2) (i + 1) b 0 (omega arith)
        ∙ get_or-set_same (set l i t) (i + 1) a 0 (simp length-set (omega arith))

    byte_2 : get_or (clause_written l i w) (i + 2) 0 ≡ b
    byte_2 =
        get_or-set_other (set (set (set l i t) (i + 1) a) (i + 2) b) (i + 3) (i + 2) c 0 (omega arith)
        ∙ get_or-set_same (set (set l i t) (i + 1) a) (i + 2) b 0 (simp length-set (omega arith))

    byte_3 : get_or (clause_written l i w) (i + 3) 0 ≡ c
    byte_3 = get_or-set_same (set (set (set l i t) (i + 1) a) (i + 2) b) (i + 3) c 0 (simp length-set (omega arith))

    -- they read back
    pub four_back : four_at (clause_written l i w) i ≡ w
    four_back = rw (byte_0, byte_1, byte_2, byte_3) refl

-- ---- the parts of a stored clause

-- a term's byte is its own
pub byte_back : (t : ℕ) → part_byte (of (term_of t)) ≡ t
unfolding term_of
byte_back t = pick (ltb t 0x20) refl
  where
    pick : (b : Bool) → ltb t 0x20 ≡ b → part_byte (of (cond b (variable t) (constant (t - 0x20)))) ≡ t
    pick true e = refl
    pick false e = omega (arith, ltb-false t 0x20 e)

-- a term that names something defined is neither 0C nor 0D, since there are at most 12 variables
pub part_of_lem : (n k t : ℕ) → n ≤ most_variables → T (names n k t) → part_of t ≡ of (term_of t)
unfolding names part_of
part_of_lem n k t hn h = pick (ltb t 0x20) refl h
  where
    pick : (b : Bool) → ltb t 0x20 ≡ b → T (cond b (ltb t n) (ltb (t - 0x20) k))
        → cond (eqb t empty_part) (always false) (cond (eqb t full_part) (always true) (of (term_of t)))
        ≡ of (term_of t)
    pick true e u = let l : t < n =
        ltb→lt t n u in rw (ne_eqb t empty_part (omega arith), ne_eqb t full_part (omega arith)) refl
    pick false e u = let l : 0x20 ≤ t =
        ltb-false t 0x20 e in rw (ne_eqb t empty_part (omega arith), ne_eqb t full_part (omega arith)) refl

pub empty_part_lem : part_of empty_part ≡ always false
unfolding part_of
empty_part_lem = refl

pub full_part_lem : part_of full_part ≡ always true
unfolding part_of
full_part_lem = refl

-- a term is that of its byte, which names something defined
record NamedTerm (n k : ℕ) (u : Term) : Type 0 where
  back : term_of (part_byte (of u)) ≡ u
  named : T (names n k (part_byte (of u)))

module _ (n k : ℕ) (few : n ≤ most_variables) where
  -- such is every term of a test whose bytes are named, and so of its reading
  test_terms : (t : Test) (a b c : ℕ) → T (all_named n k t a b c)
      → InReading (NamedTerm n k) (read_as (atom_of t a b c))
  test_terms t a b c h =
      in_reading (NamedTerm n k) (atom_of t a b c)
      (in_test (NamedTerm n k) n k (λ u m. record { back = ap term_of (byte_back u); named = rw (byte_back u) m }) t a b
      c h)

  part_back : (p : Part) → InPart (NamedTerm n k) p → part_of (part_byte p) ≡ p
  part_back (of u) g = part_of_lem n k (part_byte (of u)) few g.named ∙ ap of g.back
  part_back (always false) g = empty_part_lem
  part_back (always true) g = full_part_lem

  -- a reading of such terms reads back from its bytes
  reading_back : (r : LeafReading) → InReading (NamedTerm n k) r → reading_from (four_of r) ≡ r
  unfolding reading_from
  reading_back (joins_to p q r) g = rw (part_back p g.0, part_back q g.1, part_back r g.2) refl
  reading_back (apart p q) g = rw (part_back p g.0, part_back q g.1) refl

  part_named_lem : (p : Part) → InPart (NamedTerm n k) p → T (part_named n k (part_byte p))
  part_named_lem (of u) g = or_right (eqb (part_byte (of u)) empty_part) _
      (or_right (eqb (part_byte (of u)) full_part) _ g.named)
  part_named_lem (always false) g = tt
  part_named_lem (always true) g = tt

  -- and its bytes are a stored clause
  reading_stored : (r : LeafReading) → InReading (NamedTerm n k) r → StoredClause n k (four_of r)
  reading_stored (joins_to p q r) g =
      record { form = lit< tt; first = part_named_lem p g.0; second = part_named_lem q g.1; sum = part_named_lem r g.2 }
  reading_stored (apart p q) g =
      record { form = lit< tt; first = part_named_lem p g.0; second = part_named_lem q g.1; sum = tt }

-- ---- clauses of two lists that have the same bytes

-- l' has the bytes of l from one offset to another
abbrev Agrees : List ℕ → List ℕ → ℕ → ℕ → Type 0
Agrees l l' from to = (j : ℕ) → from ≤ j → j < to → get_or l' j 0 ≡ get_or l j 0

four_agrees : (l l' : List ℕ) (i : ℕ) → Agrees l l' i (i + 4) → four_at l' i ≡ four_at l i
four_agrees l l' i h =
    rw (
      h i (omega arith) (omega arith),
      h (i + 1) (omega arith) (omega arith),
      h (i + 2) (omega arith) (omega arith),
      h (i + 3) (omega arith) (omega arith),
    ) refl

readings_agree : (l l' : List ℕ) (start n : ℕ) → Agrees l l' start (start + 4 * n)
    → readings_at l' start n ≡ readings_at l start n
unfolding readings_at
readings_agree l l' start zero h = refl
readings_agree l l' start (suc n) h =
    ap₂ (λ k x. k ++ (reading_from x ∷ [])) (readings_agree l l' start n (λ j f t. h j f (omega arith)))
    (four_agrees l l' (start + 4 * n) (λ j f t. h j (omega arith) (omega arith)))

pub readings_length : (l : List ℕ) (start n : ℕ) → length (readings_at l start n) ≡ n
unfolding readings_at
readings_length l start zero = refl
readings_length l start (suc n) = simp length-append (omega (arith, readings_length l start n))

-- ---- terms are small

pub named_small : (n k t : ℕ) → n ≤ 32 → k ≤ 32 → T (names n k t) → t < 64
unfolding names
named_small n k t hn hk h = pick (ltb t 0x20) h
  where
    pick : (b : Bool) → T (cond b (ltb t n) (ltb (t - 0x20) k)) → t < 64
    pick true u = omega (arith, ltb→lt t n u)
    pick false u = omega (arith, ltb→lt (t - 0x20) k u)

-- and so are parts
pub part_cases : (n k t : ℕ) → T (part_named n k t) → (t ≡ empty_part) ⊎ ((t ≡ full_part) ⊎ T (names n k t))
part_cases n k t h = pick (or_cases (eqb t empty_part) _ h)
  where
    rest : T (eqb t full_part) ⊎ T (names n k t) → (t ≡ full_part) ⊎ T (names n k t)
    rest (inl u) = inl (eqb→eq t full_part u)
    rest (inr u) = inr u

    pick : T (eqb t empty_part) ⊎ T (eqb t full_part || names n k t)
        → (t ≡ empty_part) ⊎ ((t ≡ full_part) ⊎ T (names n k t))
    pick (inl u) = inl (eqb→eq t empty_part u)
    pick (inr u) = inr (rest (or_cases (eqb t full_part) _ u))

pub part_small : (n k t : ℕ) → n ≤ 32 → k ≤ 32 → T (part_named n k t) → t < 64
part_small n k t hn hk h = pick (part_cases n k t h)
  where
    pick : (t ≡ empty_part) ⊎ ((t ≡ full_part) ⊎ T (names n k t)) → t < 64
    pick (inl e) = omega arith
    pick (inr (inl e)) = omega arith
    pick (inr (inr u)) = named_small n k t hn hk u

-- the bytes of a stored clause
pub parts_small : (n k : ℕ) (j : LeafJoin) → StoredClause n k j → n ≤ 32 → k ≤ 32 → PartsSmall j
parts_small n k j d hn hk =
    (part_small n k j.first hn hk d.first, part_small n k j.second hn hk d.second, part_small n k j.sum hn hk d.sum)

kind_same : (k : HeldKind) (o : Kind) → kind_value k ≡ kind_number o → k ≡ kind_held o
kind_same Satisfiability satisfiability e = refl
kind_same Satisfiability entailment e = absurd (omega arith)
kind_same Entailment satisfiability e = absurd (omega arith)
kind_same Entailment entailment e = refl

foreign_same : (k : Kind) (σ : Section) → foreign_to (kind_number k) σ ≡ is_foreign k σ
foreign_same satisfiability σ = refl
foreign_same entailment σ = refl

-- ---- what is stored, with one command more

abbrev pub kept : Stored → ℕ → Command → Stored
kept x defined c = record {
  free = x.free;
  own = x.own;
  constants = kept_constants x.constants defined c;
  levels = x.levels;
  named = kept_names x.named c;
  clauses = kept_clauses x.clauses x.counts c;
  counts = clause_counts x.counts c;
}

-- the constants past those that are defined are 0
abbrev pub ZerosPast : ℕ → List ℕ → Type 0
ZerosPast defined constants = (i : ℕ) → defined ≤ i → get_or constants i 0 ≡ 0

pub zeros_kept : (defined : ℕ) (constants : List ℕ) (c : Command) → ZerosPast defined constants
    → ZerosPast (constant_count defined c) (kept_constants constants defined c)
zeros_kept defined constants Command.End z = z
zeros_kept defined constants Command.Head z = z
zeros_kept defined constants (Command.Constant v) z = λ i h. get_or-set_other constants defined i v 0 (omega arith)
    ∙ z i (omega arith)
zeros_kept defined constants (Command.Clause σ t a b c) z = z

-- the constants that are defined, counted
pub defined_kept : (q : Question) (c : Command) → defined_by (taken q c) ≡ constant_count (defined_by q) c
unfolding taken
defined_kept q Command.End = refl
defined_kept q Command.Head = refl
defined_kept q (Command.Constant v) = simp length-append
defined_kept q (Command.Clause σ t a b c) = ap (λ cs. length cs.numbers) (clause_keeps q σ (atom_of t a b c)).constants

module _ {kind : ℕ} (x : Stored) (q : Question) (d : Stands kind x q) where
  pub section_count : (σ : Section) → length (in_section q σ) ≡ count_of x.counts σ
  section_count σ =
      sym (length-map (in_section q σ) read_as) ∙ ap length (sym (d.sections σ))
      ∙ readings_length x.clauses (section_start σ) (count_of x.counts σ)

  pub clause_count : clause_total x.counts ≡ length q.first + length q.second
  clause_count =
      omega (
        arith,
        both_counts q.first,
        both_counts q.second,
        section_count FirstPositive,
        section_count FirstDisequation,
        section_count SecondPositive,
        section_count SecondDisequation,
      )

  fault_same : (c : Command) → fault_of kind x.free x.own (defined_by q) x.counts c ≡ fault q c
  unfolding fault_of fault
  fault_same Command.End = refl
  fault_same Command.Head = refl
  fault_same (Command.Constant v) = ap (λ m. constant_fault (ltb 0 m) (leb most_constants (defined_by q))) clause_count
  fault_same (Command.Clause σ t a b c) = rw (d.kind, d.free, d.own, ← section_count σ, foreign_same q.kind σ)

  -- the counts that the code keeps judge as the definition does
  pub judged_same : (r : Step) → judged_of kind x.free x.own (defined_by q) x.counts r ≡ judged q r
  judged_same (Refused n) = refl
  judged_same (Take c next) = ap (λ f. cond (eqb f 0) (Take c next) (Refused f)) (fault_same c)

  no_clause_lem : ConstantFits q → (σ : Section) → count_of x.counts σ ≡ 0
  no_clause_lem f FirstPositive = omega (arith, section_count FirstPositive, both_counts q.first, f.before)
  no_clause_lem f FirstDisequation = omega (arith, section_count FirstDisequation, both_counts q.first, f.before)
  no_clause_lem f SecondPositive = omega (arith, section_count SecondPositive, both_counts q.second, f.before)
  no_clause_lem f SecondDisequation = omega (arith, section_count SecondDisequation, both_counts q.second, f.before)

  stands_constant : (v : ℕ) → v < 2 ^ (8 * bytes_at constant_levels) → ConstantFits q
      → Stands kind (kept x (defined_by q) (Command.Constant v)) (with_constant q v)
  unfolding named_word
  stands_constant v small f =
      let n = defined_by q in
      let l = x.constants in
      let room : n < most_constants = f.room in
      let fits : n < length l = omega (arith, d.sizes.0) in
      let more : length (q.constants.numbers ++ (v ∷ [])) ≡ n + 1 = simp length-append in
      record {
        kind = d.kind;
        free = d.free;
        own = d.own;
        constants =
            ap (λ cs. record { levels = cs.levels; numbers = cs.numbers ++ (v ∷ []) }) d.constants
            ∙ ap (λ k. record { levels = x.levels; numbers = k }) (sym (rw add-one (take-suc-set l n v fits))
            ∙ ap (λ m. take m (set l n v)) (sym more));
        named = d.named;
        named_defined = λ i t. omega (arith, d.named_defined i t, more);
        sections = λ σ. d.sections σ ∙ ap (map read_as) (sym (constant_sections q v σ));
        variables = d.variables;
        counted = d.counted;
        constant_counted = omega arith;
        small = λ i h. below i (eq-or-lt_of_le (le_of_suc-le-suc (rw (more, add-one) at h))) fits;
        clauses = λ σ i h. absurd (omega (arith, no_clause_lem f σ));
        sizes = (simp length-set d.sizes.0, d.sizes.1, d.sizes.2);
      }
    where
      below : (i : ℕ) → (i ≡ defined_by q) ⊎ (i < defined_by q) → defined_by q < length x.constants
          → get_or (set x.constants (defined_by q) v) i 0 < 2 ^ (8 * bytes_at constant_levels)
      below i (inl e) fits = rw e (rw (get_or-set_same x.constants (defined_by q) v 0 fits) small)
      below i (inr h) fits = rw (get_or-set_other x.constants (defined_by q) i v 0 (omega arith)) (d.small i h)

  -- a clause more: σ is its section
  module _ (σ : Section) (t : Test) (a b c : ℕ) (f : ClauseFits q σ t a b c) where
    counts' : List ℕ
    counts' = set x.counts (section_number σ) (count_of x.counts σ + 1)

    clauses' : List ℕ
    clauses' = clause_written x.clauses (next_slot x.counts σ) (join_for t a b c)

    clause_room : count_of x.counts σ < most_of σ
    clause_room = omega (arith, f.room, section_count σ)

    clause_slot : next_slot x.counts σ + 4 ≤ clause_bytes
    clause_slot = slot_fits x.counts σ clause_room

    count_more : count_of counts' σ ≡ count_of x.counts σ + 1
    unfolding counts'
    count_more = get_or-set_same x.counts (section_number σ) (count_of x.counts σ + 1) 0
        (omega (arith, section_below σ, d.sizes.2))

    count_other : (τ : Section) → Apart σ τ → count_of counts' τ ≡ count_of x.counts τ
    unfolding counts'
    count_other τ o = get_or-set_other x.counts (section_number σ) (section_number τ) (count_of x.counts σ + 1) 0
        o.number

    -- the clauses before it, and those of another section, keep their bytes
    before_it : Agrees x.clauses clauses' (section_start σ) (next_slot x.counts σ)
    unfolding clauses'
    before_it j from to = stored_other x.clauses (next_slot x.counts σ) (join_for t a b c) j (inl to)

    elsewhere : (τ : Section) → Apart σ τ → Agrees x.clauses clauses' (section_start τ) (next_slot x.counts τ)
    unfolding clauses'
    elsewhere τ o j from to = stored_other x.clauses (next_slot x.counts σ) (join_for t a b c) j (side o.clear)
      where
        side : (section_start τ + 4 * most_of τ ≤ section_start σ) ⊎ (section_start σ + 4 * most_of σ ≤ section_start τ)
            → (j < next_slot x.counts σ) ⊎ (next_slot x.counts σ + 4 ≤ j)
        side (inl h) = inl (omega (arith, d.counted τ))
        side (inr h) = inr (omega (arith, clause_room))

    few : variables_for x.free x.own σ ≤ most_variables
    few = omega (arith, variables_le x.free x.own σ, d.variables)

    its_terms : InReading (NamedTerm (variables_for x.free x.own σ) (defined_by q)) (read_as (atom_of t a b c))
    its_terms = test_terms _ _ few t a b c (rw (d.free, d.own) f.named)

    its_low : InAtom LowTerm (atom_of t a b c)
    its_low = in_test LowTerm _ _ (λ u m. low_term u) t a b c f.named

    its_bytes : four_at clauses' (next_slot x.counts σ) ≡ join_for t a b c
    unfolding clauses'
    its_bytes = four_back x.clauses (next_slot x.counts σ) (join_for t a b c) (omega (arith, clause_slot, d.sizes.1))

    its_reading : reading_from (four_at clauses' (next_slot x.counts σ)) ≡ read_as (atom_of t a b c)
    its_reading = ap reading_from its_bytes ∙ reading_back _ _ few _ its_terms

    sections' : (τ : Section) → readings_at clauses' (section_start τ) (count_of counts' τ)
        ≡ map read_as (in_section (with_clause q σ (atom_of t a b c)) τ)
    unfolding readings_at
    sections' τ = pick (alike σ τ) before_it its_reading count_more elsewhere count_other
      where
        pick : {σ τ : Section} → Alike σ τ → Agrees x.clauses clauses' (section_start σ) (next_slot x.counts σ)
            → reading_from (four_at clauses' (next_slot x.counts σ)) ≡ read_as (atom_of t a b c)
            → count_of counts' σ ≡ count_of x.counts σ + 1
            → ((υ : Section) → Apart σ υ → Agrees x.clauses clauses' (section_start υ) (next_slot x.counts υ))
            → ((υ : Section) → Apart σ υ → count_of counts' υ ≡ count_of x.counts υ)
            → readings_at clauses' (section_start τ) (count_of counts' τ)
            ≡ map read_as (in_section (with_clause q σ (atom_of t a b c)) τ)
        pick (same {σ = υ}) h e n g m =
            ap (readings_at clauses' (section_start υ)) (n ∙ add-one (count_of x.counts υ))
            ∙ ap₂ (λ k y. k ++ (y ∷ [])) (readings_agree x.clauses clauses' (section_start υ) (count_of x.counts υ) h
            ∙ d.sections υ) e
            ∙ sym (ap (map read_as) (added q υ (atom_of t a b c))
            ∙ map-append read_as (in_section q υ) (atom_of t a b c ∷ []))
        pick (other {τ = υ} o) h e n g m =
            ap (readings_at clauses' (section_start υ)) (m υ o)
            ∙ readings_agree x.clauses clauses' (section_start υ) (count_of x.counts υ) (g υ o)
            ∙ d.sections υ
            ∙ ap (map read_as) (sym (o.kept q (atom_of t a b c)))

    -- what is stored after the clause
    abbrev after : Stored
    after = stored clauses' counts' x.constants x.named x.free x.own

    new_stored : StoredAt after (defined_by q) σ (next_slot x.counts σ)
    new_stored = subst (StoredClause _ _) (sym its_bytes)
        (reading_stored (variables_for x.free x.own σ) (defined_by q) few (read_as (atom_of t a b c)) its_terms)

    all_stored : (τ : Section) (i : ℕ) → i < count_of counts' τ
        → StoredAt after (defined_by q) τ (section_start τ + 4 * i)
    unfolding clauses'
    all_stored τ i h = pick (alike σ τ) before_it new_stored count_more elsewhere count_other h
      where
        old : (υ : Section) → Agrees x.clauses clauses' (section_start υ) (next_slot x.counts υ)
            → i < count_of x.counts υ → StoredAt after (defined_by q) υ (section_start υ + 4 * i)
        old υ g l = subst (StoredClause _ _)
            (sym (four_agrees x.clauses clauses' (section_start υ + 4 * i)
            (λ j from to. g j (omega arith) (omega arith)))) (d.clauses υ i l)

        ends : (υ : Section) → Agrees x.clauses clauses' (section_start υ) (next_slot x.counts υ)
            → StoredAt after (defined_by q) υ (next_slot x.counts υ)
            → (i ≡ count_of x.counts υ) ⊎ (i < count_of x.counts υ)
            → StoredAt after (defined_by q) υ (section_start υ + 4 * i)
        ends υ g w (inl e) = rw e w
        ends υ g w (inr l) = old υ g l

        pick : {σ τ : Section} → Alike σ τ → Agrees x.clauses clauses' (section_start σ) (next_slot x.counts σ)
            → StoredAt after (defined_by q) σ (next_slot x.counts σ) → count_of counts' σ ≡ count_of x.counts σ + 1
            → ((υ : Section) → Apart σ υ → Agrees x.clauses clauses' (section_start υ) (next_slot x.counts υ))
            → ((υ : Section) → Apart σ υ → count_of counts' υ ≡ count_of x.counts υ)
            → i < count_of counts' τ → StoredAt after (defined_by q) τ (section_start τ + 4 * i)
        pick (same {σ = υ}) h w n g m l =
            ends υ h w (eq-or-lt_of_le (le_of_suc-le-suc (rw (n, add-one (count_of x.counts υ)) at l)))
        pick (other {τ = υ} o) h w n g m l = old υ (g υ o) (rw (m υ o) at l)

    counted' : Counted counts'
    counted' τ = pick (alike σ τ) clause_room count_more count_other
      where
        pick : {σ τ : Section} → Alike σ τ → count_of x.counts σ < most_of σ
            → count_of counts' σ ≡ count_of x.counts σ + 1
            → ((υ : Section) → Apart σ υ → count_of counts' υ ≡ count_of x.counts υ) → count_of counts' τ ≤ most_of τ
        pick same r n m = omega arith
        pick (other {τ = υ} o) r n m = rw (m υ o) (d.counted υ)

    -- a constant that it names is defined
    its_defined : (i : ℕ) → T (is_among i (terms_of (atom_of t a b c))) → i < defined_by q
    its_defined i = atom_among (Defined _ q.constants) i (atom_of t a b c)
        (in_test (Defined _ q.constants) _ _ (named_defined_lem _ q.constants) t a b c f.named)

    named_before : (i : ℕ) → T (is_among i (named_by q)) ⊎ T (is_among i (terms_of (atom_of t a b c)))
        → i < defined_by q
    named_before i (inl u) = d.named_defined i u
    named_before i (inr u) = its_defined i u

    stands_clause : Stands kind (kept x (defined_by q) (Command.Clause σ t a b c)) (with_clause q σ (atom_of t a b c))
    unfolding counts' clauses'
    stands_clause =
        let k = clause_keeps q σ (atom_of t a b c) in
        record {
          kind = rw k.kind d.kind;
          free = rw k.free d.free;
          own = rw k.own d.own;
          constants = rw k.constants d.constants;
          named = ap (λ w. bit_or w (constants_in (join_for t a b c))) d.named
              ∙ named_more q σ (atom_of t a b c) its_low;
          named_defined = λ i u. rw k.constants
              (named_before i (or_cases (is_among i (named_by q)) _
              (subst T (among_clause i q σ (atom_of t a b c)) u)));
          sections = sections';
          variables = d.variables;
          counted = counted';
          constant_counted = rw k.constants d.constant_counted;
          small = rw k.constants d.small;
          clauses = rw k.constants all_stored;
          sizes = (
            d.sizes.0,
            stored_length x.clauses (next_slot x.counts σ) (join_for t a b c) ∙ d.sizes.1,
            simp length-set d.sizes.2,
          );
        }

  -- the clause's bytes go where the definition says
  pub written_same : (c : Command) → command_written q x.clauses c ≡ kept_clauses x.clauses x.counts c
  written_same Command.End = refl
  written_same Command.Head = refl
  written_same (Command.Constant v) = refl
  written_same (Command.Clause σ t a b c) =
      ap (λ n. clause_written x.clauses (section_start σ + 4 * n) (join_for t a b c)) (section_count σ)

  -- there is room for a command with no fault
  pub room_clause : (c : Command) → fault q c ≡ 0 → Slot x.counts c
  room_clause Command.End e = tt
  room_clause Command.Head e = tt
  room_clause (Command.Constant v) e = tt
  room_clause (Command.Clause σ t a b c) e =
      slot_fits x.counts σ (omega (arith, (clause_fits q σ t a b c e).room, section_count σ))

  pub small_clause : (c : Command) → fault q c ≡ 0 → SmallIn c
  small_clause Command.End e = tt
  small_clause Command.Head e = tt
  small_clause (Command.Constant v) e = tt
  small_clause (Command.Clause σ t a b c) e =
      let f = clause_fits q σ t a b c e in
      parts_small (variables_for x.free x.own σ) (defined_by q) _
      (reading_stored _ _ (few σ t a b c f) (read_as (atom_of t a b c)) (its_terms σ t a b c f))
      (omega (arith, few σ t a b c f)) (omega (arith, d.constant_counted))

  -- a command with no fault, kept, stands for the question that has it
  pub stands_taken : (c : Command) → fault q c ≡ 0 → Proper c → Stands kind (kept x (defined_by q) c) (taken q c)
  unfolding taken
  stands_taken Command.End e p = d
  stands_taken Command.Head e p = d
  stands_taken (Command.Constant v) e p = stands_constant v p (constant_fits q v e)
  stands_taken (Command.Clause σ t a b c) e p = stands_clause σ t a b c (clause_fits q σ t a b c e)

  -- ---- the struct that holds the question

  counts_are : (l : List ℕ) → length l ≡ 4 → l ≡ get_or l 0 0 ∷ get_or l 1 0 ∷ get_or l 2 0 ∷ get_or l 3 0 ∷ []
  counts_are [] e = absurd (omega arith)
  counts_are (a ∷ []) e = absurd (omega arith)
  counts_are (a ∷ b ∷ []) e = absurd (omega arith)
  counts_are (a ∷ b ∷ c ∷ []) e = absurd (omega arith)
  counts_are (a ∷ b ∷ c ∷ d ∷ []) e = refl
  counts_are (a ∷ b ∷ c ∷ d ∷ f ∷ l) e = absurd (omega arith)

  zeros_past : ZerosPast (defined_by q) x.constants
      → drop (defined_by q) x.constants ≡ replicate (most_constants - defined_by q) 0
  zeros_past z =
      let n : length (drop (defined_by q) x.constants) ≡ most_constants - defined_by q =
      length-drop (defined_by q) x.constants ∙ ap (λ m. m - defined_by q) d.sizes.0 in
      ext_get_or 0 _ _ (n ∙ sym (length-replicate (most_constants - defined_by q) 0)) (λ i l.
      get_or-drop (defined_by q) x.constants i 0 ∙ z (defined_by q + i) (omega arith)
      ∙ sym (get_or-replicate (most_constants - defined_by q) i 0 0 (rw n at l)))

  pub held_as_lem : (defined : ℕ) → defined ≡ defined_by q → ZerosPast (defined_by q) x.constants
      → (k : HeldKind) → kind ≡ kind_value k → record {
        kind = k;
        free = x.free;
        own = x.own;
        constants =
            x.constants;
        defined = defined;
        named = x.named;
        counts = x.counts;
      } ≡ held_as q
  held_as_lem defined e z k h =
      let numbers : q.constants.numbers ≡ take (defined_by q) x.constants = ap (λ cs. cs.numbers) d.constants in
      let constants : x.constants ≡ q.constants.numbers ++ replicate (most_constants - length q.constants.numbers) 0 =
      sym (ap₂ ◌++◌ numbers (sym (zeros_past z)) ∙ take-append-drop (defined_by q) x.constants) in
      let counts : x.counts ≡ length (in_section q FirstPositive) ∷ length (in_section q FirstDisequation)
      ∷ length (in_section q SecondPositive) ∷ length (in_section q SecondDisequation) ∷ [] =
      rw (
        section_count FirstPositive,
        section_count FirstDisequation,
        section_count SecondPositive,
        section_count SecondDisequation,
      ) (counts_are x.counts d.sizes.2) in
      same (kind_same k q.kind (sym h ∙ d.kind)) d.free d.own constants e d.named counts
    where
      same : {k k' : HeldKind} {f f' o o' n n' m m' : ℕ} {cs cs' cl cl' : List ℕ} → k ≡ k' → f ≡ f' → o ≡ o' → cs ≡ cs'
          → n ≡ n' → m ≡ m' → cl ≡ cl'
          → ◌≡◌ {A = Struct} (record {
            kind = k;
            free = f;
            own = o;
            constants = cs;
            defined = n;
            named = m;
            counts =
                cl;
          })
          (record { kind = k'; free = f'; own = o'; constants = cs'; defined = n'; named = m'; counts = cl' })
      same e f g h i j k = rw (e, f, g, h, i, j, k)
