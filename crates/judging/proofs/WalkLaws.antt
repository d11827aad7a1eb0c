-- Going over the commands of an accepted question meets the clauses of its first system one by one. Assumes nothing.
use Rattle.std.proofs.Math.Path.{◌≡◌, refl, ap}
use Rattle.std.proofs.Common.{sym, ◌∙◌, subst, true≢false, inl, inr, eq-or-lt_of_le, le_of_suc-le-suc, not-suc-le-zero}
use Rattle.std.proofs.Common.{arith, length-append}
use Rattle.std.specs.Prelude.{Bool, not, cond, ◌⊎◌, Some, None, ◌-◌, eqb, ltb, get_or, take}
use Rattle.std.proofs.Math.Bool.{true, false, not-not}
use mathlib.Core.List.{List, [], ◌∷◌, ◌++◌, append-nil, append_assoc}
use Prim.Native.Nat.{ℕ, zero, suc, ◌+◌, ◌^◌, ◌≤◌, ◌<◌}
use borrow.Author.Tests.{lt-ltb, le-ltb, eq-eqb}
use Rattle.std.proofs.Math.Arith.{lt_of_le-ne}
use Rattle.std.proofs.Math.ListN.{length}
use Rattle.std.proofs.lemmas.List.{get_or_at}
use Rattle.shares.specs.Constant.{constant_levels, bytes_at}
use Rattle.shares.specs.BelowLaws.{every_first, first_le, first_is, first_none}
use Rattle.shares.specs.Tree.{is_way}
use Rattle.shares.specs.declared.Way.{Way}
use Rattle.shares.specs.declared.Way.TheVariants.{Holds}
use Rattle.systems.specs.Clauses.{Term, Atom, Clause, positive, negated, Constants}
use Rattle.systems.specs.Questions.{Question, Defined, InAtom, InSystem, WellFormed}
use Rattle.systems.specs.AtLeaves.{read_as}
use Rattle.systems.specs.SystemLaws.{in_system}
use Rattle.format.specs.declared.Section.{Section}
use Rattle.format.specs.declared.Section.TheVariants.{FirstPositive, FirstDisequation, SecondPositive}
use Rattle.format.specs.declared.Section.TheVariants.{SecondDisequation}
use Rattle.format.specs.declared.Command.{Command}
use Rattle.format.specs.Format.{Take, Refused}
use Rattle.format.specs.declared.Shape.{Shape}
use Rattle.format.specs.Format.{most_positive, most_disequations, accepted, read, read_at, whole_at, entry_of, operands}
use Rattle.format.specs.Format.{command_of, atom_of}
use Rattle.format.specs.SectionLaws.{both_counts}
use Rattle.format.specs.Limits.{Limited}
use Rattle.format.proofs.FormatLaws.{size_some, Whole, read_whole, accepted_formed, accepted_limited}
use Rattle.format.specs.Stored.{four_of, defined_by, constant_size, constant_at, place_of, leading}
use Rattle.format.specs.Keeping.{is_end}
use Rattle.format.proofs.LeadLaws.{constant_read}
use Rattle.decide.specs.StoredLaws.{Kept}
use Rattle.encoding.specs.Order.{read_on, commands_from, first_said, first_clause, first_clauses}
use Rattle.encoding.proofs.OrderLaws.{in_order}
use Rattle.rows.specs.Rows.{row_levels, row_count}
use Rattle.unfolded.specs.Unfolded.{join_failing}
use Rattle.judging.specs.Judging.{row_way, everywhere, failing_leaf, clause_met, no_clause, clause_of, lowest_broken}
use Rattle.judging.specs.Judging.{broken_as}
use Rattle.judging.specs.Walk.{breaks_in, said_in, command_breaks, command_said, CommandFits, says_first, Laid}
use Rattle.judging.specs.Walk.{first_judged, First, Walk, HeldBelow, Gone}
use Rattle.judging.proofs.ModelLaws.{InClause, in_clause}
use Rattle.judging.specs.TableLaws.{DefinedKept, join_way_lem, join_failing_lem, parts_in}
use Rattle.judging.specs.Judging.{Accepted, Broken}

-- ---- what stands at an offset, by its byte and the bytes left

module _ (s : List ℕ) (at : ℕ) where
  pub read_past : length s ≤ at → read_at s at ≡ Refused 2
  unfolding read_at
  read_past l = rw (le-ltb at (length s) l) refl

  module _ (l : at < length s) where
    pub read_unknown : entry_of (get_or s at 0) ≡ None → read_at s at ≡ Refused 3
    unfolding read_at whole_at
    read_unknown e = rw (lt-ltb at (length s) l, e) refl

    module _ (h : Shape) (e : entry_of (get_or s at 0) ≡ Some h) where
      pub read_short : length s - (at + 1) < operands h → read_at s at ≡ Refused 2
      unfolding read_at whole_at
      read_short m = rw (lt-ltb at (length s) l, e, lt-ltb (length s - (at + 1)) (operands h) m) refl

      pub read_take : operands h ≤ length s - (at + 1)
          → read_at s at ≡ Take (command_of s (at + 1) h) (at + 1 + operands h)
      unfolding read_at whole_at
      read_take m = rw (lt-ltb at (length s) l, e, le-ltb (length s - (at + 1)) (operands h) m) refl

-- ---- the commands from an offset on

module _ (s : List ℕ) (at : ℕ) where
  -- none where none can be read, and none at the end
  commands_none : (m : ℕ) → read_at s at ≡ Refused m → (k : ℕ) → commands_from k s at ≡ []
  unfolding commands_from
  commands_none m e zero = refl
  commands_none m e (suc k) = rw e refl

  module _ (c : Command) (next : ℕ) (e : read_at s at ≡ Take c next) where
    commands_end : is_end c ≡ true → (k : ℕ) → commands_from k s at ≡ []
    unfolding commands_from
    commands_end d zero = refl
    commands_end d (suc k) = rw e (pick c d)
      where
        pick : (c : Command) → is_end c ≡ true → read_on (commands_from k s) (Take c next) ≡ []
        pick Command.End d = refl
        pick Command.Head d = let z : ◌≡◌ {A = ℕ} 0 1 = cc in absurd (omega arith)
        pick (Command.Constant x) d = let z : ◌≡◌ {A = ℕ} 0 1 = cc in absurd (omega arith)
        pick (Command.Clause σ t x y z) d = let z : ◌≡◌ {A = ℕ} 0 1 = cc in absurd (omega arith)

    -- any other is followed by the rest
    commands_more : is_end c ≡ false → (k : ℕ) → commands_from (suc k) s at ≡ c ∷ commands_from k s next
    unfolding commands_from
    commands_more d k = rw e (pick c d)
      where
        pick : (c : Command) → is_end c ≡ false → read_on (commands_from k s) (Take c next) ≡ c ∷ commands_from k s next
        pick Command.End d = let z : ◌≡◌ {A = ℕ} 0 1 = cc in absurd (omega arith)
        pick Command.Head d = refl
        pick (Command.Constant x) d = refl
        pick (Command.Clause σ t x y z) d = refl

-- a command that is not the end
pub not_end : (c : Command) → (c ≡ Command.End → ⊥) → is_end c ≡ false
not_end Command.End n = absurd (n refl)
not_end Command.Head n = refl
not_end (Command.Constant x) n = refl
not_end (Command.Clause σ t x y z) n = refl

-- a command passes over a byte or more, within the string
pub moves : (s : List ℕ) (at : ℕ) {c : Command} {next : ℕ} → read_at s at ≡ Take c next → (at < next)
    × (next ≤ length s)
moves s at {c} e = let h = subst (Whole s at) e (read_whole s at) in (omega (arith, h.0, size_some c), h.1)

-- ---- what a command says to the first system

-- a clause
said_first : (c : Command) → says_first c ≡ true → (x : Clause) × (first_clause c ≡ x ∷ [])
said_first Command.End e = let z : ◌≡◌ {A = ℕ} 0 1 = cc in absurd (omega arith)
said_first Command.Head e = let z : ◌≡◌ {A = ℕ} 0 1 = cc in absurd (omega arith)
said_first (Command.Constant x) e = let z : ◌≡◌ {A = ℕ} 0 1 = cc in absurd (omega arith)
said_first (Command.Clause FirstPositive t a b c) e = (positive (atom_of t a b c), refl)
said_first (Command.Clause FirstDisequation t a b c) e = (negated (atom_of t a b c), refl)
said_first (Command.Clause SecondPositive t a b c) e = let z : ◌≡◌ {A = ℕ} 0 1 = cc in absurd (omega arith)
said_first (Command.Clause SecondDisequation t a b c) e = let z : ◌≡◌ {A = ℕ} 0 1 = cc in absurd (omega arith)

-- or nothing
said_nothing : (c : Command) → says_first c ≡ false → first_clause c ≡ []
said_nothing Command.End e = refl
said_nothing Command.Head e = refl
said_nothing (Command.Constant x) e = refl
said_nothing (Command.Clause FirstPositive t a b c) e = let z : ◌≡◌ {A = ℕ} 0 1 = cc in absurd (omega arith)
said_nothing (Command.Clause FirstDisequation t a b c) e = let z : ◌≡◌ {A = ℕ} 0 1 = cc in absurd (omega arith)
said_nothing (Command.Clause SecondPositive t a b c) e = refl
said_nothing (Command.Clause SecondDisequation t a b c) e = refl

-- ---- the way

module _ (s : List ℕ) (q : Question) where
  -- after the head
  walk_start : read s ≡ accepted q → Walk s q 4 0
  walk_start e = record { bound = length s; enough = omega arith; met = []; count = refl; rest = (in_order s q e).0 }

  module _ {at n : ℕ} (w : Walk s q at n) where
    -- without another command all clauses have been met
    all_met_lem : commands_from w.bound s at ≡ [] → length q.first ≡ n
    unfolding first_clauses
    all_met_lem e = ap length (w.rest ∙ ap (λ l. w.met ++ first_clauses l) e ∙ append-nil w.met) ∙ w.count

    walk_none : (m : ℕ) → read_at s at ≡ Refused m → length q.first ≡ n
    walk_none m e = all_met_lem (commands_none s at m e w.bound)

    module _ (c : Command) (next : ℕ) (e : read_at s at ≡ Take c next) where
      walk_end : is_end c ≡ true → length q.first ≡ n
      walk_end d = all_met_lem (commands_end s at c next e d w.bound)

      module _ (d : is_end c ≡ false) where
        -- what it says comes next
        onward : (k : ℕ) × (length s < next + k)
            × (q.first ≡ w.met ++ (first_clause c ++ first_clauses (commands_from k s next)))
        unfolding first_clauses
        onward = go w.bound w.enough w.rest
          where
            go : (k : ℕ) → length s < at + k → q.first ≡ w.met ++ first_clauses (commands_from k s at)
                → (k : ℕ) × (length s < next + k)
                × (q.first ≡ w.met ++ (first_clause c ++ first_clauses (commands_from k s next)))
            go zero l r = absurd (omega (arith, (moves s at e).0, (moves s at e).1))
            go (suc k) l r = (
              k,
              omega (arith, (moves s at e).0),
              r
                  ∙ ap (λ l. w.met ++ first_clauses l) (commands_more s at c next e d k),
            )

        -- no clause of the first system
        walk_other : says_first c ≡ false → Walk s q next n
        walk_other f =
            let (k, l, r) = onward in
            record {
              bound = k;
              enough = l;
              met = w.met;
              count = w.count;
              rest =
                  r ∙ ap (λ x. w.met ++ (x ++ first_clauses (commands_from k s next))) (said_nothing c f);
            }

        -- one: it is the one with that number
        module _ (f : says_first c ≡ true) where
          walk_first : Walk s q next (n + 1)
          walk_first =
              let (k, l, r) = onward in
              let (x, g) = said_first c f in
              record {
                bound = k;
                enough = l;
                met = w.met ++ (x ∷ []);
                count = length-append w.met (x ∷ []) ∙ ap (λ m. m + 1) w.count;
                rest = r ∙ ap (λ y. w.met ++ (y ++ first_clauses (commands_from k s next))) g
                    ∙ sym (append_assoc w.met (x ∷ []) (first_clauses (commands_from k s next)));
              }

          walk_clause : (n < length q.first) × (first_clause c ≡ clause_of q.first n ∷ [])
          walk_clause =
              let (k, l, r) = onward in
              let (x, g) = said_first c f in
              let whole : q.first ≡ w.met ++ (x ∷ first_clauses (commands_from k s next)) =
              r ∙ ap (λ y. w.met ++ (y ++ first_clauses (commands_from k s next))) g in
              let long = ap length whole ∙ length-append w.met (x ∷ first_clauses (commands_from k s next)) in (
                omega (arith, long, w.count),
                g ∙ ap (λ y. y ∷ []) (sym (ap (λ l. clause_of l n) whole
                    ∙ get_or_at w.met x (first_clauses (commands_from k s next)) _ n w.count)),
              )

-- ---- a clause and the rows of a table

-- P holds of every term of the atom that a command's clause says or denies
abbrev InCommand : (Term → Type 0) → Command → Type 0
InCommand P Command.End = Unit {0}
InCommand P Command.Head = Unit {0}
InCommand P (Command.Constant x) = Unit {0}
InCommand P (Command.Clause σ t a b c) = InAtom P (atom_of t a b c)

in_command : (P : Term → Type 0) (x : Clause) → InClause P x → (c : Command) → first_clause c ≡ x ∷ [] → InCommand P c
in_command P x d Command.End e = tt
in_command P x d Command.Head e = tt
in_command P x d (Command.Constant y) e = tt
in_command P x d (Command.Clause FirstPositive t a b c) e = let f : x ≡ positive (atom_of t a b c) = cc in rw f at d
in_command P x d (Command.Clause FirstDisequation t a b c) e = let f : x ≡ negated (atom_of t a b c) = cc in rw f at d
in_command P x d (Command.Clause SecondPositive t a b c) e = let z : ◌≡◌ {A = ℕ} 0 1 = cc in absurd (omega arith)
in_command P x d (Command.Clause SecondDisequation t a b c) e = let z : ◌≡◌ {A = ℕ} 0 1 = cc in absurd (omega arith)

-- its parts have a place in the table
command_fits : (n : ℕ) (cs : Constants) → n ≤ row_count → length cs.numbers ≤ 32 → (c : Command)
    → InCommand (Defined n cs) c → CommandFits c
command_fits n cs few some Command.End d = tt
command_fits n cs few some Command.Head d = tt
command_fits n cs few some (Command.Constant x) d = tt
command_fits n cs few some (Command.Clause σ t a b c) d = parts_in n cs few some (atom_of t a b c) d

-- an atom holds at every leaf exactly if none is the lowest at which it does not
everywhere_first : (cs : Constants) (rows : List ℕ) (a : Atom)
    → everywhere cs rows a ≡ eqb (failing_leaf cs rows a) (2 ^ row_levels cs.levels)
unfolding everywhere failing_leaf
everywhere_first cs rows a = every_first (2 ^ row_levels cs.levels) (λ i. is_way Holds (row_way cs rows a i))

pub failing_le : (cs : Constants) (rows : List ℕ) (a : Atom) → failing_leaf cs rows a ≤ 2 ^ row_levels cs.levels
unfolding failing_leaf
failing_le cs rows a = first_le (2 ^ row_levels cs.levels) (λ i. not (is_way Holds (row_way cs rows a i)))

-- a clause is broken exactly if it is not met
breaks_same : (cs : Constants) (rows : List ℕ) (x : Clause) (σ : Section) (a : Atom) → first_said σ a ≡ x ∷ []
    → breaks_in σ (everywhere cs rows a) ≡ not (clause_met cs rows x)
breaks_same cs rows x FirstPositive a e = let f : x ≡ positive a = cc in rw f refl
breaks_same cs rows x FirstDisequation a e = let f : x ≡ negated a = cc in rw f (sym (not-not (everywhere cs rows a)))
breaks_same cs rows x SecondPositive a e = let z : ◌≡◌ {A = ℕ} 0 1 = cc in absurd (omega arith)
breaks_same cs rows x SecondDisequation a e = let z : ◌≡◌ {A = ℕ} 0 1 = cc in absurd (omega arith)

-- and what is said of it is the judgement
said_same : (cs : Constants) (rows : List ℕ) (k : ℕ) (x : Clause) (σ : Section) (a : Atom) → first_said σ a ≡ x ∷ []
    → said_in σ (row_way cs rows a) (failing_leaf cs rows a) k ≡ broken_as cs rows k x
said_same cs rows k x FirstPositive a e = let f : x ≡ positive a = cc in rw f refl
said_same cs rows k x FirstDisequation a e = let f : x ≡ negated a = cc in rw f refl
said_same cs rows k x SecondPositive a e = let z : ◌≡◌ {A = ℕ} 0 1 = cc in absurd (omega arith)
said_same cs rows k x SecondDisequation a e = let z : ◌≡◌ {A = ℕ} 0 1 = cc in absurd (omega arith)

-- where a positive clause is broken, the leaf is one of the row
pub leaf_lt : (leaf n : ℕ) → leaf ≤ n → not (eqb leaf n) ≡ true → leaf < n
leaf_lt leaf n l b = lt_of_le-ne l (λ e. true≢false (sym b ∙ ap not (eq-eqb leaf n e)))

-- only what stands at the leaves counts for that
said_ext : (σ : Section) (n k : ℕ) (v w : ℕ → Way) (i j : ℕ) → i ≡ j → j ≤ n → breaks_in σ (eqb j n) ≡ true
    → ((i : ℕ) → i < n → v i ≡ w i) → said_in σ v i k ≡ said_in σ w j k
said_ext FirstPositive n k v w i j e l b f = rw e (ap (λ x. Broken k x j) (f j (leaf_lt j n l b)))
said_ext FirstDisequation n k v w i j e l b f = refl
said_ext SecondPositive n k v w i j e l b f = refl
said_ext SecondDisequation n k v w i j e l b f = refl

module _ (s : List ℕ) (q : Question) (e : read s ≡ accepted q) where
  F : WellFormed q
  F = accepted_formed s q e

  L : Limited q
  L = accepted_limited s q e

  module _ (n : ℕ) (c : Command) (l : n < length q.first) (f : first_clause c ≡ clause_of q.first n ∷ []) where
    -- what holds of every term of the first system holds of those of its clause
    its_terms : (P : Term → Type 0) → InSystem P q.first → InCommand P c
    its_terms P g = in_command P (clause_of q.first n) (in_clause P q.first no_clause g n l) c f

    clause_fits : CommandFits c
    clause_fits = command_fits q.free q.constants (omega (arith, L.variables)) L.constants c
        (its_terms (Defined q.free q.constants) F.first)

    module _ (levels : ℕ) (rows constants : List ℕ) (named : ℕ) (table : List ℕ)
        (laid : Laid levels q rows constants named table) where
      few : q.free ≤ row_count
      few = omega (arith, L.variables)

      -- the constants as the table has them
      abbrev cs : Constants
      cs = record { levels = levels; numbers = take (defined_by q) constants }

      kept : InCommand (DefinedKept q.free cs named) c
      kept =
          subst (λ cs. InCommand (DefinedKept q.free cs named) c) laid.constants_are
          (its_terms _ (in_system (Defined q.free q.constants) (Kept named) (DefinedKept q.free q.constants named)
          (λ t d k. (d, k)) q.first F.first laid.kept))

      -- the lowest leaf at which an atom does not hold, of the table and of the rows
      failing_same : (a : Atom) → InAtom (DefinedKept q.free cs named) a
          → join_failing levels table (four_of (read_as a)) ≡ failing_leaf cs rows a
      failing_same a d = join_failing_lem levels rows constants named table laid.unfolded (defined_by q) q.free few a d

      -- the clause is broken exactly if it is not met
      clause_breaks : command_breaks levels table c ≡ not (clause_met q.constants rows (clause_of q.first n))
      clause_breaks = rw laid.constants_are (go c f kept)
        where
          go : (c : Command) → first_clause c ≡ clause_of q.first n ∷ [] → InCommand (DefinedKept q.free cs named) c
              → command_breaks levels table c ≡ not (clause_met cs rows (clause_of q.first n))
          go Command.End g d = let z : ◌≡◌ {A = ℕ} 0 1 = cc in absurd (omega arith)
          go Command.Head g d = let z : ◌≡◌ {A = ℕ} 0 1 = cc in absurd (omega arith)
          go (Command.Constant x) g d = let z : ◌≡◌ {A = ℕ} 0 1 = cc in absurd (omega arith)
          go (Command.Clause σ t a b c) g d =
              ap (λ l. breaks_in σ (eqb l (2 ^ row_levels levels))) (failing_same (atom_of t a b c) d)
              ∙ ap (breaks_in σ) (sym (everywhere_first cs rows (atom_of t a b c)))
              ∙ breaks_same cs rows (clause_of q.first n) σ (atom_of t a b c) g

      -- and what is said of it is the judgement
      clause_said : command_breaks levels table c ≡ true
          → command_said levels table c n ≡ broken_as q.constants rows n (clause_of q.first n)
      clause_said = rw laid.constants_are (go c f kept)
        where
          go : (c : Command) → first_clause c ≡ clause_of q.first n ∷ [] → InCommand (DefinedKept q.free cs named) c
              → command_breaks levels table c ≡ true
              → command_said levels table c n ≡ broken_as cs rows n (clause_of q.first n)
          go Command.End g d e = let z : ◌≡◌ {A = ℕ} 0 1 = cc in absurd (omega arith)
          go Command.Head g d e = let z : ◌≡◌ {A = ℕ} 0 1 = cc in absurd (omega arith)
          go (Command.Constant x) g d e = let z : ◌≡◌ {A = ℕ} 0 1 = cc in absurd (omega arith)
          go (Command.Clause σ t a b c) g d e =
              let atom = atom_of t a b c in
              let same = failing_same atom d in
              said_ext σ (2 ^ row_levels levels) n _ (row_way cs rows atom) _ (failing_leaf cs rows atom) same
              (failing_le cs rows atom)
              (ap (λ l. breaks_in σ (eqb l (2 ^ row_levels levels))) (sym same) ∙ e)
              (join_way_lem levels rows constants named table laid.unfolded (defined_by q) q.free few atom d)
              ∙ said_same cs rows n (clause_of q.first n) σ atom g

-- ---- the lowest clause that is broken

lowest_there : (q : Question) (rows : List ℕ) (n : ℕ) → HeldBelow q rows n → n < length q.first
    → not (clause_met q.constants rows (clause_of q.first n)) ≡ true → lowest_broken q rows ≡ n
lowest_there q rows n held l broken = first_is (length q.first) _ n l held broken

lowest_none : (q : Question) (rows : List ℕ) (n : ℕ) → HeldBelow q rows n → length q.first ≡ n
    → lowest_broken q rows ≡ n
lowest_none q rows n held e = first_none (length q.first) _ (λ k l. held k (omega arith)) ∙ e

held_more : (q : Question) (rows : List ℕ) (n : ℕ) → HeldBelow q rows n
    → not (clause_met q.constants rows (clause_of q.first n)) ≡ false → HeldBelow q rows (n + 1)
held_more q rows n held e k l = go (eq-or-lt_of_le (le_of_suc-le-suc (omega arith)))
  where
    go : (k ≡ n) ⊎ (k < n) → not (clause_met q.constants rows (clause_of q.first k)) ≡ false
    go (inl f) = rw f e
    go (inr m) = held k m

-- ---- the judgement of the first system

-- no clause is broken
first_none_broken : (q : Question) (rows : List ℕ) (n : ℕ) → HeldBelow q rows n → length q.first ≡ n
    → Accepted ≡ first_judged q rows
first_none_broken q rows n held e =
    let none : ltb (lowest_broken q rows) (length q.first) ≡ false =
    le-ltb (lowest_broken q rows) (length q.first) (omega (arith, lowest_none q rows n held e)) in
    rw none refl

-- clause n is, and none below it
first_is_broken : (q : Question) (rows : List ℕ) (n : ℕ) → HeldBelow q rows n → n < length q.first
    → not (clause_met q.constants rows (clause_of q.first n)) ≡ true
    → broken_as q.constants rows n (clause_of q.first n) ≡ first_judged q rows
first_is_broken q rows n held l broken = rw (lowest_there q rows n held l broken, lt-ltb n (length q.first) l) refl

-- the number of "accepted" among the judgements is that of no other
pub no_other : (◌≡◌ {A = ℕ} 1 0) ⊎ ((◌≡◌ {A = ℕ} 1 2) ⊎ (◌≡◌ {A = ℕ} 1 3)) → ⊥
no_other (inl e) = omega arith
no_other (inr (inl e)) = omega arith
no_other (inr (inr e)) = omega arith

-- ---- a turn of going over the commands

module _ (levels : ℕ) (s table : List ℕ) where
  pub gone_start : Gone levels s table 4 0
  gone_start q e = (walk_start s q e, λ _ _ _ _ k l. absurd (not-suc-le-zero l))

  module _ {at n : ℕ} (g : Gone levels s table at n) where
    pub first_refused : (m : ℕ) → read_at s at ≡ Refused m → First levels s table Accepted
    first_refused m r q rows constants named e laid =
        first_none_broken q rows n ((g q e).1 rows constants named laid) (walk_none s q (g q e).0 m r)

    module _ {c : Command} {next : ℕ} (r : read_at s at ≡ Take c next) where
      pub first_end : is_end c ≡ true → First levels s table Accepted
      first_end d q rows constants named e laid =
          first_none_broken q rows n ((g q e).1 rows constants named laid) (walk_end s q (g q e).0 c next r d)

      module _ (d : is_end c ≡ false) where
        pub gone_other : says_first c ≡ false → Gone levels s table next n
        gone_other f q e = (walk_other s q (g q e).0 c next r d f, (g q e).1)

        module _ (f : says_first c ≡ true) where
          pub gone_fits : (q : Question) → read s ≡ accepted q → CommandFits c × (n < length q.first)
          gone_fits q e = let w = walk_clause s q (g q e).0 c next r d f in (clause_fits s q e n c w.0 w.1, w.0)

          breaks : (q : Question) (rows constants : List ℕ) (named : ℕ) → read s ≡ accepted q
              → Laid levels q rows constants named table
              → command_breaks levels table c ≡ not (clause_met q.constants rows (clause_of q.first n))
          breaks q rows constants named e laid =
              let w = walk_clause s q (g q e).0 c next r d f in
              clause_breaks s q e n c w.0 w.1 levels rows constants named table laid

          pub first_broken : command_breaks levels table c ≡ true → First levels s table (command_said levels table c n)
          first_broken b q rows constants named e laid =
              let w = walk_clause s q (g q e).0 c next r d f in
              clause_said s q e n c w.0 w.1 levels rows constants named table laid b
              ∙ first_is_broken q rows n ((g q e).1 rows constants named laid) w.0
              (sym (breaks q rows constants named e laid) ∙ b)

          pub gone_first : command_breaks levels table c ≡ false → Gone levels s table next (n + 1)
          gone_first b q e = (
            walk_first s q (g q e).0 c next r d f,
            λ rows constants named laid. held_more q rows n ((g q e).1 rows constants named laid)
                (sym (breaks q rows constants named e laid) ∙ b),
          )

-- a constant says nothing to the first system
pub gone_constant : (levels : ℕ) (s table : List ℕ) {at n : ℕ} → Gone levels s table at n → constant_at s at ≡ true
    → Gone levels s table (at + constant_size) n
gone_constant levels s table {at} {n} g e =
    let next : at + 1 + bytes_at constant_levels ≡ at + constant_size = omega arith in
    subst (λ k. Gone levels s table k n) next (gone_other levels s table g (constant_read s at e) refl refl)

-- so the constants that stand first are passed over
pub gone_led : (levels : ℕ) (s table : List ℕ) (k n : ℕ) → Gone levels s table (place_of n) 0
    → Gone levels s table (place_of (leading k s n)) 0
unfolding leading
gone_led levels s table zero n g = g
gone_led levels s table (suc k) n g = pick (constant_at s (place_of n)) refl (gone_led levels s table k (n + 1))
  where
    pick : (b : Bool) → constant_at s (place_of n) ≡ b
        → (Gone levels s table (place_of (n + 1)) 0 → Gone levels s table (place_of (leading k s (n + 1))) 0)
        → Gone levels s table (place_of (cond b (leading k s (n + 1)) n)) 0
    pick true e f =
        let next : place_of n + constant_size ≡ place_of (n + 1) = omega arith in
        f (subst (λ k. Gone levels s table k 0) next (gone_constant levels s table g e))
    pick false e f = g

-- the first system of an accepted question has so few clauses
pub first_few : (s : List ℕ) (q : Question) → read s ≡ accepted q → length q.first ≤ most_positive + most_disequations
first_few s q e =
    let L = accepted_limited s q e in
    omega (arith, both_counts q.first, L.sections FirstPositive, L.sections FirstDisequation)
