-- Laws of reading: an accepted question is well formed and within the limits, and so are the places. Assumes nothing.
use Rattle.std.specs.Prelude.{◌≡◌, refl, Bool, true, false, cond, ◌&&◌, List, [], ◌∷◌, ◌++◌, ℕ, zero, suc, ◌+◌, ◌-◌}
use Rattle.std.specs.Prelude.{◌*◌, ◌≤◌, ◌<◌, T, eqb, ltb, leb, length, get_or}
use Rattle.std.proofs.Common.{ap, subst, ◌∙◌, zero-le, arith, lt-ltb, ltb-true, ltb-false, leb-false, eqb-true, ltb→lt}
use Rattle.std.proofs.Common.{lit<, length-append}
use Rattle.std.proofs.lemmas.Bool.{eqb-false}
use Rattle.shares.specs.Constant.{constant_levels, bytes_at}
use Rattle.shares.specs.Test.{of_true, and_left, and_right}
use Rattle.systems.specs.Clauses.{Constants, Term, variable, constant, Atom, Clause, positive, negated, System}
use Rattle.systems.specs.Clauses.{positives, disequations}
use Rattle.systems.specs.Questions.{Kind, satisfiability, entailment, Question, Defined, InAtom, InSystem, Alone}
use Rattle.systems.specs.Questions.{WellFormed}
use Rattle.format.specs.Worked
use Rattle.format.specs.declared.Section.{Section}
use Rattle.format.specs.declared.Section.TheVariants.{FirstPositive, FirstDisequation, SecondPositive}
use Rattle.format.specs.declared.Section.TheVariants.{SecondDisequation}
use Rattle.format.specs.declared.Test.{Test}
use Rattle.format.specs.declared.Test.TheVariants.{Join, Equality, Full, Empty, Together}
use Rattle.format.specs.declared.Shape.{Shape}
use Rattle.std.specs.Prelude.{Option, Some, None}
use Rattle.format.specs.declared.Command.{Command}
use Rattle.format.specs.Format.{Head, Opens, Wrong, Step, Take, Refused}
use Rattle.format.specs.Limits.{Limited, longest}
use Rattle.format.specs.SectionLaws.{both_counts, added, Alike, same, other, alike, constant_sections, clause_keeps}
use Rattle.format.specs.Format.{Result, refused, accepted, most_variables, most_constants, entry_of, term_count}
use Rattle.format.specs.Format.{operands, command_of, whole_at, read_at, is_second, most_of, in_section, term_of, names}
use Rattle.format.specs.Format.{variables_for, term_named, all_named, atom_of, is_foreign, clause_fault, constant_fault}
use Rattle.format.specs.Format.{fault, judged, begun, with_first, with_second, with_clause, with_constant, taken, ended}
use Rattle.format.specs.Format.{Turn, go, stop, onward, turn, following, run, head_fits, opened, head_of, after_head}
use Rattle.format.specs.Format.{read}

-- ---- the statements

-- what a result keeps to
abbrev pub Kept : List ℕ → Result → Type 0
Kept s (refused n place) = (1 ≤ n) × (n ≤ 10) × (place ≤ longest constant_levels)
Kept s (accepted q) = WellFormed q × Limited q × (length s ≤ longest constant_levels)

-- ---- a system with one clause more

in_append : (P : Term → Type 0) (s t : System) → InSystem P s → InSystem P t → InSystem P (s ++ t)
in_append P [] t h k = k
in_append P (positive a ∷ s) t h k = (h.0, in_append P s t h.1 k)
in_append P (negated a ∷ s) t h k = (h.0, in_append P s t h.1 k)

-- ---- a command that was read lies within the string

-- how many bytes a command takes
abbrev pub size : Command → ℕ
size Command.End = 1
size Command.Head = 4
size (Command.Constant x) = 1 + bytes_at constant_levels
size (Command.Clause σ t a b c) = 1 + term_count t

pub size_some : (c : Command) → 1 ≤ size c
size_some Command.End = omega arith
size_some Command.Head = omega arith
size_some (Command.Constant x) = omega arith
size_some (Command.Clause σ t a b c) = omega arith

-- where it ends, and that it lies within; else a number of a refusal
abbrev pub Whole : List ℕ → ℕ → Step → Type 0
Whole s at (Take c next) = (next ≡ at + size c) × (next ≤ length s)
Whole s at (Refused n) = (1 ≤ n) × (n ≤ 10)

-- what holds on both sides of a test
pub branch : {A : Type 0} (M : A → Type 0) (b : Bool) (x y : A) → (b ≡ true → M x) → (b ≡ false → M y) → M (cond b x y)
branch M true x y f g = f refl
branch M false x y f g = g refl

size_command : (s : List ℕ) (i : ℕ) (h : Shape) → size (command_of s i h) ≡ 1 + operands h
unfolding command_of
size_command s i Shape.End = refl
size_command s i Shape.Head = refl
size_command s i Shape.Constant = refl
size_command s i (Shape.Clause σ t) = refl

whole_entry : (s : List ℕ) (at : ℕ) → at < length s → (e : Option Shape) → Whole s at (whole_at s at e)
unfolding whole_at
whole_entry s at l None = (omega arith, omega arith)
whole_entry s at l (Some h) =
    branch (Whole s at) (ltb (length s - (at + 1)) (operands h)) (Refused 2) _ (λ _. (omega arith, omega arith))
    (λ f. (omega (arith, size_command s (at + 1) h), omega (arith, ltb-false (length s - (at + 1)) (operands h) f)))

pub read_whole : (s : List ℕ) (at : ℕ) → Whole s at (read_at s at)
unfolding read_at
read_whole s at =
    branch (Whole s at) (ltb at (length s)) _ (Refused 2)
    (λ l. whole_entry s at (ltb-true _ _ l) (entry_of (get_or s at 0)))
    (λ _. (omega arith, omega arith))

-- ---- a command with no fault

clause_clear : (f l n : Bool) → clause_fault f l n ≡ 0 → (f ≡ false) × (l ≡ false) × (n ≡ true)
clause_clear true l n e = absurd (omega arith)
clause_clear false true n e = absurd (omega arith)
clause_clear false false true e = (refl, refl, refl)
clause_clear false false false e = absurd (omega arith)

constant_clear : (f l : Bool) → constant_fault f l ≡ 0 → (f ≡ false) × (l ≡ false)
constant_clear true l e = absurd (omega arith)
constant_clear false true e = absurd (omega arith)
constant_clear false false e = (refl, refl)

-- a clause with no fault: its system is there, its section has room, and its terms are named
pub record ClauseFits (q : Question) (σ : Section) (t : Test) (a b c : ℕ) : Type 0 where
  pub home : is_foreign q.kind σ ≡ false
  pub room : length (in_section q σ) < most_of σ
  pub named : T (all_named (variables_for q.free q.own σ) (length q.constants.numbers) t a b c)

pub clause_fits : (q : Question) (σ : Section) (t : Test) (a b c : ℕ) → fault q (Command.Clause σ t a b c) ≡ 0
    → ClauseFits q σ t a b c
unfolding fault
clause_fits q σ t a b c e =
    let named = all_named (variables_for q.free q.own σ) (length q.constants.numbers) t a b c in
    let z = clause_clear (is_foreign q.kind σ) (leb (most_of σ) (length (in_section q σ))) named e in
    record { home = z.0; room = leb-false _ _ z.1; named = of_true z.2 }

-- a constant with no fault: no clause was read, and there is room
pub record ConstantFits (q : Question) : Type 0 where
  pub before : length q.first + length q.second ≡ 0
  pub room : length q.constants.numbers < most_constants

pub constant_fits : (q : Question) (x : ℕ) → fault q (Command.Constant x) ≡ 0 → ConstantFits q
unfolding fault
constant_fits q x e =
    let z = constant_clear (begun q) (leb most_constants (length q.constants.numbers)) e in
    record { before = omega (arith, ltb-false 0 (length q.first + length q.second) z.0); room = leb-false _ _ z.1 }

constant_small : (f l : Bool) → constant_fault f l ≤ 10
constant_small true l = omega arith
constant_small false true = omega arith
constant_small false false = omega arith

clause_small : (f l n : Bool) → clause_fault f l n ≤ 10
clause_small true l n = omega arith
clause_small false true n = omega arith
clause_small false false true = omega arith
clause_small false false false = omega arith

fault_small : (q : Question) (c : Command) → fault q c ≤ 10
unfolding fault
fault_small q Command.End = omega arith
fault_small q Command.Head = omega arith
fault_small q (Command.Constant x) = constant_small (begun q) (leb most_constants (length q.constants.numbers))
fault_small q (Command.Clause σ t a b c) =
    clause_small (is_foreign q.kind σ) (leb (most_of σ) (length (in_section q σ)))
    (all_named (variables_for q.free q.own σ) (length q.constants.numbers) t a b c)

-- a command that is taken was read, and has no fault
pub judged_take : (q : Question) (r : Step) (c : Command) (next : ℕ) → judged q r ≡ Take c next → (r ≡ Take c next)
    × (fault q c ≡ 0)
judged_take q (Refused n) c next e = let z : ◌≡◌ {A = ℕ} 0 1 = cc in absurd (omega arith)
judged_take q (Take c' next') c next e = pick (eqb (fault q c') 0) refl e
  where
    pick : (b : Bool) → eqb (fault q c') 0 ≡ b → cond b (Take c' next') (Refused (fault q c')) ≡ Take c next
        → (Take c' next' ≡ Take c next) × (fault q c ≡ 0)
    pick true f g = let h : c' ≡ c = cc in (g, rw (← h) (eqb-true (fault q c') 0 f))
    pick false f g = let z : ◌≡◌ {A = ℕ} 0 1 = cc in absurd (omega arith)

-- ---- named terms are defined

pub named_defined_lem : (n : ℕ) (cs : Constants) (t : ℕ) → T (names n (length cs.numbers) t) → Defined n cs (term_of t)
unfolding names term_of
named_defined_lem n cs t h = pick (ltb t 0x20) h
  where
    pick : (b : Bool) → T (cond b (ltb t n) (ltb (t - 0x20) (length cs.numbers)))
        → Defined n cs (cond b (variable t) (constant (t - 0x20)))
    pick true u = ltb→lt _ _ u
    pick false u = ltb→lt _ _ u

-- each of the terms that a test has
record EachNamed (n k : ℕ) (t : Test) (a b c : ℕ) : Type 0 where
  pub first : 0 < term_count t → T (names n k a)
  pub second : 1 < term_count t → T (names n k b)
  pub third : 2 < term_count t → T (names n k c)

term_named_lem : (n k count i t : ℕ) → T (term_named n k count i t) → i < count → T (names n k t)
term_named_lem n k count i t h l = rw (lt-ltb i count l) at h

each_named : (n k : ℕ) (t : Test) (a b c : ℕ) → T (all_named n k t a b c) → EachNamed n k t a b c
each_named n k t a b c h =
    let m = term_count t in
    let r = and_right (term_named n k m 0 a) _ h in
    record {
      first = term_named_lem n k m 0 a (and_left (term_named n k m 0 a) _ h);
      second = term_named_lem n k m 1 b (and_left (term_named n k m 1 b) _ r);
      third = term_named_lem n k m 2 c (and_right (term_named n k m 1 b) _ r);
    }

-- what holds of each named term holds of every term of what a test says
pub in_test : (P : Term → Type 0) (n k : ℕ) → ((u : ℕ) → T (names n k u) → P (term_of u))
    → (t : Test) (a b c : ℕ) → T (all_named n k t a b c) → InAtom P (atom_of t a b c)
in_test P n k f t a b c h = go t (each_named n k t a b c h)
  where
    go : (t : Test) → EachNamed n k t a b c → InAtom P (atom_of t a b c)
    go Join e = (f a (e.first (lit< tt)), f b (e.second (lit< tt)), f c (e.third (lit< tt)))
    go Equality e = (f a (e.first (lit< tt)), f b (e.second (lit< tt)))
    go Full e = f a (e.first (lit< tt))
    go Empty e = f a (e.first (lit< tt))
    go Together e = (f a (e.first (lit< tt)), f b (e.second (lit< tt)))

-- ---- what every question that is read so far keeps to, at the offset where reading stands

pub record Sound (q : Question) (at : ℕ) : Type 0 where
  pub formed : WellFormed q
  pub limited : Limited q
  pub reach : at ≤ 4 + (1 + bytes_at constant_levels) * length q.constants.numbers + 4 *
      (length q.first + length q.second)

-- so reading stands before the last byte of the longest question
pub sound_place : (q : Question) (at : ℕ) → Sound q at → at < longest constant_levels
sound_place q at d =
    omega (
      arith,
      d.reach,
      d.limited.constants,
      both_counts q.first,
      both_counts q.second,
      d.limited.sections FirstPositive,
      d.limited.sections FirstDisequation,
      d.limited.sections SecondPositive,
      d.limited.sections SecondDisequation,
    )

none_in : (P : Term → Type 0) (s : System) → length s ≡ 0 → InSystem P s
none_in P [] e = tt
none_in P (c ∷ s) e = absurd (omega arith)

sound_constant : (q : Question) (at x : ℕ) → Sound q at → ConstantFits q
    → Sound (with_constant q x) (at + (1 + bytes_at constant_levels))
sound_constant q at x d f = record {
  formed = record {
    alone = d.formed.alone;
    first = none_in _ q.first (omega (arith, f.before));
    second = none_in _ q.second (omega (arith, f.before));
  };
  limited = record {
    variables = d.limited.variables;
    levels = d.limited.levels;
    constants = simp length-append (omega (arith, f.room));
    sections = λ σ. rw (constant_sections q x σ) (d.limited.sections σ);
  };
  reach = simp length-append (omega (arith, d.reach));
}

formed_first : (q : Question) (c : Clause) → WellFormed q → InSystem (Defined q.free q.constants) (c ∷ [])
    → WellFormed (with_first q c)
formed_first q c w h = record { alone = w.alone; first = in_append _ q.first (c ∷ []) w.first h; second = w.second }

-- where the second system is there
alone_second : (k : Kind) (m : ℕ) (s : System) (σ : Section) → is_second σ ≡ true → is_foreign k σ ≡ false → Alone k m s
alone_second satisfiability m s σ e f = let z : ◌≡◌ {A = ℕ} 0 1 = cc in absurd (omega arith)
alone_second entailment m s σ e f = tt

formed_second : (q : Question) (σ : Section) (c : Clause) → is_second σ ≡ true → is_foreign q.kind σ ≡ false
    → WellFormed q
    → InSystem (Defined (q.free + q.own) q.constants) (c ∷ []) → WellFormed (with_second q c)
formed_second q σ c e f w h =
    record { alone = alone_second q.kind _ _ σ e f; first = w.first; second = in_append _ q.second (c ∷ []) w.second h }

formed_clause : (q : Question) (σ : Section) (a : Atom) → is_foreign q.kind σ ≡ false → WellFormed q
    → InAtom (Defined (variables_for q.free q.own σ) q.constants) a → WellFormed (with_clause q σ a)
formed_clause q FirstPositive a f w h = formed_first q (positive a) w (h, tt)
formed_clause q FirstDisequation a f w h = formed_first q (negated a) w (h, tt)
formed_clause q SecondPositive a f w h = formed_second q SecondPositive (positive a) refl f w (h, tt)
formed_clause q SecondDisequation a f w h = formed_second q SecondDisequation (negated a) refl f w (h, tt)

section_limit : (q : Question) (σ τ : Section) (a : Atom) → length (in_section q σ) < most_of σ
    → length (in_section q τ) ≤ most_of τ
    → length (in_section (with_clause q σ a) τ) ≤ most_of τ
section_limit q σ τ a h k = pick (alike σ τ) h k
  where
    pick : {σ τ : Section} → Alike σ τ → length (in_section q σ) < most_of σ → length (in_section q τ) ≤ most_of τ
        → length (in_section (with_clause q σ a) τ) ≤ most_of τ
    pick (same {σ = υ}) m l = rw (added q υ a) (simp length-append (omega arith))
    pick (other e) m l = rw (e.kept q a) l

pub term_small : (t : Test) → term_count t ≤ 3
term_small Join = omega arith
term_small Equality = omega arith
term_small Full = omega arith
term_small Empty = omega arith
term_small Together = omega arith

sound_clause : (q : Question) (at : ℕ) (σ : Section) (t : Test) (a b c : ℕ) → Sound q at → ClauseFits q σ t a b c
    → Sound (with_clause q σ (atom_of t a b c)) (at + (1 + term_count t))
sound_clause q at σ t a b c d f =
    let r = with_clause q σ (atom_of t a b c) in
    let k = clause_keeps q σ (atom_of t a b c) in
    record {
      formed = formed_clause q σ (atom_of t a b c) f.home d.formed
          (in_test (Defined _ q.constants) _ _ (named_defined_lem _ q.constants) t a b c f.named);
      limited = record {
        variables = rw (k.free, k.own) d.limited.variables;
        levels = ap (λ cs. cs.levels) k.constants ∙ d.limited.levels;
        constants = rw k.constants d.limited.constants;
        sections = λ τ. section_limit q σ τ (atom_of t a b c) f.room (d.limited.sections τ);
      };
      reach = rw k.constants (omega (arith, d.reach, k.clauses, term_small t));
    }

-- ---- the whole reading

-- what holds of each question on the way, and of the result
abbrev pub Stay : (Question → ℕ → Type 0) → (Result → Type 0) → Turn → Type 0
Stay P R (go q at) = P q at
Stay P R (stop r) = R r

pub run_law : (P : Question → ℕ → Type 0) (R : Result → Type 0) (s : List ℕ)
    → ((q : Question) (at : ℕ) → P q at → Stay P R (turn s at q))
    → ((q : Question) (at : ℕ) → P q at → R (refused 2 at)) → (k at : ℕ) (q : Question) → P q at → R (run k s at q)
unfolding run
run_law P R s f g zero at q p = g q at p
run_law P R s f g (suc k) at q p = pick (turn s at q) (f q at p) (run_law P R s f g k)
  where
    pick : (t : Turn) → Stay P R t → ((at' : ℕ) (q' : Question) → P q' at' → R (run k s at' q'))
        → R (following (λ q' at'. run k s at' q') t)
    pick (go q' at') h ih = ih at' q' h
    pick (stop r) h ih = h

-- a turn that goes on passes over a byte or more, within the string
turn_moves : (s : List ℕ) (at : ℕ) (q : Question)
    → Stay (λ _ next. (at < next) × (next ≤ length s)) (λ _. Unit {0}) (turn s at q)
unfolding turn
turn_moves s at q = judge (read_at s at) (read_whole s at)
  where
    on : (c : Command) (next : ℕ) → Whole s at (Take c next)
        → Stay (λ _ next. (at < next) × (next ≤ length s)) (λ _. Unit {0}) (onward s at q (Take c next))
    on Command.End next w = tt
    on Command.Head next w = (omega arith, w.1)
    on (Command.Constant x) next w = (omega arith, w.1)
    on (Command.Clause σ t a b c) next w = (omega arith, w.1)

    judge : (r : Step) → Whole s at r
        → Stay (λ _ next. (at < next) × (next ≤ length s)) (λ _. Unit {0}) (onward s at q (judged q r))
    judge (Refused n) w = tt
    judge (Take c next) w =
        branch (λ r. Stay (λ _ next. (at < next) × (next ≤ length s)) (λ _. Unit {0}) (onward s at q r))
        (eqb (fault q c) 0) (Take c next) (Refused (fault q c))
        (λ _. on c next w) (λ _. tt)

-- the bound on the commands does not matter, where it is more than the bytes left
pub run_enough : (s : List ℕ) (f g at : ℕ) (q : Question) → at ≤ length s → length s < at + f → length s < at + g
    → run f s at q ≡ run g s at q
unfolding run
run_enough s zero g at q w a b = absurd (omega arith)
run_enough s (suc f) zero at q w a b = absurd (omega arith)
run_enough s (suc f) (suc g) at q w a b = pick (turn s at q) (turn_moves s at q) (run_enough s f g)
  where
    pick : (t : Turn) → Stay (λ _ next. (at < next) × (next ≤ length s)) (λ _. Unit {0}) t
        → ((at' : ℕ) (q' : Question) → at' ≤ length s → length s < at' + f → length s < at' + g
        → run f s at' q' ≡ run g s at' q')
        → following (λ q' at'. run f s at' q') t ≡ following (λ q' at'. run g s at' q') t
    pick (go q' next) m again = again next q' m.1 (omega arith) (omega arith)
    pick (stop r) m again = refl

onward_kept : (s : List ℕ) (at : ℕ) (q : Question) (c : Command) (next : ℕ) → Sound q at → fault q c ≡ 0
    → Whole s at (Take c next)
    → Stay Sound (Kept s) (onward s at q (Take c next))
unfolding fault taken ended
onward_kept s at q Command.End next d e w =
    let p = sound_place q at d in
    branch (Kept s) (eqb next (length s)) (accepted q) (refused 10 next)
    (λ h. (d.formed, d.limited, omega (arith, eqb-true next (length s) h)))
    (λ _. (omega arith, omega arith, omega arith))
onward_kept s at q Command.Head next d e w = absurd (omega arith)
onward_kept s at q (Command.Constant x) next d e w = rw w.0 (sound_constant q at x d (constant_fits q x e))
onward_kept s at q (Command.Clause σ t a b c) next d e w =
    rw w.0 (sound_clause q at σ t a b c d (clause_fits q σ t a b c e))

pub turn_kept : (s : List ℕ) (q : Question) (at : ℕ) → Sound q at → Stay Sound (Kept s) (turn s at q)
unfolding turn
turn_kept s q at d = judge (read_at s at) (read_whole s at)
  where
    judge : (r : Step) → Whole s at r → Stay Sound (Kept s) (onward s at q (judged q r))
    judge (Refused n) w = (w.0, w.1, omega (arith, sound_place q at d))
    judge (Take c next) w =
        branch (λ r. Stay Sound (Kept s) (onward s at q r)) (eqb (fault q c) 0) (Take c next) (Refused (fault q c))
        (λ e. onward_kept s at q c next d (eqb-true (fault q c) 0 e) w)
        (λ e. let f = eqb-false (fault q c) 0 e in (omega arith, fault_small q c, omega (arith, sound_place q at d)))

-- a head that fits
pub record HeadFits (kind n m : ℕ) : Type 0 where
  pub kinds : kind ≤ 1
  pub variables : n + m ≤ most_variables
  pub alone : eqb kind 0 ≡ true → m ≡ 0

pub head_fits_lem : (kind n m : ℕ) → head_fits kind n m ≡ true → HeadFits kind n m
unfolding head_fits
head_fits_lem kind n m e = pick (ltb 1 kind) (ltb most_variables (n + m)) (eqb kind 0) refl refl refl e
  where
    pick : (a b c : Bool) → ltb 1 kind ≡ a → ltb most_variables (n + m) ≡ b → eqb kind 0 ≡ c
        → cond a false (cond b false (cond c (eqb m 0) true)) ≡ true
        → HeadFits kind n m
    pick true b c f g h e = let z : ◌≡◌ {A = ℕ} 0 1 = cc in absurd (omega arith)
    pick false true c f g h e = let z : ◌≡◌ {A = ℕ} 0 1 = cc in absurd (omega arith)
    pick false false true f g h e =
        record { kinds = ltb-false _ _ f; variables = ltb-false _ _ g; alone = λ _. eqb-true m 0 e }
    pick false false false f g h e = record {
      kinds = ltb-false _ _ f;
      variables = ltb-false _ _ g;
      alone =
          λ y. let z : ◌≡◌ {A = ℕ} 0 1 = cc in absurd (omega arith);
    }

pub opened_sound : (kind n m : ℕ) → head_fits kind n m ≡ true → Sound (opened kind n m) 4
unfolding opened positives disequations
opened_sound kind n m e =
    let h = head_fits_lem kind n m e in
    record {
      formed = record {
        alone = branch (λ k. Alone k m []) (eqb kind 0) satisfiability entailment (λ z. (h.alone z, refl)) (λ _. tt);
        first = tt;
        second = tt;
      };
      limited = record { variables = h.variables; levels = refl; constants = omega arith; sections = none };
      reach = omega arith;
    }
  where
    none : (σ : Section) → length (in_section (opened kind n m) σ) ≤ most_of σ
    none FirstPositive = zero-le
    none FirstDisequation = zero-le
    none SecondPositive = zero-le
    none SecondDisequation = zero-le

-- a head that is taken is whole and fits; else a number of a refusal
abbrev pub HeadRight : List ℕ → Head → Type 0
HeadRight s (Opens kind n m) = (4 ≤ length s) × (head_fits kind n m ≡ true)
HeadRight s (Wrong n) = (1 ≤ n) × (n ≤ 10)

pub head_right : (s : List ℕ) → HeadRight s (head_of s)
unfolding head_of
head_right s =
    branch (HeadRight s) (ltb 0 (length s) && eqb (get_or s 0 0) 1) _ (Wrong 1)
    (λ _. branch (HeadRight s) (ltb (length s) 4) (Wrong 2) _ (λ _. (omega arith, omega arith))
    (λ w. branch (HeadRight s) (head_fits (get_or s 1 0) (get_or s 2 0) (get_or s 3 0)) (Opens _ _ _) (Wrong 5)
    (λ e. (ltb-false (length s) 4 w, e)) (λ _. (omega arith, omega arith))))
    (λ _. (omega arith, omega arith))

-- every result keeps to the limits
pub read_kept : (s : List ℕ) → Kept s (read s)
unfolding read
read_kept s = pick (head_of s) (head_right s)
  where
    pick : (h : Head) → HeadRight s h → Kept s (after_head s h)
    pick (Opens kind n m) r =
        run_law Sound (Kept s) s (turn_kept s) (λ q at d. (omega arith, omega arith, omega (arith, sound_place q at d)))
        (length s) 4 (opened kind n m)
        (opened_sound kind n m r.1)
    pick (Wrong n) r = (r.0, r.1, omega arith)

-- ---- what callers cite

pub accepted_formed : (s : List ℕ) (q : Question) → read s ≡ accepted q → WellFormed q
accepted_formed s q e = (subst (Kept s) e (read_kept s)).0

pub accepted_limited : (s : List ℕ) (q : Question) → read s ≡ accepted q → Limited q
accepted_limited s q e = (subst (Kept s) e (read_kept s)).1

pub accepted_short : (s : List ℕ) (q : Question) → read s ≡ accepted q → length s ≤ longest constant_levels
accepted_short s q e = (subst (Kept s) e (read_kept s)).2

pub refusal_number : (s : List ℕ) (n place : ℕ) → read s ≡ refused n place → (1 ≤ n) × (n ≤ 10)
refusal_number s n place e = let k = subst (Kept s) e (read_kept s) in (k.0, k.1)

pub refusal_place : (s : List ℕ) (n place : ℕ) → read s ≡ refused n place → place ≤ longest constant_levels
refusal_place s n place e = (subst (Kept s) e (read_kept s)).2
