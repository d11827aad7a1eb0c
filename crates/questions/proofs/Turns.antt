-- The loop of reading, turn by turn: what stands at its head, and where each way out of it leads. Assumes nothing.
use mathlib.Core.Path.{◌≡◌, refl, sym, ap, subst, ◌∙◌}
use mathlib.Core.Bool.{Bool, true, false, cond, true≢false}
use mathlib.Core.List.{List, map}
use Prim.Native.Nat.{ℕ, zero, suc, ◌+◌, ◌≤◌, ◌<◌}
use native.Mathlib.Omega.{arith}
use borrow.Author.Tests.{eqb-true, eqb-false, eq-eqb, ne_eqb}
use lib.Dec.{eqb}
use lib.ListN.{length, set, take, drop, replicate}
use Rattle.shares.specs.Constant.{constant_levels, number_of, number, bytes_at}
use Rattle.shares.specs.NumberLaws.{zero_at}
use Rattle.systems.specs.Clauses.{positives, disequations}
use Rattle.systems.specs.Questions.{Question, satisfiability, entailment, named_in, is_among}
use Rattle.systems.specs.AtLeaves.{read_as}
use Rattle.format.specs.declared.Section.{Section}
use Rattle.format.specs.declared.Section.TheVariants.{FirstPositive, FirstDisequation, SecondPositive}
use Rattle.format.specs.declared.Section.TheVariants.{SecondDisequation}
use Rattle.format.specs.declared.Command.{Command}
use Rattle.format.specs.Format.{Opens, Wrong, Step, Take, Refused}
use Rattle.format.specs.declared.Kind.{Kind as HeldKind}
use Rattle.format.specs.declared.Question.{Question as Held}
use Rattle.format.specs.Numbers.{kind_value}
use Rattle.format.specs.Format.{most_constants, Result, refused, accepted, read_at, atom_of, fault, judged, taken}
use Rattle.format.specs.Format.{ended, go, stop, onward, turn, following, run, head_fits, kind_from, most_of}
use Rattle.format.specs.Format.{in_section, opened, head_of, read}
use Rattle.format.specs.Stored.{kind_number, clause_bytes, section_start, readings_at, Stored, stored, stored_of}
use Rattle.format.specs.Stored.{count_of, defined_by, named_word, Stands, Reading, refused_with, held, reading_of}
use Rattle.format.specs.Stored.{written_onward, command_written, written_by, clauses_after, leading_of, is_leading}
use Rattle.format.specs.Stored.{constant_at, place_of, leading}
use Rattle.format.specs.Keeping.{lead_into, kept_constants, constant_count, kept_clauses, kept_names, clause_counts}
use Rattle.format.specs.Keeping.{judged_of, is_end}
use Rattle.format.proofs.FormatLaws.{constant_fits, judged_take, size_some, Whole, read_whole, branch, Sound, Stay}
use Rattle.format.proofs.FormatLaws.{Kept, turn_kept, head_fits_lem, opened_sound, HeadRight, head_right}
use Rattle.format.proofs.Callers.{levels_are}
use Rattle.format.proofs.LeadLaws.{constant_taken, leading_stops}
use Rattle.format.specs.SectionLaws.{clause_keeps}
use Rattle.format.proofs.KeepingLaws.{Bytes, ProperStep, read_proper, judged_same, kept, ZerosPast, zeros_kept}
use Rattle.format.proofs.KeepingLaws.{defined_kept, written_same, stands_taken, held_as_lem}

-- ---- where the reading stands: some turns from here give what the whole reading gives

-- nothing stored but the head
abbrev pub opening : ℕ → ℕ → List ℕ → Stored
opening free own clauses = stored clauses (replicate 4 0) (replicate 32 0) 0 free own

-- so many constants are defined, and l₀ are the clauses' bytes at the start
pub record Going (s : List ℕ) (kind : ℕ) (x : Stored) (defined : ℕ) (q₀ : Question) (l₀ : List ℕ) (at : ℕ)
    : Type 0 where
  pub q : Question
  pub stands : Stands kind x q
  pub count : defined ≡ defined_by q
  pub zeros : ZerosPast (defined_by q) x.constants
  pub sound : Sound q at
  pub within : at ≤ length s
  pub turns : ℕ
  pub enough : length s < at + turns
  pub same : run turns s at q ≡ run (length s) s 4 q₀
  pub written : written_by turns s at q x.clauses ≡ written_by (length s) s 4 q₀ l₀

-- the constants of a question that is read have `constant_levels` levels, and so have those that are stored of it
stored_as : {kind : ℕ} (x : Stored) (q : Question) (at : ℕ) → Stands kind x q → Sound q at
    → x ≡ stored x.clauses x.counts x.constants x.named x.free x.own
stored_as x q at d g = ap with_levels (sym (levels_are x q d) ∙ g.limited.levels)
  where
    with_levels : ℕ → Stored
    with_levels k =
        record {
          clauses = x.clauses;
          counts = x.counts;
          constants = x.constants;
          levels = k;
          named = x.named;
          free = x.free;
          own = x.own;
        }

kind_number_lem : (kind : ℕ) → kind ≤ 1 → kind ≡ kind_number (kind_from kind)
kind_number_lem kind h =
    branch (λ k. kind ≡ kind_number k) (eqb kind 0) satisfiability entailment (λ e. eqb-true kind 0 e)
    (λ e. let f = eqb-false kind 0 e in omega arith)

stands_opened : (kind n m : ℕ) (clauses : List ℕ) → length clauses ≡ clause_bytes → head_fits kind n m ≡ true
    → Stands kind (opening n m clauses) (opened kind n m)
unfolding opened readings_at positives disequations named_word number_of is_among named_in
stands_opened kind n m clauses lc e =
    let h = head_fits_lem kind n m e in
    record {
      kind = kind_number_lem kind h.kinds;
      free = refl;
      own = refl;
      constants = refl;
      named = refl;
      named_defined = λ i t. absurd t;
      sections = none;
      variables = h.variables;
      counted = counted;
      constant_counted = omega arith;
      small = λ i l. absurd (omega arith);
      clauses = λ σ i l. absurd (omega (arith, empty σ));
      sizes = (refl, lc, refl);
    }
  where
    empty : (σ : Section) → count_of (replicate 4 0) σ ≡ 0
    empty FirstPositive = refl
    empty FirstDisequation = refl
    empty SecondPositive = refl
    empty SecondDisequation = refl

    counted : (σ : Section) → count_of (replicate 4 0) σ ≤ most_of σ
    counted σ = omega (arith, empty σ)

    none : (σ : Section) → readings_at clauses (section_start σ) (count_of (replicate 4 0) σ)
        ≡ map read_as (in_section (opened kind n m) σ)
    none FirstPositive = refl
    none FirstDisequation = refl
    none SecondPositive = refl
    none SecondDisequation = refl

pub begins : (s : List ℕ) (kind n m : ℕ) (clauses : List ℕ) → length clauses ≡ clause_bytes → 4 ≤ length s
    → head_fits kind n m ≡ true
    → Going s kind (opening n m clauses) 0 (opened kind n m) clauses 4
unfolding opened
begins s kind n m clauses lc h e = record {
  q = opened kind n m;
  stands = stands_opened kind n m clauses lc e;
  count = refl;
  zeros = λ i l. zero_at 32 i;
  sound = opened_sound kind n m e;
  within = h;
  turns = length s;
  enough = omega arith;
  same = refl;
  written = refl;
}

-- ---- one turn

pub not_end : (c : Command) → (c ≡ Command.End → ⊥) → is_end c ≡ false
not_end Command.End n = absurd (n refl)
not_end Command.Head n = refl
not_end (Command.Constant x) n = refl
not_end (Command.Clause σ t a b c) n = refl

is_end_lem : (c : Command) → is_end c ≡ true → c ≡ Command.End
is_end_lem Command.End e = refl
is_end_lem Command.Head e = let z : ◌≡◌ {A = ℕ} 0 1 = cc in absurd (omega arith)
is_end_lem (Command.Constant x) e = let z : ◌≡◌ {A = ℕ} 0 1 = cc in absurd (omega arith)
is_end_lem (Command.Clause σ t a b c) e = let z : ◌≡◌ {A = ℕ} 0 1 = cc in absurd (omega arith)

goes_on : (s : List ℕ) (at : ℕ) (q : Question) (c : Command) (next : ℕ) → is_end c ≡ false
    → onward s at q (Take c next) ≡ go (taken q c) next
goes_on s at q Command.End next e = let z : ◌≡◌ {A = ℕ} 0 1 = cc in absurd (omega arith)
goes_on s at q Command.Head next e = refl
goes_on s at q (Command.Constant x) next e = refl
goes_on s at q (Command.Clause σ t a b c) next e = refl

written_on : (f : Command → ℕ → List ℕ) (l : List ℕ) (c : Command) (next : ℕ) → is_end c ≡ false
    → written_onward f l (Take c next) ≡ f c next
written_on f l Command.End next e = let z : ◌≡◌ {A = ℕ} 0 1 = cc in absurd (omega arith)
written_on f l Command.Head next e = refl
written_on f l (Command.Constant x) next e = refl
written_on f l (Command.Clause σ t a b c) next e = refl

-- what the whole reading hands over, and what the clauses' bytes hold then
abbrev pub Gives : List ℕ → Question → List ℕ → Reading → List ℕ → Type 0
Gives s q₀ l₀ out clauses = (out ≡ reading_of (run (length s) s 4 q₀)) × (clauses ≡ written_by (length s) s 4 q₀ l₀)

-- the struct of a question that is stored so
abbrev pub held_from : HeldKind → Stored → ℕ → Held
held_from k x defined = record {
  kind = k;
  free = x.free;
  own = x.own;
  constants = x.constants;
  defined =
      defined;
  named = x.named;
  counts = x.counts;
}

module _ (s : List ℕ) (kind : ℕ) (x : Stored) (defined : ℕ) (q₀ : Question) (l₀ : List ℕ) (at : ℕ)
    (g : Going s kind x defined q₀ l₀ at) (r : Step)
    (e : r ≡ judged_of kind x.free x.own defined x.counts (read_at s at)) where
  judged_is : r ≡ judged g.q (read_at s at)
  judged_is = e ∙ ap (λ n. judged_of kind x.free x.own n x.counts (read_at s at)) g.count
      ∙ judged_same x g.q g.stands (read_at s at)

  turn_is : turn s at g.q ≡ onward s at g.q r
  unfolding turn
  turn_is = ap (onward s at g.q) (sym judged_is)

  stops : (p : Result) → onward s at g.q r ≡ stop p → run (length s) s 4 q₀ ≡ p
  unfolding run
  stops p f = by g.turns g.enough g.same
    where
      by : (k : ℕ) → length s < at + k → run k s at g.q ≡ run (length s) s 4 q₀ → run (length s) s 4 q₀ ≡ p
      by zero h z = absurd (omega (arith, g.within))
      by (suc k) h z = sym z ∙ ap (following (λ q' at'. run k s at' q')) (turn_is ∙ f)

  -- the bytes are left where a step leaves them, whatever would follow
  left : ((f : Command → ℕ → List ℕ) → written_onward f x.clauses r ≡ x.clauses)
      → x.clauses ≡ written_by (length s) s 4 q₀ l₀
  unfolding written_by
  left f = by g.turns g.enough g.written
    where
      by : (k : ℕ) → length s < at + k → written_by k s at g.q x.clauses ≡ written_by (length s) s 4 q₀ l₀
          → x.clauses ≡ written_by (length s) s 4 q₀ l₀
      by zero h z = absurd (omega (arith, g.within))
      by (suc k) h z =
          let rest : Command → ℕ → List ℕ =
          λ c next. written_by k s next (taken g.q c) (command_written g.q x.clauses c) in
          sym (ap (written_onward rest x.clauses) (sym judged_is) ∙ f rest) ∙ z

  -- a refusal
  refuses : (n place : ℕ) → onward s at g.q r ≡ stop (refused n place)
      → ((f : Command → ℕ → List ℕ) → written_onward f x.clauses r ≡ x.clauses)
      → Gives s q₀ l₀ (refused_with n place) x.clauses
  refuses n place h f = (ap reading_of (sym (stops (refused n place) h)), left f)

  pub refused_turn : (n : ℕ) → r ≡ Refused n → Gives s q₀ l₀ (refused_with n at) x.clauses
  refused_turn n t = refuses n at (ap (onward s at g.q) t) (λ f. ap (written_onward f x.clauses) t)

  module _ (c : Command) (next : ℕ) (t : r ≡ Take c next) where
    pub taken_is : (read_at s at ≡ Take c next) × (fault g.q c ≡ 0)
    taken_is = judged_take g.q (read_at s at) c next (sym judged_is ∙ t)

    pub whole : Whole s at (Take c next)
    whole = subst (Whole s at) taken_is.0 (read_whole s at)

    pub no_fault : fault g.q c ≡ 0
    no_fault = taken_is.1

    module _ (h : is_end c ≡ true) where
      end_step : r ≡ Take Command.End next
      end_step = t ∙ ap (λ k. Take k next) (is_end_lem c h)

      end_is : onward s at g.q r ≡ stop (ended s next g.q)
      end_is = ap (onward s at g.q) end_step

      end_leaves : (f : Command → ℕ → List ℕ) → written_onward f x.clauses r ≡ x.clauses
      end_leaves f = ap (written_onward f x.clauses) end_step

      pub accepted_turn : next ≡ length s → (k : HeldKind) → kind ≡ kind_value k
          → Gives s q₀ l₀ (held (held_from k x defined)) x.clauses
          × ((q : Question) → run (length s) s 4 q₀ ≡ accepted q
          → Stands (kind_value k) (stored_of (held_from k x defined) x.clauses) q)
      unfolding ended
      accepted_turn l k v =
          let a : ended s next g.q ≡ accepted g.q = simp (eq-eqb next (length s) l) in
          let stands = subst (λ y. Stands kind y g.q) (stored_as x g.q at g.stands g.sound) g.stands in
          let z = stops (accepted g.q) (end_is ∙ ap stop a) in (
            (ap held (held_as_lem x g.q g.stands defined g.count g.zeros k v) ∙ ap reading_of (sym z), left end_leaves),
            λ q b. let y : accepted g.q ≡ accepted q = sym z ∙ b in let w : g.q ≡ q = cc in rw (← v, ← w) stands,
          )

      pub after_end : (next ≡ length s → ⊥) → Gives s q₀ l₀ (refused_with 10 next) x.clauses
      unfolding ended
      after_end l =
          let a : ended s next g.q ≡ refused 10 next = simp (ne_eqb next (length s) l) in
          refuses 10 next (end_is ∙ ap stop a) end_leaves

    pub goes : Bytes s → is_end c ≡ false → (g' : Going s kind (kept x defined c) (constant_count defined c) q₀ l₀ next)
        × (g'.q ≡ taken g.q c)
    unfolding run written_by
    goes b h = by g.turns g.enough g.same g.written
      where
        rest : ℕ → Command → ℕ → List ℕ
        rest k c next = written_by k s next (taken g.q c) (command_written g.q x.clauses c)

        on : turn s at g.q ≡ go (taken g.q c) next
        on = turn_is ∙ ap (onward s at g.q) t ∙ goes_on s at g.q c next h

        by : (k : ℕ) → length s < at + k → run k s at g.q ≡ run (length s) s 4 q₀
            → written_by k s at g.q x.clauses ≡ written_by (length s) s 4 q₀ l₀
            → (g' : Going s kind (kept x defined c) (constant_count defined c) q₀ l₀ next) × (g'.q ≡ taken g.q c)
        by zero h z w = absurd (omega (arith, g.within))
        by (suc k) h' z w = (
          record {
            q = taken g.q c;
            stands = rw g.count (stands_taken x g.q g.stands c no_fault
                (subst ProperStep taken_is.0 (read_proper s b at)));
            count = ap (λ n. constant_count n c) g.count ∙ sym (defined_kept g.q c);
            zeros = rw (defined_kept g.q c, g.count) (zeros_kept (defined_by g.q) x.constants c g.zeros);
            sound = subst (Stay Sound (Kept s)) on (turn_kept s g.q at g.sound);
            within = whole.1;
            turns = k;
            enough = omega (arith, whole.0, size_some c);
            same = sym (ap (following (λ q' at'. run k s at' q')) on) ∙ z;
            written =
                ap (written_by k s next (taken g.q c)) (sym (written_same x g.q g.stands c))
                ∙ sym (ap (written_onward (rest k) x.clauses) (sym judged_is ∙ t)
                ∙ written_on (rest k) x.clauses c next h)
                ∙ w;
          },
          refl,
        )

-- ---- the constants that stand first, each a turn of its own

module _ (s : List ℕ) (bytes : Bytes s) (kind free own : ℕ) (clauses : List ℕ) (q₀ : Question) (l₀ : List ℕ) where
  -- nothing stored but the head and n constants
  abbrev Begun : ℕ → List ℕ → Type 0
  Begun n l = Going s kind (stored clauses (replicate 4 0) l 0 free own) n q₀ l₀ (place_of n)

  constant_turn : (n : ℕ) (l : List ℕ) → n < most_constants → constant_at s (place_of n) ≡ true → Begun n l
      → Begun (n + 1) (set l n (number (take (bytes_at constant_levels) (drop (place_of n + 1) s))))
  constant_turn n l h e g =
      let next : place_of n + 1 + bytes_at constant_levels ≡ place_of (n + 1) = omega arith in
      subst (Going s kind _ (n + 1) q₀ l₀) next
      (goes s kind (stored clauses (replicate 4 0) l 0 free own) n q₀ l₀ (place_of n) g _
      (constant_taken s (place_of n) e kind free own n h) _ _ refl bytes refl).0

  pub leads : (k n : ℕ) (l : List ℕ) → n + k ≡ most_constants → Begun n l → Begun (leading k s n) (lead_into k s n l)
  unfolding leading lead_into
  leads zero n l e g = g
  leads (suc k) n l e g = pick (constant_at s (place_of n)) refl
      (leads k (n + 1) (set l n (number (take (bytes_at constant_levels) (drop (place_of n + 1) s)))) (omega arith))
    where
      pick : (b : Bool) → constant_at s (place_of n) ≡ b
          → (Begun (n + 1) (set l n (number (take (bytes_at constant_levels) (drop (place_of n + 1) s))))
          → Begun (leading k s (n + 1))
          (lead_into k s (n + 1) (set l n (number (take (bytes_at constant_levels) (drop (place_of n + 1) s))))))
          → Begun (cond b (leading k s (n + 1)) n)
          (cond b (lead_into k s (n + 1)
          (set l n (number (take (bytes_at constant_levels) (drop (place_of n + 1) s))))) l)
      pick true c f = f (constant_turn n l (omega arith) c g)
      pick false c f = g

-- ---- after them, no constant is taken

-- where no clause has been read and a constant more may be defined, none stands at the offset
abbrev pub Settled : List ℕ → Question → ℕ → Type 0
Settled s q at = length q.first + length q.second ≡ 0 → defined_by q < most_constants → constant_at s at ≡ false

-- so it is behind those that stand first
pub settled_led : (s : List ℕ) (q : Question) → leading most_constants s 0 ≡ defined_by q
    → Settled s q (place_of (leading most_constants s 0))
settled_led s q e none room = leading_stops s most_constants 0 (omega arith)

module _ (s : List ℕ) (q : Question) (at : ℕ) (S : Settled s q at) where
  -- a command without a fault is no constant
  no_constant : (v next : ℕ) → read_at s at ≡ Take (Command.Constant v) next → fault q (Command.Constant v) ≡ 0 → ⊥
  no_constant v next r f = let F =
      constant_fits q v f in true≢false (sym (ap (λ t. is_leading (leading_of t)) r) ∙ S F.before F.room)

  -- so it leaves the constants as they are, and a clause stands before the next
  pub settled_taken : (c : Command) (next : ℕ) → read_at s at ≡ Take c next → fault q c ≡ 0 → is_end c ≡ false
      → Settled s (taken q c) next × ((l : List ℕ) (n : ℕ) → (l ≡ kept_constants l n c) × (n ≡ constant_count n c))
  unfolding fault taken
  settled_taken Command.End next r f h = let z : ◌≡◌ {A = ℕ} 0 1 = cc in absurd (omega arith)
  settled_taken Command.Head next r f h = absurd (omega arith)
  settled_taken (Command.Constant v) next r f h = absurd (no_constant v next r f)
  settled_taken (Command.Clause σ t a b c) next r f h =
      (λ none room. absurd (omega (arith, (clause_keeps q σ (atom_of t a b c)).clauses)), λ l n. (refl, refl))

-- where the loop over commands stands, with so many constants defined
abbrev pub State : List ℕ → ℕ → Stored → ℕ → Question → List ℕ → ℕ → Type 0
State s kind x defined q₀ l₀ at = (g : Going s kind x defined q₀ l₀ at) × Settled s g.q at

pub starts : (s : List ℕ) → Bytes s → (kind free own : ℕ) (clauses : List ℕ) → length clauses ≡ clause_bytes
    → 4 ≤ length s → head_fits kind free own ≡ true
    → State s kind (stored clauses (replicate 4 0) (lead_into most_constants s 0 (replicate most_constants 0)) 0 free
    own) (leading most_constants s 0) (opened kind free own) clauses
    (place_of (leading most_constants s 0))
starts s bytes kind free own clauses lc h e =
    let g = leads s bytes kind free own clauses (opened kind free own) clauses most_constants 0
    (replicate most_constants 0) refl (begins s kind free own clauses lc h e) in
    (g, settled_led s g.q g.count)

-- one command more, which is a clause
pub goes_clause : (s : List ℕ) (kind : ℕ) (x : Stored) (defined : ℕ) (q₀ : Question) (l₀ : List ℕ) (at : ℕ)
    → State s kind x defined q₀ l₀ at → (r : Step)
    → r ≡ judged_of kind x.free x.own defined x.counts (read_at s at) → (c : Command) (next : ℕ) → r ≡ Take c next
    → Bytes s → is_end c ≡ false
    → (clauses : List ℕ) (named : ℕ) (counts : List ℕ)
    → (clauses ≡ kept_clauses x.clauses x.counts c) × (named ≡ kept_names x.named c) → counts ≡ clause_counts x.counts c
    → State s kind (stored clauses counts x.constants named x.free x.own) defined q₀ l₀ next
goes_clause s kind x defined q₀ l₀ at (g, S) r e c next t bytes h clauses named counts (f, n) k =
    let T = taken_is s kind x defined q₀ l₀ at g r e c next t in
    let (settled, same) = settled_taken s g.q at S c next T.0 T.1 h in
    let (g', q') = goes s kind x defined q₀ l₀ at g r e c next t bytes h in
    kept_as (same x.constants defined).0 (same x.constants defined).1 f n k
    (subst (λ y. State s kind y (constant_count defined c) q₀ l₀ next)
    (stored_as (kept x defined c) g'.q next g'.stands g'.sound)
    (g', subst (λ q. Settled s q next) (sym q') settled))
  where
    y : Stored
    y = kept x defined c

    kept_as : {constants : List ℕ} {defined' : ℕ} → constants ≡ kept_constants x.constants defined c
        → defined' ≡ constant_count defined c
        → clauses ≡ kept_clauses x.clauses x.counts c → named ≡ kept_names x.named c → counts ≡ clause_counts x.counts c
        → State s kind (stored y.clauses y.counts y.constants y.named y.free y.own) (constant_count defined c) q₀ l₀
        next
        → State s kind (stored clauses counts constants named x.free x.own) defined' q₀ l₀ next
    kept_as u v f n k G = rw (u, v, f, n, k) G

-- ---- the whole

-- a head that is refused
pub refused_head : (s : List ℕ) (n : ℕ) (l₀ : List ℕ) → Wrong n ≡ head_of s → (refused_with n 0 ≡ reading_of (read s))
    × (l₀ ≡ clauses_after s l₀)
unfolding read clauses_after
refused_head s n l₀ e = rw (← e) (refl, refl)

module _ (s : List ℕ) (kind free own : ℕ) (e : Opens kind free own ≡ head_of s) where
  pub head_taken : (4 ≤ length s) × (head_fits kind free own ≡ true)
  head_taken = subst (HeadRight s) (sym e) (head_right s)

  -- what the commands after it give is what the whole string gives
  pub read_on_lem : run (length s) s 4 (opened kind free own) ≡ read s
  unfolding read
  read_on_lem = rw (← e) refl

  pub written_on_lem : (l₀ : List ℕ) → written_by (length s) s 4 (opened kind free own) l₀ ≡ clauses_after s l₀
  unfolding clauses_after
  written_on_lem l₀ = rw (← e) refl
