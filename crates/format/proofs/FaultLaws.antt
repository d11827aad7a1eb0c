-- Reading accepts exactly the strings of questions, and refuses exactly by the first fault. Assumes nothing.
use Rattle.std.specs.Prelude.{◌≡◌, Bool, true, false, ◌&&◌, List, [], ◌∷◌, ◌⊎◌, ◌↔◌, eqb, ltb, leb, get_or, drop}
use Rattle.std.specs.Prelude.{Option, Some, None}
use Rattle.std.proofs.Math.Path.{refl, ap, subst}
use Rattle.std.proofs.Common.{sym, ◌∙◌}
use Rattle.std.proofs.Math.Bool.{cond}
use Rattle.std.proofs.Math.Logic.{inl, inr}
use Prim.Native.Nat.{ℕ, zero, suc, ◌+◌, ◌-◌, ◌≤◌, ◌<◌}
use native.Mathlib.Omega.{arith}
use borrow.Author.Tests.{lt-ltb, ltb-true, ltb-false, leb-true, leb-false, eqb-true, eqb-false, eq-eqb, ne_eqb}
use Rattle.std.proofs.Math.ListN.{length}
use Rattle.shares.specs.Test.{of_true}
use Rattle.systems.specs.Clauses.{Constants, variable, constant}
use Rattle.systems.specs.Questions.{Kind, satisfiability, entailment, Question, Defined}
use Rattle.format.specs.declared.Section.{Section}
use Rattle.format.specs.declared.Test.{Test}
use Rattle.format.specs.declared.Shape.{Shape}
use Rattle.format.specs.Format.{Head, Opens, Wrong, Step, Take, Refused}
use Rattle.format.specs.Format.{Result, refused, accepted, most_variables, most_constants, entry_of, term_count}
use Rattle.format.specs.Format.{operands, term_byte, command_of, whole_at, read_at, is_second, most_of, in_section}
use Rattle.format.specs.Format.{term_of, names, variables_for, term_named, is_foreign, clause_fault, constant_fault}
use Rattle.format.specs.Format.{begun, fault, judged, ended, onward, turn, following, run, head_fits, opened, head_of}
use Rattle.format.specs.Format.{after_head, read}
use Rattle.format.proofs.FormatLaws.{branch, term_small, named_defined_lem, run_enough, head_fits_lem}
use Rattle.format.specs.Faults.{Announced, after, NoHead, OutOfPlace, Unfit, ConstantTooMany, ClauseTooMany}
use Rattle.format.specs.Faults.{NamesNothing, ForeignClause, Due, head_due, command_due, nothing_due, faults_at}
use Rattle.format.specs.Faults.{NoneOf, FirstOf, due_after, Reached, start, further, AcceptedAs, FirstFault}
use Rattle.format.specs.AnnouncedLaws.{one_shape, byte_there, byte_known, not_cut, other, no_head, no_constant}
use Rattle.format.specs.AnnouncedLaws.{in_place, no_foreign, no_clause_lem, no_term}
use Rattle.format.specs.WorkedFaults.{bytes, nine_first}

-- ---- the first fault of a list is one

first_one : (l : List (ℕ × Type 0)) (n m : ℕ) → FirstOf l n → FirstOf l m → n ≡ m
first_one [] n m f g = absurd f
first_one (p ∷ l) n m (inl a) (inl b) = a.0 ∙ sym b.0
first_one (p ∷ l) n m (inl a) (inr b) = absurd (b.0 a.1)
first_one (p ∷ l) n m (inr a) (inl b) = absurd (a.0 b.1)
first_one (p ∷ l) n m (inr a) (inr b) = first_one l n m a.1 b.1

first_some : (l : List (ℕ × Type 0)) (n : ℕ) → FirstOf l n → NoneOf l → ⊥
first_some [] n f g = f
first_some (p ∷ l) n (inl a) g = g.0 a.1
first_some (p ∷ l) n (inr a) g = first_some l n a.1 g.1

-- the number of the first that is so, 0 where none is
data Numbered : List (ℕ × Type 0) → ℕ → Type 1 where
  none : Numbered [] 0
  here : {k : ℕ} {P : Type 0} {l : List (ℕ × Type 0)} → P → Numbered ((suc k, P) ∷ l) (suc k)
  pass : {k n : ℕ} {P : Type 0} {l : List (ℕ × Type 0)} → (P → ⊥) → Numbered l n → Numbered ((k, P) ∷ l) n

numbered_none : {l : List (ℕ × Type 0)} {n : ℕ} → n ≡ 0 → Numbered l n → NoneOf l
numbered_none e none = tt
numbered_none e (here p) = absurd (omega arith)
numbered_none e (pass f r) = (f, numbered_none e r)

numbered_first : {l : List (ℕ × Type 0)} {n : ℕ} → (n ≡ 0 → ⊥) → Numbered l n → FirstOf l n
numbered_first e none = e refl
numbered_first e (here p) = inl (refl, p)
numbered_first e (pass f r) = inr (f, numbered_first e r)

-- ---- terms

defined_named : (n : ℕ) (cs : Constants) (t : ℕ) → Defined n cs (term_of t) → names n (length cs.numbers) t ≡ true
unfolding names term_of
defined_named n cs t h = pick (ltb t 0x20) h
  where
    pick : (b : Bool) → Defined n cs (cond b (variable t) (constant (t - 0x20)))
        → cond b (ltb t n) (ltb (t - 0x20) (length cs.numbers)) ≡ true
    pick true u = lt-ltb _ _ u
    pick false u = lt-ltb _ _ u

-- the terms of a clause whose operands start at an offset
module _ (n k : ℕ) (s : List ℕ) (i count : ℕ) where
  abbrev named_at : ℕ → Bool
  named_at j = term_named n k count j (term_byte s i count j)

  -- term number j is there and names nothing
  abbrev Unnamed : ℕ → Type 0
  Unnamed j = (j < count) × (names n k (get_or s (i + j) 0) ≡ false)

  not_named : (j : ℕ) → named_at j ≡ false → Unnamed j
  not_named j e = pick (ltb j count) refl e
    where
      pick : (b : Bool) → ltb j count ≡ b → cond b (names n k (cond b (get_or s (i + j) 0) 0)) true ≡ false → Unnamed j
      pick true f g = (ltb-true j count f, g)
      pick false f g = let z : ◌≡◌ {A = ℕ} 0 1 = cc in absurd (omega arith)

  is_named : (j : ℕ) → j < count → named_at j ≡ true → names n k (get_or s (i + j) 0) ≡ true
  is_named j l e = rw (lt-ltb j count l) at e

  -- each of the three that is there
  abbrev all_named_at : Bool
  all_named_at = named_at 0 && (named_at 1 && named_at 2)

  some_unnamed : all_named_at ≡ false → (j : ℕ) × Unnamed j
  some_unnamed = pick (named_at 0) (named_at 1) (named_at 2) refl refl refl
    where
      pick : (a b c : Bool) → named_at 0 ≡ a → named_at 1 ≡ b → named_at 2 ≡ c → a && (b && c) ≡ false
          → (j : ℕ) × Unnamed j
      pick false b c e f g h = (0, not_named 0 e)
      pick true false c e f g h = (1, not_named 1 f)
      pick true true false e f g h = (2, not_named 2 g)
      pick true true true e f g h = let z : ◌≡◌ {A = ℕ} 0 1 = cc in absurd (omega arith)

  every_named : count ≤ 3 → all_named_at ≡ true → (j : ℕ) → j < count → names n k (get_or s (i + j) 0) ≡ true
  every_named m = pick (named_at 0) (named_at 1) (named_at 2) refl refl refl
    where
      pick : (a b c : Bool) → named_at 0 ≡ a → named_at 1 ≡ b → named_at 2 ≡ c → a && (b && c) ≡ true
          → (j : ℕ) → j < count → names n k (get_or s (i + j) 0) ≡ true
      pick true true true e f g h zero l = is_named 0 l e
      pick true true true e f g h (suc zero) l = is_named 1 l f
      pick true true true e f g h (suc (suc zero)) l = is_named 2 l g
      pick true true true e f g h (suc (suc (suc j))) l = absurd (omega arith)
      pick false b c e f g h j l = let z : ◌≡◌ {A = ℕ} 0 1 = cc in absurd (omega arith)
      pick true false c e f g h j l = let z : ◌≡◌ {A = ℕ} 0 1 = cc in absurd (omega arith)
      pick true true false e f g h j l = let z : ◌≡◌ {A = ℕ} 0 1 = cc in absurd (omega arith)

-- ---- one command

-- the second system is foreign to kind 0 alone
foreign_kind : (k : Kind) (σ : Section) → is_foreign k σ ≡ true → (is_second σ ≡ true) × (k ≡ satisfiability)
foreign_kind satisfiability σ e = (e, refl)
foreign_kind entailment σ e = let z : ◌≡◌ {A = ℕ} 0 1 = cc in absurd (omega arith)

module _ (s : List ℕ) (at : ℕ) (q : Question) where
  -- the faults of a command that is whole
  abbrev whole_faults : List (ℕ × Type 0)
  whole_faults = drop 3 (faults_at s at (command_due q))

  -- how many clauses, and how many constants, were read
  abbrev clauses : ℕ
  clauses = length q.first + length q.second

  abbrev constants : ℕ
  constants = length q.constants.numbers

  end_faults : Announced s at Shape.End → Numbered whole_faults 0
  end_faults a =
      pass (in_place q a refl refl)
      (pass (no_head a refl)
      (pass (no_foreign q a refl)
      (pass (no_constant q a refl) (pass (no_clause_lem q a refl) (pass (no_term q a refl) none)))))

  head_faults : Announced s at Shape.Head → Numbered whole_faults 4
  head_faults a = here (inl a)

  module _ (a : Announced s at Shape.Constant) where
    late : begun q ≡ true → OutOfPlace s at q
    late e = inr (a, ltb-true 0 clauses e)

    early : begun q ≡ false → OutOfPlace s at q → ⊥
    early e (inl b) = other a Shape.Head refl b
    early e (inr b) = omega (arith, ltb-false 0 clauses e, b.1)

    spent : leb most_constants constants ≡ true → ConstantTooMany s at q
    spent e = (a, leb-true most_constants constants e)

    few : leb most_constants constants ≡ false → ConstantTooMany s at q → ⊥
    few e b = omega (arith, leb-false most_constants constants e, b.1)

    constant_faults : (e f : Bool) → begun q ≡ e → leb most_constants constants ≡ f
        → Numbered whole_faults (constant_fault e f)
    constant_faults true f g h = here (late g)
    constant_faults false true g h =
        pass (early g) (pass (no_head a refl) (pass (no_foreign q a refl) (here (spent h))))
    constant_faults false false g h =
        pass (early g)
        (pass (no_head a refl)
        (pass (no_foreign q a refl) (pass (few h) (pass (no_clause_lem q a refl) (pass (no_term q a refl) none)))))

  module _ (σ : Section) (t : Test) (a : Announced s at (Shape.Clause σ t)) where
    -- the variables that it may name
    abbrev variables : ℕ
    variables = variables_for q.free q.own σ

    -- the three tests
    abbrev foreign : Bool
    foreign = is_foreign q.kind σ

    abbrev filled : Bool
    filled = leb (most_of σ) (length (in_section q σ))

    abbrev named : Bool
    named = all_named_at variables constants s (at + 1) (term_count t)

    same_clause : {τ : Section} {u : Test} → Announced s at (Shape.Clause τ u) → (σ ≡ τ) × (t ≡ u)
    same_clause {τ} {u} b = let e : Shape.Clause σ t ≡ Shape.Clause τ u = one_shape a b in (cc, cc)

    abroad : foreign ≡ true → ForeignClause s at q
    abroad e = let k = foreign_kind q.kind σ e in (σ, t, a, k.0, k.1)

    home : foreign ≡ false → ForeignClause s at q → ⊥
    home e b =
        let f : σ ≡ b.0 = (same_clause b.2).0 in
        let g : foreign ≡ true = rw (b.4, f) b.3 in
        let z : ◌≡◌ {A = ℕ} 0 1 = cc in
        omega arith

    too_many : filled ≡ true → ClauseTooMany s at q
    too_many e = (σ, t, a, leb-true (most_of σ) (length (in_section q σ)) e)

    room : filled ≡ false → ClauseTooMany s at q → ⊥
    room e b =
        let f : b.0 ≡ σ = sym (same_clause b.2).0 in
        let g : most_of σ ≤ length (in_section q σ) = subst (λ τ. most_of τ ≤ length (in_section q τ)) f b.3 in
        omega (arith, leb-false (most_of σ) (length (in_section q σ)) e)

    all_named_lem : named ≡ true → NamesNothing s at q → ⊥
    all_named_lem e b =
        let f = same_clause b.3 in
        let byte : ℕ = get_or s (at + 1 + b.2) 0 in
        let l : b.2 < term_count t = rw f.1 b.4 in
        let n = every_named variables constants s (at + 1) (term_count t) (term_small t) e b.2 l in
        b.5 (rw (← f.0) (named_defined_lem variables q.constants byte (of_true n)))

    defined_not : (j : ℕ) → names variables constants j ≡ false → Defined variables q.constants (term_of j) → ⊥
    defined_not j e d =
        let f = defined_named variables q.constants j d in
        let z : ◌≡◌ {A = ℕ} 0 1 = cc in
        omega arith

    some_nothing : named ≡ false → NamesNothing s at q
    some_nothing e =
        let u = some_unnamed variables constants s (at + 1) (term_count t) e in
        (σ, t, u.0, a, u.1.0, defined_not (get_or s (at + 1 + u.0) 0) u.1.1)

    clause_faults : (f l n : Bool) → foreign ≡ f → filled ≡ l → named ≡ n → Numbered whole_faults (clause_fault f l n)
    clause_faults f l n e g h = pass (in_place q a refl refl) (pass (no_head a refl) (pick f l n e g h))
      where
        pick : (f l n : Bool) → foreign ≡ f → filled ≡ l → named ≡ n
            → Numbered (drop 2 whole_faults) (clause_fault f l n)
        pick true l n e g h = here (abroad e)
        pick false true n e g h = pass (home e) (pass (no_constant q a refl) (here (too_many g)))
        pick false false true e g h =
            pass (home e) (pass (no_constant q a refl) (pass (room g) (pass (all_named_lem h) none)))
        pick false false false e g h =
            pass (home e) (pass (no_constant q a refl) (pass (room g) (here (some_nothing h))))

  whole_faults_lem : (h : Shape) → Announced s at h → Numbered whole_faults (fault q (command_of s (at + 1) h))
  unfolding fault command_of
  whole_faults_lem Shape.End a = end_faults a
  whole_faults_lem Shape.Head a = head_faults a
  whole_faults_lem Shape.Constant a = constant_faults a _ _ refl refl
  whole_faults_lem (Shape.Clause σ t) a = clause_faults σ t a _ _ _ refl refl refl

  -- the command of a shape, and the offset after it
  abbrev whole : Shape → Step
  whole h = Take (command_of s (at + 1) h) (after at h)

  -- what is said of a command: without a fault it is taken, else its first one refuses it
  record TakenFrom (r : Step) : Type 0 where
    shape : Shape
    announced : Announced s at shape
    clear : NoneOf (faults_at s at (command_due q))
    step : r ≡ whole shape
    within : after at shape ≤ length s

  abbrev Judged : Step → Type 0
  Judged (Refused n) = FirstOf (faults_at s at (command_due q)) n
  Judged (Take c to) = TakenFrom (Take c to)

  whole_judged : (h : Shape) → Announced s at h → after at h ≤ length s → Judged (judged q (whole h))
  whole_judged h a l =
      branch Judged (eqb number 0) (whole h) (Refused number) (λ e. record {
        shape = h;
        announced = a;
        clear = (
          byte_there a,
          (
            byte_known a,
            (not_cut a l, numbered_none (eqb-true number 0 e) (whole_faults_lem h a)),
          ),
        );
        step = refl;
        within = l;
      })
      (λ e. let f = numbered_first (eqb-false number 0 e) (whole_faults_lem h a) in
      inr (byte_there a, inr (byte_known a, inr (not_cut a l, f))))
    where
      number : ℕ
      number = fault q (command_of s (at + 1) h)

  entry_judged : at < length s → (e : Option Shape) → entry_of (get_or s at 0) ≡ e → Judged (judged q (whole_at s at e))
  unfolding whole_at
  entry_judged l None e = inr (λ z. omega arith, inl (refl, (l, e)))
  entry_judged l (Some h) e =
      branch (λ r. Judged (judged q r)) (ltb left (operands h)) (Refused 2) (whole h)
      (λ f. inr (byte_there a, inr (byte_known a, inl (refl, (h, a, omega (arith, ltb-true left (operands h) f))))))
      (λ f. whole_judged h a (omega (arith, ltb-false left (operands h) f)))
    where
      left : ℕ
      left = length s - (at + 1)

      a : Announced s at h
      a = record { there = l; known = e }

  judged_right : at ≤ length s → Judged (judged q (read_at s at))
  unfolding read_at
  judged_right w =
      branch (λ r. Judged (judged q r)) (ltb at (length s)) (whole_at s at (entry_of (get_or s at 0))) (Refused 2)
      (λ e. entry_judged (ltb-true at (length s) e) (entry_of (get_or s at 0)) refl)
      (λ e. inl (refl, omega (arith, ltb-false at (length s) e)))

-- ---- the head

-- one that is refused does not fit
unfit : (kind n m : ℕ) → head_fits kind n m ≡ false → Unfit kind n m
unfolding head_fits
unfit kind n m = pick (ltb 1 kind) (ltb most_variables (n + m)) (eqb kind 0) (eqb m 0) refl refl refl refl
  where
    pick : (a b c d : Bool) → ltb 1 kind ≡ a → ltb most_variables (n + m) ≡ b → eqb kind 0 ≡ c → eqb m 0 ≡ d
        → cond a false (cond b false (cond c d true)) ≡ false → Unfit kind n m
    pick true b c d f g h k e = inl (ltb-true 1 kind f)
    pick false true c d f g h k e = inr (inl (ltb-true most_variables (n + m) g))
    pick false false true false f g h k e = let z = eqb-false m 0 k in inr (inr (omega arith, eqb-true kind 0 h))
    pick false false true true f g h k e = let z : ◌≡◌ {A = ℕ} 0 1 = cc in absurd (omega arith)
    pick false false false d f g h k e = let z : ◌≡◌ {A = ℕ} 0 1 = cc in absurd (omega arith)

-- one that is taken does
fit : (kind n m : ℕ) → head_fits kind n m ≡ true → Unfit kind n m → ⊥
fit kind n m e (inl u) = omega (arith, (head_fits_lem kind n m e).kinds)
fit kind n m e (inr (inl u)) = omega (arith, (head_fits_lem kind n m e).variables)
fit kind n m e (inr (inr u)) = omega (arith, u.0, (head_fits_lem kind n m e).alone (eq-eqb kind 0 u.1))

module _ (s : List ℕ) where
  -- the head's operands
  abbrev kind : ℕ
  kind = get_or s 1 0

  abbrev free : ℕ
  free = get_or s 2 0

  abbrev own : ℕ
  own = get_or s 3 0

  -- what is said of the head, likewise
  record OpenedFrom (q : Question) : Type 0 where
    announced : Announced s 0 Shape.Head
    clear : NoneOf (faults_at s 0 head_due)
    question : q ≡ opened kind free own
    within : 4 ≤ length s

  abbrev HeadJudged : Head → Type 0
  HeadJudged (Wrong n) = FirstOf (faults_at s 0 head_due) n
  HeadJudged (Opens k n m) = OpenedFrom (opened k n m)

  -- where the first byte is 01
  module _ (l : 0 < length s) (e : get_or s 0 0 ≡ 0x01) where
    head_announced : Announced s 0 Shape.Head
    unfolding entry_of
    head_announced = record { there = l; known = ap entry_of e }

    head_there : NoHead s → ⊥
    head_there (inl u) = omega arith
    head_there (inr u) = u e

    whole_head : 4 ≤ length s → HeadJudged (cond (head_fits kind free own) (Opens kind free own) (Wrong 5))
    whole_head g =
        branch HeadJudged (head_fits kind free own) (Opens kind free own) (Wrong 5) (λ f. record {
          announced = a;
          clear = (head_there, (byte_there a, (byte_known a, (not_cut a g, (λ u. fit kind free own f u.1, tt)))));
          question = refl;
          within = g;
        })
        (λ f. let u = unfit kind free own f in
        inr (head_there, inr (byte_there a, inr (byte_known a, inr (not_cut a g, inl (refl, (a, u)))))))
      where
        a : Announced s 0 Shape.Head
        a = head_announced

    cut_head : length s < 4 → HeadJudged (Wrong 2)
    cut_head f =
        let a = head_announced in
        inr (head_there, inr (byte_there a, inr (byte_known a, inl (refl, (Shape.Head, a, f)))))

  head_judged : HeadJudged (head_of s)
  unfolding head_of
  head_judged = pick (ltb 0 (length s)) (eqb (get_or s 0 0) 0x01) refl refl
    where
      rest : Head
      rest = cond (ltb (length s) 4) (Wrong 2) (cond (head_fits kind free own) (Opens kind free own) (Wrong 5))

      pick : (b c : Bool) → ltb 0 (length s) ≡ b → eqb (get_or s 0 0) 0x01 ≡ c
          → HeadJudged (cond (b && c) rest (Wrong 1))
      pick true true e f =
          let l = ltb-true 0 (length s) e in
          let z = eqb-true (get_or s 0 0) 0x01 f in
          branch HeadJudged (ltb (length s) 4) (Wrong 2)
          (cond (head_fits kind free own) (Opens kind free own) (Wrong 5))
          (λ g. cut_head l z (ltb-true (length s) 4 g)) (λ g. whole_head l z (ltb-false (length s) 4 g))
      pick true false e f = inl (refl, inr (eqb-false (get_or s 0 0) 0x01 f))
      pick false c e f = inl (refl, inl (omega (arith, ltb-false 0 (length s) e)))

-- ---- what is read is right

module _ (s : List ℕ) where
  abbrev Right : Result → Type 0
  Right (accepted q) = AcceptedAs s q
  Right (refused n p) = FirstFault s n p

  -- with room for k commands more
  abbrev RightFrom : ℕ → Type 0
  RightFrom k = (at : ℕ) (q : Question) → at ≤ length s → length s < at + k → Reached s at (command_due q)
      → Right (run k s at q)

  run_right : (k : ℕ) → RightFrom k
  unfolding run turn command_of ended
  run_right zero at q w l r = absurd (omega arith)
  run_right (suc k) at q w l r = pick (judged q (read_at s at)) (judged_right s at q w) (run_right k)
    where
      then : Step → Result
      then j = following (λ q' at'. run k s at' q') (onward s at q j)

      on : (h : Shape) → Announced s at h → NoneOf (faults_at s at (command_due q)) → after at h ≤ length s
          → RightFrom k
          → Right (then (whole s at q h))
      on Shape.End a c m again =
          branch Right (eqb (at + 1 + 0) (length s)) (accepted q) (refused 10 (at + 1 + 0))
          (λ e. subst (λ p. Reached s p (nothing_due q)) (eqb-true (at + 1 + 0) (length s) e) (further r c a))
          (λ e. (nothing_due q, further r c a, inl (refl, let z = eqb-false (at + 1 + 0) (length s) e in omega arith)))
      on Shape.Head a c m again = again _ _ m (omega arith) (further r c a)
      on Shape.Constant a c m again = again _ _ m (omega arith) (further r c a)
      on (Shape.Clause σ t) a c m again = again _ _ m (omega arith) (further r c a)

      pick : (j : Step) → Judged s at q j → RightFrom k → Right (then j)
      pick (Refused n) f again = (command_due q, r, f)
      pick (Take c to) f again =
          subst (λ j. Right (then j)) (sym f.step) (on f.shape f.announced f.clear f.within again)

  read_right : Right (read s)
  unfolding read
  read_right = pick (head_of s) (head_judged s)
    where
      pick : (h : Head) → HeadJudged s h → Right (after_head s h)
      pick (Wrong n) f = (head_due, start, f)
      pick (Opens k n m) f =
          let q : Question = opened (kind s) (free s) (own s) in
          let r : Reached s 4 (command_due q) = further start f.clear f.announced in
          rw f.question (run_right (length s) 4 q f.within (omega arith) r)

-- ---- and nothing else is

module _ (s : List ℕ) where
  -- what is read of the string is what is read from an offset on
  abbrev Stands : ℕ → Due → Type 0
  Stands at head_due = at ≡ 0
  Stands at (command_due q) = (at ≤ length s) × (read s ≡ run (suc (length s)) s at q)
  Stands at (nothing_due q) = read s ≡ ended s at q

  -- a command without a fault is taken
  clear_taken : (at : ℕ) (q : Question) (h : Shape) → at ≤ length s
      → NoneOf (faults_at s at (command_due q)) → Announced s at h
      → (judged q (read_at s at) ≡ whole s at q h) × (after at h ≤ length s)
  clear_taken at q h w c a = pick (judged q (read_at s at)) (judged_right s at q w)
    where
      pick : (j : Step) → Judged s at q j → (j ≡ whole s at q h) × (after at h ≤ length s)
      pick (Refused n) f = absurd (first_some (faults_at s at (command_due q)) n f c)
      pick (Take d to) f =
          let e : f.shape ≡ h = one_shape f.announced a in
          (f.step ∙ ap (whole s at q) e, subst (λ k. after at k ≤ length s) e f.within)

  -- one with a fault is refused by its first one
  first_refused : (at : ℕ) (q : Question) (n : ℕ) → at ≤ length s
      → FirstOf (faults_at s at (command_due q)) n → judged q (read_at s at) ≡ Refused n
  first_refused at q n w f = pick (judged q (read_at s at)) (judged_right s at q w)
    where
      pick : (j : Step) → Judged s at q j → j ≡ Refused n
      pick (Refused m) g = ap Refused (first_one (faults_at s at (command_due q)) m n g f)
      pick (Take d to) g = absurd (first_some (faults_at s at (command_due q)) n f g.clear)

  -- a turn of reading, by what is judged
  run_turn : (k at : ℕ) (q : Question) (j : Step) → judged q (read_at s at) ≡ j
      → run (suc k) s at q ≡ following (λ q' at'. run k s at' q') (onward s at q j)
  unfolding run turn
  run_turn k at q j e = ap (λ i. following (λ q' at'. run k s at' q') (onward s at q i)) e

  -- the bound on the commands does not matter
  more : (to : ℕ) (q : Question) → 0 < to → to ≤ length s → run (length s) s to q ≡ run (suc (length s)) s to q
  more to q l m = run_enough s (length s) (suc (length s)) to q m (omega arith) (omega arith)

  after_head_lem : (h : Shape) → NoneOf (faults_at s 0 head_due) → Announced s 0 h
      → Stands (after 0 h) (due_after s 0 head_due h)
  unfolding read
  after_head_lem h c a = pick (head_of s) refl (head_judged s)
    where
      pick : (o : Head) → head_of s ≡ o → HeadJudged s o → Stands (after 0 h) (due_after s 0 head_due h)
      pick (Wrong n) e f = absurd (first_some (faults_at s 0 head_due) n f c)
      pick (Opens k n m) e f =
          let r = ap (after_head s) e ∙ more 4 (opened k n m) (omega arith) f.within in
          subst (λ i. Stands (after 0 i) (due_after s 0 head_due i)) (one_shape f.announced a)
          (f.within, r ∙ ap (run (suc (length s)) s 4) f.question)

  after_command : (at : ℕ) (q : Question) (h : Shape) → Stands at (command_due q)
      → NoneOf (faults_at s at (command_due q)) → Announced s at h
      → Stands (after at h) (due_after s at (command_due q) h)
  unfolding command_of
  after_command at q h w c a = let t = clear_taken at q h w.0 c a in pick h t.0 t.1
    where
      turned : (j : Step) → judged q (read_at s at) ≡ j
          → read s ≡ following (λ q' at'. run (length s) s at' q') (onward s at q j)
      turned j e = w.1 ∙ run_turn (length s) at q j e

      pick : (h : Shape) → judged q (read_at s at) ≡ whole s at q h → after at h ≤ length s
          → Stands (after at h) (due_after s at (command_due q) h)
      pick Shape.End e m = turned _ e
      pick Shape.Head e m = (m, turned _ e ∙ more _ _ (omega arith) m)
      pick Shape.Constant e m = (m, turned _ e ∙ more _ _ (omega arith) m)
      pick (Shape.Clause σ t) e m = (m, turned _ e ∙ more _ _ (omega arith) m)

  reached_stands : {at : ℕ} {d : Due} → Reached s at d → Stands at d
  reached_stands start = refl
  reached_stands (further {at} {d = head_due} {h} r c a) =
      subst (λ i. NoneOf (faults_at s i head_due) → Announced s i h → Stands (after i h) (due_after s i head_due h))
      (sym (reached_stands r)) (after_head_lem h) c a
  reached_stands (further {at} {d = command_due q} {h} r c a) = after_command at q h (reached_stands r) c a
  reached_stands (further {d = nothing_due q} r c a) = absurd (c.0 a.there)

  -- nothing after the end, and bytes after it
  ended_all : (q : Question) → ended s (length s) q ≡ accepted q
  unfolding ended
  ended_all q = rw (eq-eqb (length s) (length s) refl) refl

  ended_short : (p : ℕ) (q : Question) → p < length s → ended s p q ≡ refused 10 p
  unfolding ended
  ended_short p q l = rw (ne_eqb p (length s) (λ z. omega arith)) refl

  accepted_read : (q : Question) → AcceptedAs s q → read s ≡ accepted q
  accepted_read q r = reached_stands r ∙ ended_all q

  head_read : (n : ℕ) → FirstOf (faults_at s 0 head_due) n → read s ≡ refused n 0
  unfolding read
  head_read n f = pick (head_of s) (head_judged s)
    where
      pick : (h : Head) → HeadJudged s h → after_head s h ≡ refused n 0
      pick (Wrong m) g = ap (λ k. refused k 0) (first_one (faults_at s 0 head_due) m n g f)
      pick (Opens k free own) g = absurd (first_some (faults_at s 0 head_due) n f g.clear)

  fault_read : (n p : ℕ) → FirstFault s n p → read s ≡ refused n p
  fault_read n p f = pick f.0 (reached_stands f.1) f.2
    where
      pick : (d : Due) → Stands p d → FirstOf (faults_at s p d) n → read s ≡ refused n p
      pick head_due e o = rw e (head_read n (rw e at o))
      pick (command_due q) e o = e.1 ∙ run_turn (length s) p q (Refused n) (first_refused p q n e.0 o)
      pick (nothing_due q) e (inl o) = e ∙ ended_short p q o.1 ∙ ap (λ k. refused k p) (sym o.0)
      pick (nothing_due q) e (inr o) = absurd o.1

  -- ---- what others cite

  -- reading accepts a string as a question exactly if it is one's: SPEC 7.4
  pub accepts_iff : (q : Question) → (read s ≡ accepted q) ↔ AcceptedAs s q
  accepts_iff q = (λ e. subst (Right s) e (read_right s), accepted_read q)

  -- reading refuses a string exactly by its first fault: SPEC 7.3
  pub refuses_iff : (n p : ℕ) → (read s ≡ refused n p) ↔ FirstFault s n p
  refuses_iff n p = (λ e. subst (Right s) e (read_right s), fault_read n p)

  -- every string is that of a question or has a first fault,
  pub accepted_or_faulty : ((q : Question) × AcceptedAs s q) ⊎ ((n : ℕ) × (p : ℕ) × FirstFault s n p)
  accepted_or_faulty = pick (read s) (read_right s)
    where
      pick : (r : Result) → Right s r → ((q : Question) × AcceptedAs s q) ⊎ ((n : ℕ) × (p : ℕ) × FirstFault s n p)
      pick (accepted q) h = inl (q, h)
      pick (refused n p) h = inr (n, p, h)

  -- not both,
  pub not_both : (q : Question) (n p : ℕ) → AcceptedAs s q → FirstFault s n p → ⊥
  not_both q n p h k =
      let e : accepted q ≡ refused n p = sym (accepted_read q h) ∙ fault_read n p k in
      let z : ◌≡◌ {A = ℕ} 0 1 = cc in
      omega arith

  -- of one question only,
  pub one_question : (q r : Question) → AcceptedAs s q → AcceptedAs s r → q ≡ r
  one_question q r h k = let e : accepted q ≡ accepted r = sym (accepted_read q h) ∙ accepted_read r k in cc

  -- and with one first fault only
  pub one_fault : (n p m o : ℕ) → FirstFault s n p → FirstFault s m o → (n ≡ m) × (p ≡ o)
  one_fault n p m o h k = let e : refused n p ≡ refused m o = sym (fault_read n p h) ∙ fault_read m o k in (cc, cc)

-- the worked string has two faults at one command, and is refused by the first
pub nine_read : read bytes ≡ refused 9 4
nine_read = (refuses_iff bytes 9 4).1 nine_first
