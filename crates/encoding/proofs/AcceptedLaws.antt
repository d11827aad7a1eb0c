-- Every accepted question can be written, and one of satisfiability is written byte for byte as it came. Assumes
-- nothing.
use Rattle.std.specs.Prelude.{◌≡◌, refl, Bool, true, false, cond, ◌&&◌, ℕ, zero, suc, ◌+◌, ◌*◌, ◌^◌, ◌≤◌, ◌<◌, eqb, ltb}
use Rattle.std.specs.Prelude.{length, get_or, take, drop}
use Rattle.std.proofs.Math.Path.{sym, ap₂}
use Rattle.std.proofs.Common.{ap, subst, ◌∙◌, arith, ltb-false, eqb-true, eqb→eq, take-add}
use mathlib.Core.List.{List, [], ◌∷◌, ◌++◌, map-append, append-nil, append_assoc}
use Rattle.std.proofs.Math.Seq.{take_all}
use Rattle.shares.specs.Constant.{constant_levels, bytes_at}
use Rattle.shares.specs.Test.{of_true, and_right}
use Rattle.systems.specs.Clauses.{Clause, positive, negated, System}
use Rattle.systems.specs.Questions.{satisfiability, entailment, Question}
use Rattle.format.specs.declared.Section.{Section}
use Rattle.format.specs.declared.Section.TheVariants.{FirstPositive, FirstDisequation, SecondPositive}
use Rattle.format.specs.declared.Section.TheVariants.{SecondDisequation}
use Rattle.format.specs.declared.Test.{Test}
use Rattle.format.specs.declared.Test.TheVariants.{Join, Equality, Full, Empty, Together}
use Rattle.format.specs.declared.Shape.{Shape}
use Rattle.std.specs.Prelude.{Some}
use Rattle.format.specs.declared.Command.{Command}
use Rattle.format.specs.Format.{Head, Opens, Wrong, Step, Take, Refused}
use Rattle.format.specs.Format.{Result, refused, accepted, entry_of, read_at, atom_of, is_foreign, fault, judged}
use Rattle.format.specs.Format.{with_first, with_clause, with_constant, taken, ended, onward, turn, head_fits}
use Rattle.format.specs.Format.{kind_from, opened, head_of, after_head, read}
use Rattle.format.specs.Stored.{kind_number}
use Rattle.format.specs.SectionLaws.{clause_keeps}
use Rattle.format.proofs.FormatLaws.{branch, size, Whole, read_whole, clause_fits, constant_fits, Stay, run_law}
use Rattle.format.proofs.FormatLaws.{accepted_formed, accepted_limited}
use Rattle.format.proofs.KeepingLaws.{Bytes, byte_back}
use Rattle.encoding.specs.Order.{first_said, second_said}
use Rattle.encoding.proofs.OrderLaws.{said}
use Rattle.encoding.specs.Encode.{clause_byte, encode_command, encode_commands, clause_command, first_command}
use Rattle.encoding.specs.Encode.{commands_for, head_bytes, encode, AllHaveCommands, Writable}
use Rattle.encoding.proofs.ByteLaws.{Readable, Again, AgainStep, read_again}
use Rattle.encoding.proofs.EncodeLaws.{read_encode}

-- ---- a clause that is read has a command

known_has : (σ : Section) (t : Test) (a b c : ℕ) → entry_of (clause_byte σ t) ≡ Some (Shape.Clause σ t)
    → AllHaveCommands (first_said σ (atom_of t a b c)) × AllHaveCommands (second_said σ (atom_of t a b c))
unfolding entry_of
known_has FirstPositive Join a b c e = ((tt, tt), tt)
known_has FirstPositive Equality a b c e = ((tt, tt), tt)
known_has FirstPositive Full a b c e = ((tt, tt), tt)
known_has FirstPositive Empty a b c e = let z : ◌≡◌ {A = ℕ} 0 1 = cc in absurd (omega arith)
known_has FirstPositive Together a b c e = ((tt, tt), tt)
known_has FirstDisequation Join a b c e = ((tt, tt), tt)
known_has FirstDisequation Equality a b c e = ((tt, tt), tt)
known_has FirstDisequation Full a b c e = let z : ◌≡◌ {A = ℕ} 0 1 = cc in absurd (omega arith)
known_has FirstDisequation Empty a b c e = ((tt, tt), tt)
known_has FirstDisequation Together a b c e = let z : ◌≡◌ {A = ℕ} 0 1 = cc in absurd (omega arith)
known_has SecondPositive Join a b c e = (tt, (tt, tt))
known_has SecondPositive Equality a b c e = (tt, (tt, tt))
known_has SecondPositive Full a b c e = (tt, (tt, tt))
known_has SecondPositive Empty a b c e = let z : ◌≡◌ {A = ℕ} 0 1 = cc in absurd (omega arith)
known_has SecondPositive Together a b c e = (tt, (tt, tt))
known_has SecondDisequation Join a b c e = (tt, (tt, tt))
known_has SecondDisequation Equality a b c e = (tt, (tt, tt))
known_has SecondDisequation Full a b c e = let z : ◌≡◌ {A = ℕ} 0 1 = cc in absurd (omega arith)
known_has SecondDisequation Empty a b c e = (tt, (tt, tt))
known_has SecondDisequation Together a b c e = let z : ◌≡◌ {A = ℕ} 0 1 = cc in absurd (omega arith)

all_append : (s t : System) → AllHaveCommands s → AllHaveCommands t → AllHaveCommands (s ++ t)
all_append [] t h k = k
all_append (c ∷ s) t h k = (h.0, all_append s t h.1 k)

-- ---- every accepted question can be written

-- a bound on the numbers of a list holds with one more
below_append : (m x : ℕ) (l : List ℕ) → ((i : ℕ) → get_or l i 0 < m) → x < m → (i : ℕ) → get_or (l ++ (x ∷ [])) i 0 < m
below_append m x [] h u zero = u
below_append m x [] h u (suc i) = h i
below_append m x (y ∷ l) h u zero = h zero
below_append m x (y ∷ l) h u (suc i) = below_append m x l (λ j. h (suc j)) u i

-- what is read so far can be said: its constants fit their bytes, and its clauses have commands
record Sayable (q : Question) : Type 0 where
  small : (i : ℕ) → get_or q.constants.numbers i 0 < 2 ^ (8 * bytes_at constant_levels)
  first : AllHaveCommands q.first
  second : AllHaveCommands q.second

-- and so can an accepted question
abbrev SayableResult : Result → Type 0
SayableResult (refused n place) = Unit {0}
SayableResult (accepted q) = Sayable q

sayable_clause : (q : Question) (σ : Section) (t : Test) (a b c : ℕ)
    → entry_of (clause_byte σ t) ≡ Some (Shape.Clause σ t) → Sayable q
    → Sayable (with_clause q σ (atom_of t a b c))
sayable_clause q σ t a b c e d =
    let k = known_has σ t a b c e in
    let g = said q σ (atom_of t a b c) in
    record {
      small = rw (clause_keeps q σ (atom_of t a b c)).constants d.small;
      first = rw g.0 (all_append q.first _ d.first k.0);
      second = rw g.1 (all_append q.second _ d.second k.1);
    }

module _ (s : List ℕ) (bytes : Bytes s) where
  -- after a command, or a refusal of it
  abbrev Onward : ℕ → Question → Step → Type 0
  Onward at q r = Stay (λ q' _. Sayable q') SayableResult (onward s at q r)

  sayable_on : (at : ℕ) (q : Question) (c : Command) (next : ℕ) → Sayable q → Again s at c → Onward at q (Take c next)
  unfolding taken ended
  sayable_on at q Command.End next d g =
      branch SayableResult (eqb next (length s)) (accepted q) (refused 10 next) (λ _. d) (λ _. tt)
  sayable_on at q Command.Head next d g = d
  sayable_on at q (Command.Constant x) next d g =
      record { small = below_append _ x q.constants.numbers d.small g.0; first = d.first; second = d.second }
  sayable_on at q (Command.Clause σ t a b c) next d g = sayable_clause q σ t a b c g.0.0 d

  sayable_turn : (q : Question) (at : ℕ) → Sayable q → Stay (λ q' _. Sayable q') SayableResult (turn s at q)
  unfolding turn
  sayable_turn q at d = judge (read_at s at) (read_again s bytes at)
    where
      judge : (r : Step) → AgainStep s at r → Onward at q (judged q r)
      judge (Refused n) g = tt
      judge (Take c next) g = branch (Onward at q) (eqb (fault q c) 0) (Take c next) (Refused (fault q c))
          (λ _. sayable_on at q c next d g) (λ _. tt)

  read_sayable : SayableResult (read s)
  unfolding read opened
  read_sayable = pick (head_of s)
    where
      pick : (h : Head) → SayableResult (after_head s h)
      pick (Opens kind n m) =
          run_law (λ q _. Sayable q) SayableResult s sayable_turn (λ _ _ _. tt) (length s) 4 (opened kind n m)
          (record { small = λ i. omega arith; first = tt; second = tt })
      pick (Wrong n) = tt

pub accepted_writable : (s : List ℕ) (q : Question) → Bytes s → read s ≡ accepted q → Writable q
accepted_writable s q bytes e =
    let d = subst SayableResult e (read_sayable s bytes) in
    let l = accepted_limited s q e in
    record {
      formed = accepted_formed s q e;
      limited = l;
      small = λ i. rw l.levels (d.small i);
      first =
          d.first;
      second = d.second;
    }

-- what is written of an accepted question is read as that question
pub encode_again : (s : List ℕ) (q : Question) → Bytes s → read s ≡ accepted q → read (encode q) ≡ accepted q
encode_again s q bytes e = read_encode q (accepted_writable s q bytes e)

-- ---- a question of satisfiability is written as it came

encode_append : (l m : List Command) → encode_commands (l ++ m) ≡ encode_commands l ++ encode_commands m
unfolding encode_commands
encode_append [] m = refl
encode_append (c ∷ l) m = ap (λ r. encode_command c ++ r) (encode_append l m)
    ∙ sym (append_assoc (encode_command c) (encode_commands l) (encode_commands m))

encode_snoc : (l : List Command) (c : Command) → encode_commands (l ++ (c ∷ [])) ≡ encode_commands l ++ encode_command c
unfolding encode_commands
encode_snoc l c = encode_append l (c ∷ []) ∙ ap (λ r. encode_commands l ++ r) (append-nil (encode_command c))

-- a clause's command is that of what it says
clause_again : (σ : Section) (t : Test) (a b c : ℕ) → Readable (Command.Clause σ t a b c)
    → clause_command σ (atom_of t a b c) ≡ Command.Clause σ t a b c
clause_again σ Join a b c h = rw (byte_back a, byte_back b, byte_back c) refl
clause_again σ Equality a b c h = rw (byte_back a, byte_back b, ← h.1.1) refl
clause_again σ Full a b c h = rw (byte_back a, ← h.1.0, ← h.1.1) refl
clause_again σ Empty a b c h = rw (byte_back a, ← h.1.0, ← h.1.1) refl
clause_again σ Together a b c h = rw (byte_back a, byte_back b, ← h.1.1) refl

no_clause_lem : (f : System) → length f ≡ 0 → f ≡ []
no_clause_lem [] e = refl
no_clause_lem (c ∷ f) e = absurd (omega arith)

-- one command more
more_constant : (q : Question) (x : ℕ) → q.first ≡ [] → q.second ≡ []
    → commands_for (with_constant q x) ≡ commands_for q ++ (Command.Constant x ∷ [])
more_constant q x e f = rw (e, f) (simp (map-append, append-nil))

more_first : (q : Question) (c : Clause) → q.second ≡ [] → commands_for (with_first q c) ≡ commands_for q
    ++ (first_command c ∷ [])
more_first q c e = rw e (simp (map-append, append-nil, append_assoc))

-- the bytes up to an offset are those of a question of satisfiability, without its end
abbrev Same : List ℕ → Question → ℕ → Type 0
Same s q at = q.kind ≡ satisfiability → (q.second ≡ []) × (take at s ≡ head_bytes q ++ encode_commands (commands_for q))

-- an accepted one is written as all of them
abbrev SameResult : List ℕ → Result → Type 0
SameResult s (refused n place) = Unit {0}
SameResult s (accepted q) = q.kind ≡ satisfiability → encode q ≡ s

module _ (s : List ℕ) (at : ℕ) (q : Question) (e : take at s ≡ head_bytes q ++ encode_commands (commands_for q)) where
  same_more : (c : Command) (cs : List Command) → cs ≡ commands_for q ++ (c ∷ [])
      → take (size c) (drop at s) ≡ encode_command c
      → take (at + size c) s ≡ head_bytes q ++ encode_commands cs
  same_more c cs f g =
      take-add at (size c) s
      ∙ ap₂ ◌++◌ e g
      ∙ append_assoc (head_bytes q) (encode_commands (commands_for q)) (encode_command c)
      ∙ ap (λ l. head_bytes q ++ l) (sym (ap encode_commands f ∙ encode_snoc (commands_for q) c))

  same_end : (next : ℕ) → next ≡ at + size Command.End → next ≡ length s
      → take (size Command.End) (drop at s) ≡ encode_command Command.End → encode q ≡ s
  unfolding encode
  same_end next n l g =
      sym (append_assoc (head_bytes q) (encode_commands (commands_for q)) (encode_command Command.End))
      ∙ ap₂ ◌++◌ (sym e) (sym g)
      ∙ sym (take-add at (size Command.End) s)
      ∙ take_all (at + size Command.End) s (omega arith)

-- a clause of a question of satisfiability is of the first system
same_clause : (s : List ℕ) (at : ℕ) (q : Question) (σ : Section) (t : Test) (a b c : ℕ) → is_foreign q.kind σ ≡ false
    → Same s q at
    → Again s at (Command.Clause σ t a b c)
    → Same s (with_clause q σ (atom_of t a b c)) (at + size (Command.Clause σ t a b c))
same_clause s at q FirstPositive t a b c f d g k =
    let e = ap (λ r. commands_for q ++ (r ∷ [])) (clause_again FirstPositive t a b c g.0) in
    ((d k).0, same_more s at q (d k).1 _ _ (more_first q (positive (atom_of t a b c)) (d k).0 ∙ e) g.1)
same_clause s at q FirstDisequation t a b c f d g k =
    let e = ap (λ r. commands_for q ++ (r ∷ [])) (clause_again FirstDisequation t a b c g.0) in
    ((d k).0, same_more s at q (d k).1 _ _ (more_first q (negated (atom_of t a b c)) (d k).0 ∙ e) g.1)
same_clause s at q SecondPositive t a b c f d g k = let z = rw k at f in let y : ◌≡◌ {A = ℕ} 0 1 =
    cc in absurd (omega arith)
same_clause s at q SecondDisequation t a b c f d g k = let z = rw k at f in let y : ◌≡◌ {A = ℕ} 0 1 =
    cc in absurd (omega arith)

module _ (s : List ℕ) (bytes : Bytes s) where
  -- after a command, or a refusal of it
  abbrev SameOn : ℕ → Question → Step → Type 0
  SameOn at q r = Stay (Same s) (SameResult s) (onward s at q r)

  same_on : (at : ℕ) (q : Question) (c : Command) (next : ℕ) → Same s q at → fault q c ≡ 0 → Whole s at (Take c next)
      → Again s at c → SameOn at q (Take c next)
  unfolding taken ended fault
  same_on at q Command.End next d e w g =
      branch (SameResult s) (eqb next (length s)) (accepted q) (refused 10 next)
      (λ h k. same_end s at q (d k).1 next w.0 (eqb-true next (length s) h) g.1) (λ _. tt)
  same_on at q Command.Head next d e w g = absurd (omega arith)
  same_on at q (Command.Constant x) next d e w g = λ k.
      let f = (constant_fits q x e).before in
      let a = no_clause_lem q.first (omega arith) in
      ((d k).0, rw w.0 (same_more s at q (d k).1 _ _ (more_constant q x a (d k).0) g.1))
  same_on at q (Command.Clause σ t a b c) next d e w g =
      rw w.0 (same_clause s at q σ t a b c (clause_fits q σ t a b c e).home d g)

  same_turn : (q : Question) (at : ℕ) → Same s q at → Stay (Same s) (SameResult s) (turn s at q)
  unfolding turn
  same_turn q at d = judge (read_at s at) (read_whole s at) (read_again s bytes at)
    where
      judge : (r : Step) → Whole s at r → AgainStep s at r → SameOn at q (judged q r)
      judge (Refused n) w g = tt
      judge (Take c next) w g =
          branch (SameOn at q) (eqb (fault q c) 0) (Take c next) (Refused (fault q c))
          (λ e. same_on at q c next d (eqb-true (fault q c) 0 e) w g) (λ _. tt)

-- ---- the head stands as it is written

-- the first four bytes are those of a head that is taken
abbrev HeadStands : List ℕ → Head → Type 0
HeadStands s (Opens kind n m) = take 4 s ≡ 0x01 ∷ kind ∷ n ∷ m ∷ []
HeadStands s (Wrong n) = Unit {0}

first_four : (s : List ℕ) → 4 ≤ length s → get_or s 0 0 ≡ 1 → take 4 s ≡ 0x01 ∷ get_or s 1 0 ∷ get_or s 2 0
    ∷ get_or s 3 0 ∷ []
first_four [] l e = absurd (omega arith)
first_four (a ∷ []) l e = absurd (omega arith)
first_four (a ∷ b ∷ []) l e = absurd (omega arith)
first_four (a ∷ b ∷ c ∷ []) l e = absurd (omega arith)
first_four (a ∷ b ∷ c ∷ d ∷ s) l e = rw e refl

head_stands : (s : List ℕ) → HeadStands s (head_of s)
unfolding head_of
head_stands s =
    branch (HeadStands s) (ltb 0 (length s) && eqb (get_or s 0 0) 1) _ (Wrong 1)
    (λ e. branch (HeadStands s) (ltb (length s) 4) (Wrong 2) _ (λ _. tt)
    (λ w. branch (HeadStands s) (head_fits (get_or s 1 0) (get_or s 2 0) (get_or s 3 0)) (Opens _ _ _) (Wrong 5)
    (λ _. first_four s (ltb-false (length s) 4 w)
    (eqb→eq (get_or s 0 0) 1 (and_right (ltb 0 (length s)) _ (of_true e)))) (λ _. tt)))
    (λ _. tt)

-- kind 0 asks satisfiability
kind_alone : (kind : ℕ) → kind_from kind ≡ satisfiability → kind ≡ kind_number (kind_from kind)
kind_alone kind e = pick (eqb kind 0) refl e
  where
    pick : (b : Bool) → eqb kind 0 ≡ b → cond b satisfiability entailment ≡ satisfiability
        → kind ≡ kind_number (cond b satisfiability entailment)
    pick true f g = eqb-true kind 0 f
    pick false f g = let z : ◌≡◌ {A = ℕ} 0 1 = cc in absurd (omega arith)

read_same : (s : List ℕ) → Bytes s → SameResult s (read s)
unfolding read opened encode_commands
read_same s bytes = pick (head_of s) (head_stands s)
  where
    pick : (h : Head) → HeadStands s h → SameResult s (after_head s h)
    pick (Opens kind n m) h =
        run_law (Same s) (SameResult s) s (same_turn s bytes) (λ _ _ _. tt) (length s) 4 (opened kind n m)
        (λ e. (refl, h ∙ ap (λ k. 0x01 ∷ k ∷ n ∷ m ∷ []) (kind_alone kind e)))
    pick (Wrong n) h = tt

-- it comes out byte for byte
pub encode_same : (s : List ℕ) (q : Question) → Bytes s → read s ≡ accepted q → q.kind ≡ satisfiability → encode q ≡ s
encode_same s q bytes e k = subst (SameResult s) e (read_same s bytes) k
