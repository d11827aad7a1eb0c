-- A question that can be written reads back. Assumes nothing.
use Rattle.std.specs.Prelude.{◌≡◌, true, false, cond, List, [], ◌∷◌, ◌++◌, map, ℕ, zero, suc, ◌+◌, ◌-◌, ◌*◌, ◌^◌, ◌≤◌}
use Rattle.std.specs.Prelude.{◌<◌, length, get_or}
use Rattle.std.proofs.Math.Path.{refl}
use Rattle.std.proofs.Common.{sym, ap, ap₂, ◌∙◌, append-nil, append_assoc, arith, lt-ltb, le-ltb, eq-eqb, length-append}
use Rattle.std.proofs.lemmas.Bool.{lt-leb}
use Rattle.std.proofs.Math.Seq.{append_snoc}
use Rattle.shares.specs.Constant.{constant_levels, bytes_at}
use Rattle.shares.specs.Test.{is_true}
use Rattle.systems.specs.Clauses.{Constants, Term, variable, constant, Atom, joined, equal, is_full, is_empty, together}
use Rattle.systems.specs.Clauses.{Clause, positive, negated, System, positives, disequations}
use Rattle.systems.specs.Questions.{Kind, satisfiability, entailment, Question, Defined, InAtom, InSystem, Alone}
use Rattle.format.specs.declared.Section.{Section}
use Rattle.format.specs.declared.Section.TheVariants.{FirstPositive, FirstDisequation, SecondPositive}
use Rattle.format.specs.declared.Section.TheVariants.{SecondDisequation}
use Rattle.format.specs.declared.Test.{Test}
use Rattle.format.specs.declared.Test.TheVariants.{Join, Equality, Full, Empty, Together}
use Rattle.format.specs.declared.Command.{Command}
use Rattle.format.specs.Format.{Opens, Take, Refused}
use Rattle.format.specs.Format.{refused, accepted, most_variables, most_constants, most_positive, most_disequations}
use Rattle.format.specs.Format.{entry_of, is_second, most_of, in_section, term_of, names, variables_for, all_named}
use Rattle.format.specs.Format.{is_foreign, fault, judged, with_clause, taken, ended, go, onward, turn, following, run}
use Rattle.format.specs.Format.{head_fits, kind_from, opened, head_of, after_head, read}
use Rattle.format.specs.Stored.{kind_number}
use Rattle.format.specs.Keeping.{is_end}
use Rattle.format.specs.SectionLaws.{positives_append, disequations_append, variables_le}
use Rattle.format.proofs.FormatLaws.{size, ClauseFits}
use Rattle.encoding.specs.Encode.{encode_command, encode_commands, term_byte_of, clause_command, first_command}
use Rattle.encoding.specs.Encode.{second_command, commands_for, head_bytes, encode, HasCommand, AllHaveCommands}
use Rattle.encoding.specs.Encode.{Writable}
use Rattle.encoding.proofs.ByteLaws.{Readable, encoded_length, read_back}

-- ---- commands that lead from one question to another

-- a command that can be written where q was read: it reads back, is not the end, and has no fault
record Good (q : Question) (c : Command) : Type 0 where
  readable : Readable c
  more : is_end c ≡ false
  clear : fault q c ≡ 0

-- from q such commands lead to q'
abbrev Leads : Question → List Command → Question → Type 0
Leads q [] q' = q ≡ q'
Leads q (c ∷ cs) q' = Good q c × Leads (taken q c) cs q'

leads_append : (l m : List Command) (q r t : Question) → Leads q l r → Leads r m t → Leads q (l ++ m) t
leads_append [] m q r t h k = rw h k
leads_append (c ∷ l) m q r t h k = (h.0, leads_append l m (taken q c) r t h.1 k)

on_more : (s : List ℕ) (at : ℕ) (q : Question) (c : Command) (next : ℕ) → is_end c ≡ false
    → onward s at q (Take c next) ≡ go (taken q c) next
on_more s at q Command.End next e = let z : ◌≡◌ {A = ℕ} 0 1 = cc in absurd (omega arith)
on_more s at q Command.Head next e = refl
on_more s at q (Command.Constant x) next e = refl
on_more s at q (Command.Clause σ t a b c) next e = refl

turn_back : (p rest : List ℕ) (q : Question) (c : Command) → Good q c
    → turn (p ++ (encode_command c ++ rest)) (length p) q ≡ go (taken q c) (length p + size c)
unfolding turn
turn_back p rest q c g =
    let s : List ℕ = p ++ (encode_command c ++ rest) in
    let next = length p + size c in
    ap (λ r. onward s (length p) q (judged q r)) (read_back p rest c g.readable)
    ∙ ap (λ b. onward s (length p) q (cond b (Take c next) (Refused (fault q c)))) (eq-eqb (fault q c) 0 g.clear)
    ∙ on_more s (length p) q c next g.more

end_back : (p : List ℕ) (k : ℕ) (q : Question) → run (suc k) (p ++ encode_command Command.End) (length p) q ≡ accepted q
unfolding run turn fault ended
end_back p k q =
    let s : List ℕ = p ++ encode_command Command.End in
    ap (λ r. following (λ q' at'. run k s at' q') (onward s (length p) q (judged q r))) (read_back p [] Command.End tt)
    ∙ ap (λ b. cond b (accepted q) (refused 10 (length p + 1)))
    (eq-eqb (length p + 1) (length s) (simp length-append (omega arith)))

-- commands that lead from q to q', written and ended, are read as q' where q was read
run_back : (cs : List Command) (p : List ℕ) (k : ℕ) (q q' : Question) → Leads q cs q' → length cs < k
    → run k (p ++ (encode_commands cs ++ encode_command Command.End)) (length p) q ≡ accepted q'
unfolding run encode_commands
run_back cs p zero q q' h l = absurd (omega arith)
run_back [] p (suc k) q q' h l = end_back p k q ∙ ap accepted h
run_back (c ∷ cs) p (suc k) q q' h l =
    let e = encode_command Command.End in
    let r : List ℕ = encode_commands cs ++ e in
    let s : List ℕ = p ++ (encode_command c ++ r) in
    ap (λ t. run (suc k) (p ++ t) (length p) q) (append_assoc (encode_command c) (encode_commands cs) e)
    ∙ ap (following (λ q₁ at₁. run k s at₁ q₁)) (turn_back p r q c h.0)
    ∙ ap₂ (λ t i. run k t i (taken q c)) (sym (append_assoc p (encode_command c) r))
    (sym (length-append p (encode_command c) ∙ ap (λ n. length p + n) (encoded_length c h.0.readable)))
    ∙ run_back cs (p ++ encode_command c) k (taken q c) q' h.1 (omega arith)

-- each command takes a byte or more
few_commands : (cs : List Command) → length cs ≤ length (encode_commands cs)
unfolding encode_commands
few_commands [] = omega arith
few_commands (c ∷ cs) = simp length-append (omega (arith, few_commands cs))

-- ---- clauses: their terms, their commands

term_back : (n : ℕ) (cs : Constants) → n ≤ most_variables → (u : Term) → Defined n cs u → term_of (term_byte_of u) ≡ u
unfolding term_of
term_back n cs few (variable v) d = rw (lt-ltb v 0x20 (omega arith)) refl
term_back n cs few (constant i) d =
    rw (le-ltb (0x20 + i) 0x20 (omega arith)) (ap constant (omega arith))

term_named_lem : (n : ℕ) (cs : Constants) → n ≤ most_variables → (u : Term) → Defined n cs u
    → names n (length cs.numbers) (term_byte_of u) ≡ true
unfolding names
term_named_lem n cs few (variable v) d = rw (lt-ltb v 0x20 (omega arith)) (lt-ltb v n d)
term_named_lem n cs few (constant i) d =
    rw (le-ltb (0x20 + i) 0x20 (omega arith)) (lt-ltb (0x20 + i - 0x20) (length cs.numbers) (omega arith))

-- in either system
readable : (c : Clause) → HasCommand c → Readable (first_command c) × Readable (second_command c)
unfolding entry_of
readable (positive (joined a b c)) h = ((refl, (refl, refl)), (refl, (refl, refl)))
readable (positive (equal a b)) h = ((refl, (refl, refl)), (refl, (refl, refl)))
readable (positive (is_full a)) h = ((refl, (refl, refl)), (refl, (refl, refl)))
readable (positive (is_empty a)) h = absurd h
readable (positive (together a b)) h = ((refl, (refl, refl)), (refl, (refl, refl)))
readable (negated (joined a b c)) h = ((refl, (refl, refl)), (refl, (refl, refl)))
readable (negated (equal a b)) h = ((refl, (refl, refl)), (refl, (refl, refl)))
readable (negated (is_full a)) h = absurd h
readable (negated (is_empty a)) h = ((refl, (refl, refl)), (refl, (refl, refl)))
readable (negated (together a b)) h = absurd h

-- a clause that fits has no fault
fits_clear : (q : Question) (σ : Section) (t : Test) (a b c : ℕ) → ClauseFits q σ t a b c
    → fault q (Command.Clause σ t a b c) ≡ 0
unfolding fault
fits_clear q σ t a b c f =
    let z = is_true (all_named (variables_for q.free q.own σ) (length q.constants.numbers) t a b c) f.named in
    rw (f.home, lt-leb (most_of σ) (length (in_section q σ)) f.room, z) refl

-- an atom in a section that has room for it, of named terms, is taken with no fault
module _ (q : Question) (σ : Section) (home : is_foreign q.kind σ ≡ false) (room : length (in_section q σ) < most_of σ)
    (few : variables_for q.free q.own σ ≤ most_variables) where
  -- the variables that it may name
  abbrev n : ℕ
  n = variables_for q.free q.own σ

  named : (u : Term) → Defined n q.constants u → names n (length q.constants.numbers) (term_byte_of u) ≡ true
  named u d = term_named_lem n q.constants few u d

  back : (u : Term) → Defined n q.constants u → term_of (term_byte_of u) ≡ u
  back u d = term_back n q.constants few u d

  atom_clear : (a : Atom) → InAtom (Defined n q.constants) a → fault q (clause_command σ a) ≡ 0
  atom_clear (joined a b c) h =
      fits_clear q σ Join _ _ _ (record {
        home = home;
        room = room;
        named =
            rw (named a h.0, named b h.1, named c h.2) tt;
      })
  atom_clear (equal a b) h = fits_clear q σ Equality _ _ _
      (record { home = home; room = room; named = rw (named a h.0, named b h.1) tt })
  atom_clear (is_full a) h = fits_clear q σ Full _ _ _ (record { home = home; room = room; named = rw (named a h) tt })
  atom_clear (is_empty a) h = fits_clear q σ Empty _ _ _
      (record { home = home; room = room; named = rw (named a h) tt })
  atom_clear (together a b) h =
      fits_clear q σ Together _ _ _ (record { home = home; room = room; named = rw (named a h.0, named b h.1) tt })

  atom_taken : (a : Atom) → InAtom (Defined n q.constants) a → taken q (clause_command σ a) ≡ with_clause q σ a
  unfolding taken
  atom_taken (joined a b c) h = rw (back a h.0, back b h.1, back c h.2) refl
  atom_taken (equal a b) h = rw (back a h.0, back b h.1) refl
  atom_taken (is_full a) h = rw (back a h) refl
  atom_taken (is_empty a) h = rw (back a h) refl
  atom_taken (together a b) h = rw (back a h.0, back b h.1) refl

atom_more : (σ : Section) (a : Atom) → is_end (clause_command σ a) ≡ false
atom_more σ (joined a b c) = refl
atom_more σ (equal a b) = refl
atom_more σ (is_full a) = refl
atom_more σ (is_empty a) = refl
atom_more σ (together a b) = refl

-- ---- the commands of a question lead to it

-- q with other constants and clauses
abbrev part : Question → List ℕ → System → System → Question
part q l f g = record {
  kind = q.kind;
  free = q.free;
  own = q.own;
  constants =
      record { levels = q.constants.levels; numbers = l };
  first = f;
  second = g;
}

leads_constants : (q : Question) (l ns : List ℕ) → ((i : ℕ) → get_or ns i 0 < 2 ^ (8 * bytes_at constant_levels))
    → length l + length ns ≤ most_constants
    → Leads (part q l [] []) (map Command.Constant ns) (part q (l ++ ns) [] [])
unfolding taken fault
leads_constants q l [] h few = ap (λ m. part q m [] []) (sym (append-nil l))
leads_constants q l (x ∷ ns) h few = (
  record { readable = h 0; more = refl; clear = rw (lt-leb most_constants (length l) (omega arith)) refl },
  rw (← append_snoc l x ns) (leads_constants q (l ++ (x ∷ [])) ns (λ i. h (suc i)) (simp length-append (omega arith))),
)

-- a system, clause by clause: from a question with its first clauses to the one with all of them
module _ (P : Term → Type 0) (whole : System) (grown : System → Question) (command : Clause → Command)
    (step : (f rest : System) (c : Clause) → whole ≡ f ++ (c ∷ rest) → HasCommand c → InSystem P (c ∷ [])
    → Good (grown f) (command c) × (taken (grown f) (command c) ≡ grown (f ++ (c ∷ [])))) where
  leads_system : (f g : System) → whole ≡ f ++ g → AllHaveCommands g → InSystem P g
      → Leads (grown f) (map command g) (grown whole)
  leads_system f [] e a h = ap grown (sym (e ∙ append-nil f))
  leads_system f (c ∷ g) e a h =
      let d = step f g c e a.0 (head_in c g h).0 in
      (d.0, rw d.1 (leads_system (f ++ (c ∷ [])) g (e ∙ sym (append_assoc f (c ∷ []) g)) a.1 (head_in c g h).1))
    where
      head_in : (c : Clause) (g : System) → InSystem P (c ∷ g) → InSystem P (c ∷ []) × InSystem P g
      head_in (positive b) g h = ((h.0, tt), h.1)
      head_in (negated b) g h = ((h.0, tt), h.1)

-- there was room before a clause that stands in a system within its limit
room_positive : (whole f rest : System) (a : Atom) (m : ℕ) → whole ≡ f ++ (positive a ∷ rest)
    → length (positives whole) ≤ m → length (positives f) < m
unfolding positives
room_positive whole f rest a m e l =
    let n = ap (λ s. length (positives s)) e ∙ ap length (positives_append f (positive a ∷ rest))
    ∙ length-append (positives f) (a ∷ positives rest) in
    omega arith

room_disequation : (whole f rest : System) (a : Atom) (m : ℕ) → whole ≡ f ++ (negated a ∷ rest)
    → length (disequations whole) ≤ m → length (disequations f) < m
unfolding disequations
room_disequation whole f rest a m e l =
    let n = ap (λ s. length (disequations s)) e ∙ ap length (disequations_append f (negated a ∷ rest))
    ∙ length-append (disequations f) (a ∷ disequations rest) in
    omega arith

-- the first system is there for each kind
first_home : (k : Kind) (σ : Section) → is_second σ ≡ false → is_foreign k σ ≡ false
first_home satisfiability σ e = e
first_home entailment σ e = refl

-- the second is there where it has a clause
second_home : (k : Kind) (m : ℕ) (whole f rest : System) (c : Clause) (σ : Section) → Alone k m whole
    → whole ≡ f ++ (c ∷ rest) → is_foreign k σ ≡ false
second_home satisfiability m whole f rest c σ a e =
    absurd (omega (arith, ap length (sym a.1 ∙ e) ∙ length-append f (c ∷ rest)))
second_home entailment m whole f rest c σ a e = refl

module _ (q : Question) (w : Writable q) where
  -- its constants
  abbrev numbers : List ℕ
  numbers = q.constants.numbers

  -- a clause more
  atom_step : (f g : System) (σ : Section) (a : Atom) → Readable (clause_command σ a) → is_foreign q.kind σ ≡ false
      → length (in_section (part q numbers f g) σ) < most_of σ
      → InAtom (Defined (variables_for q.free q.own σ) q.constants) a
      → Good (part q numbers f g) (clause_command σ a)
      × (taken (part q numbers f g) (clause_command σ a) ≡ with_clause (part q numbers f g) σ a)
  atom_step f g σ a r home room h =
      let few : variables_for q.free q.own σ ≤ most_variables =
      omega (arith, variables_le q.free q.own σ, w.limited.variables) in (
        record { readable = r; more = atom_more σ a; clear = atom_clear (part q numbers f g) σ home room few a h },
        atom_taken (part q numbers f g) σ home room few a h,
      )

  first_step : (f rest : System) (c : Clause) → q.first ≡ f ++ (c ∷ rest) → HasCommand c
      → InSystem (Defined q.free q.constants) (c ∷ [])
      → Good (part q numbers f []) (first_command c)
      × (taken (part q numbers f []) (first_command c) ≡ part q numbers (f ++ (c ∷ [])) [])
  first_step f rest (positive a) e r h =
      atom_step f [] FirstPositive a (readable (positive a) r).0 (first_home q.kind FirstPositive refl)
      (room_positive q.first f rest a most_positive e (w.limited.sections FirstPositive)) h.0
  first_step f rest (negated a) e r h =
      atom_step f [] FirstDisequation a (readable (negated a) r).0 (first_home q.kind FirstDisequation refl)
      (room_disequation q.first f rest a most_disequations e (w.limited.sections FirstDisequation)) h.0

  second_step : (g rest : System) (c : Clause) → q.second ≡ g ++ (c ∷ rest) → HasCommand c
      → InSystem (Defined (q.free + q.own) q.constants) (c ∷ [])
      → Good (part q numbers q.first g) (second_command c)
      × (taken (part q numbers q.first g) (second_command c) ≡ part q numbers q.first (g ++ (c ∷ [])))
  second_step g rest (positive a) e r h =
      atom_step q.first g SecondPositive a (readable (positive a) r).1
      (second_home q.kind q.own q.second g rest (positive a) SecondPositive w.formed.alone e)
      (room_positive q.second g rest a most_positive e (w.limited.sections SecondPositive)) h.0
  second_step g rest (negated a) e r h =
      atom_step q.first g SecondDisequation a (readable (negated a) r).1
      (second_home q.kind q.own q.second g rest (negated a) SecondDisequation w.formed.alone e)
      (room_disequation q.second g rest a most_disequations e (w.limited.sections SecondDisequation)) h.0

  small : (i : ℕ) → get_or numbers i 0 < 2 ^ (8 * bytes_at constant_levels)
  small i = rw w.limited.levels at (w.small i)

  leads_to : Leads (part q [] [] []) (commands_for q) q
  leads_to =
      leads_append (map Command.Constant numbers) _ (part q [] [] []) (part q numbers [] []) q
      (leads_constants q [] numbers small (omega (arith, w.limited.constants)))
      (leads_append (map first_command q.first) _ (part q numbers [] []) (part q numbers q.first []) q
      (leads_system _ q.first (λ f. part q numbers f []) first_command first_step [] q.first refl w.first
      w.formed.first)
      (leads_system _ q.second (λ g. part q numbers q.first g) second_command second_step [] q.second refl w.second
      w.formed.second))

-- ---- the head

head_back : (kind n m : ℕ) (rest : List ℕ) → head_fits kind n m ≡ true
    → head_of (0x01 ∷ kind ∷ n ∷ m ∷ rest) ≡ Opens kind n m
unfolding head_of
head_back kind n m rest h =
    let s : List ℕ = 0x01 ∷ kind ∷ n ∷ m ∷ rest in
    rw (lt-ltb 0 (length s) (omega arith), le-ltb (length s) 4 (omega arith), h) refl

fits_back : (k : Kind) (n m : ℕ) (s : System) → n + m ≤ most_variables → Alone k m s
    → head_fits (kind_number k) n m ≡ true
unfolding head_fits
fits_back satisfiability n m s l a = rw (le-ltb most_variables (n + m) l) (eq-eqb m 0 a.0)
fits_back entailment n m s l a = rw (le-ltb most_variables (n + m) l) refl

kind_back : (k : Kind) → kind_from (kind_number k) ≡ k
kind_back satisfiability = refl
kind_back entailment = refl

opened_part : (q : Question) → q.constants.levels ≡ constant_levels
    → opened (kind_number q.kind) q.free q.own ≡ part q [] [] []
unfolding opened
opened_part q e = rw (kind_back q.kind, e) refl

-- ---- a question that can be written reads back

pub read_encode : (q : Question) → Writable q → read (encode q) ≡ accepted q
unfolding read encode
read_encode q w =
    let s : List ℕ = head_bytes q ++ (encode_commands (commands_for q) ++ encode_command Command.End) in
    let fits = fits_back q.kind q.free q.own q.second w.limited.variables w.formed.alone in
    let room : length (commands_for q) < length s =
    omega (
      arith,
      few_commands (commands_for q),
      length-append (encode_commands (commands_for q)) (encode_command Command.End),
    ) in
    ap (after_head s) (head_back (kind_number q.kind) q.free q.own _ fits)
    ∙ ap (run (length s) s 4) (opened_part q w.limited.levels)
    ∙ run_back (commands_for q) (head_bytes q) (length s) (part q [] [] []) q (leads_to q w) room
