-- Going over an accepted string command by command meets its clauses in order. Assumes nothing.
use Rattle.std.specs.Prelude.{◌≡◌, refl, Bool, true, false, cond, List, [], ◌∷◌, ◌++◌, ℕ, zero, suc, eqb, length}
use Rattle.std.proofs.Common.{sym, ap, ◌∙◌, append-nil, append_assoc, arith}
use Rattle.systems.specs.Clauses.{Atom}
use Rattle.systems.specs.Questions.{Question}
use Rattle.format.specs.declared.Section.{Section}
use Rattle.format.specs.declared.Section.TheVariants.{FirstPositive, FirstDisequation, SecondPositive}
use Rattle.format.specs.declared.Section.TheVariants.{SecondDisequation}
use Rattle.format.specs.declared.Command.{Command}
use Rattle.format.specs.Format.{Head, Opens, Wrong, Step, Take, Refused}
use Rattle.format.specs.Format.{refused, accepted, read_at, atom_of, fault, judged, with_clause, taken, ended, onward}
use Rattle.format.specs.Format.{turn, following, run, opened, head_of, after_head, read}
use Rattle.encoding.specs.Worked
use Rattle.encoding.specs.Order.{read_on, commands_from, commands_of, first_said, second_said, first_clause}
use Rattle.encoding.specs.Order.{second_clause, first_clauses, second_clauses}

-- ---- what a command adds to each system

pub said : (q : Question) (σ : Section) (a : Atom) → ((with_clause q σ a).first ≡ q.first ++ first_said σ a)
    × ((with_clause q σ a).second ≡ q.second ++ second_said σ a)
said q FirstPositive a = (refl, sym (append-nil q.second))
said q FirstDisequation a = (refl, sym (append-nil q.second))
said q SecondPositive a = (sym (append-nil q.first), refl)
said q SecondDisequation a = (sym (append-nil q.first), refl)

adds : (q : Question) (c : Command) → ((taken q c).first ≡ q.first ++ first_clause c)
    × ((taken q c).second ≡ q.second ++ second_clause c)
unfolding taken
adds q Command.End = (sym (append-nil q.first), sym (append-nil q.second))
adds q Command.Head = (sym (append-nil q.first), sym (append-nil q.second))
adds q (Command.Constant x) = (sym (append-nil q.first), sym (append-nil q.second))
adds q (Command.Clause σ t a b c) = said q σ (atom_of t a b c)

-- ---- what reading adds to a question: the clauses of the commands, in order

-- q' has the clauses of q and then those of some commands
record Grown (q q' : Question) (l : List Command) : Type 0 where
  pub first : q'.first ≡ q.first ++ first_clauses l
  pub second : q'.second ≡ q.second ++ second_clauses l

grown_none : (q : Question) → Grown q q []
unfolding first_clauses second_clauses
grown_none q = record { first = sym (append-nil q.first); second = sym (append-nil q.second) }

grown_more : (q q' : Question) (c : Command) (l : List Command) → Grown (taken q c) q' l → Grown q q' (c ∷ l)
unfolding first_clauses second_clauses
grown_more q q' c l g =
    let d = adds q c in
    record {
      first = g.first ∙ ap (λ m. m ++ first_clauses l) d.0 ∙ append_assoc q.first (first_clause c) (first_clauses l);
      second = g.second ∙ ap (λ m. m ++ second_clauses l) d.1
          ∙ append_assoc q.second (second_clause c) (second_clauses l);
    }

ended_same : (s : List ℕ) (next : ℕ) (q q' : Question) → ended s next q ≡ accepted q' → q ≡ q'
unfolding ended
ended_same s next q q' e = pick (eqb next (length s)) e
  where
    pick : (b : Bool) → cond b (accepted q) (refused 10 next) ≡ accepted q' → q ≡ q'
    pick true f = cc
    pick false f = let z : ◌≡◌ {A = ℕ} 0 1 = cc in absurd (omega arith)

run_grown : (s : List ℕ) (k at : ℕ) (q q' : Question) → run k s at q ≡ accepted q' → Grown q q' (commands_from k s at)
unfolding run commands_from turn
run_grown s zero at q q' e = let z : ◌≡◌ {A = ℕ} 0 1 = cc in absurd (omega arith)
run_grown s (suc k) at q q' e = step (read_at s at) (run_grown s k) e
  where
    -- what holds of the commands that follow
    Onward : Type 0
    Onward = (at₁ : ℕ) (q₁ q₂ : Question) → run k s at₁ q₁ ≡ accepted q₂ → Grown q₁ q₂ (commands_from k s at₁)

    on : (c : Command) (next : ℕ) → Onward → following (λ q₁ at₁. run k s at₁ q₁) (onward s at q (Take c next))
        ≡ accepted q'
        → Grown q q' (read_on (commands_from k s) (Take c next))
    on Command.End next again f = rw (ended_same s next q q' f) (grown_none q')
    on Command.Head next again f = grown_more q q' Command.Head _ (again next _ q' f)
    on (Command.Constant x) next again f = grown_more q q' (Command.Constant x) _ (again next _ q' f)
    on (Command.Clause σ t a b c) next again f = grown_more q q' (Command.Clause σ t a b c) _ (again next _ q' f)

    clear : (c : Command) (next : ℕ) (b : Bool) → Onward
        → following (λ q₁ at₁. run k s at₁ q₁) (onward s at q (cond b (Take c next) (Refused (fault q c))))
        ≡ accepted q'
        → Grown q q' (read_on (commands_from k s) (Take c next))
    clear c next true again f = on c next again f
    clear c next false again f = let z : ◌≡◌ {A = ℕ} 0 1 = cc in absurd (omega arith)

    step : (r : Step) → Onward → following (λ q₁ at₁. run k s at₁ q₁) (onward s at q (judged q r)) ≡ accepted q'
        → Grown q q' (read_on (commands_from k s) r)
    step (Refused n) again f = let z : ◌≡◌ {A = ℕ} 0 1 = cc in absurd (omega arith)
    step (Take c next) again f = clear c next (eqb (fault q c) 0) again f

-- ---- the clauses of an accepted question are those that its commands say, in order

pub in_order : (s : List ℕ) (q : Question) → read s ≡ accepted q → (q.first ≡ first_clauses (commands_of s))
    × (q.second ≡ second_clauses (commands_of s))
unfolding read opened
in_order s q e = pick (head_of s) e
  where
    pick : (h : Head) → after_head s h ≡ accepted q → (q.first ≡ first_clauses (commands_of s))
        × (q.second ≡ second_clauses (commands_of s))
    pick (Opens kind n m) f = let g = run_grown s (length s) 4 (opened kind n m) q f in (g.first, g.second)
    pick (Wrong n) f = let z : ◌≡◌ {A = ℕ} 0 1 = cc in absurd (omega arith)
