-- Reading looks at no byte past the command at fault: strings that agree so far are refused alike. Assumes nothing.
use Rattle.std.proofs.Math.Path.{◌≡◌, refl, ap, ap₂, subst}
use Rattle.std.proofs.Common.{sym, ◌∙◌, arith, ltb→lt, lt→ltb, length-take, get_or-take, take-take, take_all}
use Rattle.std.specs.Prelude.{Bool, ◌&&◌, List, [], ◌∷◌, length, get_or, take, drop, Option, Some, None}
use Rattle.std.proofs.Math.Bool.{true, false, cond}
use Prim.Native.Nat.{ℕ, zero, suc, ◌+◌, ◌-◌, ◌≤◌, ◌<◌, min}
use borrow.Author.Tests.{ltb-true, eqb-true, eqb-false, ne_eqb}
use Rattle.std.proofs.Math.Dec.{eqb, ltb}
use Rattle.shares.specs.Constant.{constant_levels, number, bytes_at}
use Rattle.shares.specs.Test.{same_test}
use Rattle.systems.specs.Questions.{Question}
use Rattle.format.specs.declared.Shape.{Shape}
use Rattle.format.specs.declared.Command.{Command}
use Rattle.format.specs.Format.{Head, Opens, Wrong, Step, Take, Refused}
use Rattle.format.specs.Format.{Result, refused, accepted, entry_of, term_count, operands, term_byte, command_of}
use Rattle.format.specs.Format.{whole_at, read_at, fault, judged, taken, ended, go, onward, turn, following, run}
use Rattle.format.specs.Format.{head_fits, opened, head_of, after_head, read}
use Rattle.format.specs.Limits.{longest}
use Rattle.format.proofs.FormatLaws.{branch, term_small, size_some, Whole, read_whole, judged_take, Stay, run_law}
use Rattle.format.proofs.FormatLaws.{HeadRight, head_right, accepted_short, refusal_place}

-- ---- how far a command reaches

abbrev width : Option Shape → ℕ
width (Some h) = operands h
width None = 0

-- how many bytes the command at an offset takes; 1 where none is there or it is unknown
abbrev pub size_at : List ℕ → ℕ → ℕ
size_at s at = 1 + width (entry_of (get_or s at 0))

width_small : (e : Option Shape) → width e ≤ bytes_at constant_levels
width_small (Some Shape.End) = omega arith
width_small (Some Shape.Head) = omega arith
width_small (Some Shape.Constant) = omega arith
width_small (Some (Shape.Clause σ t)) = omega (arith, term_small t)
width_small None = omega arith

pub size_small : (s : List ℕ) (at : ℕ) → size_at s at ≤ 1 + bytes_at constant_levels
size_small s at = omega (arith, width_small (entry_of (get_or s at 0)))

-- a command that is read ends where it reaches
abbrev Ends : ℕ → ℕ → Step → Type 0
Ends at w (Take c next) = next ≡ at + (1 + w)
Ends at w (Refused n) = Unit {0}

read_ends : (s : List ℕ) (at : ℕ) → Ends at (width (entry_of (get_or s at 0))) (read_at s at)
unfolding read_at whole_at
read_ends s at =
    branch (Ends at (width (entry_of (get_or s at 0)))) (ltb at (length s)) _ (Refused 2)
    (λ _. entry (entry_of (get_or s at 0))) (λ _. tt)
  where
    entry : (e : Option Shape) → Ends at (width e) (whole_at s at e)
    entry None = tt
    entry (Some h) =
        branch (Ends at (operands h)) (ltb (length s - (at + 1)) (operands h)) (Refused 2)
        (Take (command_of s (at + 1) h) (at + 1 + operands h)) (λ _. tt)
        (λ _. omega arith)

-- ---- no place lies before the command where reading stands

abbrev From : ℕ → Result → Type 0
From at (refused n place) = at ≤ place
From at (accepted q) = Unit {0}

place_from : (s : List ℕ) (k at : ℕ) (q : Question) → From at (run k s at q)
unfolding ended turn
place_from s k at q = run_law (λ q' at'. at ≤ at') (From at) s step (λ q' at' h. h) k at q (omega arith)
  where
    ends : (at' : ℕ) (q' : Question) → at ≤ at' → (c : Command) (next : ℕ) → Whole s at' (Take c next)
        → Stay (λ q'' at''. at ≤ at'') (From at) (onward s at' q' (Take c next))
    ends at' q' h Command.End next w =
        branch (From at) (eqb next (length s)) (accepted q') (refused 10 next) (λ _. tt) (λ _. omega arith)
    ends at' q' h Command.Head next w = omega arith
    ends at' q' h (Command.Constant x) next w = omega arith
    ends at' q' h (Command.Clause σ t a b c) next w = omega arith

    judge : (at' : ℕ) (q' : Question) → at ≤ at' → (r : Step) → Whole s at' r
        → Stay (λ q'' at''. at ≤ at'') (From at) (onward s at' q' (judged q' r))
    judge at' q' h (Refused n) w = h
    judge at' q' h (Take c next) w =
        branch (λ r. Stay (λ q'' at''. at ≤ at'') (From at) (onward s at' q' r)) (eqb (fault q' c) 0) (Take c next)
        (Refused (fault q' c))
        (λ _. ends at' q' h c next w) (λ _. h)

    step : (q' : Question) (at' : ℕ) → at ≤ at' → Stay (λ q'' at''. at ≤ at'') (From at) (turn s at' q')
    step q' at' h = judge at' q' h (read_at s at') (read_whole s at')

-- ---- two strings with the same first k bytes

-- a part within them is the same
part_same : (i m k : ℕ) (s t : List ℕ) → i + m ≤ k → take k s ≡ take k t → take m (drop i s) ≡ take m (drop i t)
part_same zero m k s t h e = sym (take-take m k s (omega arith)) ∙ ap (take m) e ∙ take-take m k t (omega arith)
part_same (suc i) m zero s t h e = absurd (omega arith)
part_same (suc i) m (suc k) [] [] h e = refl
part_same (suc i) m (suc k) [] (b ∷ t) h e = let z : ◌≡◌ {A = ℕ} 0 1 = cc in absurd (omega arith)
part_same (suc i) m (suc k) (a ∷ s) [] h e = let z : ◌≡◌ {A = ℕ} 0 1 = cc in absurd (omega arith)
part_same (suc i) m (suc k) (a ∷ s) (b ∷ t) h e = part_same i m k s t (omega arith) (cc)

less_same : (a b c d : ℕ) → (a < b → c < d) → (c < d → a < b) → ltb a b ≡ ltb c d
less_same a b c d f g = same_test (ltb a b) (ltb c d) (λ u. lt→ltb c d (f (ltb→lt a b u)))
    (λ u. lt→ltb a b (g (ltb→lt c d u)))

module _ (s t : List ℕ) (k : ℕ) (e : take k s ≡ take k t) where
  same_byte : (i : ℕ) → i < k → get_or s i 0 ≡ get_or t i 0
  same_byte i h = sym (get_or-take k s i 0 h) ∙ ap (λ l. get_or l i 0) e ∙ get_or-take k t i 0 h

  same_length : min k (length s) ≡ min k (length t)
  same_length = sym (length-take k s) ∙ ap length e ∙ length-take k t

  term_byte_same : (i n j : ℕ) → i + n ≤ k → term_byte s i n j ≡ term_byte t i n j
  term_byte_same i n j l = go (ltb j n) refl
    where
      go : (b : Bool) → ltb j n ≡ b → cond b (get_or s (i + j) 0) 0 ≡ cond b (get_or t (i + j) 0) 0
      go true h = let m : j < n = ltb-true j n h in same_byte (i + j) (omega arith)
      go false h = refl

  command_same : (i : ℕ) (h : Shape) → i + operands h ≤ k → command_of s i h ≡ command_of t i h
  unfolding command_of
  command_same i Shape.End l = refl
  command_same i Shape.Head l = refl
  command_same i Shape.Constant l =
      ap (λ p. Command.Constant (number p)) (part_same i (bytes_at constant_levels) k s t l e)
  command_same i (Shape.Clause σ u) l =
      let n = term_count u in
      rw (term_byte_same i n 0 l, term_byte_same i n 1 l, term_byte_same i n 2 l) refl

  whole_same : (at : ℕ) (f : Option Shape) → at + (1 + width f) ≤ k → whole_at s at f ≡ whole_at t at f
  unfolding whole_at
  whole_same at None l = refl
  whole_same at (Some h) l =
      ap₂ (λ b c. cond b (Refused 2) (Take c (at + 1 + operands h)))
      (less_same (length s - (at + 1)) (operands h) (length t - (at + 1)) (operands h) (λ u. omega (arith, same_length))
      (λ u. omega (arith, same_length)))
      (command_same (at + 1) h (omega arith))

  read_same : (at : ℕ) → at + size_at s at ≤ k → read_at s at ≡ read_at t at
  unfolding read_at
  read_same at l =
      ap₂ (λ b r. cond b r (Refused 2))
      (less_same at (length s) at (length t) (λ u. omega (arith, same_length)) (λ u. omega (arith, same_length)))
      (whole_same at (entry_of (get_or s at 0)) l ∙ ap (λ b. whole_at t at (entry_of b)) (same_byte at (omega arith)))

  module _ (at : ℕ) (q : Question) (j : Step) (h : judged q (read_at s at) ≡ j) where
    turn_s : turn s at q ≡ onward s at q j
    unfolding turn
    turn_s = ap (onward s at q) h

    turn_t : at + size_at s at ≤ k → turn t at q ≡ onward t at q j
    unfolding turn
    turn_t l = ap (λ r. onward t at q (judged q r)) (sym (read_same at l)) ∙ ap (onward t at q) h

  -- bytes after the end are refused alike
  ended_same : (next : ℕ) (q : Question) (n p : ℕ) → next ≤ length s → ended s next q ≡ refused n p → (p ≡ next)
      × (p < k → ended t next q ≡ refused n p)
  unfolding ended
  ended_same next q n p w r = pick (eqb next (length s)) refl r
    where
      pick : (b : Bool) → eqb next (length s) ≡ b → cond b (accepted q) (refused 10 next) ≡ refused n p
          → (p ≡ next) × (p < k → cond (eqb next (length t)) (accepted q) (refused 10 next) ≡ refused n p)
      pick true f g = let z : ◌≡◌ {A = ℕ} 0 1 = cc in absurd (omega arith)
      pick false f g =
          let u : p ≡ next = cc in
          let v = eqb-false next (length s) f in
          (u, λ l. rw (ne_eqb next (length t) (λ w. omega (arith, same_length))) g)

  -- what f more commands refuse of one, g more refuse of the other
  abbrev RefusedAlike : ℕ → ℕ → Type 0
  RefusedAlike f g = (at : ℕ) (q : Question) (n p : ℕ) → at ≤ length s → length s < at + f → length t < at + g
      → p + size_at s p ≤ k
      → run f s at q ≡ refused n p → run g t at q ≡ refused n p

  run_same : (f g : ℕ) → RefusedAlike f g
  unfolding run
  run_same zero g at q n p w a b l r = absurd (omega arith)
  run_same (suc f) zero at q n p w a b l r =
      let u = subst (From at) r (place_from s (suc f) at q) in
      absurd (omega (arith, same_length))
  run_same (suc f) (suc g) at q n p w a b l r = step (judged q (read_at s at)) refl (run_same f g)
    where
      first : (j : Step) → judged q (read_at s at) ≡ j → following (λ q' at'. run f s at' q') (onward s at q j)
          ≡ refused n p
      first j h = ap (following (λ q' at'. run f s at' q')) (sym (turn_s at q j h)) ∙ r

      second : (j : Step) → judged q (read_at s at) ≡ j → at + size_at s at ≤ k
          → following (λ q' at'. run g t at' q') (turn t at q) ≡ following (λ q' at'. run g t at' q') (onward t at q j)
      second j h m = ap (following (λ q' at'. run g t at' q')) (turn_t at q j h m)

      on : (c : Command) (next : ℕ) (q' : Question) → judged q (read_at s at) ≡ Take c next
          → onward t at q (Take c next) ≡ go q' next → run f s next q' ≡ refused n p → RefusedAlike f g
          → following (λ q' at'. run g t at' q') (turn t at q) ≡ refused n p
      on c next q' h o z again =
          let d : read_at s at ≡ Take c next = (judged_take q (read_at s at) c next h).0 in
          let wh : Whole s at (Take c next) = subst (Whole s at) d (read_whole s at) in
          let en : next ≡ at + size_at s at = subst (Ends at (width (entry_of (get_or s at 0)))) d (read_ends s at) in
          let u : next ≤ p = subst (From next) z (place_from s f next q') in
          second (Take c next) h (omega arith)
          ∙ ap (following (λ q'' at''. run g t at'' q'')) o
          ∙ again next q' n p wh.1 (omega (arith, wh.0, size_some c)) (omega (arith, wh.0, size_some c)) l z

      finish : (next : ℕ) → judged q (read_at s at) ≡ Take Command.End next
          → following (λ q' at'. run g t at' q') (turn t at q) ≡ refused n p
      finish next h =
          let d : read_at s at ≡ Take Command.End next = (judged_take q (read_at s at) Command.End next h).0 in
          let wh : Whole s at (Take Command.End next) = subst (Whole s at) d (read_whole s at) in
          let en : next ≡ at + size_at s at = subst (Ends at (width (entry_of (get_or s at 0)))) d (read_ends s at) in
          let x = ended_same next q n p wh.1 (first (Take Command.End next) h) in
          second (Take Command.End next) h (omega (arith, x.0)) ∙ x.1 (omega arith)

      step : (j : Step) → judged q (read_at s at) ≡ j → RefusedAlike f g
          → following (λ q' at'. run g t at' q') (turn t at q) ≡ refused n p
      step (Refused m) h again =
          let z : refused m at ≡ refused n p = first (Refused m) h in
          let u : p ≡ at = cc in
          second (Refused m) h (rw (← u) l) ∙ z
      step (Take Command.End next) h again = finish next h
      step (Take Command.Head next) h again =
          on Command.Head next (taken q Command.Head) h refl (first (Take Command.Head next) h) again
      step (Take (Command.Constant x) next) h again =
          on (Command.Constant x) next (taken q (Command.Constant x)) h refl (first (Take (Command.Constant x) next) h)
          again
      step (Take (Command.Clause σ u a b c) next) h again =
          on (Command.Clause σ u a b c) next (taken q (Command.Clause σ u a b c)) h refl
          (first (Take (Command.Clause σ u a b c) next) h) again

  -- ---- the head

  -- what the head's test looks at, where its byte is 01
  rest_same : 4 ≤ k → cond (ltb (length s) 4) (Wrong 2)
      (cond (head_fits (get_or s 1 0) (get_or s 2 0) (get_or s 3 0))
      (Opens (get_or s 1 0) (get_or s 2 0) (get_or s 3 0)) (Wrong 5))
      ≡ cond (ltb (length t) 4) (Wrong 2)
      (cond (head_fits (get_or t 1 0) (get_or t 2 0) (get_or t 3 0))
      (Opens (get_or t 1 0) (get_or t 2 0) (get_or t 3 0)) (Wrong 5))
  rest_same l =
      rw (
        same_byte 1 (omega arith),
        same_byte 2 (omega arith),
        same_byte 3 (omega arith),
        less_same (length s) 4 (length t) 4 (λ u. omega (arith, same_length)) (λ u. omega (arith, same_length)),
      )

  head_reach : get_or s 0 0 ≡ 1 → size_at s 0 ≡ 4
  unfolding entry_of
  head_reach f = ap (λ b. 1 + width (entry_of b)) f

  head_same : size_at s 0 ≤ k → head_of s ≡ head_of t
  unfolding head_of
  head_same l =
      let below : ltb 0 (length s) ≡ ltb 0 (length t) =
      less_same 0 (length s) 0 (length t) (λ u. omega (arith, same_length)) (λ u. omega (arith, same_length)) in
      rw (← below, ← same_byte 0 (omega arith)) (pick (ltb 0 (length s)) (eqb (get_or s 0 0) 1) refl)
    where
      pick : (a b : Bool) → eqb (get_or s 0 0) 1 ≡ b
          → cond (a && b) (cond (ltb (length s) 4) (Wrong 2)
          (cond (head_fits (get_or s 1 0) (get_or s 2 0) (get_or s 3 0))
          (Opens (get_or s 1 0) (get_or s 2 0) (get_or s 3 0)) (Wrong 5))) (Wrong 1)
          ≡ cond (a && b) (cond (ltb (length t) 4) (Wrong 2)
          (cond (head_fits (get_or t 1 0) (get_or t 2 0) (get_or t 3 0))
          (Opens (get_or t 1 0) (get_or t 2 0) (get_or t 3 0)) (Wrong 5))) (Wrong 1)
      pick false b f = refl
      pick true false f = refl
      pick true true f = rest_same (omega (arith, head_reach (eqb-true (get_or s 0 0) 1 f)))

  -- a string that agrees with s to the end of the command at fault is refused as s is
  pub read_prefix : (n p : ℕ) → p + size_at s p ≤ k → read s ≡ refused n p → read t ≡ refused n p
  unfolding read
  read_prefix n p l r = pick (head_of s) refl (head_right s)
    where
      pick : (h : Head) → head_of s ≡ h → HeadRight s h → after_head t (head_of t) ≡ refused n p
      pick (Wrong m) d c =
          let z : refused m 0 ≡ refused n p = ap (after_head s) (sym d) ∙ r in
          let u : p ≡ 0 = cc in
          ap (after_head t) (sym (head_same (omega (arith, rw u at l))) ∙ d) ∙ z
      pick (Opens kind free own) d c =
          let z : run (length s) s 4 (opened kind free own) ≡ refused n p = ap (after_head s) (sym d) ∙ r in
          let u : 4 ≤ p = subst (From 4) z (place_from s (length s) 4 (opened kind free own)) in
          ap (after_head t) (sym (head_same (omega (arith, size_small s 0))) ∙ d)
          ∙ run_same (length s) (length t) 4 (opened kind free own) n p c.0 (omega arith) (omega arith) l z

-- ---- a string is judged by its first bytes

-- the printing program's buffer holds as many bytes as ever matter
abbrev pub enough : ℕ
enough = 1024

pub read_take : (k : ℕ) (s : List ℕ) → longest constant_levels + (1 + bytes_at constant_levels) ≤ k
    → read s ≡ read (take k s)
read_take k s h = pick (read s) refl
  where
    pick : (r : Result) → read s ≡ r → read s ≡ read (take k s)
    pick (accepted q) e = ap read (sym (take_all k s (omega (arith, accepted_short s q e))))
    pick (refused n p) e =
        e ∙ sym (read_prefix s (take k s) k (sym (take-take k k s (omega arith))) n p
        (omega (arith, refusal_place s n p e, size_small s p)) e)

pub read_first : (s : List ℕ) → read s ≡ read (take enough s)
read_first s = read_take enough s (omega arith)
