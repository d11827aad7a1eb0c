-- The constants that stand first: what is read there, and one more of them. Assumes nothing.
use Rattle.std.proofs.Math.Path.{◌≡◌, refl, sym, ap, subst}
use Rattle.std.proofs.Common.{◌∙◌}
use Rattle.std.specs.Prelude.{Bool, cond, List, ℕ, zero, suc, ◌+◌, ◌-◌, ◌≤◌, ◌<◌, ltb, length, get_or, set, take, drop}
use Rattle.std.specs.Prelude.{replicate, Option, Some, None}
use Rattle.std.proofs.Math.Bool.{true, false}
use native.Mathlib.Omega.{arith}
use Rattle.std.proofs.Math.ListN.{length-set}
use borrow.Author.Tests.{ltb-true, ltb-false, lt-leb}
use Rattle.shares.specs.Test.{of_true}
use Rattle.shares.specs.Constant.{constant_levels, number, bytes_at}
use Rattle.format.specs.Worked
use Rattle.format.specs.declared.Shape.{Shape}
use Rattle.format.specs.declared.Command.{Command}
use Rattle.format.specs.Format.{Step, Take, Refused, most_constants, entry_of, term_count, clause_at, command_of}
use Rattle.format.specs.Format.{whole_at, read_at}
use Rattle.format.specs.declared.Leading.{Leading}
use Rattle.format.specs.Stored.{constant_size, leading_of, is_leading, constant_at, place_of, leading}
use Rattle.format.specs.Keeping.{lead_into, fault_of, judged_of}

-- ---- where a constant stands

-- the number of the constant whose command starts at an offset
abbrev pub constant_number : List ℕ → ℕ → ℕ
constant_number s at = number (take (bytes_at constant_levels) (drop (at + 1) s))

-- it has room, and it is read
abbrev StandsWhole : List ℕ → ℕ → Step → Type 0
StandsWhole s at r = (at + constant_size ≤ length s)
    × (r ≡ Take (Command.Constant (constant_number s at)) (at + 1 + bytes_at constant_levels))

-- cut short or not, what is no constant is something else
either : (b : Bool) (c : Command) (next : ℕ) → None ≡ leading_of (Take c next)
    → None ≡ leading_of (cond b (Refused 2) (Take c next))
either true c next e = refl
either false c next e = e

-- where a command of another shape is announced, something else stands
pub other_stands : (s : List ℕ) (at : ℕ) (h : Shape) → ¬ (h ≡ Shape.Constant)
    → None ≡ leading_of (whole_at s at (Some h))
unfolding whole_at command_of
other_stands s at Shape.End n = either (ltb (length s - (at + 1)) 0) Command.End (at + 1 + 0) refl
other_stands s at Shape.Head n = either (ltb (length s - (at + 1)) 3) Command.Head (at + 1 + 3) refl
other_stands s at Shape.Constant n = absurd (n refl)
other_stands s at (Shape.Clause σ t) n =
    either (ltb (length s - (at + 1)) (term_count t)) (clause_at s (at + 1) σ t) (at + 1 + term_count t) refl

module _ (s : List ℕ) (at : ℕ) where
  whole : (b : Bool) → ltb (length s - (at + 1)) (bytes_at constant_levels) ≡ b → at < length s
      → let r = cond b (Refused 2)
      (Take (Command.Constant (constant_number s at)) (at + 1 + bytes_at constant_levels)) in
      is_leading (leading_of r) ≡ true → StandsWhole s at r
  whole true e h f = absurd (of_true f)
  whole false e h f = (omega (arith, ltb-false (length s - (at + 1)) (bytes_at constant_levels) e), refl)

  none : (h : Shape) → ¬ (h ≡ Shape.Constant) → is_leading (leading_of (whole_at s at (Some h))) ≡ true
      → StandsWhole s at (whole_at s at (Some h))
  none h n f = absurd (of_true (ap is_leading (other_stands s at h n) ∙ f))

  by_entry : (E : Option Shape) → at < length s → is_leading (leading_of (whole_at s at E)) ≡ true
      → StandsWhole s at (whole_at s at E)
  unfolding whole_at command_of
  by_entry None h f = absurd (of_true f)
  by_entry (Some Shape.Constant) h f = whole (ltb (length s - (at + 1)) (bytes_at constant_levels)) refl h f
  by_entry (Some Shape.End) h f = none Shape.End (λ e. let z : ◌≡◌ {A = ℕ} 0 1 = cc in omega arith) f
  by_entry (Some Shape.Head) h f = none Shape.Head (λ e. let z : ◌≡◌ {A = ℕ} 0 1 = cc in omega arith) f
  by_entry (Some (Shape.Clause σ t)) h f = none (Shape.Clause σ t) (λ e. let z : ◌≡◌ {A = ℕ} 0 1 = cc in omega arith) f

  by_room : (b : Bool) → ltb at (length s) ≡ b
      → let r = cond b (whole_at s at (entry_of (get_or s at 0))) (Refused 2) in is_leading (leading_of r) ≡ true
      → StandsWhole s at r
  by_room true e f = by_entry (entry_of (get_or s at 0)) (ltb-true at (length s) e) f
  by_room false e f = absurd (of_true f)

module _ (s : List ℕ) (at : ℕ) (e : constant_at s at ≡ true) where
  stands_whole : StandsWhole s at (read_at s at)
  unfolding read_at
  stands_whole = by_room s at (ltb at (length s)) refl e

  -- its bytes are there
  pub constant_room : at + constant_size ≤ length s
  constant_room = stands_whole.0

  -- and it is read
  pub constant_read : read_at s at ≡ Take (Command.Constant (constant_number s at)) (at + 1 + bytes_at constant_levels)
  constant_read = stands_whole.1

  -- without a fault, where no clause stands before it and fewer are defined than may be
  pub constant_taken : (kind free own n : ℕ) → n < most_constants
      → Take (Command.Constant (constant_number s at)) (at + 1 + bytes_at constant_levels)
      ≡ judged_of kind free own n (replicate 4 0) (read_at s at)
  unfolding fault_of
  constant_taken kind free own n l = rw (constant_read, lt-leb most_constants n l) refl

-- a constant and the offset after it, as they were read
pub leading_read : (s : List ℕ) (at : ℕ) (x : Leading) → Some x ≡ leading_of (read_at s at)
    → (constant_at s at ≡ true) × (x.number ≡ constant_number s at) × (x.next ≡ at + constant_size)
leading_read s at x e =
    let stands : constant_at s at ≡ true = sym (ap is_leading e) in
    let same : Some x ≡ Some (record { number = constant_number s at; next = at + 1 + bytes_at constant_levels }) =
    e ∙ ap leading_of (constant_read s at stands) in
    let y : x ≡ record { number = constant_number s at; next = at + 1 + bytes_at constant_levels } = cc in
    (stands, ap (λ y. y.number) y, ap (λ y. y.next) y ∙ omega arith)

-- ---- one after the other

-- n constants have been read into the list l, up to an offset; l₀ was the list before
pub record Led (s l₀ : List ℕ) (n at : ℕ) (l : List ℕ) : Type 0 where
  pub few : n ≤ most_constants
  pub place : at ≡ place_of n
  pub within : at ≤ length s
  pub size : length l ≡ most_constants
  pub count : leading (most_constants - n) s n ≡ leading most_constants s 0
  pub numbers : lead_into (most_constants - n) s n l ≡ lead_into most_constants s 0 l₀

-- there are no more than may be
pub leading_few : (s : List ℕ) (k n : ℕ) → leading k s n ≤ n + k
unfolding leading
leading_few s zero n = omega arith
leading_few s (suc k) n = pick (constant_at s (place_of n)) (leading_few s k (n + 1))
  where
    pick : (b : Bool) → leading k s (n + 1) ≤ n + 1 + k → cond b (leading k s (n + 1)) n ≤ n + suc k
    pick true l = omega arith
    pick false l = omega arith

-- where they end, short of as many as there may be, none stands
pub leading_stops : (s : List ℕ) (k n : ℕ) → leading k s n < n + k → constant_at s (place_of (leading k s n)) ≡ false
unfolding leading
leading_stops s zero n l = absurd (omega arith)
leading_stops s (suc k) n l = pick (constant_at s (place_of n)) refl l (leading_stops s k (n + 1))
  where
    pick : (b : Bool) → constant_at s (place_of n) ≡ b → cond b (leading k s (n + 1)) n < n + suc k
        → (leading k s (n + 1) < n + 1 + k → constant_at s (place_of (leading k s (n + 1))) ≡ false)
        → constant_at s (place_of (cond b (leading k s (n + 1)) n)) ≡ false
    pick true e l f = f (omega arith)
    pick false e l f = e

-- what is found in the end
abbrev pub LedAll : List ℕ → List ℕ → ℕ → List ℕ → Type 0
LedAll s l₀ n l = (n ≡ leading most_constants s 0) × (l ≡ lead_into most_constants s 0 l₀)

pub led_none : (s l : List ℕ) → 4 ≤ length s → length l ≡ most_constants → Led s l 0 4 l
led_none s l h e = record { few = omega arith; place = refl; within = h; size = e; count = refl; numbers = refl }

module _ {s l₀ l : List ℕ} {n at : ℕ} (L : Led s l₀ n at l) where
  -- the last that may be
  pub led_last : most_constants ≤ n → LedAll s l₀ n l
  unfolding leading lead_into
  led_last h = let e : most_constants - n ≡ 0 = omega arith in (rw e at L.count, rw e at L.numbers)

  -- all that may be
  pub led_full : most_constants ≤ n → LedAll s l₀ most_constants l
  led_full h = let e : n ≡ most_constants = omega (arith, L.few) in subst (λ k. LedAll s l₀ k l) e (led_last h)

  module _ (h : n < most_constants) where
    more : most_constants - n ≡ suc (most_constants - (n + 1))
    more = omega arith

    -- something else
    pub led_end : None ≡ leading_of (read_at s at) → LedAll s l₀ n l
    unfolding leading lead_into
    led_end e =
        let f : constant_at s (place_of n) ≡ false =
        subst (λ k. constant_at s k ≡ false) L.place (sym (ap is_leading e)) in
        (sym (rw f) ∙ (rw more at L.count), sym (rw f) ∙ (rw more at L.numbers))

    -- one constant more
    pub led_more : (x : Leading) → Some x ≡ leading_of (read_at s at) → Led s l₀ (n + 1) x.next (set l n x.number)
    unfolding leading lead_into
    led_more x e =
        let r = leading_read s at x e in
        let f : constant_at s (place_of n) ≡ true = subst (λ k. constant_at s k ≡ true) L.place r.0 in
        let y : x.number ≡ constant_number s (place_of n) = r.1 ∙ ap (constant_number s) L.place in
        record {
          few = omega arith;
          place = omega (arith, L.place, r.2);
          within = omega (arith, constant_room s at r.0, r.2);
          size = length-set l n x.number ∙ L.size;
          count = sym (rw f) ∙ (rw more at L.count);
          numbers = rw y (sym (rw f) ∙ (rw more at L.numbers));
        }
