-- Facts of commands and the head that the functions' proofs cite. Assumes nothing.
use mathlib.Core.Path.{◌≡◌, refl, sym}
use mathlib.Core.Bool.{Bool, false, cond}
use mathlib.Core.List.{List}
use Prim.Native.Nat.{ℕ, ◌+◌, ◌≤◌, ◌<◌}
use borrow.Author.Tests.{lt-ltb, le-ltb, eq-eqb}
use lib.ListN.{length, get_or}
use Rattle.format.specs.declared.Kind.{Kind}
use Rattle.format.specs.declared.Kind.TheVariants.{Satisfiability, Entailment}
use Rattle.format.specs.Format.{Opens, Wrong, head_fits, head_of}
use Rattle.format.specs.Numbers.{kind_value}

-- more than 12 variables fit no kind
pub too_many : (k : Kind) (n m : ℕ) → 12 < n + m → false ≡ head_fits (kind_value k) n m
unfolding head_fits
too_many Satisfiability n m h = sym (rw (lt-ltb 12 (n + m) h) refl)
too_many Entailment n m h = sym (rw (lt-ltb 12 (n + m) h) refl)

-- the head's byte says a kind that there is not
pub no_kind : (s : List ℕ) → 1 ≤ length s → get_or s 0 0 ≡ 1 → 4 ≤ length s → 1 < get_or s 1 0 → Wrong 5 ≡ head_of s
unfolding head_of head_fits
no_kind s l e w k = simp (
  lt-ltb 0 (length s) l,
  eq-eqb (get_or s 0 0) 1 e,
  le-ltb (length s) 4 w,
  lt-ltb 1 (get_or s 1 0) k,
)

-- a head that is there and whole fits or is refused by 5
pub whole_head : (s : List ℕ) (k n m : ℕ) (b : Bool) → 1 ≤ length s → get_or s 0 0 ≡ 1 → 4 ≤ length s → get_or s 1 0 ≡ k
    → n ≡ get_or s 2 0 → m ≡ get_or s 3 0
    → b ≡ head_fits k n m → cond b (Opens k n m) (Wrong 5) ≡ head_of s
unfolding head_of
whole_head s k n m b l e w o p q r =
    rw (r, p, q, ← o) (simp (lt-ltb 0 (length s) l, eq-eqb (get_or s 0 0) 1 e, le-ltb (length s) 4 w))
