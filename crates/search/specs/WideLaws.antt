-- A problem whose tests count n digits of a choice alone: its test and its pairs are searches of all choices in the
-- words of a leaf, and of all pairs. Assumes nothing.
use Rattle.std.specs.Prelude.{◌≡◌, Bool, List, ℕ, ◌+◌, ◌*◌, ◌/◌, ◌%◌, ◌^◌, ◌<◌, T}
use Rattle.std.proofs.Common.{sym, ap, ◌∙◌}
use Rattle.std.proofs.Math.Path.{ap₂}
use Rattle.std.proofs.Math.Bool.{◌&&◌}
use Rattle.shares.specs.Below.{every_below, some_below, first_below}
use Rattle.shares.specs.BelowLaws.{some_found, first_passes, every_ext, some_ext, first_ext}
use Rattle.leaves.specs.Choices.{least}
use Rattle.leaves.specs.Problem.{Problem, plain_at, special_at, solvable}
use Rattle.leaves.specs.Fixed.{leaf_of}
use Rattle.leaves.specs.Numbers.{numbered, leaf_for, plain_choice, special_choice}
use Rattle.plans.specs.NumberLaws.{plain_is, special_is}
use Rattle.words.specs.Choices.{Periodic}
use Rattle.words.specs.Kept.{number_at}
use Rattle.beside.specs.GatherLaws.{periodic_some, periodic_first}
use Rattle.plans.specs.Pairs.{leaf_width, slot_of, PairsOf}
use Rattle.plans.specs.PairLaws.{width_pos}
use Rattle.search.specs.PairLaws.{pairs_some, pairs_first}
use Rattle.words.specs.declared.Passing.{Passing}

-- a choice is allowed at leaf b, and disequation e holds
abbrev pub both_at : Problem ℕ → ℕ → ℕ → ℕ → Bool
both_at R e b z = R.pos b z && R.dis e b z

-- the same as a test of pairs
abbrev pub pair_at : ℕ → Problem ℕ → ℕ → ℕ → Bool
pair_at n R e u = both_at R e (u / leaf_width n) (u % leaf_width n)

-- the tests count n digits alone
pub record PeriodicIn (n : ℕ) (R : Problem ℕ) : Type 0 where
  pub pos : (b : ℕ) → Periodic n (R.pos b)
  pub dis : (e b : ℕ) → Periodic n (R.dis e b)

module _ (n h : ℕ) (R : Problem ℕ) (P : PeriodicIn n R) where
  both_periodic : (e b : ℕ) → Periodic n (both_at R e b)
  both_periodic e b z = ap₂ ◌&&◌ (P.pos b z) (P.dis e b z)

  plain_wide : (b : ℕ) → plain_at (least n) (numbered n R) b ≡ some_below (leaf_width n) (R.pos b)
  plain_wide b = plain_is n h R b ∙ sym (periodic_some n (R.pos b) (P.pos b))

  special_wide : (e b : ℕ) → special_at (least n) (numbered n R) e b ≡ some_below (leaf_width n) (both_at R e b)
  special_wide e b = special_is n h R e b ∙ sym (periodic_some n (both_at R e b) (both_periodic e b))

  -- some pair meets disequation e
  some_wide : (e : ℕ) → some_below (2 ^ h) (special_at (least n) (numbered n R) e)
      ≡ some_below (2 ^ h * leaf_width n) (pair_at n R e)
  some_wide e =
      some_ext (2 ^ h) _ _ (λ b l. special_wide e b)
      ∙ sym (pairs_some (2 ^ h) (leaf_width n) (width_pos n) (both_at R e))

  pub solvable_wide : solvable (least n) h (numbered n R)
      ≡ (every_below (2 ^ h) (λ b. some_below (leaf_width n) (R.pos b))
      && every_below R.count (λ e. some_below (2 ^ h * leaf_width n) (pair_at n R e)))
  unfolding solvable
  solvable_wide = ap₂ ◌&&◌ (every_ext (2 ^ h) _ _ (λ b l. plain_wide b)) (every_ext R.count _ _ (λ e l. some_wide e))

  -- ---- the first choice of a leaf, and the first pair of a disequation

  pub plain_first : (b : ℕ) → T (some_below (leaf_width n) (R.pos b))
      → first_below (leaf_width n) (R.pos b) ≡ plain_choice n h R b
  plain_first b t = periodic_first n (R.pos b) (rw (periodic_some n (R.pos b) (P.pos b)) at t)

  leaf_wide : (e : ℕ) → leaf_for n h R e ≡ first_below (2 ^ h) (λ b. some_below (leaf_width n) (both_at R e b))
  unfolding leaf_of
  leaf_wide e = first_ext (2 ^ h) _ _ (λ b l. special_wide e b)

  module _ (e : ℕ) (t : T (some_below (2 ^ h * leaf_width n) (pair_at n R e))) where
    leaves_some : T (some_below (2 ^ h) (λ b. some_below (leaf_width n) (both_at R e b)))
    leaves_some = rw (pairs_some (2 ^ h) (leaf_width n) (width_pos n) (both_at R e)) at t

    here : T (some_below (leaf_width n) (both_at R e (leaf_for n h R e)))
    here =
        rw (leaf_wide e)
        (let (b, l, v) = some_found (2 ^ h) (λ b. some_below (leaf_width n) (both_at R e b)) leaves_some in
        (first_passes (2 ^ h) (λ b. some_below (leaf_width n) (both_at R e b)) b l v).1)

    narrow : T (some_below (2 ^ n) (both_at R e (leaf_for n h R e)))
    narrow = rw (periodic_some n (both_at R e (leaf_for n h R e)) (both_periodic e (leaf_for n h R e))) at here

    choice_wide : first_below (leaf_width n) (both_at R e (leaf_for n h R e))
        ≡ special_choice n h R e (leaf_for n h R e)
    choice_wide = periodic_first n (both_at R e (leaf_for n h R e)) narrow

    pub pair_first : first_below (2 ^ h * leaf_width n) (pair_at n R e)
        ≡ leaf_for n h R e * leaf_width n + special_choice n h R e (leaf_for n h R e)
    pair_first =
        pairs_first (2 ^ h) (leaf_width n) (width_pos n) (both_at R e) leaves_some
        ∙ ap (λ b. b * leaf_width n + first_below (leaf_width n) (both_at R e b)) (sym (leaf_wide e))
        ∙ ap (◌+◌ (leaf_for n h R e * leaf_width n)) choice_wide

    pub pair_within : special_choice n h R e (leaf_for n h R e) < 2 ^ n
    pair_within =
        let (z, l, v) = some_found (2 ^ n) (both_at R e (leaf_for n h R e)) narrow in
        (first_passes (2 ^ n) (both_at R e (leaf_for n h R e)) z l v).0

  -- a table of first choices and first pairs
  pub pairs_of : (extra : ℕ) (firsts leaves : List Passing)
      → ((b : ℕ) → b < 2 ^ h → T (some_below (leaf_width n) (R.pos b))
      × (number_at leaves b ≡ first_below (leaf_width n) (R.pos b)))
      → ((e : ℕ) → e < R.count → T (some_below (2 ^ h * leaf_width n) (pair_at n R e))
      × (number_at firsts (slot_of extra e) ≡ first_below (2 ^ h * leaf_width n) (pair_at n R e)))
      → PairsOf n h R extra firsts leaves
  pairs_of extra firsts leaves plains entries = record {
    plains = λ b l. (plains b l).1 ∙ plain_first b (plains b l).0;
    entries = λ e l. (entries e l).1 ∙ pair_first e (entries e l).0;
    within = λ e l. pair_within e (entries e l).0;
  }
