-- Laws of the table of first words. Assumes nothing.
use Rattle.std.specs.Prelude.{◌≡◌, false, List, ℕ, ◌+◌, ◌*◌, ◌^◌, ◌<◌, length, set}
use Rattle.std.proofs.Math.Path.{ap}
use Rattle.std.proofs.Common.{◌∙◌, suc-le-suc, arith}
use Rattle.std.proofs.Math.Decide.{dec_lt}
use Rattle.std.proofs.Math.Seq.{get_or-set_same, get_or-set_other}
use Rattle.shares.specs.Test.{is_true, is_false}
use Rattle.shares.specs.Below.{first_below}
use Rattle.shares.specs.BelowLaws.{first_le, first_least, first_below_lem, first_is, first_none}
use Rattle.shares.specs.Constant.{bit}
use Rattle.words.specs.LowestLaws.{lowest_lt}
use Rattle.words.specs.Kept.{lowest_in, least_number, nothing_kept, number_at}
use Rattle.words.specs.declared.Passing.{Passing}

pub lowest_in_lt : (x : ℕ) → lowest_in x < 64
unfolding lowest_in
lowest_in_lt x = suc-le-suc (first_le 63 (bit x))

pub lowest_in_lem : (x : ℕ) → x < 2 ^ 64 → (x ≡ 0 → ⊥) → lowest_in x ≡ first_below 64 (bit x)
unfolding lowest_in
lowest_in_lem x small n = go (dec_lt r 63)
  where
    r : ℕ
    r = first_below 64 (bit x)

    before : (i : ℕ) → i < r → bit x i ≡ false
    before i l = is_false (bit x i) (first_least 64 (bit x) i l)

    go : Dec (r < 63) → first_below 63 (bit x) ≡ r
    go (yes l) = first_is 63 (bit x) r l before (is_true (bit x r) (first_below_lem 64 (bit x) (lowest_lt x small n)))
    go (no l) = first_none 63 (bit x) (λ i k. before i (omega arith)) ∙ omega (arith, lowest_lt x small n)

module _ (firsts : List Passing) (e t y : ℕ) where
  -- word y with the number t is kept as entry e
  abbrev pub kept_in : List Passing
  kept_in = set firsts e (record { word = t; choices = y })

  pub kept_there : e < length firsts → number_at kept_in e ≡ 64 * t + lowest_in y
  unfolding number_at
  kept_there room = ap least_number (get_or-set_same firsts e (record { word = t; choices = y }) nothing_kept room)

  pub kept_others : (k : ℕ) → (k ≡ e → ⊥) → number_at kept_in k ≡ number_at firsts k
  unfolding number_at
  kept_others k n = ap least_number (get_or-set_other firsts e k (record { word = t; choices = y }) nothing_kept n)
