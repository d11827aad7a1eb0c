-- Laws of a search by words of 64 choices. Assumes nothing.
use Rattle.std.specs.Prelude.{◌≡◌, Bool, false, ℕ, ◌+◌, ◌-◌, ◌*◌, ◌^◌, ◌<◌}
use Rattle.std.proofs.Common.{sym, ap, ◌∙◌, arith}
use Rattle.std.proofs.Math.Decide.{dec_lt}
use Rattle.shares.specs.Test.{is_true, is_false}
use Rattle.shares.specs.Below.{first_below}
use Rattle.shares.specs.BelowLaws.{first_least, first_below_lem, first_is}
use Rattle.shares.specs.Constant.{bit}
use Rattle.words.specs.LowestLaws.{lowest_lt}

-- what fails below 64 * w, and at the d choices from there, fails below 64 * w + d
pub none_more : (p : ℕ → Bool) (w d : ℕ) → ((z : ℕ) → z < 64 * w → p z ≡ false)
    → ((i : ℕ) → i < d → p (64 * w + i) ≡ false)
    → (z : ℕ) → z < 64 * w + d → p z ≡ false
none_more p w d h g z l =
    elim (dec_lt z (64 * w)) [
      | yes a ↦ h z a
      | no a ↦ (let e : z ≡ 64 * w + (z - 64 * w) =
          omega arith in ap p e ∙ g (z - 64 * w) (omega arith))
    ]

-- the first choice that passes is the lowest set bit of the first word that is not 0
pub found_in_word : (p : ℕ → Bool) (w count x : ℕ) → w < count → x < 2 ^ 64 → (x ≡ 0 → ⊥)
    → ((z : ℕ) → z < 64 * w → p z ≡ false)
    → ((i : ℕ) → i < 64 → bit x i ≡ p (64 * w + i)) → 64 * w + first_below 64 (bit x) ≡ first_below (64 * count) p
found_in_word p w count x hw hx n before word =
    let r = first_below 64 (bit x) in
    let l : r < 64 = lowest_lt x hx n in
    sym
    (first_is (64 * count) p (64 * w + r) (omega arith)
    (none_more p w r before (λ i k. sym (word i (omega arith)) ∙ is_false (bit x i) (first_least 64 (bit x) i k)))
    (sym (word r l) ∙ is_true (bit x r) (first_below_lem 64 (bit x) l)))
