-- The leaves of a plan. Assumes nothing.
use Rattle.std.proofs.Common.{ℕ, ◌≡◌, ◌-◌, ◌*◌, ◌/◌, ◌^◌, ◌≤◌, List, length, take, sym, ap, add-sub_of_le, ◌∙◌, pow-add}
use Rattle.std.proofs.Common.{pow_pos, pow_mono, arith}
use Rattle.std.proofs.Math.Nat.{mul-div_cancel}
use Rattle.std.proofs.lemmas.List.{length-take-le}

-- their number, shifted down from 64
pub leaves_are : (h : ℕ) → h ≤ 6 → 64 / 2 ^ (6 - h) ≡ 2 ^ h
leaves_are h l =
    let parts : 64 ≡ 2 ^ h * 2 ^ (6 - h) = ap (λ (n : ℕ). 2 ^ n) (sym (add-sub_of_le l)) ∙ pow-add 2 h (6 - h) in
    ap (λ n. n / 2 ^ (6 - h)) parts ∙ mul-div_cancel (2 ^ h) (pow_pos (6 - h))

-- there are at most 64
pub leaves_few : (h : ℕ) → h ≤ 6 → 64 / 2 ^ (6 - h) ≤ 64
leaves_few h l = let few : 2 ^ h ≤ 2 ^ 6 = pow_mono l in omega (arith, leaves_are h l)

-- so many are taken of a list of 64
pub leaves_taken : (h : ℕ) (plain : List ℕ) → h ≤ 6 → length plain ≡ 64 → length (take (64 / 2 ^ (6 - h)) plain) ≡ 2 ^ h
leaves_taken h plain low room = length-take-le (64 / 2 ^ (6 - h)) plain (omega (arith, leaves_few h low))
    ∙ leaves_are h low
