-- The least number of splits that are enough is the first of those that are, and five always are.
use Rattle.std.proofs.Common.{ℕ, ◌≡◌, ◌≤◌, ◌<◌, ◌^◌, Option, None, Some, MatchOption, ◌∙◌, le_antisymm, arith, rules}
use Rattle.std.specs.Option.{unwrap_or}
use Rattle.std.proofs.Math.Decide.{dec_lt}
use Rattle.std.proofs.lemmas.Iterator.{first_from_Range}
use Rattle.leaves.specs.Heights.{c}
use Rattle.leaves.proofs.HeightLaws.{c_enough, c_most, c_more}
use Rattle.plans.proofs.splits.Goals as goal

first_is : (n : ℕ) (r : Option ℕ) → n ≤ 32
    → MatchOption r ((k : ℕ) → 0 ≤ k → k < 5 → 2 ^ k < n) (λ i. (0 ≤ i) × (i < 5) × (n ≤ 2 ^ i)
    × ((k : ℕ) → 0 ≤ k → k < i → 2 ^ k < n))
    → unwrap_or r 5 ≡ c n
first_is n None h all = le_antisymm (c_more n 4 (all 4 (omega arith) (omega arith))) (c_most n 5 h)
first_is n (Some i) h found = le_antisymm (go (dec_lt (c n) i)) (c_most n i found.2)
  where
    go : Dec (c n < i) → i ≤ c n
    go (yes l) = absurd (omega (arith, found.3 (c n) (omega arith) l, c_enough n))
    go (no l) = omega arith

pub returns : goal.returns
returns c =
    let n = c.args.n in
    let found = first_from_Range _ _ _ c.find.result (λ k. n ≤ 2 ^ k) (λ k. 2 ^ k < n) c.find.ensures.ran
    (λ x q k. search rules) (λ x q k. search rules) in
    c.unwrap_or.ensures ∙ first_is n c.find.result c.requires found
