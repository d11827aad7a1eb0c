-- `search::lowest_missed` meets its contract.
use Rattle.std.proofs.Common.{◌≡◌, ◌≤◌, ◌<◌, Bool, true, false, Option, None, Some, MatchOption, ℕ, arith, rules}
use Rattle.std.proofs.lemmas.Iterator.{first_from_Range}
use Rattle.search.specs.Found.{is_missed, LowestOf}
use Rattle.search.proofs.lowest_missed.Goals as goal

-- of a range from 0 on
lowest : (count : ℕ) (p : ℕ → Bool) (r : Option ℕ)
    → MatchOption r ((k : ℕ) → 0 ≤ k → k < count → p k ≡ false) (λ j. (0 ≤ j) × (j < count) × p j ≡ true
    × ((k : ℕ) → 0 ≤ k → k < j → p k ≡ false))
    → LowestOf count p r
lowest count p None h = λ k l. h k (omega arith) l
lowest count p (Some j) (z, l, q, h) = (l, q, λ k m. h k (omega arith) m)

pub returns : goal.returns
returns c =
    let a = c.args in
    let p = is_missed a.possible a.rows.now a.first_count in
    lowest a.second_count p _
    (first_from_Range _ _ _ _ (λ k. p k ≡ true) (λ k. p k ≡ false) c.find.ensures.ran
    (λ x q h. search rules) (λ x q h. (search rules, search rules)))
