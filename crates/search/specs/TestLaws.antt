-- Laws of what a search asks of choices: which digits of a choice count, and which test each of its disequations is.
-- Assumes nothing.
use Rattle.std.specs.Prelude.{◌≡◌, Bool, not, cond, List, ℕ, ◌+◌, ◌-◌, ◌*◌, ltb}
use Rattle.std.proofs.Common.{ap, ap₂, le-ltb}
use native.Mathlib.Omega.{arith}
use Rattle.format.specs.Stored.{Stored}
use Rattle.words.specs.Choices.{clause_fails, Periodic}
use Rattle.steps.specs.Tests.{leaf_values, second_meets, special_in, extra_of, tests_of}
use Rattle.steps.specs.TestLaws.{fails_periodic, meets_periodic, allowed_periodic}
use Rattle.steps.specs.declared.Search.{Search}
use Rattle.search.specs.WideLaws.{PeriodicIn}

-- ---- only the free variables' digits of a choice count

special_periodic : (clauses : List ℕ) (n values : ℕ) (other : ℕ → Bool) (extra e : ℕ) → Periodic n other
    → Periodic n (special_in clauses n values other extra e)
unfolding special_in
special_periodic clauses n values other extra e P z =
    ap₂ (cond (ltb e extra)) (ap not (P z)) (fails_periodic clauses (256 + 4 * (e - extra)) n values z)

pub tests_periodic : (S : Stored) (h : ℕ) (search : Search) → PeriodicIn S.free (tests_of S h search)
tests_periodic S h search = record {
  pos = λ b. allowed_periodic S search (leaf_values S h b);
  dis = λ e b.
      special_periodic S.clauses S.free (leaf_values S h b) (second_meets S (leaf_values S h b)) (extra_of search) e
      (meets_periodic S (leaf_values S h b));
}

-- ---- the disequations: the extra ones, then the stored ones

module _ (clauses : List ℕ) (n values : ℕ) (other : ℕ → Bool) (extra : ℕ) where
  pub special_stored : (i z : ℕ) → special_in clauses n values other extra (extra + i) z
      ≡ clause_fails clauses (256 + 4 * i) n 0 values z
  unfolding special_in
  special_stored i z =
      let e : (extra + i) - extra ≡ i = omega arith in
      rw (le-ltb (extra + i) extra (omega arith)) (ap (λ k. clause_fails clauses (256 + 4 * k) n 0 values z) e)
