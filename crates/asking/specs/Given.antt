-- What asking has to give, leave in the lent bytes, and mean: its contract in one type. Assumes nothing.
use Rattle.std.specs.Prelude.{◌≡◌, List, ℕ}
use Rattle.systems.specs.Questions.{Question}
use Rattle.asking.specs.Asking.{Outcome, answered, asked_with, outcome_of, answer_after, work_after}
use Rattle.asking.specs.Exact.{Exact}
use Rattle.asking.specs.Demand3.{Demand3}

module _ (s buffer area : List ℕ) where
  -- the result, the bytes that are left, and what they and the result mean
  abbrev pub Given : Outcome → List ℕ → List ℕ → Type 0
  Given r answer' work' = record {
    outcome : r ≡ outcome_of (asked_with s buffer area);
    answer : answer' ≡ answer_after (asked_with s buffer area) buffer;
    work : work' ≡ work_after (asked_with s buffer area) area;
    model : (q : Question) → asked_with s buffer area ≡ answered q → Exact q r × Demand3 q r answer';
  }
