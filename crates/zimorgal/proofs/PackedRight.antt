-- What asking has to give, with the result as one number; and that it gives it. Assumes nothing.
use Rattle.std.specs.Prelude.{◌≡◌, List, ℕ, length}
use Rattle.std.proofs.Common.{ap, ◌∙◌}
use Rattle.systems.specs.Questions.{Question}
use Rattle.asking.specs.Asking.{Outcome, answered, asked_with, outcome_of, answer_after, work_after}
use Rattle.asking.specs.Exact.{Exact}
use Rattle.asking.specs.Demand3.{Demand3}
use Rattle.asking.specs.Given.{Given}
use Rattle.zimorgal.specs.Packing.{packed, unpacked}
use Rattle.zimorgal.proofs.PackingLaws.{reads_back}
use Rattle.zimorgal.specs.FitLaws.{outcome_fits}

module _ (s buffer area : List ℕ) where
  -- the contract of asking, with the result as one number
  abbrev pub GivenPacked : ℕ → List ℕ → List ℕ → Type 0
  GivenPacked r answer' work' = record {
    outcome : r ≡ packed (outcome_of (asked_with s buffer area));
    answer : answer' ≡ answer_after (asked_with s buffer area) buffer;
    work : work' ≡ work_after (asked_with s buffer area) area;
    model : (q : Question) → asked_with s buffer area ≡ answered q → Exact q (unpacked r)
        × Demand3 q (unpacked r) answer';
  }

  -- a result is read back from its number
  pub given_packed : (o : Outcome) (answer' work' : List ℕ) → Given s buffer area o answer' work' → (r : ℕ)
      → r ≡ packed o
      → GivenPacked r answer' work'
  given_packed o answer' work' G r er =
      let back : unpacked r ≡ o = ap unpacked er
      ∙ reads_back o (rw G.outcome (outcome_fits s (length buffer) (length area))) in
      record {
        outcome = er ∙ ap packed G.outcome;
        answer = G.answer;
        work = G.work;
        model =
            λ q f. rw back (G.model q f);
      }
