-- Asking, computed: which refusal comes first, and what it leaves of the lent bytes. Assumes nothing.
use Rattle.std.specs.Prelude.{◌≡◌, refl, [], ◌∷◌}
use Rattle.shares.specs.Constant.{constant_levels}
use Rattle.systems.specs.Questions.{satisfiability, Question}
use Rattle.format.specs.Format.{refused, accepted}
use Rattle.asking.specs.Asking.{turned_away, answered, lent_to, answer_after, work_after}

-- a question without a variable and a clause
abbrev nothing : Question
nothing = record {
  kind = satisfiability;
  free = 0;
  own = 0;
  constants = record { levels = constant_levels; numbers = [] };
  first = [];
  second = [];
}

-- the reader's refusal, whatever is lent; then 11, then 12; then an answer
cases : (lent_to (refused 3 4) 0 0 ≡ turned_away 3 4) × (lent_to (accepted nothing) 1535 4095 ≡ turned_away 11 0)
    × (lent_to (accepted nothing) 1536 4095 ≡ turned_away 12 0)
    × (lent_to (accepted nothing) 1536 4096 ≡ answered nothing)
cases = (refl, refl, refl, refl)

-- a refusal leaves both buffers as they were
kept : (answer_after (turned_away 3 4) (7 ∷ 8 ∷ []) ≡ 7 ∷ 8 ∷ [])
    × (work_after (turned_away 3 4) (7 ∷ 8 ∷ []) ≡ 7 ∷ 8 ∷ [])
unfolding answer_after work_after
kept = (refl, refl)
