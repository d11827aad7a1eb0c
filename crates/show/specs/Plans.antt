-- The rows that show a plan. Assumes nothing.
use Rattle.std.specs.Prelude.{◌≡◌, List, ℕ, ◌^◌, ◌<◌}
use Rattle.shares.specs.Constant.{bit}
use Rattle.shares.specs.Blocks.{block_of}
use Rattle.plans.specs.declared.Plan.{Plan}
use Rattle.plans.specs.Shown.{plan_choice_after, plan_trees}
use Rattle.rows.specs.Rows.{row_leaf, filled_with}

-- a row, unfolded to height k, that shows digit p of the choices once the first n with a sub-leaf of their own stand
abbrev pub Shows : ℕ → Plan → ℕ → ℕ → List ℕ → Type 0
Shows k plan n p row = (i : ℕ) → i < 2 ^ k → row_leaf row i ≡ bit (plan_choice_after plan n (block_of plan.high k i)) p

-- an answer buffer in which a plan of n free variables is shown: their rows, unfolded to height k, and what was past
-- them
abbrev pub shown_answer : ℕ → ℕ → Plan → List ℕ → List ℕ
shown_answer k n plan answer = filled_with k n (plan_trees n plan) answer
