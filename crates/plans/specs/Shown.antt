-- What a plan shows: the choice of values at each sub-leaf, and the tree of each variable. Assumes nothing.
use Rattle.std.specs.Prelude.{cond, List, ℕ, zero, suc, ◌-◌, ◌^◌, ◌≤◌, ◌<◌, eqb, get_or}
use Rattle.shares.specs.Tree.{Tree, tree_of}
use Rattle.shares.specs.Constant.{bit}
use Rattle.shares.specs.Blocks.{block_of}
use Rattle.plans.specs.declared.Entry.{Entry}
use Rattle.plans.specs.declared.Plan.{Plan}

-- the entry at an index; past the last of them sub-leaf 0 with choice 0
abbrev pub entry_at : List Entry → ℕ → Entry
entry_at entries n = get_or entries n (record { subleaf = 0; choice = 0 })

-- a plan that can be shown with so many levels: the leaves are no taller than the height given, and every sub-leaf is
-- there
pub record Showable (levels : ℕ) (plan : Plan) : Type 0 where
  pub below : plan.low ≤ plan.high
  pub within : plan.high ≤ levels
  pub blocks : plan.low ≤ 6
  pub few : plan.count ≤ 32
  pub sub_leaves : (n : ℕ) → n < plan.count → (entry_at plan.entries n).subleaf < 2 ^ plan.high

-- the choice at sub-leaf s once the first n choices with one of their own stand: the last of them there, otherwise the
-- leaf's own
unfoldable pub plan_choice_after : Plan → ℕ → ℕ → ℕ
plan_choice_after plan zero s = get_or plan.plain (block_of plan.low plan.high s) 0
plan_choice_after plan (suc n) s =
    cond (eqb s (entry_at plan.entries n).subleaf) (entry_at plan.entries n).choice (plan_choice_after plan n s)

-- the choice at sub-leaf s of 2 ^ high
abbrev pub plan_choice : Plan → ℕ → ℕ
plan_choice plan s = plan_choice_after plan plan.count s

-- the tree of the variable whose value is digit p, lowest first, of a choice
unfoldable pub plan_tree : Plan → ℕ → Tree
plan_tree plan p = tree_of plan.high (λ s. bit (plan_choice plan s) p)

-- the trees of n variables, of which variable 0 has the highest digit
abbrev pub plan_trees : ℕ → Plan → ℕ → Tree
plan_trees n plan v = plan_tree plan (n - 1 - v)
