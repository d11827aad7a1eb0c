-- A pair of a leaf and a choice as one number, the pairs that a table of first words stands for, and the plan of them.
-- Assumes nothing.
use Rattle.std.specs.Prelude.{◌≡◌, cond, List, ℕ, ◌+◌, ◌-◌, ◌*◌, ◌/◌, ◌%◌, ◌^◌, ◌≤◌, ◌<◌, ltb, eqb, get_or}
use Rattle.shares.specs.Below.{count_below}
use Rattle.leaves.specs.Problem.{Problem}
use Rattle.leaves.specs.Numbers.{leaf_for, rank_for, plain_choice, special_choice}
use Rattle.words.specs.Choices.{word_count}
use Rattle.words.specs.Kept.{number_at}
use Rattle.plans.specs.declared.Entry.{Entry}
use Rattle.plans.specs.declared.Plan.{Plan}
use Rattle.plans.specs.declared.Outline.{Outline}
use Rattle.plans.specs.Shown.{entry_at}
use Rattle.words.specs.declared.Passing.{Passing}

-- how many choices the words of a leaf hold, with n free variables: the pair of leaf b and choice z is the number b *
-- leaf_width n + z
abbrev pub leaf_width : ℕ → ℕ
leaf_width n = 64 * word_count n

-- the entry of a table of first words that disequation e has: an extra one has entry 31, the others come from entry 0
-- on
abbrev pub slot_of : ℕ → ℕ → ℕ
slot_of extra e = cond (ltb e extra) 31 (e - extra)

-- a table that can be planned: its numbers are of leaves and choices that there are
pub record Fitting (o : Outline) (firsts : List Passing) : Type 0 where
  pub variables : o.free ≤ 12
  pub low : o.height ≤ 6
  pub splits : o.splits ≤ 5
  pub extra : o.extra ≤ 1
  pub few : o.count ≤ 31
  pub entries : (e : ℕ) → e < o.extra + o.count
      → number_at firsts (slot_of o.extra e) < 2 ^ o.height * leaf_width o.free
  pub choices : (e : ℕ) → e < o.extra + o.count → number_at firsts (slot_of o.extra e) % leaf_width o.free < 2 ^ o.free

-- so are those of a table of leaves
abbrev pub LeavesFit : Outline → List Passing → Type 0
LeavesFit o leaves = (b : ℕ) → b < 2 ^ o.height → number_at leaves b < 2 ^ o.free

-- two tables stand for the pairs of a solvable problem: the least choice of each leaf, and the leaf and the choice of
-- each disequation
pub record PairsOf (n h : ℕ) (R : Problem ℕ) (extra : ℕ) (firsts leaves : List Passing) : Type 0 where
  pub plains : (b : ℕ) → b < 2 ^ h → number_at leaves b ≡ plain_choice n h R b
  pub entries : (e : ℕ) → e < R.count
      → number_at firsts (slot_of extra e) ≡ leaf_for n h R e * leaf_width n + special_choice n h R e (leaf_for n h R e)
  pub within : (e : ℕ) → e < R.count → special_choice n h R e (leaf_for n h R e) < 2 ^ n

-- the leaf of disequation e by its pair
abbrev pub pair_leaf : Outline → List Passing → ℕ → ℕ
pair_leaf o firsts e = number_at firsts (slot_of o.extra e) / leaf_width o.free

-- the first e disequations have their sub-leaves and choices
pub record Filled (o : Outline) (firsts : List Passing) (e : ℕ) (entries : List Entry) : Type 0 where
  pub sub_leaves : (i : ℕ) → i < e
      → (entry_at entries i).subleaf
      ≡ pair_leaf o firsts i * 2 ^ o.splits + count_below i (λ j. eqb (pair_leaf o firsts j) (pair_leaf o firsts i))
  pub choices : (i : ℕ) → i < e → (entry_at entries i).choice ≡ number_at firsts (slot_of o.extra i) % leaf_width o.free

-- the plan's entries are those of the problem, with each leaf split k times
pub record Made (n h : ℕ) (R : Problem ℕ) (k : ℕ) (plan : Plan) : Type 0 where
  pub low : plan.low ≡ h
  pub high : plan.high ≡ h + k
  pub count : plan.count ≡ R.count
  pub plains : (b : ℕ) → b < 2 ^ h → get_or plan.plain b 0 ≡ plain_choice n h R b
  pub sub_leaves : (j : ℕ) → j < R.count
      → (entry_at plan.entries j).subleaf ≡ leaf_for n h R j * 2 ^ k + rank_for n h R j
  pub choices : (j : ℕ) → j < R.count → (entry_at plan.entries j).choice ≡ special_choice n h R j (leaf_for n h R j)
