-- What the answer of joining two constants stands for. Assumes nothing.
use Rattle.std.proofs.Math.Option as Math
use Rattle.std.specs.Prelude.{ℕ, Option, None, Some}
use Rattle.shares.specs.Tree.{Tree}
use Rattle.shares.specs.Constant.{number_tree}

-- the tree of a constant of so many levels, or nothing where the join is undefined
abbrev pub join_of : ℕ → Option ℕ → Math.Option Tree
join_of levels (Some n) = Math.some (number_tree levels n)
join_of levels None = Math.none
