-- The rest of the text, from the stack that is kept, gives what the whole gives.
use Rattle.std.proofs.Common.{◌≡◌, List, [], ◌≤◌, length, drop}
use Rattle.std.proofs.Math.Option.{some}
use Rattle.shares.specs.Constant.{constant_levels}
use Rattle.constants.specs.Stacks.{Item, runs, Stacked}
use Rattle.constants.proofs.from_text.Given as goal

abbrev pub invariant-loop-sign : goal.invariant-loop-sign
invariant-loop-sign l =
    (σ : List Item)
    × Stacked constant_levels l.items l.scan σ
    × (length σ ≤ l.sign-index)
    × (runs (drop l.sign-index l.text) (some σ) ≡ runs l.text (some []))
