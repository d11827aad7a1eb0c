-- Of the kind a fault depends on no more than whether it is 0.
use Rattle.std.proofs.Common.{◌≡◌, ℕ, List, eqb, refl, ◌∙◌}
use Rattle.format.specs.declared.Command.TheVariants as command
use Rattle.format.specs.Format.{Step, Take, Refused}
use Rattle.format.specs.Keeping.{fault_of, judged_of}
use Rattle.faults.proofs.read_command.Goals as goal

module _ (k m free own n : ℕ) (counts : List ℕ) (e : eqb k 0 ≡ eqb m 0) where
  alike : (s : Step) → judged_of k free own n counts s ≡ judged_of m free own n counts s
  unfolding fault_of
  alike (Refused f) = refl
  alike (Take command.End next) = refl
  alike (Take command.Head next) = refl
  alike (Take (command.Constant x) next) = refl
  alike (Take (command.Clause s t a b c) next) = rw e

pub returns : goal.returns
returns c = c.read_under.ensures ∙ alike _ _ _ _ _ _ c.kind_for-kind.ensures _
