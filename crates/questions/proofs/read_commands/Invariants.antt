-- `questions::read_commands`: what is stored stands for a question from which the commands left give the whole reading.
-- Assumes nothing.
use Prim.Native.Nat.{◌-◌}
use lib.ListN.{length}
use Rattle.format.specs.Format.{opened}
use Rattle.format.specs.Numbers.{kind_value}
use Rattle.format.specs.Stored.{stored}
use Rattle.questions.proofs.Turns.{State}
use Rattle.questions.proofs.read_commands.Given as goal

abbrev pub invariant-loop-command : goal.invariant-loop-command
invariant-loop-command l =
    State l.bytes (kind_value l.head.kind) (stored l.clauses l.counts l.constants l.named l.head.free l.head.own)
    l.defined
    (opened (kind_value l.head.kind) l.head.free l.head.own) l.fn.clauses l.at

abbrev pub decreases-loop-command : goal.decreases-loop-command
decreases-loop-command l = length l.bytes - l.at
