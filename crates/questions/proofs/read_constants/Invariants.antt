-- `questions::read_constants`: so many constants have been read, and those that follow give the rest. Assumes nothing.
use Rattle.format.proofs.LeadLaws.{Led}
use Rattle.questions.proofs.read_constants.Given as goal

abbrev pub invariant-loop-defined : goal.invariant-loop-defined
invariant-loop-defined l = Led l.bytes l.fn.constants l.defined l.at l.constants
