-- `questions::read_constants` meets its contract: one constant more. Assumes nothing.
use Rattle.format.proofs.LeadLaws.{led_more}
use Rattle.questions.proofs.read_constants.Goals as goal

pub loop-defined-preserved : goal.loop-defined-preserved
loop-defined-preserved c = led_more c.loop-defined.invariant c.loop-defined-test.true _ c.in-Some.ensures
