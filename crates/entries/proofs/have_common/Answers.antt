-- The test by both words' common bits. Assumes nothing.
use Rattle.std.proofs.Common.{rules}
use Rattle.entries.specs.MarkLaws.{common_test}
use Rattle.entries.proofs.have_common.Goals as goal

pub returns : goal.returns
returns c = common_test c.args.a c.args.b (search rules) (search rules)
