-- A table of zeros, once the variables and the part that is always full are set. Assumes nothing.
use Rattle.std.proofs.Common.{arith}
use Rattle.words.specs.TableLaws.{terms_started}
use Rattle.words.proofs.start_terms.Goals as goal

pub returns : goal.returns
returns c =
    rw c.from.ensures
    (terms_started c.args.n c.args.m c.spread.result _ _ c.requires.0 (omega arith) c.requires.1 c.set_variables.ensures
    c.spread.ensures)
