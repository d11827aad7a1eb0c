-- Six digits are the same in every word. Assumes nothing.
use Rattle.words.specs.TableLaws.{terms_moved}
use Rattle.words.proofs.move_terms.Goals as goal

pub returns : goal.returns
returns c = terms_moved c.args.n c.args.m c.args.w _ _ c.set_variables.ensures
