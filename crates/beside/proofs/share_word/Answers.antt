-- `beside::share_word` meets its contract: a bit fails where some bit with the same low digits fails.
use Rattle.beside.specs.MergeLaws.{shared_not}
use Rattle.beside.proofs.share_word.Goals as goal

pub returns : goal.returns
returns c = shared_not c.args.n c.args.x c.merge_word.result c.ranges.x.fits c.merge_word.type_inv c.merge_word.ensures
