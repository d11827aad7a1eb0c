-- `beside::share_words` meets its contract: with six digits or more no two bits of a word share.
use Rattle.std.proofs.Common.{get_or}
use Rattle.beside.specs.GatherLaws.{shared_same}
use Rattle.beside.proofs.share_words.Goals as goal

pub returns-then-n-ge6 : goal.returns-then-n-ge6
returns-then-n-ge6 c j h = shared_same c.args.n (get_or c.args.words.now j 0) c.if-n-ge6.true
