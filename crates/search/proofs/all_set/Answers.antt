-- `search::all_set` meets its contract.
use Rattle.std.proofs.Common.{ap, ◌∙◌}
use lib.Dec.{leb}
use Rattle.search.specs.WordLaws.{bits_all}
use Rattle.search.proofs.all_set.Goals as goal

pub returns : goal.returns
returns c = ap (leb c.args.count) c.lowest.ensures ∙ bits_all 64 c.args.x c.args.count c.ranges.x.fits c.requires
