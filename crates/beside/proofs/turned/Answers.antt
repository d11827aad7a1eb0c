-- `beside::turned` meets its contract.
use Rattle.beside.specs.MergeLaws.{turned_bit}
use Rattle.beside.proofs.turned.Goals as goal

pub returns : goal.returns
returns c i h = turned_bit c.args.x c.args.k i c.ranges.x.fits c.requires.1 h
