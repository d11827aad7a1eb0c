-- The height of the block falls.
use Rattle.text.proofs.+write_text.Given as goal

abbrev pub decreases-write_text : goal.decreases-write_text
decreases-write_text l = l.height
