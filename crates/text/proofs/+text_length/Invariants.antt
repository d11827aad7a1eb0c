-- The height of the block falls.
use Rattle.text.proofs.+text_length.Given as goal

abbrev pub decreases-text_length : goal.decreases-text_length
decreases-text_length l = l.height
