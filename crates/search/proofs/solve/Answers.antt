-- `search::solve` meets its contract: it is what the pass found.
use Rattle.search.specs.WordLaws.{replicate_at}
use Rattle.search.specs.FoundLaws.{solved}
use Rattle.search.proofs.solve.Goals as goal

pub pass_leaves-seen-requires : goal.pass_leaves-seen-requires
pass_leaves-seen-requires c =
    record { named = (c.requires.named.0, λ k. replicate_at 96 k 0); bounded = c.requires.bounded }

pub returns : goal.returns
returns c = rw c.all_found.ensures (solved _ _ _ _ _ _ _ c.pass_leaves-seen.ensures c.requires.named.1)
