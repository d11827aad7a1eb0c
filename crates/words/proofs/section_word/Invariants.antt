-- The word has the bits of x at which the first k clauses pass. Assumes nothing.
use Rattle.std.proofs.Common.{◌≡◌, ◌&&◌, ℕ, ◌<◌, get_or}
use Rattle.shares.specs.Constant.{bit}
use Rattle.words.specs.Clause.{all_clauses}
use Rattle.words.proofs.section_word.Given as goal

abbrev pub invariant-loop-k : goal.invariant-loop-k
invariant-loop-k l = (i : ℕ) → i < 64
    → bit l.r i ≡ (bit l.x i && all_clauses l.clauses (λ t. bit (get_or l.terms t 0) i) l.start l.k)
