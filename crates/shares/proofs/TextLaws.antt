-- The length of a tree's text, for every height. Assumes nothing.
use Rattle.std.specs.Prelude.{ℕ, zero, suc, ◌+◌, ◌*◌, ◌^◌, ◌≤◌, length}
use Rattle.std.proofs.Common.{not-suc-le-zero, arith, length-append, pow_pos}
use Rattle.std.proofs.Math.Nat.{two-pow-succ}
use Rattle.shares.specs.Tree.{Tree, leaf, pair, height}
use Rattle.shares.specs.Text.{text, longest_text}

text_room : (k : ℕ) (t : Tree) → height t ≤ k → length (text t) + 2 ≤ 3 * 2 ^ k
unfolding text height
text_room k (leaf b) h = omega (arith, pow_pos k)
text_room zero (pair l r) h = absurd (not-suc-le-zero h)
text_room (suc k) (pair l r) h =
    simp (length-append) (omega (arith, two-pow-succ k, text_room k l (omega arith), text_room k r (omega arith)))

-- no text of a tree of height k is longer
pub text_length_lem : (k : ℕ) (t : Tree) → height t ≤ k → length (text t) ≤ longest_text k
text_length_lem k t h = omega (arith, text_room k t h)
