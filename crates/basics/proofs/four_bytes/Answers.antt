-- Four bytes of a list, as the number that they make. Assumes nothing.
use Rattle.std.proofs.Common.{◌≡◌, List, ℕ, suc, ◌+◌, ◌*◌, ◌≤◌, length, get_or, take, drop, add-one, arith}
use Rattle.std.proofs.Math.Numerals.{add-two, add-three}
use Rattle.std.proofs.Math.Seq.{drop-cons}
use Rattle.shares.specs.Constant.{number}
use Rattle.basics.proofs.four_bytes.Goals as goal

four_bytes : (s : List ℕ) (i : ℕ) → i + 4 ≤ length s
    → number (take 4 (drop i s)) ≡ ((get_or s (i + 3) 0 * 256 + get_or s (i + 2) 0) * 256 + get_or s (i + 1) 0) * 256 +
    get_or s i 0
unfolding number
four_bytes s i h =
    rw (
      drop-cons s i 0 (omega arith),
      drop-cons s (suc i) 0 (omega arith),
      drop-cons s (suc (suc i)) 0 (omega arith),
      drop-cons s (suc (suc (suc i))) 0 (omega arith),
    )
    (rw (add-one i, add-two i, add-three i) (omega arith))

pub returns : goal.returns
returns c = (
  omega (arith, four_bytes c.args.bytes.now c.args.i c.requires, c.from_le_bytes.ensures, c.from.ensures),
  omega (arith, c.from.ensures),
)
