-- A word of that many ones takes the first bits. Assumes nothing.
use Rattle.std.proofs.Common.{◌-◌, ◌^◌, arith, pow_pos, pow_mono}
use Rattle.std.proofs.lemmas.Nat.{and_le_r}
use Rattle.shares.specs.Shifts.{power_shift}
use Rattle.words.specs.LowestLaws.{first_bits}
use Rattle.words.proofs.first_bits.Goals as goal

pub returns : goal.returns
returns c =
    let n = c.args.count in
    rw (power_shift n (omega (arith, c.requires))) (
      omega (arith, and_le_r c.args.x (2 ^ n - 1), pow_pos n, pow_mono {i = n} {j = 32} c.requires),
      first_bits c.args.x n,
    )
