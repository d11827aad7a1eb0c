-- A full mark takes one bit out. Assumes nothing.
use Rattle.std.proofs.Common.{refl, T_not, arith}
use Rattle.shares.specs.Test.{of_false}
use Rattle.shares.specs.Constant.{bit}
use Rattle.words.specs.LowestLaws.{other_bits}
use Rattle.entries.specs.BitLaws.{all_set}
use Rattle.entries.proofs.still_wanted.Goals as goal

pub returns-then-first_bits-ne0 : goal.returns-then-first_bits-ne0
returns-then-first_bits-ne0 c =
    let a = c.args in
    record { settled = λ t z. absurd (T_not (bit a.wanted a.j) (of_false z) t); wanted_kept = λ k l n. refl }

pub returns : goal.returns
returns c =
    let a = c.args in
    let first = c.first_bits in
    record {
      settled = λ t z. all_set a.mark a.count first.result c.ranges.mark.fits c.requires.1 first.ensures.1
          c.if-first_bits-ne0.false;
      wanted_kept = λ k l n. other_bits a.wanted a.j k (omega arith) l n;
    }
