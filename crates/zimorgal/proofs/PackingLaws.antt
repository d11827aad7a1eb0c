-- Laws of packing: a result whose fields fit takes seven bytes, and is read back from its number. Assumes nothing.
use Rattle.std.specs.Prelude.{◌≡◌, ◌/◌, ◌%◌, ◌^◌, ◌<◌}
use Rattle.std.proofs.Common.{arith}
use Rattle.zimorgal.specs.Packing.{packed, unpacked}
use Rattle.zimorgal.specs.Fields.{InBytes}
use Rattle.asking.specs.Asking.{Outcome}

module _ (o : Outcome) (f : InBytes o) where
  -- the eighth byte is 0
  pub packed_fits : packed o < 2 ^ 56
  packed_fits = omega arith

  verdict_back : packed o % 2 ^ 8 ≡ o.verdict
  verdict_back = omega arith

  refusal_back : packed o / 2 ^ 8 % 2 ^ 8 ≡ o.refusal
  refusal_back = omega arith

  place_back : packed o / 2 ^ 16 % 2 ^ 16 ≡ o.place
  place_back = omega arith

  height_back : packed o / 2 ^ 32 % 2 ^ 8 ≡ o.height
  height_back = omega arith

  reason_back : packed o / 2 ^ 40 % 2 ^ 8 ≡ o.reason
  reason_back = omega arith

  number_back : packed o / 2 ^ 48 % 2 ^ 8 ≡ o.number
  number_back = omega arith

  pub reads_back : unpacked (packed o) ≡ o
  unfolding unpacked
  reads_back i = record {
    verdict = verdict_back i;
    refusal = refusal_back i;
    place = place_back i;
    height = height_back i;
    reason = reason_back i;
    number = number_back i;
  }
