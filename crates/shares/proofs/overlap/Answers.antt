-- The law of bits that are set in both, at 32 leaves. Assumes nothing.
use Rattle.std.proofs.Common.{refl, ◌^◌, arith}
use Rattle.shares.specs.Constant.{constant_levels}
use Rattle.shares.proofs.ConstantLaws.{set_in_both_lem}
use Rattle.shares.proofs.overlap.Goals as goal

pub returns : goal.returns
returns c = rw (set_in_both_lem (2 ^ constant_levels) c.args.a c.args.b (omega arith) (omega arith)) refl
