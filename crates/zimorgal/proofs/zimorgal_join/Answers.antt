-- The law of the join of two numbers, at 32 leaves. Assumes nothing.
use Rattle.std.proofs.Common.{ap, ◌∙◌, ◌+◌, ◌^◌, arith}
use Rattle.shares.specs.Constant.{constant_levels, set_in_both}
use Rattle.zimorgal.specs.Joins.{join_number}
use Rattle.zimorgal.proofs.CallLaws.{join_told, number_cases}
use Rattle.zimorgal.proofs.zimorgal_join.Goals as goal

pub returns : goal.returns
returns c =
    let a = c.args.a in
    let b = c.args.b in
    let shared = set_in_both (2 ^ constant_levels) a b in
    let told = c.join_number.ensures ∙ ap (join_number constant_levels) c.join_constants.ensures.numbers
    ∙ number_cases constant_levels shared (a + b) in
    record { tree = join_told constant_levels a b (omega arith) (omega arith) _ told; numbers = told }
