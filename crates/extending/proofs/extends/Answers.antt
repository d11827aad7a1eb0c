-- `extending::extends`: at first all disequations are wanted; each leaf of the constants is looked at, up to one that
-- fails.
use Rattle.std.proofs.Common.{◌+◌, ◌-◌, ◌^◌, get_or, sym, arith}
use Rattle.std.proofs.Math.ListN.{get_or-replicate}
use Rattle.std.proofs.Math.Pow.{pow-lt}
use Rattle.shares.specs.BitLaws.{bit_zero}
use Rattle.shares.specs.Shifts.{power_shift}
use Rattle.steps.specs.Steps.{posed}
use Rattle.pass.specs.PassLaws.{values_within}
use Rattle.extending.specs.LookLaws.{leaves_start, leaves_unmet, leaves_all}
use Rattle.extending.proofs.extends.Goals as goal

pub start_terms-requires : goal.start_terms-requires
start_terms-requires c = (c.args.question.now.readable.variables, λ t l. get_or-replicate 64 t 0 0 l)

pub loop-b-init : goal.loop-b-init
loop-b-init c =
    let a = c.args in
    let d = get_or a.question.now.sizes.counts 3 0 in
    let e = power_shift d (omega (arith, c.args.question.now.readable.few)) in
    record {
      fits = rw e (omega (arith, pow-lt {i = d} {j = 64} (omega (arith, c.args.question.now.readable.few))));
      placed = (0, 0, λ i l. bit_zero i, c.start_terms.ensures);
      looked = rw e (leaves_start (posed a.question.now) a.table.now (2 ^ d - 1));
    }

pub look_leaf-requires : goal.look_leaf-requires
look_leaf-requires c =
    let l = c.loop-b in
    (omega arith, c.requires, rw (c.put_keys.ensures l.b (omega arith)) (values_within _ _ _ _ _), l.invariant.placed)

pub returns-in_default : goal.returns-in_default
returns-in_default c =
    let a = c.args in
    let l = c.loop-b in
    let start = 2 ^ get_or a.question.now.sizes.counts 3 0 - 1 in
    sym (leaves_unmet (posed a.question.now) a.table.now (l.b + 1) start
    (c.in_default.ensures.by_index start c.put_keys.ensures l.invariant.looked))

pub returns : goal.returns
returns c =
    let a = c.args in
    let l = c.loop-b in
    leaves_all (posed a.question.now) a.table.now l.b l.wanted (omega arith)
    (omega (arith, c.args.question.now.readable.few))
    l.invariant.fits l.invariant.looked
