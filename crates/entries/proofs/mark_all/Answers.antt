-- A turn sees to one mark. Assumes nothing.
use Rattle.std.proofs.Common.{◌≡◌, sym, subst, T, ◌+◌, arith}
use Rattle.shares.specs.Constant.{bit}
use Rattle.entries.specs.Entry.{InAny}
use Rattle.entries.specs.MarkLaws.{but_start, but_more, but_none}
use Rattle.entries.proofs.mark_all.Goals as goal

pub loop-j-init : goal.loop-j-init
loop-j-init c =
    let e : c.into_iter-j-iterator.result.rest ≡ c.first_bits.result = cc in
    rw e (but_start _ _ _ _ _ c.first_bits.result c.first_bits.ensures.1)

pub mark_one-r-requires : goal.mark_one-r-requires
mark_one-r-requires c =
    let A = c.loop-j.invariant in
    let set = c.in-Some.ensures.steps.set in
    let any : InAny c.args.first_count c.args.any c.loop-j.rows =
    λ i m k h t. c.requires.2 i m k h (subst (λ x. T (bit x k)) (A.rows_kept (32 + i) (omega arith)) t) in
    (omega (arith, (A.inside _ set).0), c.requires.0, subst T (sym (A.wanted_kept _ set)) (A.inside _ set).1, any)

pub loop-j-preserved : goal.loop-j-preserved
loop-j-preserved c =
    let l = c.loop-j in
    let t = c.in-Some.ensures.steps in
    but_more _ _ _ _ _ _ l.j-iterator.rest _ _ _ l.rows _ _ _ c.requires.1 c.requires.0 t.set t.out l.invariant
    c.mark_one-r.ensures

pub returns : goal.returns
returns c = but_none _ _ _ _ _ c.loop-j.j-iterator.rest _ _ _ c.in-None.ensures.steps c.loop-j.invariant
