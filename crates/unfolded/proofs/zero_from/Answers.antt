-- A word more has no bit set exactly if its bytes are 0.
use Rattle.std.proofs.Common.{◌*◌, arith}
use Rattle.unfolded.specs.UnfoldedLaws.{zero_more}
use Rattle.unfolded.proofs.zero_from.Goals as goal

pub loop-w-preserved : goal.loop-w-preserved
loop-w-preserved c =
    let l = c.loop-w in
    let x = c.word_at-all in
    zero_more c.args.rows.now l.w x.result x.ensures (λ j. (c.type_inv.rows j).fits) x.type_inv (8 * c.args.start) l.all
    (omega arith) l.invariant
