-- `extending::mark_alike`: a leaf that looks like leaf b has its choices marked, and any other adds none.
use Rattle.std.proofs.Common.{arith}
use Rattle.shares.specs.Constant.{constant_levels}
use Rattle.extending.specs.MarkLaws.{alike_start, alike_other, alike_more, alike_done}
use Rattle.extending.proofs.mark_alike.Goals as goal
use Rattle.extending.proofs.mark_alike.Goals.{then-keys-a, else-keys-a}

pub loop-a-init : goal.loop-a-init
loop-a-init c = let a = c.args in
    record {
      long = c.told-present;
      marked =
          alike_start constant_levels a.table.now a.keys.now a.free a.b a.present.now;
    }

pub loop-a-preserved : goal.loop-a-preserved
loop-a-preserved c =
    let a = c.args in
    let l = c.loop-a in
    elim c.if-keys-a.branch [
      | then-keys-a w ↦ record {
        long = c.if-keys-a.array_long;
        marked = rw w.present-is
            (alike_more constant_levels a.table.now a.keys.now a.free a.b l.a w.half.result a.present.now l.present _
            l.auto.a (omega arith)
            w.if-keys-a.true w.half.ensures l.invariant.marked w.mark_word.ensures);
      }
      | else-keys-a w ↦ record {
        long = c.if-keys-a.array_long;
        marked = rw w.present-is (alike_other constant_levels a.table.now a.keys.now a.free a.b l.a a.present.now
            l.present w.if-keys-a.false l.invariant.marked);
      }
    ]

pub returns : goal.returns
returns c =
    let a = c.args in
    let l = c.loop-a in
    alike_done constant_levels a.table.now a.keys.now a.free a.b l.a a.present.now l.present (omega arith)
    l.invariant.marked
