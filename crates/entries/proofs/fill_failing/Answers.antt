-- A turn puts one word. Assumes nothing.
use Rattle.std.proofs.Common.{◌+◌, ◌*◌, ◌<◌, ◌&&◌, not, length, get_or, arith}
use Rattle.shares.specs.Constant.{bit}
use Rattle.words.specs.Clause.{clause_test}
use Rattle.words.specs.ClauseLaws.{clauses_at}
use Rattle.entries.specs.MarkLaws.{failing_more, failing_kept, any_more}
use Rattle.entries.proofs.fill_failing.Goals as goal

pub failing_word-y-requires : goal.failing_word-y-requires
failing_word-y-requires c = clauses_at c.requires.clauses c.loop-i.i (omega arith)

pub loop-i-preserved : goal.loop-i-preserved
loop-i-preserved c =
    let l = c.loop-i in
    let a = c.args in
    let y = c.failing_word-y in
    let room : 32 + l.i < length l.rows = omega arith in
    record {
      set = failing_more (λ j k. bit a.x k
          && not (clause_test a.clauses.now (λ t. bit (get_or a.terms.now t 0) k) (256 + 4 * j))) l.rows l.i
          y.result room
          y.ensures l.invariant.set;
      kept = failing_kept a.rows.now l.rows l.i y.result room l.invariant.kept;
      in_any = any_more l.i l.any y.result l.rows room l.invariant.in_any;
    }
