-- A turn sees to one entry. Assumes nothing.
use Rattle.std.proofs.Common.{◌≡◌, ap₂, ◌∙◌, refl, subst, ◌&&◌, T, ltb, ltb→lt, lt-ltb, arith}
use Rattle.shares.specs.Test.{and_left}
use Rattle.shares.specs.Constant.{bit}
use Rattle.words.specs.ClauseLaws.{clauses_at, not_bits}
use Rattle.entries.specs.EntryLaws.{but_start, but_more, but_none}
use Rattle.entries.proofs.keep_all.Goals as goal

pub loop-i-init : goal.loop-i-init
loop-i-init c =
    let a = c.args in
    let first = c.first_bits.ensures.1 in
    let e : c.into_iter-i-iterator.result.rest ≡ c.first_bits.result = cc in
    rw e
    (record {
      among = λ k t. ltb→lt k a.count (and_left (ltb k a.count) _ (subst T (first k) t));
      kept = but_start a.count _ _ a.met _ c.first_bits.result
          (λ k l. first k ∙ ap₂ ◌&&◌ (lt-ltb k a.count l)
          (not_bits a.met k (bit a.met k) c.ranges.met.fits (omega arith) refl));
    })

pub keep_one-r-requires-clause-clauses : goal.keep_one-r-requires-clause-clauses
keep_one-r-requires-clause-clauses c =
    clauses_at c.requires.clauses c.in-Some.i (c.loop-i.invariant.among c.in-Some.i c.in-Some.ensures.steps.set)

pub loop-i-preserved : goal.loop-i-preserved
loop-i-preserved c =
    let l = c.loop-i in
    let t = c.in-Some.ensures.steps in
    record {
      among = λ k s. l.invariant.among k (and_left (bit l.i-iterator.rest k) _ (subst T (t.out k) s));
      kept = but_more _ _ _ _ _ c.in-Some.i l.i-iterator.rest _ l.r l.firsts _ _ (l.invariant.among c.in-Some.i t.set)
          t.set t.out l.invariant.kept c.keep_one-r.ensures;
    }

pub returns : goal.returns
returns c = but_none _ _ _ _ _ c.loop-i.i-iterator.rest _ _ c.in-None.ensures.steps c.loop-i.invariant.kept
