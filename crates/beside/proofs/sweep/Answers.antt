-- `beside::sweep` meets its contract.
use Rattle.std.proofs.Common.{◌≡◌, refl, ap, ◌∙◌, ◌+◌, ◌*◌, T_not, arith}
use Rattle.shares.specs.Constant.{bit}
use Rattle.beside.specs.TakeLaws.{taken_out}
use Rattle.beside.specs.SweepLaws.{word_small, emptied_more, swept_start, swept_stop, swept_more}
use Rattle.beside.proofs.sweep.Goals as goal

pub loop-o-init : goal.loop-o-init
loop-o-init c =
    let a = c.args in
    let s = a.question.now.sizes in
    record {
      emptied = λ j h t u. absurd (T_not (bit a.wanted j) u t);
      kept = λ k h. refl;
      swept = λ values t. swept_start a.question.now.clauses.now s.counts s.free s.own values a.w a.x a.wanted
          a.terms.now a.left.now c.requires.w_bound.2 t;
    }

pub returns-then-going-eq0-clause-by_index : goal.returns-then-going-eq0-clause-by_index
returns-then-going-eq0-clause-by_index c values t =
    let a = c.args in
    let s = a.question.now.sizes in
    let l = c.loop-o in
    let total = c.own_words-total in
    record {
      words = total.result;
      enough = total.ensures;
      swept = rw c.if-none-eq0.true at (swept_stop a.question.now.clauses.now s.counts s.free s.own values a.w a.x
          a.wanted l.o total.result l.none l.going l.terms l.left
          (omega arith) c.if-none-eq0.true c.if-going-eq0.true l.invariant.emptied (l.invariant.swept values t));
    }

-- the next word is below 64
pub overflow_mul-o : goal.overflow_mul-o
overflow_mul-o c =
    let s = c.args.question.now.sizes in
    omega (
      arith,
      word_small s.free s.own c.own_words-total.result c.word_count-words.result c.loop-o.o c.args.w
          c.args.question.now.readable.variables c.word_count-words.ensures c.own_words-total.ensures c.loop-o-test.true
          c.requires.w_bound.0,
    )

pub overflow_add-o : goal.overflow_add-o
overflow_add-o c =
    let s = c.args.question.now.sizes in
    omega (
      arith,
      word_small s.free s.own c.own_words-total.result c.word_count-words.result c.loop-o.o c.args.w
          c.args.question.now.readable.variables c.word_count-words.ensures c.own_words-total.ensures c.loop-o-test.true
          c.requires.w_bound.0,
    )

pub loop-o-preserved : goal.loop-o-preserved
loop-o-preserved c =
    let a = c.args in
    let q = a.question.now in
    let s = q.sizes in
    let words = c.word_count-words in
    let l = c.loop-o in
    let y = c.section_word-y in
    let taken = c.take_all-going in
    record {
      emptied = emptied_more _ _ a.wanted l.going taken.result l.left taken.new.left taken.ensures l.invariant.emptied;
      kept = λ k h. taken.ensures.left_kept k (λ m. absurd (omega (arith, q.readable.few))) ∙ l.invariant.kept k h;
      swept = λ values t.
          let S = l.invariant.swept values t in
          swept_more q.clauses.now s.counts s.free s.own values a.w a.x a.wanted l.o l.none l.going y.result _
          taken.result
          l.terms c.move_terms.new.terms l.left taken.new.left q.readable (l.o * words.result + a.w)
          (ap (λ k. l.o * k + a.w) words.ensures)
          (c.move_terms.ensures values S.at S.table)
          y.ensures (taken_out l.none y.result (bit y.result) y.type_inv (λ i h. refl))
          taken.ensures l.invariant.emptied S;
    }

pub returns-clause-by_index : goal.returns-clause-by_index
returns-clause-by_index c values t =
    let l = c.loop-o in
    let total = c.own_words-total in
    let e : l.o ≡ total.result = omega arith in
    record { words = total.result; enough = total.ensures; swept = rw e at (l.invariant.swept values t) }
