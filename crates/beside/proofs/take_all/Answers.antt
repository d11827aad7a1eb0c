-- `beside::take_all` meets its contract.
use Rattle.std.proofs.Common.{◌≡◌, ◌∙◌, ◌&&◌, not, ◌+◌, ◌*◌, T, ap, sym, subst, get_or, arith}
use Rattle.shares.specs.Constant.{bit}
use Rattle.shares.specs.BitLaws.{bit_zero}
use Rattle.words.specs.Clause.{clause_test}
use Rattle.beside.specs.TakeLaws.{taken_nothing, but_start, but_more, but_none}
use Rattle.beside.proofs.take_all.Goals as goal

pub returns-then-y-eq0 : goal.returns-then-y-eq0
returns-then-y-eq0 c =
    let a = c.args in
    taken_nothing (get_or a.question.now.sizes.counts 3 0) _ a.wanted a.left.now
    (λ j i. ap (λ b. b && not (clause_test a.question.now.clauses.now (λ t. bit (get_or a.terms.now t 0) i)
    (640 + 4 * j))) (ap (λ y. bit y i) c.if-y-eq0.true ∙ bit_zero i))

pub first_bits-requires : goal.first_bits-requires
first_bits-requires c = omega (arith, c.args.question.now.readable.few)

pub loop-j-init : goal.loop-j-init
loop-j-init c =
    let e : c.into_iter-j-iterator.result.rest ≡ c.first_bits.result = cc in
    rw e (but_start _ _ _ _ c.first_bits.result c.first_bits.ensures.1)

pub take_one-r-requires : goal.take_one-r-requires
take_one-r-requires c =
    let l = c.loop-j in
    let t = c.in-Some.ensures.steps.set in
    let here = l.invariant.inside _ t in
    (here.0, omega arith, subst T (sym (l.invariant.wanted_same _ t)) here.1)

pub loop-j-preserved : goal.loop-j-preserved
loop-j-preserved c =
    let l = c.loop-j in
    let t = c.in-Some.ensures.steps in
    let m = c.take_one-r in
    but_more _ _ _ _ _ l.j-iterator.rest _ l.r m.result l.left _ (omega (arith, c.args.question.now.readable.few)) t.set
    t.out l.invariant m.ensures

pub returns : goal.returns
returns c = let l = c.loop-j in but_none _ _ _ _ l.j-iterator.rest _ _ c.in-None.ensures.steps l.invariant
