-- One clause more is met, and a word without a bit stays so. Assumes nothing.
use Rattle.std.proofs.Common.{◌≡◌, sym, ap, ◌∙◌, false, ◌&&◌, get_or, arith}
use Rattle.std.proofs.Math.Path.{ap₂}
use Rattle.std.proofs.Math.Bool.{and-true}
use Rattle.shares.specs.Below.{every_below}
use Rattle.shares.specs.Constant.{bit}
use Rattle.shares.specs.BitLaws.{bit_zero, bit_of_and}
use Rattle.words.specs.Clause.{all_clauses}
use Rattle.words.specs.ClauseLaws.{clauses_at, section_more, section_stays}
use Rattle.words.proofs.section_word.Goals as goal

pub loop-k-init : goal.loop-k-init
unfolding all_clauses every_below
loop-k-init c i h = sym (and-true _)

pub returns-then-r-eq0 : goal.returns-then-r-eq0
returns-then-r-eq0 c i h =
    let l = c.loop-k in
    let a = c.args in
    let z : bit l.r i ≡ false = ap (λ x. bit x i) c.if-r-eq0.true ∙ bit_zero i in
    bit_zero i
    ∙ sym (section_stays (bit a.x i) a.clauses.now (λ t. bit (get_or a.terms.now t 0) i) a.start l.k a.count
    (omega arith) (sym (l.invariant i h) ∙ z))

pub clause_word-r-requires : goal.clause_word-r-requires
clause_word-r-requires c = clauses_at c.requires c.loop-k.k (omega arith)

pub loop-k-preserved : goal.loop-k-preserved
loop-k-preserved c i h =
    let l = c.loop-k in
    let a = c.args in
    bit_of_and l.r c.clause_word-r.result i ∙ ap₂ ◌&&◌ (l.invariant i h) (c.clause_word-r.ensures i h)
    ∙ section_more (bit a.x i) a.clauses.now (λ t. bit (get_or a.terms.now t 0) i) a.start l.k

pub returns : goal.returns
returns c i h =
    let e : c.loop-k.k ≡ c.args.count = omega arith in
    let a = c.args in
    c.loop-k.invariant i h ∙ ap (λ k. bit a.x i
    && all_clauses a.clauses.now (λ t. bit (get_or a.terms.now t 0) i) a.start k) e
