-- A word that is full keeps the invariant, and in another the lowest bit that is not set is the leaf.
use Rattle.std.proofs.Common.{◌≡◌, refl, sym, ap, ◌∙◌, ℕ, ◌+◌, ◌*◌, ◌≤◌, eqb-true, arith}
use Rattle.shares.specs.Below.{every_below}
use Rattle.shares.specs.BelowLaws.{first_le, every_first}
use Rattle.unfolded.specs.UnfoldedLaws.{every_word, first_word}
use Rattle.unfolded.proofs.first_failing.Goals as goal

pub loop-word-init : goal.loop-word-init
unfolding every_below
loop-word-init c = refl

pub overflow_add-result : goal.overflow_add-result
overflow_add-result c = let small : c.lowest.result ≤ 64 = rw c.lowest.ensures (first_le 64 _) in omega (arith, small)

pub returns-then-holds : goal.returns-then-holds
returns-then-holds c =
    let l = c.loop-word in
    let x = c.join_word-holds in
    ap (λ (k : ℕ). 64 * l.word + k) c.lowest.ensures
    ∙ sym (first_word _ l.word x.result x.ensures l.invariant x.type_inv c.if-holds.true 16 (omega arith))

pub loop-word-preserved : goal.loop-word-preserved
loop-word-preserved c =
    let l = c.loop-word in
    let x = c.join_word-holds in
    every_word _ l.word x.result x.ensures l.invariant c.if-holds.false

pub returns : goal.returns
returns c =
    let e : c.loop-word.word ≡ 16 = omega arith in
    sym (eqb-true _ 1024 (sym (every_first 1024 _) ∙ rw e at c.loop-word.invariant))
