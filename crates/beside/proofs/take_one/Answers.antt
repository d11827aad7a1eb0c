-- `beside::take_one` meets its contract.
use Rattle.std.proofs.Common.{refl, arith, T_not, get_or}
use Rattle.shares.specs.Constant.{bit}
use Rattle.words.specs.ClauseLaws.{clauses_at}
use Rattle.words.specs.LowestLaws.{other_bits}
use Rattle.beside.specs.TakeLaws.{taken_out, taken_set}
use Rattle.beside.proofs.take_one.Goals as goal

pub failing_word-requires : goal.failing_word-requires
failing_word-requires c = clauses_at c.args.question.now.readable.second_disequation c.args.j c.requires.0

pub returns-then-z-eq0 : goal.returns-then-z-eq0
returns-then-z-eq0 c =
    let a = c.args in
    let f = c.failing_word in
    taken_set a.j _ a.wanted a.left.now _ _ (omega (arith, a.question.now.readable.few)) c.requires.2
    (taken_out (get_or a.left.now a.j 0) f.result _ f.type_inv f.ensures)
    (λ u. c.if-z-eq0.true) (λ k h n. other_bits a.wanted a.j k (omega (arith, a.question.now.readable.few)) h n)

pub returns : goal.returns
returns c =
    let a = c.args in
    let f = c.failing_word in
    let t = c.requires.2 in
    taken_set a.j _ a.wanted a.left.now a.wanted _ (omega (arith, a.question.now.readable.few)) t
    (taken_out (get_or a.left.now a.j 0) f.result _ f.type_inv f.ensures)
    (λ u. absurd (T_not (bit a.wanted a.j) u t)) (λ k h n. refl)
