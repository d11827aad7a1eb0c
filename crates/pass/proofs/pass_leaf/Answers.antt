-- `pass::pass_leaf` meets its contract.
use Rattle.std.proofs.Common.{arith}
use Rattle.steps.specs.Steps.{posed}
use Rattle.pass.specs.LeafLaws.{amid_start, leaf_done, put_entry}
use Rattle.pass.proofs.pass_leaf.Goals as goal

pub returns-clause-by_index_2 : goal.returns-clause-by_index_2
returns-clause-by_index_2 c h v t A =
    let a = c.args in
    let S = posed a.question.now in
    let p = c.pass_words-r in
    let firsts = p.new.firsts in
    leaf_done S h a.leaf.search a.leaf.number a.seen _ _ _ A p.result firsts p.new.rows
    (p.ensures.by_index_2 h v t (amid_start S h a.leaf.search a.leaf.number a.seen _ _ _ a.question.now.readable.few.0
    A))
    p.ensures.possible_value _
    (put_entry a.leaf.number firsts 32 a.plains.now (omega arith))
