-- `pass::visit` meets its contract.
use Rattle.std.proofs.Common.{◌∙◌}
use Rattle.steps.specs.Steps.{posed}
use Rattle.pass.specs.LeafLaws.{leaf_copied}
use Rattle.pass.proofs.visit.Goals as goal

pub returns-in-Some-clause-by_index : goal.returns-in-Some-clause-by_index
returns-in-Some-clause-by_index c h e like A =
    let a = c.args in
    leaf_copied (posed a.question.now) h a.leaf.search a.leaf.number c.in-Some.like (rw c.in-Some.is at c.requires.2)
    (rw c.in-Some.is at like ∙ e)
    a.seen _ _ _ _ _ a.question.now.readable.few.0 c.copy_leaf.ensures A

pub pass_leaf-requires : goal.pass_leaf-requires
pass_leaf-requires c =
    let (old, v, within, t) = c.requires.5 in (
      c.requires.0,
      c.requires.1,
      (
        c.args.leaf.values,
        v,
        c.set_constants.ensures _ _ old v c.args.question.now.readable.variables within
            c.requires.4 t,
      ),
    )

pub returns-clause-placed_within : goal.returns-clause-placed_within
returns-clause-placed_within c =
    let (old, v, within, t) = c.requires.5 in
    let s = c.args.question.now.sizes in
    let placed = c.set_constants.ensures s.free s.own old v c.args.question.now.readable.variables within c.requires.4
    t in
    let (u, w) = c.pass_leaf.ensures.by_index c.args.leaf.values v placed in
    (c.args.leaf.values, u, c.requires.4, w)

pub returns-clause-by_index : goal.returns-clause-by_index
returns-clause-by_index c h e like A =
    let (old, v, within, t) = c.requires.5 in
    let s = c.args.question.now.sizes in
    let placed = c.set_constants.ensures s.free s.own old v c.args.question.now.readable.variables within c.requires.4
    t in
    c.pass_leaf.ensures.by_index_2 h v (rw e at placed) A
