-- A leaf's sign where all its leaves are alike, else a bracket.
use Rattle.text.proofs.Steps.{first_leaf, first_pair}
use Rattle.text.proofs.first_sign.Goals as goal

pub returns-then-is_uniform : goal.returns-then-is_uniform
returns-then-is_uniform c =
    first_leaf c.args.block.row.now _ _ c.args.block.inside _ c.is_uniform.result c.is_uniform.ensures
    c.if-is_uniform.true

pub returns-then-is_uniform-2 : goal.returns-then-is_uniform-2
returns-then-is_uniform-2 c =
    first_leaf c.args.block.row.now _ _ c.args.block.inside _ c.is_uniform-2.result c.is_uniform-2.ensures
    c.if-is_uniform-2.true

pub returns : goal.returns
returns c =
    first_pair c.args.block.row.now _ _ c.args.block.inside c.is_uniform.result c.is_uniform-2.result
    c.is_uniform.ensures c.is_uniform-2.ensures c.if-is_uniform.false c.if-is_uniform-2.false
