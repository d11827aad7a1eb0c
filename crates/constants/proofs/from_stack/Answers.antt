-- A stack that is no single tree is left by no tree's text, and a single tree is what the text writes.
use Rattle.std.proofs.Common.{sym, ◌∙◌, inl, inr, arith}
use Rattle.shares.specs.Constant.{constant_levels}
use Rattle.constants.specs.StackLaws.{ended, whole_none, text_whole}
use Rattle.constants.specs.StackedLaws.{not_alone, bracket_alone, tree_alone}
use Rattle.constants.specs.FromTextLaws.{text_none, text_tree}
use Rattle.constants.proofs.from_stack.Goals as goal

pub returns-then-scan-ne1 : goal.returns-then-scan-ne1
returns-then-scan-ne1 c items σ s S e runs-s short =
    sym
    (text_none constant_levels s
    (whole_none s
    (ended s σ runs-s
    ∙ elim c.then-scan-ne1.either [
      | inl other ↦ not_alone constant_levels items _ σ S (λ one. omega (arith, other))
      | inr (one, none) ↦ bracket_alone constant_levels items _ σ S _ e (omega (arith, one)) none
    ])))

pub returns : goal.returns
returns c items σ s S e runs-s short =
    let (t, alone, leaves, height, folded) =
    tree_alone constant_levels items _ σ S _ e c.if-scan-ne1.false c.if-item-eq0.false in
    c.from_told.ensures t (record { leaves = c.leaves_of.ensures.0 ∙ leaves; height = height; folded = folded })
    ∙ sym (text_tree constant_levels s short t (text_whole s t (ended s σ runs-s ∙ alone)))
