-- The law of the join of two numbers, at 32 leaves. Assumes nothing.
use Rattle.std.proofs.Common.{◌≡◌, refl, sym, ◌∙◌, Bool, true, false, cond, ℕ, ◌+◌, ◌^◌, ◌<◌, arith}
use Rattle.std.specs.Prelude.{None, Some}
use Rattle.shares.specs.Tree.{join}
use Rattle.shares.specs.Constant.{constant_levels, number_tree, set_in_both}
use Rattle.shares.specs.Answer.{join_of}
use Rattle.shares.proofs.ConstantLaws.{join_numbers}
use Rattle.shares.proofs.join_constants.Goals as goal

-- what either answer stands for
joined : (levels a b : ℕ) → a < 2 ^ (2 ^ levels) → b < 2 ^ (2 ^ levels) → (t : Bool) → set_in_both (2 ^ levels) a b ≡ t
    → join_of levels (cond t None (Some (a + b))) ≡ join (number_tree levels a) (number_tree levels b)
joined levels a b ha hb true e = sym (join_numbers levels a b ha hb ∙ rw e refl)
joined levels a b ha hb false e = sym (join_numbers levels a b ha hb ∙ rw e refl)

pub returns-then-overlap-clause-tree : goal.returns-then-overlap-clause-tree
returns-then-overlap-clause-tree c =
    joined constant_levels c.args.a c.args.b (omega arith) (omega arith) true (sym c.overlap.ensures
    ∙ c.if-overlap.true)

pub returns-clause-tree : goal.returns-clause-tree
returns-clause-tree c = joined constant_levels c.args.a c.args.b (omega arith) (omega arith) false
    (sym c.overlap.ensures ∙ c.if-overlap.false)
