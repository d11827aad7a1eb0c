-- A leaf that has the word of the one before it has its choice; the number of another's word is its choice.
use Rattle.std.proofs.Common.{◌%◌, ◌<◌, ◌^◌, ◌≡◌, sym, ◌∙◌, subst, le_trans, mod-eq_of_lt}
use Rattle.shares.specs.Test.{of_true}
use Rattle.words.specs.Kept.{number_at}
use Rattle.plans.specs.Pairs.{leaf_width}
use Rattle.plans.specs.PairLaws.{width_enough, same_least}
use Rattle.plans.proofs.plain_at.Goals as goal

pub returns-then-eq : goal.returns-then-eq
unfolding number_at
returns-then-eq c =
    c.requires.b_bound_2.1 c.if-b-gt0.true ∙ same_least _ _ (of_true (sym c.if-eq.ensures))

pub choice_of-requires : goal.choice_of-requires
unfolding number_at
choice_of-requires c =
    let a = c.args in
    let alone : number_at a.leaves.now a.b % leaf_width a.free ≡ number_at a.leaves.now a.b =
    mod-eq_of_lt (le_trans c.requires.b_bound_2.0 (width_enough a.free)) in
    (c.requires.b_bound.1, subst (λ n. n < 2 ^ a.free) (sym alone) c.requires.b_bound_2.0)

pub returns : goal.returns
unfolding number_at
returns c =
    let a = c.args in
    c.choice_of.ensures ∙ mod-eq_of_lt (le_trans c.requires.b_bound_2.0 (width_enough a.free))
