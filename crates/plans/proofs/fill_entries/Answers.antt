-- Of each leaf's sub-leaves, those that the disequations before e took come first.
use Rattle.std.proofs.Common.{length, length-set, ℕ, ◌≡◌, refl, ◌+◌, ◌<◌, ◌/◌, ◌%◌, ◌^◌, List, ap, sym, subst, ◌∙◌}
use Rattle.std.proofs.Common.{arith}
use Rattle.words.specs.declared.Passing.{Passing}
use Rattle.words.specs.Kept.{least_number, number_at}
use Rattle.plans.specs.declared.Outline.{Outline}
use Rattle.plans.specs.Pairs.{Fitting, leaf_width, slot_of, pair_leaf}
use Rattle.plans.specs.PairLaws.{pair_leaf_lt, filled_none, taken_none, rank_le, taken_more, sub_leaf_is, filled_more}
use Rattle.plans.proofs.fill_entries.Goals as goal

-- the number of the word that is read
read : (firsts : List Passing) (extra e slot : ℕ) (kept : Passing) → slot ≡ slot_of extra e
    → least_number kept ≡ number_at firsts slot
    → least_number kept ≡ number_at firsts (slot_of extra e)
read firsts extra e slot kept s k = k ∙ ap (number_at firsts) s

-- its leaf, which is one of 64
leaf_here : (o : Outline) (firsts : List Passing) (e slot leaf : ℕ) (kept : Passing) → Fitting o firsts
    → e < o.extra + o.count → slot ≡ slot_of o.extra e
    → least_number kept ≡ number_at firsts slot → leaf ≡ least_number kept / leaf_width o.free
    → (leaf ≡ pair_leaf o firsts e) × (leaf < 64)
leaf_here o firsts e slot leaf kept fits l s k is =
    let here = is ∙ ap (λ x. x / leaf_width o.free) (read firsts o.extra e slot kept s k) in
    (here, omega (arith, here, pair_leaf_lt o firsts fits e l))

pub loop-e-init : goal.loop-e-init
loop-e-init c =
    let a = c.args in
    record {
      taken = taken_none a.outline a.firsts.now;
      filled = filled_none a.outline a.firsts.now _;
      room =
          omega arith;
    }

pub take_rank-rank-requires : goal.take_rank-rank-requires
unfolding number_at
take_rank-rank-requires c =
    let a = c.args in
    let l = c.loop-e in
    let fits = c.requires.fitting in
    let at = leaf_here a.outline a.firsts.now l.e _ _ _ fits c.loop-e-test.true c.slot_of.ensures refl
    c.leaf_of-leaf.ensures in (
      omega arith,
      omega (
        arith,
        fits.extra,
        fits.few,
        rank_le a.outline a.firsts.now l.e c.leaf_of-leaf.result _ l.taken at.0 at.1 refl l.invariant.taken,
      ),
    )

pub sub_leaf-requires : goal.sub_leaf-requires
unfolding number_at
sub_leaf-requires c =
    let a = c.args in
    let at = leaf_here a.outline a.firsts.now c.loop-e.e _ _ _ c.requires.fitting c.loop-e-test.true c.slot_of.ensures
    refl c.leaf_of-leaf.ensures in
    (at.1, c.requires.fitting.splits, omega (arith, c.take_rank-rank.ensures.1))

pub choice_of-requires : goal.choice_of-requires
unfolding number_at
choice_of-requires c =
    let fits = c.requires.fitting in
    let e = c.loop-e.e in
    let o = c.args.outline in (
      fits.variables,
      subst (λ s. number_at c.args.firsts.now s % leaf_width o.free < 2 ^ o.free) (sym c.slot_of.ensures)
          (fits.choices e c.loop-e-test.true),
    )

pub loop-e-preserved : goal.loop-e-preserved
unfolding number_at
loop-e-preserved c =
    let o = c.args.outline in
    let firsts = c.args.firsts.now in
    let l = c.loop-e in
    let leaf = c.leaf_of-leaf.result in
    let rank = c.take_rank-rank in
    let at = leaf_here o firsts l.e _ _ _ c.requires.fitting c.loop-e-test.true c.slot_of.ensures refl
    c.leaf_of-leaf.ensures in
    let number = read firsts o.extra l.e _ _ c.slot_of.ensures refl in
    let places : leaf < length l.taken = omega (arith, at.1, simp length-set at (ap length rank.ensures.2)) in
    record {
      taken = taken_more o firsts l.e leaf rank.result l.taken at.0 at.1 rank.ensures.0 l.invariant.taken rank.new.taken
          places rank.ensures.2;
      filled =
          filled_more o firsts l.e _ l.entries (omega arith) (
            c.sub_leaf.ensures ∙ sub_leaf_is o firsts l.e leaf rank.result l.taken at.0 at.1 rank.ensures.0
                l.invariant.taken,
            c.choice_of.ensures ∙ ap (λ x. x % leaf_width o.free) number,
          ) l.invariant.filled;
      room = simp length-set l.invariant.room;
    }
