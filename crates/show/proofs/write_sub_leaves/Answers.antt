-- An entry more is a block more, whose leaves were all alike.
use Rattle.std.proofs.Common.{ℕ, ◌≡◌, ◌≤◌, ◌<◌, length, take, get_or, ap, ◌∙◌, arith}
use Rattle.std.proofs.Math.Dec.{lit≤}
use Rattle.std.proofs.lemmas.List.{get_or-take, length-take-le}
use Rattle.shares.specs.Constant.{constant_levels, bit}
use Rattle.plans.specs.declared.Entry.{Entry}
use Rattle.plans.specs.declared.Plan.{Plan}
use Rattle.plans.specs.Shown.{entry_at}
use Rattle.rows.specs.Rows.{row_levels}
use Rattle.show.specs.PlanLaws.{sub_leaf_inside, shows_even, shows_more}
use Rattle.show.proofs.write_sub_leaves.Goals as goal

-- the entry at hand is one of the plan's
here : (plan : Plan) (i : ℕ) → plan.count ≤ 32 → length plan.entries ≡ 32 → i < length (take plan.count plan.entries)
    → (i < plan.count) × (get_or (take plan.count plan.entries) i (record { subleaf = 0; choice = 0 })
    ≡ entry_at plan.entries i)
here plan i few room l =
    let below : i < plan.count = omega (arith, length-take-le plan.count plan.entries (omega arith)) in
    (below, get_or-take plan.count plan.entries i (record { subleaf = 0; choice = 0 }) below)

pub invariant_of-block : goal.invariant_of-block
invariant_of-block c =
    let plan = c.args.plan.now in
    let l = c.loop-entry in
    let at = here plan l.entry-index c.requires.showable.few (omega arith) c.loop-entry-test.true in
    let s = c.from-number.ensures ∙ ap (λ (x : Entry). x.subleaf) at.1 in
    record {
      inside = rw s (sub_leaf_inside (row_levels constant_levels) plan c.requires.showable (lit≤ tt) (lit≤ tt)
          l.entry-index _ at.0 (l.auto.row ∙ c.requires.row_len.0));
    }

pub change_block-requires : goal.change_block-requires
change_block-requires c =
    let plan = c.args.plan.now in
    let l = c.loop-entry in
    let ok = c.requires.showable in
    let at = here plan l.entry-index ok.few (omega arith) c.loop-entry-test.true in
    let s = c.from-number.ensures ∙ ap (λ (x : Entry). x.subleaf) at.1 in (
      rw s (sub_leaf_inside (row_levels constant_levels) plan ok (lit≤ tt) (lit≤ tt) l.entry-index _ at.0 (l.auto.row
          ∙ c.requires.row_len.0)),
      shows_even (row_levels constant_levels) plan ok c.args.p l.entry-index _ _ l.row l.invariant
          (rw s (ok.sub_leaves l.entry-index at.0)) c.first_leaf-old.ensures,
    )

pub loop-entry-preserved : goal.loop-entry-preserved
loop-entry-preserved c =
    let plan = c.args.plan.now in
    let l = c.loop-entry in
    let at = here plan l.entry-index c.requires.showable.few (omega arith) c.loop-entry-test.true in
    let s = c.from-number.ensures ∙ ap (λ (x : Entry). x.subleaf) at.1 in
    shows_more (row_levels constant_levels) plan c.requires.showable c.args.p l.entry-index _ l.row _ l.invariant
    (rw s at c.change_block.ensures)
    (c.digit_of.ensures ∙ ap (λ (x : Entry). bit x.choice c.args.p) at.1)
