-- The loop of `pass::pass_leaves`: what is known after the first b leaves, whose keys are the constants' values there.
use Rattle.std.proofs.Common.{◌≡◌, ℕ, ◌<◌, get_or, length}
use Rattle.steps.specs.Tests.{leaf_values}
use Rattle.steps.specs.Steps.{posed, PlacedWithin}
use Rattle.pass.specs.Pass.{After}
use Rattle.pass.proofs.pass_leaves.Given as goal

abbrev pub invariant-loop-b : goal.invariant-loop-b
invariant-loop-b l =
    let sizes = l.question.sizes in
    let S = posed l.question in
    record {
      long : length l.keys ≡ 64;
      placed : PlacedWithin sizes.free sizes.own sizes.named l.terms;
      keys : (i : ℕ) → i < l.b → get_or l.keys i 0 ≡ leaf_values S sizes.height i;
      after : After S sizes.height l.search l.b l.seen l.firsts l.plains l.rows;
    }
