-- The law of unlike leaves, at 32 leaves. Assumes nothing.
use Rattle.std.proofs.Common.{ap, ◌∙◌}
use Rattle.shares.specs.Constant.{constant_levels}
use Rattle.shares.specs.Unlike.{raised}
use Rattle.shares.proofs.UnlikeLaws.{unlike_height}
use Rattle.shares.proofs.constant_height.Goals as goal

pub returns : goal.returns
returns c = c.unlike_height.ensures ∙ ap (raised constant_levels constant_levels) c.unlike.ensures
    ∙ unlike_height constant_levels c.args.a
