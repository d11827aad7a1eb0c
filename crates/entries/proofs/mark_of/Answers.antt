-- Where the word has no bit of any of them, it has none of one of them. Assumes nothing.
use Rattle.std.proofs.Common.{sym, ap, ◌∙◌, ◌||◌, ◌+◌, get_or}
use Rattle.std.proofs.Math.Bool.{or-false}
use Rattle.shares.specs.Constant.{bit}
use Rattle.entries.specs.MarkLaws.{common_none}
use Rattle.entries.proofs.mark_of.Goals as goal

pub returns : goal.returns
returns c i l =
    let a = c.args in
    let mark = bit (get_or a.rows.now (64 + a.j) 0) i in
    sym (ap (λ b. mark || b) (common_none a.count a.any a.j a.rows.now c.requires.2 (sym c.have_common.ensures
    ∙ c.if-have_common.false) i l) ∙ or-false mark)
