-- `commands::opening::read_head` meets its contract: test by test. Assumes nothing.
use mathlib.Core.Path.{sym, ◌∙◌}
use Rattle.commands.proofs.CommandFacts.{no_kind, whole_head}
use Rattle.format.proofs.FormatLaws.{head_fits_lem}
use Rattle.commands.proofs.opening.read_head.Goals as goal

pub returns-in_default : goal.returns-in_default
returns-in_default c =
    no_kind c.args.bytes.now c.if-bytes-lt1.false c.if-bytes-ne-HEAD_BYTE.false c.if-bytes-lt4.false
    c.in_default.ensures

pub invariant_of-result : goal.invariant_of-result
invariant_of-result c =
    let f = sym c.head_fits.ensures ∙ c.if-head_fits.true in
    record { own_bound = (head_fits_lem _ _ _ f).variables }

pub returns-then-head_fits : goal.returns-then-head_fits
returns-then-head_fits c =
    rw c.if-head_fits.true at
    (whole_head c.args.bytes.now _ _ _ _ c.if-bytes-lt1.false c.if-bytes-ne-HEAD_BYTE.false c.if-bytes-lt4.false
    c.in-Some.ensures c.from-free.ensures c.from-own.ensures c.head_fits.ensures)

pub returns : goal.returns
returns c =
    rw c.if-head_fits.false at
    (whole_head c.args.bytes.now _ _ _ _ c.if-bytes-lt1.false c.if-bytes-ne-HEAD_BYTE.false c.if-bytes-lt4.false
    c.in-Some.ensures c.from-free.ensures c.from-own.ensures c.head_fits.ensures)
