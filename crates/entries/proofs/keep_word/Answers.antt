-- A search that has found something, one that finds nothing, and one that finds its first word. Assumes nothing.
use Rattle.std.proofs.Common.{sym, ap, ◌∙◌, rules, arith}
use Rattle.shares.specs.Constant.{bit}
use Rattle.shares.specs.BitLaws.{bit_zero}
use Rattle.shares.specs.Shifts.{power_shift}
use Rattle.entries.specs.EntryLaws.{kept_before, kept_none, kept_found}
use Rattle.entries.proofs.keep_word.Goals as goal

pub returns-then-digit : goal.returns-then-digit
returns-then-digit c = let a =
    c.args in kept_before a.e a.turn _ a.met a.firsts.now (sym c.digit.ensures ∙ c.if-digit.true)

pub returns-then-y-eq0 : goal.returns-then-y-eq0
returns-then-y-eq0 c = kept_none _ _ _ _ _ (λ i l. ap (λ y. bit y i) c.if-y-eq0.true ∙ bit_zero i)

pub returns : goal.returns
returns c =
    let a = c.args in
    rw (power_shift a.e (omega arith))
    (kept_found a.e a.turn a.y a.met a.firsts.now (omega arith) (search rules) c.if-y-eq0.false (sym c.digit.ensures
    ∙ c.if-digit.false))
