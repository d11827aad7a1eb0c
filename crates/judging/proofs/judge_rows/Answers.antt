-- `judging::judge_rows`: a broken clause first, then whether the rows extend.
use Rattle.std.proofs.Common.{refl, arith}
use Rattle.shares.specs.NumberLaws.{zero_at}
use Rattle.format.proofs.LeadLaws.{leading_few}
use Rattle.format.proofs.FormatLaws.{accepted_formed}
use Rattle.decide.specs.NamedLaws.{named_lt}
use Rattle.judging.proofs.JudgeLaws.{laid, extends_searched, told_broken, rows_broken, rows_satisfied, rows_extending}
use Rattle.judging.proofs.JudgeLaws.{rows_accepted}
use Rattle.judging.proofs.judge_rows.Goals as goal

pub unfold-requires : goal.unfold-requires
unfold-requires c = (c.requires.rows_len, named_lt _ _ c.requires.bytes_value.2, zero_at 1024)

pub overflow_mul-question : goal.overflow_mul-question
overflow_mul-question c = omega (arith, c.requires.defined_value, leading_few c.args.bytes.now 32 0)

pub overflow_add-question : goal.overflow_add-question
overflow_add-question c = omega (arith, c.requires.defined_value, leading_few c.args.bytes.now 32 0)

pub returns-in-Some : goal.returns-in-Some
returns-in-Some c q e St =
    rows_broken c.args.question _ _ q St _
    (c.in-Some.ensures q _ _ _ e (laid c.args.question _ _ q St _ c.«unfold».ensures)) (told_broken c.in-Some.broken)

pub returns-in-Satisfiability : goal.returns-in-Satisfiability
returns-in-Satisfiability c q e St =
    rows_satisfied c.args.question _ _ q St _
    (c.in_default.ensures q _ _ _ e (laid c.args.question _ _ q St _ c.«unfold».ensures)) refl c.in-Satisfiability.is

pub searchable-searchable-requires : goal.searchable-searchable-requires
searchable-searchable-requires c =
    let (q, e, St) = c.requires.bytes_value in
    (q, St)

pub returns-then-extends : goal.returns-then-extends
returns-then-extends c q e St =
    let U = c.«unfold».ensures in
    let s = c.searchable-searchable.ensures in
    rows_extending c.args.question _ _ q St _ (c.in_default.ensures q _ _ _ e (laid c.args.question _ _ q St _ U)) refl
    c.in_default-kind.not-Satisfiability _
    (extends_searched c.args.question _ _ q St c.searchable-searchable.result s.sizes s.clauses s.constants _ U _
    c.extends.ensures) c.if-extends.true

pub returns : goal.returns
returns c q e St =
    let U = c.«unfold».ensures in
    let s = c.searchable-searchable.ensures in
    rows_accepted c.args.question _ _ q St _ (c.in_default.ensures q _ _ _ e (laid c.args.question _ _ q St _ U)) refl
    c.in_default-kind.not-Satisfiability _
    (extends_searched c.args.question _ _ q St c.searchable-searchable.result s.sizes s.clauses s.constants _ U _
    c.extends.ensures) c.if-extends.false
