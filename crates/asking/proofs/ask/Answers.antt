-- Each refusal is that of what was read and of the lengths, an answer that of what was decided.
use Rattle.std.proofs.Common.{Err, refl, sym, ap, ◌∙◌}
use Rattle.std.proofs.lemmas.Result.{err_from_is_err_and}
use Rattle.asking.specs.Told.{told}
use Rattle.format.proofs.Callers.{answer_taken, answer_refused, levels_are}
use Rattle.asking.specs.AskingLaws.{asked_refused, asked_11, asked_12, asked_answered}
use Rattle.asking.proofs.AskedRight.{given_refused}
use Rattle.asking.proofs.DecidedLaws.{given_answer, sized_for, decided_for, finding_same}
use Rattle.decide.proofs.PosedLaws.{posed_decided}
use Rattle.asking.proofs.ask.Goals as goal

pub returns-in_err-read : goal.returns-in_err-read
returns-in_err-read c =
    let refused = err_from_is_err_and c.from_residual.result c.from_residual.ensures.1 in
    let e = refused.1 ∙ ap Err refused.2 in
    let G = given_refused c.args.question.now _ _ _ _
    (asked_refused c.args.question.now _ _ _ _ (answer_refused c.args.question.now _ _ c.in_err-read.ensures.answer))
    _
    (ap told e) in
    record { outcome = G.outcome; answer = G.answer; work = G.work; model = G.model; finding = rw e tt }

pub returns-then-answer-lt-ANSWER_BYTES : goal.returns-then-answer-lt-ANSWER_BYTES
returns-then-answer-lt-ANSWER_BYTES c =
    let T = answer_taken c.args.question.now _ c.in_ok-read.ensures.answer _ c.in_ok-read.ensures.stands in
    let G = given_refused c.args.question.now _ _ 11 0
    (asked_11 c.args.question.now _ _ T.question T.read (rw (levels_are _ _ T.stands) c.if-answer-lt-ANSWER_BYTES.true))
    _ refl in
    record { outcome = G.outcome; answer = G.answer; work = G.work; model = G.model; finding = tt }

pub returns-then-work-lt-WORK_BYTES : goal.returns-then-work-lt-WORK_BYTES
returns-then-work-lt-WORK_BYTES c =
    let T = answer_taken c.args.question.now _ c.in_ok-read.ensures.answer _ c.in_ok-read.ensures.stands in
    let G = given_refused c.args.question.now _ _ 12 0
    (asked_12 c.args.question.now _ _ T.question T.read (rw (levels_are _ _ T.stands) c.if-answer-lt-ANSWER_BYTES.false)
    c.if-work-lt-WORK_BYTES.true) _ refl in
    record { outcome = G.outcome; answer = G.answer; work = G.work; model = G.model; finding = tt }

pub searchable-searched-requires : goal.searchable-searched-requires
searchable-searched-requires c =
    let T = answer_taken c.args.question.now _ c.in_ok-read.ensures.answer _ c.in_ok-read.ensures.stands in
    (T.question, T.stands)

pub show_solution-requires-clause-decided_for : goal.show_solution-requires-clause-decided_for
show_solution-requires-clause-decided_for c =
    let T = answer_taken c.args.question.now _ c.in_ok-read.ensures.answer _ c.in_ok-read.ensures.stands in
    let S = c.searchable-searched.ensures in (
      T.question,
      decided_for _ _ _ T _ S.sizes _ _ _
          (posed_decided c.in_ok-read.read _ c.searchable-searched.result S.sizes S.clauses S.constants _ _ _
          c.decide-finding.ensures T.question T.stands),
    )

pub found-requires : goal.found-requires
found-requires c =
    let T = answer_taken c.args.question.now _ c.in_ok-read.ensures.answer _ c.in_ok-read.ensures.stands in
    (T.question, sized_for _ _ _ T _ c.searchable-searched.ensures.sizes)

pub returns : goal.returns
returns c =
    let T = answer_taken c.args.question.now _ c.in_ok-read.ensures.answer _ c.in_ok-read.ensures.stands in
    let S = c.searchable-searched.ensures in
    let D = decided_for _ _ _ T _ S.sizes _ _ _
    (posed_decided c.in_ok-read.read _ c.searchable-searched.result S.sizes S.clauses S.constants _ _ _
    c.decide-finding.ensures T.question T.stands) in
    let G = given_answer c.args.question.now _ _ _ _ T (rw (levels_are _ _ T.stands) c.if-answer-lt-ANSWER_BYTES.false)
    c.if-work-lt-WORK_BYTES.false _ _ _ _ D _ c.found.ensures.outcome _ c.show_solution.ensures _
    c.clear_work.ensures in
    record {
      outcome = G.outcome;
      answer = G.answer;
      work = G.work;
      model = G.model;
      finding = λ q e. rw c.found.ensures.finding
          (finding_same _ _ _ (sym (asked_answered c.args.question.now _ _ T.question T.read
          (rw (levels_are _ _ T.stands) c.if-answer-lt-ANSWER_BYTES.false) c.if-work-lt-WORK_BYTES.false)
          ∙ e) D.decided.answer);
    }
