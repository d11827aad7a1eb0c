-- `judging::judge`: each refusal by what was read and the rows, a judgement by what was found.
use Rattle.std.proofs.Common.{arith}
use Rattle.std.proofs.lemmas.Result.{err_from_is_err_and}
use Rattle.format.proofs.Callers.{Taken, answer_taken}
use Rattle.judging.proofs.JudgeLaws.{refused_read, refused_length, refused_rows, judges_held}
use Rattle.judging.proofs.judge.Goals as goal
use Rattle.judging.proofs.judge.Goals.{In_ok-read}

-- what was read
taken : (c : In_ok-read) → Taken c.args.question.now c.in_ok-read.read c.read.new.clauses
taken c = answer_taken _ _ c.in_ok-read.ensures.answer _ c.in_ok-read.ensures.stands

pub returns-in_err-read : goal.returns-in_err-read
returns-in_err-read c =
    let p = err_from_is_err_and c.from_residual.result c.from_residual.ensures.1 in
    let J = refused_read _ c.args.rows.now _ _ c.in_err-read.ensures.answer in
    rw (p.1, p.2) (record { result = J.0; model = J.1.0; shown = J.1.1 })

pub returns-then-rows-ne-ANSWER_BYTES : goal.returns-then-rows-ne-ANSWER_BYTES
returns-then-rows-ne-ANSWER_BYTES c =
    let J = refused_length _ _ _ _ (taken (goal.at.returns-then-rows-ne-ANSWER_BYTES c).In_ok-read)
    c.if-rows-ne-ANSWER_BYTES.true in
    record { result = J.0; model = J.1.0; shown = J.1.1 }

pub overflow_mul-read : goal.overflow_mul-read
overflow_mul-read c = omega (arith, (taken (goal.at.overflow_mul-read c).In_ok-read).stands.variables)

pub returns-then-not-zero_from : goal.returns-then-not-zero_from
returns-then-not-zero_from c =
    let J =
    refused_rows _ _ _ _ (taken (goal.at.returns-then-not-zero_from c).In_ok-read) c.if-rows-ne-ANSWER_BYTES.false _
    c.zero_from.ensures
    c.if-not-zero_from.true in
    record { result = J.0; model = J.1.0; shown = J.1.1 }

pub judge_rows-requires : goal.judge_rows-requires
judge_rows-requires c =
    let T = taken (goal.at.judge_rows-requires c).In_ok-read in
    record {
      rows_len = c.if-rows-ne-ANSWER_BYTES.false;
      bytes_value = (T.question, T.read, T.stands);
      defined_value =
          c.in_ok-read.ensures.first;
    }

pub returns : goal.returns
returns c =
    let T = taken (goal.at.returns c).In_ok-read in
    let J =
    judges_held _ _ _ _ T c.if-rows-ne-ANSWER_BYTES.false _ c.zero_from.ensures c.if-not-zero_from.false
    _ (c.judge_rows.ensures T.question T.read T.stands) in
    record { result = J.0; model = J.1.0; shown = J.1.1 }
