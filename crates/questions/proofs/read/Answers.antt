-- `questions::read` meets its contract: the head, then the commands. Assumes nothing.
use mathlib.Core.Path.{ap, ◌∙◌}
use Rattle.format.specs.Stored.{reading_of}
use Rattle.questions.proofs.Turns.{refused_head, head_taken, read_on_lem, written_on_lem}
use Rattle.questions.proofs.read.Goals as goal

pub read_commands-requires-clause-in_bounds : goal.read_commands-requires-clause-in_bounds
read_commands-requires-clause-in_bounds c = (head_taken _ _ _ _ c.in-Ok.ensures).0

pub read_commands-requires-clause-own_value : goal.read_commands-requires-clause-own_value
read_commands-requires-clause-own_value c = (head_taken _ _ _ _ c.in-Ok.ensures).1

pub returns : goal.returns
returns c =
    let E = c.read_commands.ensures in
    let same = read_on_lem _ _ _ _ c.in-Ok.ensures in
    record {
      answer = E.answer ∙ ap reading_of same;
      clauses = E.clauses ∙ written_on_lem _ _ _ _ c.in-Ok.ensures _;
      stands = rw same at E.stands;
      first = E.first;
    }

pub returns-in-Err : goal.returns-in-Err
returns-in-Err c =
    let G = refused_head _ _ _ c.in-Err.ensures in
    record { answer = G.0; clauses = G.1; stands = tt; first = tt }
