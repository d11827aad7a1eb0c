-- `questions::read_commands` meets its contract. Assumes nothing.
use mathlib.Core.Path.{refl, ap, sym, ◌∙◌}
use native.Mathlib.Omega.{arith}
use Rattle.format.specs.Stored.{stored}
use Rattle.format.specs.Told.{step_told}
use Rattle.format.proofs.FormatLaws.{size_some}
use Rattle.format.proofs.KeepingLaws.{room_clause, small_clause}
use Rattle.format.specs.Keeping.{is_end}
use Rattle.questions.proofs.Turns.{starts, refused_turn, whole, no_fault, accepted_turn, after_end, goes_clause}
use Rattle.questions.proofs.Turns.{not_end}
use Rattle.questions.proofs.read_commands.Goals as goal

pub loop-command-init : goal.loop-command-init
loop-command-init c =
    let a = c.args in
    let led = c.read_constants-defined.ensures.value in
    rw (led.0, led.1)
    (starts a.bytes.now (λ i. omega (arith, c.type_inv.bytes i)) _ _ _ _
    c.requires.clauses_len c.requires.in_bounds c.requires.own_value)

pub returns-in_default : goal.returns-in_default
returns-in_default c =
    let G =
    refused_turn _ _ _ _ _ _ _ c.loop-command.invariant.0 _
    (ap step_told (sym c.unwrap_err.ensures) ∙ c.read_under-step.ensures) _ refl in
    record { answer = G.0; clauses = G.1; stands = tt; first = tt }

pub returns-then-next-bytes : goal.returns-then-next-bytes
returns-then-next-bytes c =
    let G =
    accepted_turn _ _ _ _ _ _ _ c.loop-command.invariant.0 _ c.in-Ok.ensures _ _ refl
    (ap is_end c.in-End.is) c.if-next-bytes.true c.args.head.kind refl in
    record { answer = G.0.0; clauses = G.0.1; stands = G.1; first = c.read_constants-defined.ensures.value.0 }

pub returns-in-End : goal.returns-in-End
returns-in-End c =
    let G =
    after_end _ _ _ _ _ _ _ c.loop-command.invariant.0 _ c.in-Ok.ensures _ _ refl
    (ap is_end c.in-End.is) c.if-next-bytes.false in
    record { answer = G.0; clauses = G.1; stands = tt; first = tt }

pub keep_clause-named-requires-clause-slot : goal.keep_clause-named-requires-clause-slot
keep_clause-named-requires-clause-slot c =
    let g = c.loop-command.invariant.0 in
    let free = no_fault _ _ _ _ _ _ _ g _ c.in-Ok.ensures _ _ refl in
    (room_clause _ _ g.stands _ free, small_clause _ _ g.stands _ free)

pub loop-command-smaller : goal.loop-command-smaller
loop-command-smaller c =
    let W = whole _ _ _ _ _ _ _ c.loop-command.invariant.0 _ c.in-Ok.ensures _ _ refl in
    omega (arith, W.0, W.1, size_some c.in-Ok.field-0.command)

pub loop-command-preserved : goal.loop-command-preserved
loop-command-preserved c =
    let head = c.loop-command in
    goes_clause _ _ (stored head.clauses head.counts _ head.named c.args.head.free c.args.head.own) _ _ _ _
    head.invariant _
    c.in-Ok.ensures _ _ refl
    (λ i. omega (arith, c.type_inv.bytes i))
    (not_end _ c.in_default-command.not-End) _ _ _
    c.keep_clause-named.ensures c.count_clause.ensures
