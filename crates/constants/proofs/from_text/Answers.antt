-- A text that is too long is no tree's. The invariant holds at the start. A sign more keeps it, or leaves no stack,
-- and at the end the stack says what the text gives.
use Rattle.std.proofs.Common.{◌≡◌, refl, sym, ◌∙◌, List, [], ℕ, arith}
use Rattle.std.specs.Prelude.{Option, Some, None}
use Rattle.std.proofs.Math.Option.{none}
use Rattle.shares.specs.Constant.{constant_levels}
use Rattle.constants.specs.Stacks.{Item, onto, Stepped}
use Rattle.constants.specs.StackLaws.{whole_none, turn_goes, turn_stops, all_read}
use Rattle.constants.specs.StackedLaws.{none_yet}
use Rattle.constants.specs.FromTextLaws.{text_long, text_none}
use Rattle.constants.specs.declared.Scan.{Scan}
use Rattle.constants.proofs.from_text.Goals as goal

-- A sign that is not taken leaves no stack.
stopped : (levels : ℕ) (items : List ℕ) (x : ℕ) (σ : List Item) (r : Option Scan) → ((n : Scan) → r ≡ Some n → ⊥)
    → Stepped levels items x σ r → onto x σ ≡ none
stopped levels items x σ (Some n) other w = absurd (other n refl)
stopped levels items x σ None other w = w

pub returns-then-text-gt-LONGEST_TEXT : goal.returns-then-text-gt-LONGEST_TEXT
returns-then-text-gt-LONGEST_TEXT c =
    sym (text_long constant_levels c.args.text.now (omega (arith, c.if-text-gt-LONGEST_TEXT.true)))

pub loop-sign-init : goal.loop-sign-init
loop-sign-init c = ([], none_yet, omega arith, refl)

pub returns-in_default : goal.returns-in_default
returns-in_default c =
    let s = c.args.text.now in
    let (σ, S, few, so_far) = c.loop-sign.invariant in
    let stops = stopped _ _ _ _ _ c.in_default.not-Some
    (c.take_sign.ensures σ S (omega (arith, few, c.if-text-gt-LONGEST_TEXT.false))) in
    sym (text_none constant_levels s
    (whole_none s (turn_stops s c.loop-sign.sign-index c.loop-sign-test.true σ so_far stops)))

pub loop-sign-preserved : goal.loop-sign-preserved
loop-sign-preserved c =
    let s = c.args.text.now in
    let (σ, S, few, so_far) = c.loop-sign.invariant in
    let (τ, e, T) = rw c.in-Some.is at
    (c.take_sign.ensures σ S (omega (arith, few, c.if-text-gt-LONGEST_TEXT.false))) in
    let turn = turn_goes s c.loop-sign.sign-index c.loop-sign-test.true σ so_far τ e few in
    (τ, T, turn.0, turn.1)

pub returns : goal.returns
returns c =
    let (σ, S, few, so_far) = c.loop-sign.invariant in
    c.from_stack.ensures c.loop-sign.items σ c.args.text.now S refl
    (all_read c.args.text.now c.loop-sign.sign-index σ c.loop-sign-test.false so_far) c.if-text-gt-LONGEST_TEXT.false
