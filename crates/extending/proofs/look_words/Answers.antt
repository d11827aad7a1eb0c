-- `extending::look_words`: one word more of choices, up to one that fails.
use Rattle.std.proofs.Common.{◌≡◌, Some, None, arith}
use Rattle.words.specs.Choices.{word_count}
use Rattle.beside.specs.GatherLaws.{words_le}
use Rattle.extending.specs.LookLaws.{words_start, words_more, unmet_wider}
use Rattle.extending.proofs.look_words.Goals as goal

pub loop-w-init : goal.loop-w-init
loop-w-init c values v t = ((v, t), words_start _ _ _ c.args.present.now c.args.wanted)

pub offset_bounds-present-w : goal.offset_bounds-present-w
offset_bounds-present-w c = omega (
  arith,
  c.word_count-w-end.ensures,
  words_le c.args.question.now.sizes.free (omega (arith, c.args.question.now.readable.variables)),
)

pub bounds-present-w : goal.bounds-present-w
bounds-present-w c = omega (
  arith,
  c.word_count-w-end.ensures,
  words_le c.args.question.now.sizes.free (omega (arith, c.args.question.now.readable.variables)),
)

pub returns-in_err-rest : goal.returns-in_err-rest
returns-in_err-rest c values v t =
    let ((u, m), L) = c.loop-w.invariant values v t in
    let (placed, M) = c.in_err-rest.ensures values u m in (
      placed,
      rw c.from_residual.ensures (unmet_wider _ _ _ (λ d (h, q). (omega (arith, c.word_count-w-end.ensures), q))
          (words_more _ _ _ c.args.present.now c.args.wanted c.loop-w.w c.loop-w.rest None
          (omega (arith, c.args.question.now.readable.few)) L M)),
    )

pub loop-w-preserved : goal.loop-w-preserved
loop-w-preserved c values v t =
    let l = c.loop-w in
    let ((u, m), L) = l.invariant values v t in
    let (placed, M) = c.in_ok-rest.ensures values u m in (
      placed,
      words_more _ _ _ c.args.present.now c.args.wanted l.w l.rest (Some c.in_ok-rest.rest)
          (omega (arith, c.args.question.now.readable.few)) L M,
    )

pub returns : goal.returns
returns c = let e : c.loop-w.w ≡ word_count c.args.question.now.sizes.free =
    omega (arith, c.word_count-w-end.ensures) in rw e at c.loop-w.invariant
