-- `steps::first_word` meets its contract: a table of terms for both systems serves the first.
use Rattle.std.proofs.Common.{◌≡◌, ap₂, ◌∙◌, ◌&&◌, ℕ, ◌+◌, ◌*◌, ◌<◌}
use Rattle.shares.specs.Constant.{bit}
use Rattle.shares.specs.BitParts.{bit_ones}
use Rattle.words.specs.Table.{Terms}
use Rattle.steps.specs.Steps.{posed}
use Rattle.steps.specs.Tests.{first_meets}
use Rattle.steps.specs.TestLaws.{first_periodic, word_free, first_bits}
use Rattle.steps.proofs.first_word.Goals as goal

pub returns : goal.returns
returns c =
    let a = c.args in
    let q = a.question.now in
    let S = posed q in
    let bits : (values : ℕ) → Terms q.sizes.free q.sizes.own values a.w a.terms.now → (i : ℕ) → i < 64
    → bit c.section_word.result i ≡ first_meets S values (64 * a.w + i) =
    λ values t i l. c.section_word.ensures i l
    ∙ ap₂ ◌&&◌ (bit_ones 64 i l)
    (first_bits q.sizes q.clauses.now q.constants.now q.readable values a.w a.terms.now t i l) in
    let (values, t) = c.requires.1 in (
      word_free q.sizes.free a.w c.section_word.result (first_meets S values) c.requires.0 (first_periodic S values)
          (bits values t),
      bits,
    )
