-- The bits of a word are those of its eight bytes.
use Rattle.std.proofs.Common.{◌≡◌, ap, ◌∙◌, ◌+◌, ◌-◌, ◌*◌, length, take, drop, arith}
use Rattle.std.proofs.lemmas.Result.{MatchResult-at_ok}
use Rattle.shares.specs.Constant.{bit, number}
use Rattle.rows.specs.Rows.{row_leaf}
use Rattle.unfolded.specs.UnfoldedLaws.{bytes_leaf}
use Rattle.unfolded.proofs.Words.{eight_bytes}
use Rattle.unfolded.proofs.word_at.Goals as goal

pub returns : goal.returns
returns c =
    let rows = c.args.rows.now in
    let w = c.args.w in
    let chunk = MatchResult-at_ok _ _ c.unwrap.result c.unwrap.ensures c.try_into.ensures.1 in
    let size : 8 * w + 8 - 8 * w ≡ 8 = omega arith in
    let bytes : c.unwrap.result ≡ take 8 (drop (8 * w) rows) = rw size at chunk.same in
    let long : length c.unwrap.result ≡ 8 = ap length chunk.same ∙ chunk.long in
    λ i l.
    ap (λ x. bit x i) (c.from_le_bytes.ensures ∙ eight_bytes _ long ∙ ap number bytes)
    ∙ bytes_leaf rows (λ j. (c.type_inv.rows j).fits) 8 (8 * w) i (omega arith) ∙ ap (row_leaf rows) (omega arith)
