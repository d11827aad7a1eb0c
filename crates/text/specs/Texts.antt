-- The text of a row, and what writing it gives. Assumes nothing.
use Rattle.std.specs.Prelude.{cond, List, ◌++◌, ℕ, Result, Ok, Err, eqb, leb, length, drop}
use Rattle.shares.specs.Text.{text}
use Rattle.shares.specs.Constant.{bytes_at}
use Rattle.rows.specs.Rows.{row_tree}
use Rattle.text.specs.declared.TextRefusal.{TextRefusal}
use Rattle.text.specs.declared.TextRefusal.TheVariants.{TooLong, NotARow}

-- the number of a refusal
abbrev pub refusal_number : TextRefusal → ℕ
refusal_number TooLong = 13
refusal_number NotARow = 14

-- the length given: a refusal gives 0
abbrev pub text_length : Result ℕ TextRefusal → ℕ
text_length (Ok n) = n
text_length (Err refusal) = 0

-- the refusal number: 0 where the text was written
abbrev pub text_refusal : Result ℕ TextRefusal → ℕ
text_refusal (Ok n) = 0
text_refusal (Err refusal) = refusal_number refusal

-- the text of a row that is unfolded to height k
unfoldable pub row_text : ℕ → List ℕ → List ℕ
row_text k row = text (row_tree k row)

-- what writing it into a buffer answers: that it is no row where it has another number of bytes, then that the text is
-- too long for the buffer, else the text's length
unfoldable pub text_answer : ℕ → List ℕ → List ℕ → Result ℕ TextRefusal
text_answer k row buffer =
    cond (eqb (length row) (bytes_at k))
    (cond (leb (length (row_text k row)) (length buffer)) (Ok (length (row_text k row))) (Err TooLong)) (Err NotARow)

-- a buffer after an answer: the text and then what was past it, or unchanged
abbrev pub after_answer : Result ℕ TextRefusal → List ℕ → List ℕ → List ℕ
after_answer (Ok n) t buffer = t ++ drop n buffer
after_answer (Err refusal) t buffer = buffer

-- the buffer after writing the text of a row into it
unfoldable pub text_after : ℕ → List ℕ → List ℕ → List ℕ
text_after k row buffer = after_answer (text_answer k row buffer) (row_text k row) buffer
