-- The length of the text of a row, and of what is answered, for every height. Assumes nothing.
use Rattle.std.specs.Prelude.{Bool, true, false, cond, List, ℕ, Ok, Err, ◌≤◌, eqb, leb, length}
use Rattle.std.proofs.Common.{zero-le}
use Rattle.shares.proofs.TreeLaws.{tree_of_height}
use Rattle.shares.specs.Text.{longest_text}
use Rattle.shares.proofs.TextLaws.{text_length_lem}
use Rattle.shares.specs.Constant.{bytes_at}
use Rattle.rows.specs.Rows.{row_leaf, row_tree}
use Rattle.text.specs.Texts.{text_length, row_text, text_answer}
use Rattle.text.specs.declared.TextRefusal.TheVariants.{TooLong, NotARow}

pub row_text_length : (k : ℕ) (row : List ℕ) → length (row_text k row) ≤ longest_text k
unfolding row_text
row_text_length k row = text_length_lem k (row_tree k row) (tree_of_height k (row_leaf row))

pub answer_length : (k : ℕ) (row buffer : List ℕ) → text_length (text_answer k row buffer) ≤ longest_text k
unfolding text_answer
answer_length k row buffer = go (eqb (length row) (bytes_at k)) (leb (length (row_text k row)) (length buffer))
  where
    go : (a b : Bool) → text_length (cond a (cond b (Ok (length (row_text k row))) (Err TooLong)) (Err NotARow)) ≤
        longest_text k
    go true true = row_text_length k row
    go true false = zero-le
    go false b = zero-le
