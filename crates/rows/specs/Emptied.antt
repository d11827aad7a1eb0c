-- An answer buffer before its rows are written. Assumes nothing.
use Rattle.std.specs.Prelude.{List, ◌++◌, ℕ, ◌*◌, drop}
use Rattle.shares.specs.Constant.{bytes_at}
use Rattle.rows.specs.Rows.{row_count, zeros}

-- all rows are zero, and what is past them is as it was
unfoldable pub emptied : ℕ → List ℕ → List ℕ
emptied k answer = zeros (row_count * bytes_at k) ++ drop (row_count * bytes_at k) answer
