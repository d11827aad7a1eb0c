-- Rows: a tree unfolded to a height, eight leaves to a byte, and the rows of an answer buffer. Assumes nothing.
use Rattle.std.specs.Prelude.{Bool, cond, List, [], ◌∷◌, ◌++◌, ℕ, zero, suc, ◌+◌, ◌*◌, ◌/◌, ◌%◌, ltb, leb, length}
use Rattle.std.specs.Prelude.{get_or, take, drop, replicate}
use Rattle.shares.specs.Tree.{Tree, leaf_at, tree_of}
use Rattle.shares.specs.Constant.{bit, number_of, bytes_at}
use Rattle.rows.specs.declared.Range.{Range}

-- ---- the numbers

-- where the constants of a question have so many levels, a row of the answer is unfolded to this height, 10 at 5
-- levels: its 31 disequations and one choice more take 2 ^ 5 sub-leaves below a leaf
abbrev pub row_levels : ℕ → ℕ
row_levels levels = levels + 5

-- an answer has this many rows
abbrev pub row_count : ℕ
row_count = 12

-- a row of the answer has this many bytes: 128 at 5 levels
abbrev pub row_bytes : ℕ → ℕ
row_bytes levels = bytes_at (row_levels levels)

-- the rows of an answer have this many bytes: 1,536 at 5 levels
abbrev pub answer_bytes : ℕ → ℕ
answer_bytes levels = row_count * row_bytes levels

-- ---- a row as a tree, and a tree as a row

-- leaf i of a row: bit i mod 8, lowest first, of byte i div 8
unfoldable pub row_leaf : List ℕ → ℕ → Bool
row_leaf row i = bit (get_or row (i / 8) 0) (i % 8)

-- the tree of a row that is unfolded to height k
abbrev pub row_tree : ℕ → List ℕ → Tree
row_tree k row = tree_of k (row_leaf row)

-- the list of f 0 to f (n - 1)
unfoldable pub list_of : ℕ → (ℕ → ℕ) → List ℕ
list_of zero f = []
list_of (suc n) f = f 0 ∷ list_of n (λ i. f (suc i))

-- the row that a tree gives, unfolded to height k: byte j holds leaves 8 j to 8 j + 7, lowest first
unfoldable pub row_of : ℕ → Tree → List ℕ
row_of k t = list_of (bytes_at k) (λ j. number_of 8 (λ r. leaf_at k t (8 * j + r)))

-- ---- the rows of an answer buffer, unfolded to height k

-- the empty part, at the start
abbrev pub empty_range : Range
empty_range = record { offset = 0; bytes = 0 }

-- where the row of variable v lies in a buffer of so many bytes: the empty part if v is above 11 or the buffer too
-- short
unfoldable pub row_range : ℕ → ℕ → ℕ → Range
row_range k bytes v =
    cond (ltb v row_count) (cond (leb (row_count * bytes_at k) bytes)
    (record { offset = v * bytes_at k; bytes = bytes_at k }) empty_range) empty_range

-- that part of the buffer
unfoldable pub row_part : ℕ → List ℕ → ℕ → List ℕ
row_part k answer v = take (row_range k (length answer) v).bytes (drop (row_range k (length answer) v).offset answer)

-- n zero bytes
unfoldable pub zeros : ℕ → List ℕ
zeros n = replicate n 0

-- the row of variable v where the first n variables have the trees f: zero if it is none of them
unfoldable pub variable_row : ℕ → ℕ → (ℕ → Tree) → ℕ → List ℕ
variable_row k n f v = cond (ltb v n) (row_of k (f v)) (zeros (bytes_at k))

-- the first n rows, one after the other
unfoldable pub rows_of : (ℕ → List ℕ) → ℕ → List ℕ
rows_of f zero = []
rows_of f (suc n) = rows_of f n ++ f n

-- a buffer that is filled with the rows of those trees, up to what is past them
unfoldable pub filled_with : ℕ → ℕ → (ℕ → Tree) → List ℕ → List ℕ
filled_with k n f answer = rows_of (variable_row k n f) row_count ++ drop (row_count * bytes_at k) answer
