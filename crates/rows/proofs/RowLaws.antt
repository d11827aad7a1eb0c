-- Laws of rows, for every height from 3 on: a row is its tree and back, by its leaves. Assumes nothing.
use Rattle.std.specs.Prelude.{◌≡◌, refl, Bool, ◌⊎◌, ltb, get_or}
use Rattle.std.proofs.Math.Path.{sym, ap, ap₂, fun_ext}
use Rattle.std.proofs.Common.{◌∙◌, inl, inr, not-suc-le-zero, le_of_suc-le-suc, eq-or-lt_of_le, zero-mul, suc-mul}
use Rattle.std.proofs.Common.{le_trans, add-mul, one-mul, mul-le-mul_right, mod-lt, div-add-mod', le-div_iff_mul-le}
use Rattle.std.proofs.Common.{length-drop, drop_of_length-le, pow-add, pow_pos, ext_get_or, get_or-take, get_or-drop}
use Rattle.std.proofs.Math.Bool.{true, false, cond}
use mathlib.Core.List.{List, [], ◌++◌, append_assoc, append-nil}
use Prim.Native.Nat.{ℕ, zero, suc, ◌+◌, ◌-◌, ◌*◌, ◌/◌, ◌%◌, ◌^◌, ◌≤◌, ◌<◌, zero-le}
use Rattle.std.proofs.Math.Decide.{dec_lt}
use native.Mathlib.Omega.{arith}
use borrow.Author.Tests.{lt-ltb, le-ltb, le-leb, lt-leb}
use Rattle.std.proofs.Math.ListN.{length, take, drop, replicate, length-append, replicate-append-replicate}
use Rattle.std.proofs.Math.ListN.{get_or-eq_default}
use Rattle.std.proofs.lemmas.List.{length-replicate}
use Rattle.std.proofs.Math.Seq.{length-take-le, take_at, drop_at}
use Rattle.shares.specs.Tree.{Tree, leaf, Folded, height, leaf_at}
use Rattle.shares.proofs.TreeLaws.{tree_of_ext, tree_of_leaf, tree_of_leaf_at, leaf_at_tree_of}
use Rattle.shares.specs.Constant.{bit, number_of, bytes_at}
use Rattle.shares.specs.BitLaws.{bit_zero, bits_same, number_lt, bit_number}
use Rattle.rows.specs.Rows.{row_levels, row_count, row_bytes, row_leaf, row_tree, list_of, row_of, empty_range}
use Rattle.rows.specs.Rows.{row_range, row_part, zeros, variable_row, rows_of, filled_with}
use Rattle.rows.specs.Emptied.{emptied}
use Rattle.shares.specs.NumberLaws.{zero_at}

-- ---- below one more

pub ltb_next : (x n : ℕ) → (x ≡ n → ⊥) → ltb x n ≡ ltb x (n + 1)
ltb_next x n d = go (dec_lt x n)
  where
    go : Dec (x < n) → ltb x n ≡ ltb x (n + 1)
    go (yes l) = lt-ltb x n l ∙ sym (lt-ltb x (n + 1) (omega arith))
    go (no m) = le-ltb x n (omega arith) ∙ sym (le-ltb x (n + 1) (omega arith))

-- ---- a list and its elements

list_length : (n : ℕ) (f : ℕ → ℕ) → length (list_of n f) ≡ n
unfolding list_of
list_length zero f = refl
list_length (suc n) f = ap suc (list_length n (λ i. f (suc i)))

list_at : (n : ℕ) (f : ℕ → ℕ) (i : ℕ) → i < n → get_or (list_of n f) i 0 ≡ f i
unfolding list_of
list_at zero f i h = absurd (not-suc-le-zero h)
list_at (suc n) f zero h = refl
list_at (suc n) f (suc i) h = list_at n (λ i. f (suc i)) i (le_of_suc-le-suc h)

-- ---- the bytes of a row

pub eight : (k : ℕ) → 3 ≤ k → 2 ^ k ≡ 2 ^ (k - 3) * 8
eight k h = ap (λ (n : ℕ). 2 ^ n) (omega arith) ∙ pow-add 2 (k - 3) 3

-- a row of an answer, for any number of levels
pub row_bytes_lem : (levels : ℕ) → row_bytes levels ≡ 2 ^ (levels + 2)
row_bytes_lem levels =
    let e : row_levels levels - 3 ≡ levels + 2 = omega arith in
    omega (arith, eight (row_levels levels) (omega arith), ap (λ (n : ℕ). 2 ^ n) e)

pub row_length : (k : ℕ) (t : Tree) → length (row_of k t) ≡ bytes_at k
unfolding row_of
row_length k t = list_length (bytes_at k) _

pub row_byte : (k : ℕ) (t : Tree) (j : ℕ) → get_or (row_of k t) j 0 < 256
unfolding row_of
row_byte k t j = go (dec_lt j (bytes_at k))
  where
    go : Dec (j < bytes_at k) → get_or (row_of k t) j 0 < 256
    go (yes l) = rw (list_at (bytes_at k) (λ j. number_of 8 (λ r. leaf_at k t (8 * j + r))) j l) (number_lt 8 _)
    go (no n) =
        let past : length (row_of k t) ≤ j = omega (arith, row_length k t) in
        rw (get_or-eq_default (row_of k t) 0 past) (omega arith)

-- ---- the leaves of a row

-- leaf 8 j + r is bit r of byte j
pub leaf_byte : (row : List ℕ) (j r : ℕ) → r < 8 → row_leaf row (8 * j + r) ≡ bit (get_or row j 0) r
unfolding row_leaf
leaf_byte row j r h = ap₂ (λ x y. bit (get_or row x 0) y) (omega arith) (omega arith)

-- of the row that a tree gives, they are the tree's
pub row_leaf_lem : (k : ℕ) → 3 ≤ k → (t : Tree) (i : ℕ) → i < 2 ^ k → row_leaf (row_of k t) i ≡ leaf_at k t i
unfolding row_leaf row_of
row_leaf_lem k h t i l =
    let inside : i / 8 < bytes_at k = omega (arith, eight k h) in
    ap (λ n. bit n (i % 8)) (list_at (bytes_at k) (λ j. number_of 8 (λ r. leaf_at k t (8 * j + r))) (i / 8) inside)
    ∙ bit_number 8 (λ r. leaf_at k t (8 * (i / 8) + r)) (i % 8) (omega arith)
    ∙ ap (leaf_at k t) (omega arith)

-- bytes that have the leaves of a tree are the row that it gives
pub row_is : (k : ℕ) → 3 ≤ k → (row : List ℕ) (t : Tree) → length row ≡ bytes_at k → ((j : ℕ) → get_or row j 0 < 256)
    → ((i : ℕ) → i < 2 ^ k → row_leaf row i ≡ leaf_at k t i) → row ≡ row_of k t
row_is k h row t len byte same =
    ext_get_or 0 row (row_of k t) (len ∙ sym (row_length k t))
    (λ j l. bits_same 8 (get_or row j 0) (get_or (row_of k t) j 0) (byte j) (row_byte k t j) (bits j l))
  where
    bits : (j : ℕ) → j < length row → (r : ℕ) → r < 8 → bit (get_or row j 0) r ≡ bit (get_or (row_of k t) j 0) r
    bits j l r u =
        let inside : 8 * j + r < 2 ^ k = omega (arith, eight k h) in
        sym (leaf_byte row j r u) ∙ same (8 * j + r) inside ∙ sym (row_leaf_lem k h t (8 * j + r) inside)
        ∙ leaf_byte (row_of k t) j r u

-- ---- there and back

pub row_tree_row_of : (k : ℕ) → 3 ≤ k → (t : Tree) → Folded t → height t ≤ k → row_tree k (row_of k t) ≡ t
row_tree_row_of k h t f low = tree_of_ext k _ _ (row_leaf_lem k h t) ∙ tree_of_leaf_at k t f low

pub row_of_row_tree : (k : ℕ) → 3 ≤ k → (row : List ℕ) → length row ≡ bytes_at k → ((j : ℕ) → get_or row j 0 < 256)
    → row_of k (row_tree k row) ≡ row
row_of_row_tree k h row len byte =
    sym (row_is k h row (row_tree k row) len byte (λ i l. sym (leaf_at_tree_of k (row_leaf row) i l)))

-- ---- rows one after the other, each of b bytes

rows_ext : (f g : ℕ → List ℕ) (n : ℕ) → ((i : ℕ) → i < n → f i ≡ g i) → rows_of f n ≡ rows_of g n
unfolding rows_of
rows_ext f g zero same = refl
rows_ext f g (suc n) same = ap₂ ◌++◌ (rows_ext f g n (λ i l. same i (omega arith))) (same n (omega arith))

module _ (f : ℕ → List ℕ) (b : ℕ) (size : (v : ℕ) → length (f v) ≡ b) where
  rows_length : (n : ℕ) → length (rows_of f n) ≡ n * b
  unfolding rows_of
  rows_length zero = sym (zero-mul b)
  rows_length (suc n) = length-append (rows_of f n) (f n) ∙ ap₂ ◌+◌ (rows_length n) (size n) ∙ sym (suc-mul n b)

  rows_whole : (before : List ℕ) (v : ℕ) → v * b ≤ length before → length (rows_of f v ++ drop (v * b) before)
      ≡ length before
  rows_whole before v h = simp (length-append, length-drop, rows_length) (omega arith)

  -- row v of those written
  pub rows_at : (n v : ℕ) (rest : List ℕ) → v < n → take b (drop (v * b) (rows_of f n ++ rest)) ≡ f v
  unfolding rows_of
  rows_at zero v rest h = absurd (not-suc-le-zero h)
  rows_at (suc n) v rest h = rw (append_assoc (rows_of f n) (f n) rest)
      (pick (eq-or-lt_of_le (le_of_suc-le-suc h)) (rows_at n v (f n ++ rest)))
    where
      pick : (v ≡ n) ⊎ (v < n) → (v < n → take b (drop (v * b) (rows_of f n ++ (f n ++ rest))) ≡ f v)
          → take b (drop (v * b) (rows_of f n ++ (f n ++ rest))) ≡ f v
      pick (inl e) ih = rw (e, drop_at (rows_of f n) (f n ++ rest) (n * b) (rows_length n))
          (take_at (f n) rest b (size n))
      pick (inr l) ih = ih l

  -- with another row v they are those of g, which differs from f there alone
  rows_set : (g : ℕ → List ℕ) (n v : ℕ) (rest : List ℕ) → v < n → ((i : ℕ) → (i ≡ v → ⊥) → f i ≡ g i)
      → take (v * b) (rows_of f n ++ rest) ++ (g v ++ drop b (drop (v * b) (rows_of f n ++ rest))) ≡ rows_of g n ++ rest
  unfolding rows_of
  rows_set g zero v rest h same = absurd (not-suc-le-zero h)
  rows_set g (suc n) v rest h same =
      rw (append_assoc (rows_of f n) (f n) rest, append_assoc (rows_of g n) (g n) rest)
      (pick (eq-or-lt_of_le (le_of_suc-le-suc h)) (λ l. rows_set g n v (f n ++ rest) l same))
    where
      whole : List ℕ
      whole = rows_of f n ++ (f n ++ rest)

      pick : (v ≡ n) ⊎ (v < n) → (v < n → take (v * b) whole ++ (g v ++ drop b (drop (v * b) whole)) ≡ rows_of g n
          ++ (f n ++ rest))
          → take (v * b) whole ++ (g v ++ drop b (drop (v * b) whole)) ≡ rows_of g n ++ (g n ++ rest)
      pick (inl e) ih =
          rw (
            e,
            take_at (rows_of f n) (f n ++ rest) (n * b) (rows_length n),
            drop_at (rows_of f n) (f n ++ rest) (n * b) (rows_length n),
            drop_at (f n) rest b (size n),
          )
          (ap (λ l. l ++ (g n ++ rest)) (rows_ext f g n (λ i l. same i (λ p. absurd (omega arith)))))
      pick (inr l) ih = ih l ∙ ap (λ r. rows_of g n ++ (r ++ rest)) (same n (λ p. absurd (omega arith)))

-- ---- the row of one variable

module _ (k bytes v : ℕ) where
  pub range_none : row_count ≤ v → row_range k bytes v ≡ empty_range
  unfolding row_range
  range_none l = rw (le-ltb v row_count l)

  pub range_some : v < row_count → row_count * bytes_at k ≤ bytes
      → row_range k bytes v ≡ record { offset = v * bytes_at k; bytes = bytes_at k }
  unfolding row_range
  range_some l room = rw (lt-ltb v row_count l, le-leb (row_count * bytes_at k) bytes room)

  pub range_short : v < row_count → bytes < row_count * bytes_at k → row_range k bytes v ≡ empty_range
  unfolding row_range
  range_short l short = rw (lt-ltb v row_count l, lt-leb (row_count * bytes_at k) bytes short)

  -- it lies within the buffer, and within the rows of an answer
  pub range_inside : ((row_range k bytes v).offset + (row_range k bytes v).bytes ≤ bytes)
      × ((row_range k bytes v).offset + (row_range k bytes v).bytes ≤ row_count * bytes_at k)
  range_inside = go (dec_lt v row_count) (dec_lt bytes (row_count * bytes_at k))
    where
      go : Dec (v < row_count) → Dec (bytes < row_count * bytes_at k)
          → ((row_range k bytes v).offset + (row_range k bytes v).bytes ≤ bytes)
          × ((row_range k bytes v).offset + (row_range k bytes v).bytes ≤ row_count * bytes_at k)
      go (yes l) (yes short) = rw (range_short l short) (zero-le, zero-le)
      go (yes l) (no n) =
          let room : row_count * bytes_at k ≤ bytes = omega arith in
          let last : (v + 1) * bytes_at k ≤ row_count * bytes_at k = mul-le-mul_right (bytes_at k) (omega arith) in
          let end : v * bytes_at k + bytes_at k ≤ row_count * bytes_at k =
          omega (arith, add-mul v 1 (bytes_at k), one-mul (bytes_at k)) in
          rw (range_some l room) (le_trans end room, end)
      go (no n) d = rw (range_none (omega arith)) (zero-le, zero-le)

module _ (k : ℕ) (answer : List ℕ) (v : ℕ) where
  part_none : row_count ≤ v → row_part k answer v ≡ []
  unfolding row_part
  part_none l = rw (range_none k (length answer) v l)

  pub part_some : v < row_count → row_count * bytes_at k ≤ length answer
      → row_part k answer v ≡ take (bytes_at k) (drop (v * bytes_at k) answer)
  unfolding row_part
  part_some l room = rw (range_some k (length answer) v l room)

-- ---- rows of zeros

-- a row of zeros has empty leaves, and is that of the empty tree
zero_leaf : (row : List ℕ) → ((j : ℕ) → get_or row j 0 ≡ 0) → (i : ℕ) → row_leaf row i ≡ false
unfolding row_leaf
zero_leaf row z i = ap (λ b. bit b (i % 8)) (z (i / 8)) ∙ bit_zero (i % 8)

zero_row : (k : ℕ) (row : List ℕ) → ((j : ℕ) → get_or row j 0 ≡ 0) → row_tree k row ≡ leaf false
zero_row k row z = tree_of_ext k _ _ (λ i _. zero_leaf row z i) ∙ tree_of_leaf k false

pub zeros_length : (n : ℕ) → length (zeros n) ≡ n
unfolding zeros
zeros_length n = length-replicate n 0

zeros_at : (n j : ℕ) → ◌≡◌ {A = ℕ} (get_or (zeros n) j 0) 0
unfolding zeros
zeros_at n j = zero_at n j

pub zeros_leaf : (n i : ℕ) → row_leaf (zeros n) i ≡ false
zeros_leaf n = zero_leaf (zeros n) (zeros_at n)

-- ---- the rows of variables, of which the first n have the trees f

module _ (k n : ℕ) (f : ℕ → Tree) where
  variable_length : (v : ℕ) → length (variable_row k n f v) ≡ bytes_at k
  unfolding variable_row
  variable_length v = go (ltb v n)
    where
      go : (t : Bool) → length (cond t (row_of k (f v)) (zeros (bytes_at k))) ≡ bytes_at k
      go true = row_length k (f v)
      go false = zeros_length (bytes_at k)

  variable_zero : (v : ℕ) → n ≤ v → variable_row k n f v ≡ zeros (bytes_at k)
  unfolding variable_row
  variable_zero v l = rw (le-ltb v n l)

  -- their trees
  variable_tree : 3 ≤ k → (v : ℕ) → Folded (f v) → height (f v) ≤ k → (n ≤ v → f v ≡ leaf false)
      → row_tree k (variable_row k n f v) ≡ f v
  unfolding variable_row
  variable_tree h v folded low past = go (dec_lt v n)
    where
      go : Dec (v < n) → row_tree k (variable_row k n f v) ≡ f v
      go (yes l) = rw (lt-ltb v n l) (row_tree_row_of k h (f v) folded low)
      go (no m) =
          let l : n ≤ v = omega arith in
          rw (le-ltb v n l) (zero_row k (zeros (bytes_at k)) (zeros_at (bytes_at k)) ∙ sym (past l))

  -- the rows of a buffer that is filled with them are they
  filled_row : (answer : List ℕ) (v : ℕ) → v < row_count
      → take (bytes_at k) (drop (v * bytes_at k) (filled_with k n f answer)) ≡ variable_row k n f v
  unfolding filled_with
  filled_row answer v l = rows_at (variable_row k n f) (bytes_at k) variable_length row_count v
      (drop (row_count * bytes_at k) answer) l

  module _ (answer : List ℕ) (room : row_count * bytes_at k ≤ length answer) where
    -- it is as long as before, and its parts are they
    pub filled_length : length (filled_with k n f answer) ≡ length answer
    unfolding filled_with
    filled_length = rows_whole (variable_row k n f) (bytes_at k) variable_length answer row_count room

    filled_part : (v : ℕ) → v < row_count → row_part k (filled_with k n f answer) v ≡ variable_row k n f v
    filled_part v l =
        let long : row_count * bytes_at k ≤ length (filled_with k n f answer) = omega (arith, filled_length) in
        part_some k (filled_with k n f answer) v l long ∙ filled_row answer v l

    pub filled_zero : (v : ℕ) → n ≤ v → v < row_count → row_part k (filled_with k n f answer) v ≡ zeros (bytes_at k)
    filled_zero v l m = filled_part v m ∙ variable_zero v l

    -- the trees of its parts, of every variable
    pub filled_tree : 3 ≤ k → n ≤ row_count → (v : ℕ) → Folded (f v) → height (f v) ≤ k → (n ≤ v → f v ≡ leaf false)
        → row_tree k (row_part k (filled_with k n f answer) v) ≡ f v
    filled_tree h few v folded low past = go (dec_lt v row_count)
      where
        go : Dec (v < row_count) → row_tree k (row_part k (filled_with k n f answer) v) ≡ f v
        go (yes l) = ap (row_tree k) (filled_part v l) ∙ variable_tree h v folded low past
        go (no m) = ap (row_tree k) (part_none k (filled_with k n f answer) v (omega arith)) ∙ zero_row k [] (λ j. refl)
            ∙ sym (past (omega arith))

    -- its first bytes, as many as the rows have, are what a buffer of that length is filled with
    pub filled_first : take (row_count * bytes_at k) (filled_with k n f answer)
        ≡ filled_with k n f (take (row_count * bytes_at k) answer)
    unfolding filled_with
    filled_first =
        let b = row_count * bytes_at k in
        let whole = rows_of (variable_row k n f) row_count in
        take_at whole (drop b answer) b (rows_length (variable_row k n f) (bytes_at k) variable_length row_count)
        ∙ sym (ap (λ rest. whole ++ rest)
        (drop_of_length-le (take b answer) {i = b} (omega (arith, length-take-le b answer room))) ∙ append-nil whole)

-- where the rows from the n-th on are zero, each of their bytes is
pub others_zero : (k n : ℕ) (rows : List ℕ) → 3 ≤ k → row_count * bytes_at k ≡ length rows
    → ((v : ℕ) → n ≤ v → v < row_count → row_part k rows v ≡ zeros (bytes_at k)) → (i : ℕ) → n * bytes_at k ≤ i
    → get_or rows i 0 ≡ 0
others_zero k n rows h len empty i l = go (dec_lt (i / bytes_at k) row_count)
  where
    some : 0 < bytes_at k
    some = omega (arith, eight k h, pow_pos (k - 3))

    split : i / bytes_at k * bytes_at k + i % bytes_at k ≡ i
    split = div-add-mod' i (bytes_at k)

    go : Dec (i / bytes_at k < row_count) → get_or rows i 0 ≡ 0
    go (yes m) =
        ap (λ j. get_or rows j 0) (sym split) ∙ sym (get_or-drop (i / bytes_at k * bytes_at k) rows (i % bytes_at k) 0)
        ∙ sym (get_or-take (bytes_at k) (drop (i / bytes_at k * bytes_at k) rows) (i % bytes_at k) 0 (mod-lt i some))
        ∙ ap (λ r. get_or r (i % bytes_at k) 0) (sym (part_some k rows (i / bytes_at k) m (omega (arith, len)))
        ∙ empty (i / bytes_at k) ((le-div_iff_mul-le some).1 l) m)
        ∙ zeros_at (bytes_at k) (i % bytes_at k)
    go (no g) = let m : row_count ≤ i / bytes_at k =
        omega arith in get_or-eq_default rows 0 (omega (arith, len, (le-div_iff_mul-le some).0 m))

-- ---- a buffer that is emptied and then filled with one row after the other

module _ (k : ℕ) (f : ℕ → Tree) (answer : List ℕ) where
  -- what its rows were is gone
  pub filled_emptied : (n : ℕ) → filled_with k n f (emptied k answer) ≡ filled_with k n f answer
  unfolding filled_with emptied
  filled_emptied n =
      let b = row_count * bytes_at k in
      ap (λ rest. rows_of (variable_row k n f) row_count ++ rest) (drop_at (zeros b) (drop b answer) b (zeros_length b))

  -- emptied, it is filled with no row
  pub filled_none : emptied k answer ≡ filled_with k 0 f (emptied k answer)
  unfolding filled_with emptied rows_of zeros
  filled_none = ap (λ rows. rows ++ drop (row_count * bytes_at k) answer) (sym (none row_count))
      ∙ sym (filled_emptied 0)
    where
      none : (n : ℕ) → rows_of (variable_row k 0 f) n ≡ replicate (n * bytes_at k) 0
      none zero = rw (zero-mul (bytes_at k))
      none (suc n) =
          ap₂ ◌++◌ (none n) (variable_zero k 0 f n zero-le) ∙ replicate-append-replicate (n * bytes_at k) (bytes_at k) 0
          ∙ ap (λ (m : ℕ). replicate m 0) (sym (suc-mul n (bytes_at k)))

  module _ (v s : ℕ) (now : List ℕ) (next : v < row_count) (size : s ≡ bytes_at k)
      (filled : now ≡ filled_with k v f answer) where
    -- the row after the first v is zero
    pub filled_next : take s (drop (v * bytes_at k) now) ≡ zeros (bytes_at k)
    filled_next = rw (filled, size) (filled_row k v f answer v next ∙ variable_zero k v f v (omega arith))

    -- once it is written, one row more is filled
    pub filled_more : (row : List ℕ) → row ≡ row_of k (f v)
        → take (v * bytes_at k) now ++ (row ++ drop s (drop (v * bytes_at k) now)) ≡ filled_with k (v + 1) f answer
    unfolding filled_with variable_row
    filled_more row e =
        let this : variable_row k (v + 1) f v ≡ row_of k (f v) = rw (lt-ltb v (v + 1) (omega arith)) in
        rw (filled, size, e, ← this)
        (rows_set (variable_row k v f) (bytes_at k) (variable_length k v f) (variable_row k (v + 1) f) row_count v
        (drop (row_count * bytes_at k) answer) next
        (λ i n. ap (λ t. cond t (row_of k (f i)) (zeros (bytes_at k))) (ltb_next i v n)))

-- only the trees of the first n count
pub filled_ext : (k n : ℕ) (f g : ℕ → Tree) → ((v : ℕ) → v < n → f v ≡ g v) → (answer : List ℕ)
    → filled_with k n f answer ≡ filled_with k n g answer
unfolding filled_with variable_row
filled_ext k n f g same answer =
    ap (λ r. rows_of r row_count ++ drop (row_count * bytes_at k) answer) (fun_ext (λ v. go v (dec_lt v n)))
  where
    go : (v : ℕ) → Dec (v < n) → variable_row k n f v ≡ variable_row k n g v
    go v (yes l) = rw (lt-ltb v n l) (ap (row_of k) (same v l))
    go v (no m) = let l : n ≤ v = omega arith in rw (le-ltb v n l)
