-- Laws of tables of words, for every number of levels from 1 on: filling a table, the bytes of a word, and the test of
-- a join a word at a time. Assumes nothing.
use Rattle.std.specs.Prelude.{◌≡◌, refl, Bool, true, false, not, ◌&&◌, List, ◌↔◌, ℕ, ◌+◌, ◌-◌, ◌*◌, ◌/◌, ◌%◌, ◌^◌, ◌≤◌}
use Rattle.std.specs.Prelude.{◌<◌, T, eqb, length, get_or, take, drop}
use Rattle.std.proofs.Math.Path.{sym, ap, ap₂}
use Rattle.std.proofs.Common.{◌∙◌, true≢false, add-zero, arith, lit<, length-take, pow-add, get_or-take, get_or-drop}
use Rattle.std.proofs.Common.{ne_eqb}
use Rattle.std.proofs.Math.Bool.{and-true}
use Rattle.std.proofs.Math.Nat.{mul-add, mul_assoc, mul_comm, mul-suc, mul-le-mul_left}
use Rattle.std.proofs.Math.Decide.{dec_lt, ℕ_discrete}
use Rattle.std.specs.Int.Bits.{bit_or, or_add_and, or_zero_l}
use Rattle.std.proofs.lemmas.Nat.{and_le_l, and_le_r}
use Rattle.std.proofs.Math.ListN.{get_or-eq_default}
use Rattle.shares.specs.Below.{every_below, first_below}
use Rattle.shares.specs.BelowLaws.{every_at, every_intro, first_below_lem, first_least, first_is}
use Rattle.shares.specs.Constant.{bit, bytes_at, number}
use Rattle.shares.specs.BitLaws.{bit_zero, bits_zero}
use Rattle.shares.specs.BitParts.{bit_low, bit_high, bit_ones, bit_bytes}
use Rattle.shares.specs.Parts.{empty_part, full_part}
use Rattle.shares.specs.Test.{is_true, is_false, of_true}
use Rattle.format.specs.declared.LeafJoin.{LeafJoin}
use Rattle.words.specs.Clause.{test_way}
use Rattle.words.specs.ClauseLaws.{not_bits}
use Rattle.words.specs.LowestLaws.{lowest_lt}
use Rattle.rows.specs.Rows.{row_levels, row_count, row_leaf, row_part, answer_bytes}
use Rattle.rows.proofs.RowLaws.{eight, part_some}
use Rattle.unfolded.specs.Unfolded.{row_words, leaf_of, Unfolded, join_way, WordsOf, ZeroBytes}
use Rattle.unfolded.specs.declared.PartWords.{PartWords}
use Rattle.unfolded.specs.Filling.{WordOf, Filled, constant_leaf, ConstantParts}

-- ---- a row of an answer

-- its leaves are those of the whole answer from its first on
part_leaf : (k : ℕ) → 3 ≤ k → (rows : List ℕ) (v i : ℕ) → v < row_count → row_count * bytes_at k ≤ length rows
    → i < 2 ^ k
    → row_leaf (row_part k rows v) i ≡ row_leaf rows (2 ^ k * v + i)
unfolding row_leaf
part_leaf k h rows v i l room u =
    let inside : i / 8 < bytes_at k = omega (arith, eight k h) in
    let start : 2 ^ k * v ≡ 8 * (v * bytes_at k) =
    ap (λ (n : ℕ). n * v) (omega (arith, eight k h)) ∙ mul_assoc 8 (bytes_at k) v
    ∙ ap (λ (n : ℕ). 8 * n) (mul_comm (bytes_at k) v) in
    ap (λ row. bit (get_or row (i / 8) 0) (i % 8)) (part_some k rows v l room)
    ∙ ap (λ x. bit x (i % 8)) (get_or-take (bytes_at k) (drop (v * bytes_at k) rows) (i / 8) 0 inside
    ∙ get_or-drop (v * bytes_at k) rows (i / 8) 0)
    ∙ ap₂ (λ q r. bit (get_or rows q 0) r) (omega arith) (omega arith)

-- ---- words

-- two halves of a word
pub word_halves : (f : ℕ → Bool) (w low high : ℕ) → low < 2 ^ 32 → ((i : ℕ) → i < 32 → bit low i ≡ f (64 * w + i))
    → ((i : ℕ) → i < 32 → bit high i ≡ f (64 * w + 32 + i)) → WordOf f w (high * 2 ^ 32 + low)
word_halves f w low high small below above i l = go (dec_lt i 32)
  where
    go : Dec (i < 32) → bit (high * 2 ^ 32 + low) i ≡ f (64 * w + i)
    go (yes m) = bit_low 32 high low small i m ∙ below i m
    go (no m) =
        let e : 32 + (i - 32) ≡ i = omega arith in
        ap (bit (high * 2 ^ 32 + low)) (sym e) ∙ bit_high 32 high low small (i - 32) ∙ above (i - 32) (omega arith)
        ∙ ap f (omega arith)

-- the bits of the number that n bytes make are leaves, eight a byte
pub bytes_leaf : (rows : List ℕ) → ((j : ℕ) → get_or rows j 0 < 2 ^ 8) → (n at i : ℕ) → i < 8 * n
    → bit (number (take n (drop at rows))) i ≡ row_leaf rows (8 * at + i)
unfolding row_leaf
bytes_leaf rows byte n at i l =
    bit_bytes (take n (drop at rows)) (λ j. small j (dec_lt j n)) i
    ∙ ap (λ b. bit b (i % 8)) (same (i / 8) (omega arith))
    ∙ ap₂ (λ q r. bit (get_or rows q 0) r) (omega arith) (omega arith)
  where
    same : (j : ℕ) → j < n → get_or (take n (drop at rows)) j 0 ≡ get_or rows (at + j) 0
    same j m = get_or-take n (drop at rows) j 0 m ∙ get_or-drop at rows j 0

    small : (j : ℕ) → Dec (j < n) → get_or (take n (drop at rows)) j 0 < 2 ^ 8
    small j (yes m) = rw (same j m) (byte (at + j))
    small j (no m) =
        let past : length (take n (drop at rows)) ≤ j = omega (arith, length-take n (drop at rows)) in
        rw (get_or-eq_default (take n (drop at rows)) 0 past) (lit< tt)

-- ---- the bytes of a word

-- where no bit is set in two numbers together, none is in either
or_none : (a b : ℕ) → bit_or a b ≡ 0 → (a ≡ 0) × (b ≡ 0)
or_none a b e = (omega (arith, or_add_and a b, and_le_r a b), omega (arith, or_add_and a b, and_le_l a b))

module _ (rows : List ℕ) (w x : ℕ) (bits : WordOf (row_leaf rows) w x) where
  -- the bytes of a word that is 0 are 0
  word_zero : ((j : ℕ) → get_or rows j 0 < 2 ^ 8) → x ≡ 0 → ZeroBytes rows (8 * w) (8 * (w + 1))
  unfolding row_leaf
  word_zero byte e i l m =
      bits_zero 8 (get_or rows i 0) (byte i)
      (λ b n. ap₂ (λ q r. bit (get_or rows q 0) r) (omega arith) (omega arith)
      ∙ sym (bits (8 * (i - 8 * w) + b) (omega arith))
      ∙ ap (λ y. bit y (8 * (i - 8 * w) + b)) e ∙ bit_zero (8 * (i - 8 * w) + b))

  -- where they are 0, so is the word
  zero_word : x < 2 ^ 64 → ZeroBytes rows (8 * w) (8 * (w + 1)) → x ≡ 0
  unfolding row_leaf
  zero_word fits none =
      bits_zero 64 x fits
      (λ b n. bits b n ∙ ap (λ y. bit y ((64 * w + b) % 8)) (none ((64 * w + b) / 8) (omega arith) (omega arith))
      ∙ bit_zero ((64 * w + b) % 8))

  -- a number that is 0 exactly if the bytes before the word are 0 is so with the word too
  pub zero_more : ((j : ℕ) → get_or rows j 0 < 2 ^ 8) → x < 2 ^ 64 → (start all : ℕ) → start ≤ 8 * w
      → all ≡ 0 ↔ ZeroBytes rows start (8 * w) → bit_or all x ≡ 0 ↔ ZeroBytes rows start (8 * (w + 1))
  zero_more byte fits start all h E = (
    λ e i l m. go (or_none all x e) i l m (dec_lt i (8 * w)),
    λ none. ap₂ bit_or (E.1 (λ i l m. none i l (omega arith))) (zero_word fits (λ i l m. none i (omega arith) m))
        ∙ or_zero_l 0,
  )
    where
      go : (all ≡ 0) × (x ≡ 0) → (i : ℕ) → start ≤ i → i < 8 * (w + 1) → Dec (i < 8 * w) → get_or rows i 0 ≡ 0
      go z i l m (yes u) = E.0 z.0 i l u
      go z i l m (no u) = word_zero byte z.1 i (omega arith) m

-- rows that are 0 to their end are so past it
pub zero_past : (rows : List ℕ) (start end : ℕ) → ZeroBytes rows start (length rows) → ZeroBytes rows start end
zero_past rows start end none i l m = go (dec_lt i (length rows))
  where
    go : Dec (i < length rows) → get_or rows i 0 ≡ 0
    go (yes u) = none i l u
    go (no u) = let past : length rows ≤ i = omega arith in get_or-eq_default rows 0 past

-- ---- words of a part

module _ (levels : ℕ) (h : 1 ≤ levels) where
  -- a row has 64 leaves for each of its words
  row_words_lem : 2 ^ row_levels levels ≡ row_words levels * 64
  row_words_lem = let e : row_levels levels ≡ (row_levels levels - 6) + 6 = omega arith in ap (λ (n : ℕ). 2 ^ n) e
      ∙ pow-add 2 (row_levels levels - 6) 6

  module _ (part count : ℕ) (f : ℕ → Bool) {old new : List ℕ} (c : Filled levels part count f old new) where
    -- the leaves of a part that is filled
    filled_leaf : (n i : ℕ) → n < count → i < 2 ^ row_levels levels → leaf_of (row_words levels) new (part + n) i
        ≡ f (2 ^ row_levels levels * n + i)
    unfolding leaf_of
    filled_leaf n i l u =
        let words = row_words levels in
        let inside : words * n + i / 64 < words * count =
        omega (arith, row_words_lem, mul-le-mul_left words l, mul-suc words n) in
        let place : words * (part + n) + i / 64 ≡ words * part + (words * n + i / 64) =
        omega (arith, mul-add words part n) in
        let leaf : 64 * (words * n + i / 64) + i % 64 ≡ 2 ^ row_levels levels * n + i =
        omega (arith, ap (λ (k : ℕ). k * n) (row_words_lem ∙ mul_comm words 64), mul_assoc 64 words n) in
        ap (λ k. bit (get_or new k 0) (i % 64)) place ∙ c.set (words * n + i / 64) inside (i % 64) (omega arith)
        ∙ ap f leaf

    -- the leaves of every other part are as they were
    kept_leaf : (t i : ℕ) → (part ≤ t → part + count ≤ t) → i < 2 ^ row_levels levels
        → leaf_of (row_words levels) new t i ≡ leaf_of (row_words levels) old t i
    unfolding leaf_of
    kept_leaf t i o u = ap (λ x. bit x (i % 64)) (c.kept (row_words levels * t + i / 64) (λ q. go q (dec_lt t part)))
      where
        go : row_words levels * part ≤ row_words levels * t + i / 64 → Dec (t < part)
            → row_words levels * part + row_words levels * count ≤ row_words levels * t + i / 64
        go q (yes l) = absurd (omega (
          arith,
          row_words_lem,
          mul-le-mul_left (row_words levels) l,
          mul-suc (row_words levels) t,
        ))
        go q (no l) = omega (
          arith,
          mul-le-mul_left (row_words levels) (o (omega arith)),
          mul-add (row_words levels) part count,
        )

  -- ---- constant after constant

  module _ (named : ℕ) (constants : List ℕ) where
    pub parts_none : (table : List ℕ) → ConstantParts levels named named constants table table
    parts_none table = record {
      set = λ c i t e. absurd (true≢false (sym (is_true (bit named c) t) ∙ e));
      kept =
          λ t i l u. refl;
    }

    -- one more: that of constant c, which is taken out of the rest
    pub parts_more : (rest rest' c : ℕ) {old mid new : List ℕ} → ((k : ℕ) → bit rest' k ≡ (bit rest k && not (eqb k c)))
        → Filled levels (32 + c) 1 (constant_leaf levels (get_or constants c 0)) mid new
        → ConstantParts levels named rest constants old mid → ConstantParts levels named rest' constants old new
    parts_more rest rest' c {old} {mid} {new} out F P = record {
      set = λ j i t e u. go j i t e u (ℕ_discrete j c);
      kept = λ t i l u. kept_leaf (32 + c) 1 (constant_leaf levels (get_or constants c 0)) F t i
          (λ q. absurd (omega arith)) u ∙ P.kept t i l u;
    }
      where
        go : (j i : ℕ) → T (bit named j) → bit rest' j ≡ false → i < 2 ^ row_levels levels → Dec (j ≡ c)
            → leaf_of (row_words levels) new (32 + j) i ≡ constant_leaf levels (get_or constants j 0) i
        go j i t e u (yes q) =
            rw q (ap (λ t. leaf_of (row_words levels) new t i) (sym (add-zero (32 + c)))
            ∙ filled_leaf (32 + c) 1 (constant_leaf levels (get_or constants c 0)) F 0 i (omega arith) u
            ∙ ap (constant_leaf levels (get_or constants c 0)) {x = 2 ^ row_levels levels * 0 + i} (omega arith))
        go j i t e u (no n) =
            kept_leaf (32 + c) 1 (constant_leaf levels (get_or constants c 0)) F (32 + j) i (λ q. omega arith) u
            ∙ P.set j i t (sym (rw (out j, ne_eqb j c n) (and-true (bit rest j))) ∙ e) u

  -- ---- an empty table, once the rows, the part that is always full and the constants are put into it

  pub unfolded_all : (rows constants : List ℕ) (named : ℕ) {blank with_rows with-full table : List ℕ}
      → length rows ≡ answer_bytes levels
      → ((k : ℕ) → get_or blank k 0 ≡ 0)
      → Filled levels 0 row_count (row_leaf rows) blank with_rows
      → Filled levels full_part 1 (λ i. true) with_rows with-full
      → ConstantParts levels named 0 constants with-full table → Unfolded levels rows constants named table
  unfolding leaf_of
  unfolded_all rows constants named {blank} {with_rows} {with-full} {table} size none r f c = record {
    variable = λ v i l u. later v i (omega arith) u ∙ ap (λ t. leaf_of (row_words levels) with_rows t i) (omega arith)
        ∙ filled_leaf 0 row_count (row_leaf rows) r v i l u
        ∙ sym (part_leaf (row_levels levels) (omega arith) rows v i l (omega arith) u);
    empty = λ i u. later empty_part i (omega arith) u
        ∙ kept_leaf 0 row_count (row_leaf rows) r empty_part i (λ q. omega arith) u
        ∙ blank_leaf empty_part i;
    full = λ i u. c.kept full_part i (omega arith) u ∙ filled_leaf full_part 1 (λ i. true) f 0 i (omega arith) u;
    constant = λ n i t u. c.set n i t (bit_zero n) u;
  }
    where
      -- a part before the one that is always full
      later : (t i : ℕ) → t < full_part → i < 2 ^ row_levels levels
          → leaf_of (row_words levels) table t i ≡ leaf_of (row_words levels) with_rows t i
      later t i l u = c.kept t i (omega arith) u ∙ kept_leaf full_part 1 (λ i. true) f t i (λ q. absurd (omega arith)) u

      blank_leaf : (t i : ℕ) → leaf_of (row_words levels) blank t i ≡ false
      blank_leaf t i = ap (λ x. bit x (i % 64)) (none (row_words levels * t + i / 64)) ∙ bit_zero (i % 64)

-- ---- the test of a join, a word at a time

-- leaf i of word w
pub leaf_word : (words : ℕ) (table : List ℕ) (t w i : ℕ) → i < 64
    → leaf_of words table t (64 * w + i) ≡ bit (get_or table (words * t + w) 0) i
unfolding leaf_of
leaf_word words table t w i l = ap₂ (λ q r. bit (get_or table (words * t + q) 0) r) (omega arith) (omega arith)

module _ (words : ℕ) (table : List ℕ) (j : LeafJoin) (w : ℕ) (p : PartWords) (P : WordsOf words table j w p) where
  -- at the leaves of a word the test comes out as it does at the bits of the words of its parts
  pub join_bits : (i : ℕ) → i < 64 → test_way j.form (bit p.first i) (bit p.second i) (bit p.sum i)
      ≡ join_way words table j (64 * w + i)
  join_bits i l =
      rw (
        P.0,
        P.1,
        P.2,
        leaf_word words table j.first w i l,
        leaf_word words table j.second w i l,
        leaf_word words table j.sum w i l,
      ) refl

module _ (f : ℕ → Bool) (w x : ℕ) (bits : WordOf f w x) where
  -- where the leaves of the first w words pass and word w is full, those of one word more pass
  pub every_word : every_below (64 * w) f ≡ true → x ≡ 2 ^ 64 - 1 → every_below (64 * (w + 1)) f ≡ true
  every_word before e = is_true (every_below (64 * (w + 1)) f)
      (every_intro (64 * (w + 1)) f (λ i l. go i l (dec_lt i (64 * w))))
    where
      go : (i : ℕ) → i < 64 * (w + 1) → Dec (i < 64 * w) → T (f i)
      go i l (yes m) = every_at (64 * w) f (of_true before) i m
      go i l (no m) =
          let here : 64 * w + (i - 64 * w) ≡ i = omega arith in
          of_true (ap f (sym here) ∙ sym (bits (i - 64 * w) (omega arith)) ∙ ap (λ y. bit y (i - 64 * w)) e
          ∙ bit_ones 64 (i - 64 * w) (omega arith))

  -- where it is not full, the lowest leaf that fails is at the lowest bit of the word that is not set
  module _ (before : every_below (64 * w) f ≡ true) (fits : x < 2 ^ 64) (other : x ≡ 2 ^ 64 - 1
      → ⊥) (n : ℕ) (l : w < n) where
    abbrev y : ℕ
    y = (2 ^ 64 - 1) - x

    abbrev r : ℕ
    r = first_below 64 (bit y)

    r_lt : r < 64
    r_lt = lowest_lt y (omega arith) (λ e. other (omega arith))

    fails : (i : ℕ) → i < 64 → bit y i ≡ not (f (64 * w + i))
    fails i m = not_bits x i (f (64 * w + i)) fits m (bits i m)

    pub first_word : first_below (64 * n) (λ i. not (f i)) ≡ 64 * w + r
    first_word =
        first_is (64 * n) (λ i. not (f i)) (64 * w + r) (omega (arith, r_lt)) (λ i m. below i m (dec_lt i (64 * w)))
        (sym (fails r r_lt) ∙ is_true (bit y r) (first_below_lem 64 (bit y) r_lt))
      where
        below : (i : ℕ) → i < 64 * w + r → Dec (i < 64 * w) → not (f i) ≡ false
        below i m (yes u) = ap not (is_true (f i) (every_at (64 * w) f (of_true before) i u))
        below i m (no u) =
            let here : 64 * w + (i - 64 * w) ≡ i = omega arith in
            ap (λ j. not (f j)) (sym here) ∙ sym (fails (i - 64 * w) (omega (arith, r_lt)))
            ∙ is_false (bit y (i - 64 * w)) (first_least 64 (bit y) (i - 64 * w) (omega arith))

    pub first_not_last : eqb (first_below (64 * n) (λ i. not (f i))) (64 * n) ≡ false
    first_not_last = ne_eqb _ (64 * n) (λ e. omega (arith, first_word, r_lt))
