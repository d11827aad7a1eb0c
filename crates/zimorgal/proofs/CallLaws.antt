-- Laws of the other calls' numbers: what they hold is read back from them, and what a join's stands for. Assumes
-- nothing.
use Rattle.std.specs.Prelude.{◌≡◌, refl, None, Some, Bool, true, false, not, cond, List, ◌⊎◌, ℕ, Result, Ok, Err, ◌+◌}
use Rattle.std.specs.Prelude.{◌*◌, ◌/◌, ◌%◌, ◌^◌, ◌≤◌, ◌<◌, T, length, take, drop}
use Rattle.std.proofs.Math.Path.{ap}
use Rattle.std.proofs.Common.{◌∙◌, inl, inr, arith, eq-eqb, ne_eqb}
use Rattle.std.proofs.Math.Option.{none, some}
use Rattle.shares.specs.Test.{is_true, is_false, passes}
use Rattle.shares.specs.Tree.{join}
use Rattle.shares.proofs.TreeLaws.{tree_of_folded, tree_of_height}
use Rattle.shares.specs.Text.{text}
use Rattle.shares.specs.Constant.{constant_levels, bit, number_tree, set_in_both}
use Rattle.shares.proofs.ConstantLaws.{sum_lt, join_numbers}
use Rattle.rows.specs.Rows.{row_levels, answer_bytes, row_of, row_range, row_part}
use Rattle.rows.specs.declared.Range.{Range}
use Rattle.rows.proofs.RowLaws.{row_tree_row_of, range_inside}
use Rattle.text.specs.declared.TextRefusal.{TextRefusal}
use Rattle.text.specs.Texts.{refusal_number, text_length, text_refusal, row_text, text_answer}
use Rattle.text.specs.TextLaws.{answer_length}
use Rattle.constants.specs.FromText.{constant_refusal, constant_given, from_text}
use Rattle.constants.specs.FromTextLaws.{written_read, read_written}
use Rattle.constants.specs.declared.NoConstant.{NoConstant}
use Rattle.zimorgal.specs.Calls.{range_number, text_number, constant_number, undefined_join, number_join}
use Rattle.zimorgal.specs.Joins.{join_number}

-- the offset and the length of the row call, and the bytes of that range, which are the part that is handed back
module _ (answer : List ℕ) (v : ℕ) (r : Range) (e : r ≡ row_range (row_levels constant_levels) (length answer) v) where
  pub range_small : r.offset + r.bytes ≤ answer_bytes constant_levels
  range_small = rw e (range_inside (row_levels constant_levels) (length answer) v).1

  low : range_number r % 2 ^ 32 ≡ r.offset
  low = omega (arith, range_small)

  high : range_number r / 2 ^ 32 ≡ r.bytes
  high = omega (arith, range_small)

  pub range_given : (n : ℕ) → n ≡ range_number r
      → record {
        range : n ≡ range_number (row_range (row_levels constant_levels) (length answer) v);
        offset : n % 2 ^ 32 ≡ (row_range (row_levels constant_levels) (length answer) v).offset;
        length : n / 2 ^ 32 ≡ (row_range (row_levels constant_levels) (length answer) v).bytes;
        part : take (n / 2 ^ 32) (drop (n % 2 ^ 32) answer) ≡ row_part (row_levels constant_levels) answer v;
      }
  unfolding row_part
  range_given n h = rw (h, low, high, e) (record { range = refl; offset = refl; length = refl; part = refl })

-- the length and the refusal number of the text call
pub text_reads_back : (row buffer : List ℕ)
    → (text_number (text_answer (row_levels constant_levels) row buffer) % 2 ^ 32
    ≡ text_length (text_answer (row_levels constant_levels) row buffer))
    × (text_number (text_answer (row_levels constant_levels) row buffer) / 2 ^ 32
    ≡ text_refusal (text_answer (row_levels constant_levels) row buffer))
text_reads_back row buffer = (
  omega (arith, answer_length (row_levels constant_levels) row buffer),
  omega (arith, answer_length (row_levels constant_levels) row buffer),
)

-- the constant and the refusal number of the constant call
pub constant_reads_back : (g : Result ℕ NoConstant) → constant_given g < 2 ^ 32
    → (constant_number g % 2 ^ 32 ≡ constant_given g) × (constant_number g / 2 ^ 32 ≡ constant_refusal g)
constant_reads_back g l = (omega arith, omega arith)

-- the text of a constant's row is the constant's, for every number of levels
module _ (levels n : ℕ) where
  constant_row_text : row_text (row_levels levels) (row_of (row_levels levels) (number_tree levels n))
      ≡ text (number_tree levels n)
  unfolding row_text
  constant_row_text =
      ap text
      (row_tree_row_of (row_levels levels) (omega arith) (number_tree levels n) (tree_of_folded levels (bit n))
      (omega (arith, tree_of_height levels (bit n))))

  -- so a constant that the text call writes and the constant call reads is itself
  pub row_read : n < 2 ^ (2 ^ levels)
      → from_text levels (row_text (row_levels levels) (row_of (row_levels levels) (number_tree levels n))) ≡ Ok n
  row_read l = ap (from_text levels) constant_row_text ∙ written_read levels n l

  -- and each text that the constant call accepts is what the text call writes
  pub row_written : (s : List ℕ) → from_text levels s ≡ Ok n
      → row_text (row_levels levels) (row_of (row_levels levels) (number_tree levels n)) ≡ s
  row_written s e = constant_row_text ∙ (read_written levels s n e).1

-- the number of a join, told by the numbers, stands for the join of their trees, for every number of levels
module _ (levels a b : ℕ) (ha : a < undefined_join levels) (hb : b < undefined_join levels) where
  pub join_told : (r : ℕ) → r ≡ cond (set_in_both (2 ^ levels) a b) (undefined_join levels) (a + b)
      → (r ≤ undefined_join levels) × (number_join levels r ≡ join (number_tree levels a) (number_tree levels b))
  join_told r e = go (passes (set_in_both (2 ^ levels) a b))
    where
      told : (s : Bool) → set_in_both (2 ^ levels) a b ≡ s
          → (r ≡ cond s (undefined_join levels) (a + b))
          × (join (number_tree levels a) (number_tree levels b) ≡ cond s none (some (number_tree levels (a + b))))
      told s h = rw (← h) (e, join_numbers levels a b ha hb)

      go : T (set_in_both (2 ^ levels) a b) ⊎ T (not (set_in_both (2 ^ levels) a b))
          → (r ≤ undefined_join levels) × (number_join levels r ≡ join (number_tree levels a) (number_tree levels b))
      go (inl t) = let (n, j) = told true (is_true _ t) in
          (omega arith, rw (eq-eqb r (undefined_join levels) n, j) refl)
      go (inr t) =
          let (n, j) = told false (is_false _ t) in
          let low : a + b < undefined_join levels = sum_lt (2 ^ levels) a b ha hb t in
          (omega arith, rw (ne_eqb r (undefined_join levels) (omega arith), j, n) refl)

-- ---- the cases

pub text_written : (w : Result ℕ TextRefusal) (n : ℕ) → w ≡ Ok n → n ≡ text_number w
text_written w n e = rw e (omega arith)

pub text_refused : (w : Result ℕ TextRefusal) (r : TextRefusal) (x : ℕ) → w ≡ Err r → x ≡ refusal_number r
    → 4294967296 * x ≡ text_number w
text_refused w r x e h = rw e (omega arith)

pub number_cases : (levels : ℕ) (s : Bool) (n : ℕ)
    → join_number levels (cond s None (Some n)) ≡ cond s (undefined_join levels) n
number_cases levels true n = refl
number_cases levels false n = refl
