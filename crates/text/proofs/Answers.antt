-- What writing the text of a whole row answers and leaves in the buffer, case by case. Assumes nothing.
use mathlib.Core.Path.{◌≡◌, sym, ap, ◌∙◌, subst}
use mathlib.Core.Bool.{Bool, true, false}
use mathlib.Core.List.{List}
use Rattle.std.specs.Prelude.{Ok, Err}
use Prim.Native.Nat.{ℕ, ◌+◌, ◌-◌, ◌≤◌, zero-le}
use native.Mathlib.Omega.{arith}
use borrow.Author.Tests.{eq-eqb, ne_eqb, leb-true}
use lib.Dec.{leb}
use lib.ListN.{length}
use lib.Pow.{pow_pos}
use Rattle.shares.specs.Constant.{bytes_at}
use Rattle.shares.specs.Text.{text}
use Rattle.rows.specs.Blocks.{Inside, block_tree}
use Rattle.rows.proofs.BlockLaws.{leaf_inside, block_row}
use Rattle.text.specs.Texts.{row_text, text_answer, text_after}
use Rattle.text.specs.Put.{Put}
use Rattle.text.specs.declared.TextRefusal.TheVariants.{TooLong, NotARow}
use Rattle.text.proofs.Steps.{put_first}

-- a whole row is one block
pub row_inside : (k n : ℕ) → 3 ≤ k → k ≤ 32 → n ≡ bytes_at k → Inside k 0 n
row_inside k n h l e =
    let z : k - 0 ≡ k = omega arith in
    subst (λ m. Inside m 0 n) z (subst (λ b. Inside (k - 0) 0 b) (sym e) (leaf_inside h l zero-le (pow_pos 0)))

pub row_text_lem : (k : ℕ) (row : List ℕ) → text (block_tree row k 0) ≡ row_text k row
unfolding row_text
row_text_lem k row = ap text (block_row row k)

module _ (k : ℕ) (row buffer : List ℕ) where
  module _ (whole : length row ≡ bytes_at k) (t : Bool) (test : t ≡ leb (length (row_text k row)) (length buffer)) where
    pub room : t ≡ true → 0 + length (text (block_tree row k 0)) ≤ length buffer
    room e = let l = leb-true (length (row_text k row)) (length buffer) (sym test ∙ e) in
        omega (arith, ap length (row_text_lem k row))

    pub written : t ≡ true → (n : ℕ) (after : List ℕ) → Put (text (block_tree row k 0)) buffer 0 n after
        → (Ok n ≡ text_answer k row buffer) × (after ≡ text_after k row buffer)
    unfolding text_answer text_after
    written e n after w =
        let (end, bytes) = put_first (row_text k row) buffer after n
        (leb-true (length (row_text k row)) (length buffer) (sym test ∙ e)) (rw (row_text_lem k row) at w) in (
          rw (eq-eqb (length row) (bytes_at k) whole, ← test, e, end),
          rw (eq-eqb (length row) (bytes_at k) whole, ← test, e) bytes,
        )

    pub too_long : t ≡ false → (Err TooLong ≡ text_answer k row buffer) × (buffer ≡ text_after k row buffer)
    unfolding text_answer text_after
    too_long e = (
      rw (eq-eqb (length row) (bytes_at k) whole, ← test, e),
      rw (eq-eqb (length row) (bytes_at k) whole, ← test, e),
    )

  pub not_a_row : (length row ≡ bytes_at k → ⊥) → (Err NotARow ≡ text_answer k row buffer)
      × (buffer ≡ text_after k row buffer)
  unfolding text_answer text_after
  not_a_row n = (rw (ne_eqb (length row) (bytes_at k) n), rw (ne_eqb (length row) (bytes_at k) n))
