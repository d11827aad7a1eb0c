-- Writing the text of a block: a leaf's sign, or both halves between brackets. Assumes nothing.
use mathlib.Core.Path.{◌≡◌, refl, sym, ap, ◌∙◌}
use mathlib.Core.Bool.{Bool, true, false}
use mathlib.Core.List.{List, [], ◌∷◌, ◌++◌}
use mathlib.Core.Logic.{◌↔◌}
use Prim.Native.Nat.{ℕ, suc, ◌+◌, ◌-◌, ◌*◌, ◌^◌, ◌≤◌, ◌<◌}
use native.Mathlib.Numerals.{add-one}
use native.Mathlib.Omega.{arith}
use lib.Dec.{T}
use lib.ListN.{length, get_or, drop, set, length-append, length-set}
use lib.Pow.{pow_pos}
use lib.Seq.{sets, length-sets, sets-eq}
use Rattle.shares.specs.Test.{of_true}
use Rattle.shares.specs.NumberLaws.{halved}
use Rattle.shares.specs.Tree.{Tree, leaf, pair}
use Rattle.shares.specs.Text.{sign, text}
use Rattle.rows.specs.Blocks.{Inside, block_tree, AllLeaves}
use Rattle.rows.proofs.BlockLaws.{block_leaf_iff, block_pair}
use Rattle.text.specs.Put.{Put}

-- ---- texts

leaf_first : (v : Bool) → sign v ≡ get_or (text (leaf v)) 0 0
unfolding text
leaf_first v = refl

pair_first : (t : Tree) → ((v : Bool) → t ≡ leaf v → ⊥) → 0x28 ≡ get_or (text t) 0 0
unfolding text
pair_first (leaf v) n = absurd (n v refl)
pair_first (pair l r) n = refl

-- a bracket is no leaf's, and any other sign is the whole text
no_leaf : (v : Bool) → 0x28 ≡ get_or (text (leaf v)) 0 0 → ⊥
unfolding text
no_leaf true e = omega arith
no_leaf false e = omega arith

alone : (t : Tree) (s : ℕ) → s ≡ get_or (text t) 0 0 → (s ≡ 0x28 → ⊥) → text t ≡ s ∷ []
unfolding text
alone (leaf v) s e n = rw e
alone (pair l r) s e n = absurd (n e)

text_some : (t : Tree) → 0 < length (text t)
unfolding text
text_some (leaf v) = omega arith
text_some (pair l r) = omega arith

pair_length : (l r : Tree) → length (text (pair l r)) ≡ 2 + length (text l) + length (text r)
unfolding text
pair_length l r = rw (length-append (text l) (text r ++ (0x29 ∷ [])), length-append (text r) (0x29 ∷ [])) (omega arith)

-- ---- bytes put one after the other

sets_append : (l : List ℕ) (i : ℕ) (xs ys : List ℕ) → sets l i (xs ++ ys) ≡ sets (sets l i xs) (i + length xs) ys
sets_append l i [] ys = let e : i + 0 ≡ i = omega arith in rw e
sets_append l i (x ∷ xs) ys = let e : suc i + length xs ≡ i + suc (length xs) =
    omega arith in sets_append (set l i x) (suc i) xs ys ∙ rw e

pub put_length : {t before after : List ℕ} {at next : ℕ} → Put t before at next after → length after ≡ length before
put_length {t} {before} {after} {at} w = ap length w.bytes ∙ length-sets before at t

put_pair : (l r : Tree) (before mid after : List ℕ) (at m n : ℕ) → Put (text l) (set before at 0x28) (at + 1) m mid
    → Put (text r) mid m n after
    → Put (text (pair l r)) before at (n + 1) (set after n 0x29)
unfolding text
put_pair l r before mid after at m n a b =
    let close : List ℕ = 0x29 ∷ [] in
    let opened = set before at 0x28 in
    record {
      end = omega (arith, pair_length l r, a.end, b.end);
      bytes =
          sym
          (ap (λ (k : ℕ). sets opened k (text l ++ (text r ++ close))) (sym (add-one at))
          ∙ sets_append opened (at + 1) (text l) (text r ++ close)
          ∙ rw (← a.bytes, ← a.end) (sets_append mid m (text r) close ∙ rw (← b.bytes, ← b.end)));
    }

-- ---- the block, by the test of its leaves

module _ (row : List ℕ) (h q : ℕ) (inside : Inside h q (length row)) where
  tree : Tree
  tree = block_tree row h q

  left : Tree
  left = block_tree row (h - 1) (2 * q)

  right : Tree
  right = block_tree row (h - 1) (2 * q + 1)

  pub at_room : (at : ℕ) (buffer : List ℕ) → at + length (text (block_tree row h q)) ≤ length buffer
      → at < length buffer
  at_room at buffer room = omega (arith, text_some (block_tree row h q))

  -- its first sign, by the tests of its leaves
  pub first_leaf : (v t : Bool) → T t ↔ AllLeaves row h q v → t ≡ true → sign v ≡ get_or (text (block_tree row h q)) 0 0
  first_leaf v t test passed = rw ((block_leaf_iff row h q v).0 (test.0 (of_true passed))) (leaf_first v)

  pub first_pair : (t u : Bool) → T t ↔ AllLeaves row h q false → T u ↔ AllLeaves row h q true → t ≡ false → u ≡ false
      → 0x28 ≡ get_or (text (block_tree row h q)) 0 0
  first_pair t u none all not_None not-all = pair_first (block_tree row h q) mixed
    where
      mixed : (v : Bool) → block_tree row h q ≡ leaf v → ⊥
      mixed false e = rw not_None at (none.1 ((block_leaf_iff row h q false).1 e))
      mixed true e = rw not-all at (all.1 ((block_leaf_iff row h q true).1 e))

  module _ (s : ℕ) (first : s ≡ get_or (text (block_tree row h q)) 0 0) (other : s ≡ 0x28 → ⊥) where
    whole : text (block_tree row h q) ≡ s ∷ []
    whole = alone (block_tree row h q) s first other

    pub leaf_counted : (1 ≡ length (text (block_tree row h q))) × (3 ≤ 3 * 2 ^ h)
    leaf_counted = (sym (ap length whole), omega (arith, pow_pos h))

    pub leaf_put : (at : ℕ) (buffer : List ℕ) → Put (text (block_tree row h q)) buffer at (at + 1) (set buffer at s)
    leaf_put at buffer = record { end = rw whole; bytes = rw whole }

  module _ (s : ℕ) (first : s ≡ get_or (text (block_tree row h q)) 0 0) (bracket : s ≡ 0x28) where
    is_pair_lem : (0 < h) × (tree ≡ pair left right)
    unfolding tree left right
    is_pair_lem = block_pair row h q (λ v e. no_leaf v (rw (bracket, e) at first))

    pub above : 0 < h
    above = is_pair_lem.0

    halves_length : length (text tree) ≡ 2 + length (text left) + length (text right)
    halves_length = ap (λ t. length (text t)) is_pair_lem.1 ∙ pair_length left right

    pub pair_counted : (a b : ℕ) → (a ≡ length (text (block_tree row (h - 1) (2 * q)))) × (a + 2 ≤ 3 * 2 ^ (h - 1))
        → (b ≡ length (text (block_tree row (h - 1) (2 * q + 1)))) × (b + 2 ≤ 3 * 2 ^ (h - 1))
        → (2 + a + b ≡ length (text (block_tree row h q))) × (2 + a + b + 2 ≤ 3 * 2 ^ h)
    unfolding tree left right
    pair_counted a b ea eb = (omega (arith, halves_length), omega (arith, halved h above))

    module _ (buffer : List ℕ) (at : ℕ) (room : at + length (text (block_tree row h q)) ≤ length buffer) where
      pub left_room : at + 1 + length (text (block_tree row (h - 1) (2 * q))) ≤ length (set buffer at s)
      unfolding tree left right
      left_room = rw (length-set buffer at s) (omega (arith, halves_length))

      module _ (m : ℕ) (mid : List ℕ)
          (a : Put (text (block_tree row (h - 1) (2 * q))) (set buffer at s) (at + 1) m mid) where
        mid_length : length mid ≡ length buffer
        mid_length = put_length a ∙ length-set buffer at s

        pub right_room : m + length (text (block_tree row (h - 1) (2 * q + 1))) ≤ length mid
        unfolding tree left right
        right_room = omega (arith, mid_length, a.end, halves_length)

        module _ (n : ℕ) (after : List ℕ) (b : Put (text (block_tree row (h - 1) (2 * q + 1))) mid m n after) where
          pub last_room : n < length after
          unfolding tree left right
          last_room = omega (arith, put_length b, mid_length, a.end, b.end, halves_length)

          pub pair_put : Put (text (block_tree row h q)) buffer at (n + 1) (set after n 0x29)
          unfolding tree left right
          pair_put = rw is_pair_lem.1 (put_pair left right buffer mid after at m n (rw bracket at a) b)

-- put at the start of a buffer: the text, and then what was past it
pub put_first : (t buffer after : List ℕ) (n : ℕ) → length t ≤ length buffer → Put t buffer 0 n after → (n ≡ length t)
    × (after ≡ t ++ drop (length t) buffer)
put_first t buffer after n room w =
    let e : 0 + length t ≡ length t = omega arith in
    (w.end ∙ e, w.bytes ∙ sets-eq t buffer 0 (omega arith) ∙ ap (λ (k : ℕ). t ++ drop k buffer) e)
