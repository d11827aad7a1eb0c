-- A constant, written and read again, is itself, and each text that gives a constant is what writing gives: for every
-- number of levels. Assumes nothing.
use Rattle.std.specs.Prelude.{◌≡◌, Bool, List, ℕ, Result, Ok, Err, ◌^◌, ◌≤◌, ◌<◌, ltb, length}
use Rattle.std.proofs.Math.Path.{refl, sym, ap}
use Rattle.std.proofs.Common.{◌∙◌, arith, lt-ltb, le-ltb, ltb-false, pow_pos}
use Rattle.std.proofs.Math.Bool.{true, false, cond}
use Rattle.shares.specs.Tree.{Tree, Folded, height}
use Rattle.shares.proofs.TreeLaws.{tree_of_folded, tree_of_height}
use Rattle.shares.specs.Constant.{bit, number_tree, tree_number}
use Rattle.shares.proofs.ConstantLaws.{tree_number_lt, number_tree_number, tree_number_tree}
use Rattle.shares.specs.Text.{text, TreeText, longest_text}
use Rattle.shares.proofs.TextLaws.{text_length_lem}
use Rattle.constants.specs.StackLaws.{one_tree, is_tree_text}
use Rattle.constants.specs.FromText.{constant_refusal, constant_given, of_folding, from_tree, of_text, from_text}
use Rattle.constants.specs.FoldLaws.{dec_folded}
use Rattle.constants.specs.declared.NoConstant.{NoConstant}
use Rattle.constants.specs.declared.NoConstant.TheVariants.{NotTreeText, NotFolded, TooTall}

module _ (k : ℕ) (s : List ℕ) where
  pub text_long : longest_text k < length s → from_text k s ≡ Err NotTreeText
  unfolding from_text
  text_long l = rw (lt-ltb (longest_text k) (length s) l)

  pub text_none : ¬ TreeText s → from_text k s ≡ Err NotTreeText
  unfolding from_text
  text_none n = go (ltb (longest_text k) (length s)) (is_tree_text s)
    where
      go : (b : Bool) (d : Dec (TreeText s)) → cond b (Err NotTreeText) (of_text k d) ≡ Err NotTreeText
      go true d = refl
      go false (yes t) = absurd (n t)
      go false (no m) = refl

  pub text_tree : length s ≤ longest_text k → (t : Tree) → text t ≡ s → from_text k s ≡ from_tree k t
  unfolding from_text
  text_tree l t e = rw (le-ltb (longest_text k) (length s) l) (go (is_tree_text s))
    where
      go : (d : Dec (TreeText s)) → of_text k d ≡ from_tree k t
      go (yes (t', e')) = ap (from_tree k) (one_tree t' t (e' ∙ sym e))
      go (no n) = absurd (n (t, e))

-- ---- by the tests of a tree

module _ (k : ℕ) (t : Tree) where
  pub tree_not_folded : ¬ Folded t → from_tree k t ≡ Err NotFolded
  unfolding from_tree
  tree_not_folded n = go (dec_folded t)
    where
      go : (d : Dec (Folded t)) → of_folding k t d ≡ Err NotFolded
      go (no m) = refl
      go (yes f) = absurd (n f)

  tree_folded : Folded t → from_tree k t ≡ cond (ltb k (height t)) (Err TooTall) (Ok (tree_number k t))
  unfolding from_tree
  tree_folded f = go (dec_folded t)
    where
      go : (d : Dec (Folded t)) → of_folding k t d ≡ cond (ltb k (height t)) (Err TooTall) (Ok (tree_number k t))
      go (no n) = absurd (n f)
      go (yes g) = refl

  pub tree_tall : Folded t → k < height t → from_tree k t ≡ Err TooTall
  tree_tall f l = tree_folded f ∙ rw (lt-ltb k (height t) l)

  pub tree_constant : Folded t → height t ≤ k → from_tree k t ≡ Ok (tree_number k t)
  tree_constant f l = tree_folded f ∙ rw (le-ltb k (height t) l)

-- ---- written and read again

-- a constant, written and read again, is itself
pub written_read : (k n : ℕ) → n < 2 ^ (2 ^ k) → from_text k (text (number_tree k n)) ≡ Ok n
written_read k n h =
    let t = number_tree k n in
    text_tree k (text t) (text_length_lem k t (tree_of_height k (bit n))) t refl
    ∙ tree_constant k t (tree_of_folded k (bit n)) (tree_of_height k (bit n))
    ∙ ap Ok (number_tree_number k n h)

-- each text that gives a constant is what writing it gives
pub read_written : (k : ℕ) (s : List ℕ) (n : ℕ) → from_text k s ≡ Ok n → (n < 2 ^ (2 ^ k))
    × (text (number_tree k n) ≡ s)
unfolding from_text from_tree
read_written k s n e = by_text (ltb (longest_text k) (length s)) (is_tree_text s) e
  where
    Due : Type 0
    Due = (n < 2 ^ (2 ^ k)) × (text (number_tree k n) ≡ s)

    by_height : (t : Tree) → text t ≡ s → Folded t → (b : Bool) → ltb k (height t) ≡ b
        → cond b (Err TooTall) (Ok (tree_number k t)) ≡ Ok n → Due
    by_height t w f true eb e = absurd (omega (arith, ap constant_refusal e))
    by_height t w f false eb e =
        let same : tree_number k t ≡ n = ap constant_given e in (
          rw (← same) (tree_number_lt k t),
          ap (λ n. text (number_tree k n)) (sym same)
              ∙ ap text (tree_number_tree k t f (ltb-false k (height t) eb)) ∙ w,
        )

    by_folding : (t : Tree) → text t ≡ s → (d : Dec (Folded t)) → of_folding k t d ≡ Ok n → Due
    by_folding t w (no m) e = absurd (omega (arith, ap constant_refusal e))
    by_folding t w (yes f) e = by_height t w f _ refl e

    by_text : (b : Bool) (d : Dec (TreeText s)) → cond b (Err NotTreeText) (of_text k d) ≡ Ok n → Due
    by_text true d e = absurd (omega (arith, ap constant_refusal e))
    by_text false (no m) e = absurd (omega (arith, ap constant_refusal e))
    by_text false (yes (t, w)) e = by_folding t w (dec_folded t) e

-- what is given is a constant of so many levels
pub given_low : (k : ℕ) (s : List ℕ) → constant_given (from_text k s) < 2 ^ (2 ^ k)
given_low k s = go (from_text k s) refl
  where
    go : (g : Result ℕ NoConstant) → from_text k s ≡ g → constant_given g < 2 ^ (2 ^ k)
    go (Ok n) e = (read_written k s n e).0
    go (Err refusal) e = pow_pos (2 ^ k)
