-- Whether a tree is folded can be told. Assumes nothing.
use Rattle.std.specs.Prelude.{Bool, true, false, not, ◌&&◌, ◌↔◌, ◌≡◌, refl, T}
use Rattle.shares.specs.Test.{is_false, of_true, of_false, and_intro, and_left, and_right}
use Rattle.shares.specs.Tree.{Tree, leaf, pair, twins, Folded}

-- no pair of two equal leaves anywhere, as a test
unfoldable pub is_folded : Tree → Bool
is_folded (leaf b) = true
is_folded (pair l r) = not (twins l r) && (is_folded l && is_folded r)

pub folded_iff : (t : Tree) → T (is_folded t) ↔ Folded t
unfolding is_folded
folded_iff (leaf b) = (λ _. tt, λ _. tt)
folded_iff (pair l r) = (
  λ t.
      let halves = and_right (not (twins l r)) _ t in (
        is_false (twins l r) (and_left (not (twins l r)) _ t),
        (folded_iff l).0 (and_left (is_folded l) _ halves),
        (folded_iff r).0 (and_right (is_folded l) _ halves),
      ),
  λ (apart, fl, fr). and_intro (not (twins l r)) _ (of_false apart)
      (and_intro (is_folded l) _ ((folded_iff l).1 fl) ((folded_iff r).1 fr)),
)

pub dec_folded : (t : Tree) → Dec (Folded t)
dec_folded t = go (is_folded t) refl
  where
    go : (b : Bool) → is_folded t ≡ b → Dec (Folded t)
    go true e = yes ((folded_iff t).0 (of_true e))
    go false e = no (λ f. rw e at ((folded_iff t).1 f))
