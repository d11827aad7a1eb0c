-- Laws of the numbers that a stack is kept in, for every number of levels. Assumes nothing.
use Rattle.std.specs.Prelude.{◌≡◌, Bool, true, false, not, ◌&&◌, T, eqb, ltb, set}
use Rattle.std.proofs.Math.Path.{refl, sym, ap, subst}
use Rattle.std.proofs.Common.{◌∙◌, le_refl, lt_of_lt_of_le, get_or-set_same, get_or-set_other}
use Rattle.std.proofs.Math.Bool.{cond, and-true, and-false}
use Rattle.std.specs.Bool.{beq}
use Rattle.std.specs.Prelude as code
use mathlib.Core.List.{List, [], ◌∷◌}
use Rattle.std.proofs.Math.Option.{Option, none, some}
use Rattle.shares.specs.Test.{of_true, of_false}
use Prim.Native.Nat.{ℕ, suc, ◌+◌, ◌*◌, ◌-◌, ◌%◌, ◌^◌, ◌≤◌, ◌<◌}
use Rattle.std.proofs.Math.Nat.{mod-eq_of_lt, add-mod_left}
use Rattle.std.proofs.Math.Numerals.{add-one}
use native.Mathlib.Omega.{arith}
use borrow.Author.Tests.{eq-eqb, ne_eqb, lt-ltb, le-ltb}
use Rattle.std.proofs.Math.ListN.{length, get_or}
use Rattle.std.proofs.Math.Pow.{pow_pos, pow_mono}
use Rattle.shares.specs.Tree.{Tree, leaf, pair, twins, height}
use Rattle.shares.specs.Constant.{tree_number}
use Rattle.shares.proofs.ConstantLaws.{tree_number_lt, leaf_tree_number}
use Rattle.constants.specs.FoldLaws.{is_folded}
use Rattle.shares.specs.Text.{sign}
use Rattle.constants.specs.StackLaws.{onto_leaf, closed_law}
use Rattle.constants.specs.PairLaws.{pair_tree_number}
use Rattle.constants.specs.Stacks.{Item, bracket, tree, closed, onto, only, item_number, brackets, highest, all_folded}
use Rattle.constants.specs.Stacks.{Numbered, Stacked, Stepped, pair_item, equal_leaves, is_pair, leaf_scan, open_scan}
use Rattle.constants.specs.Stacks.{close_scan}
use Rattle.constants.specs.declared.Scan.{Scan}

-- ---- the number of a tree

module _ (levels k : ℕ) (low : k ≤ levels) where
  fits : (t : Tree) → tree_number k t < 2 ^ (2 ^ levels)
  fits t = lt_of_lt_of_le (tree_number_lt k t) (pow_mono (pow_mono low))

  pub tree_some : (t : Tree) → item_number levels k (tree t) ≡ 0 → ⊥
  unfolding item_number
  tree_some (leaf b) e = omega (arith, pow_pos (2 ^ levels))
  tree_some (pair l r) e = omega (arith, pow_pos (2 ^ levels))

  pub tree_leaves : (t : Tree) → item_number levels k (tree t) % 2 ^ (2 ^ levels) ≡ tree_number k t
  unfolding item_number
  tree_leaves (leaf b) = add-mod_left (2 ^ (2 ^ levels)) _ ∙ mod-eq_of_lt (fits (leaf b))
  tree_leaves (pair l r) =
      let w = 2 ^ (2 ^ levels) in
      let x = tree_number k (pair l r) in
      let e : 2 * w + x ≡ w + (w + x) = omega arith in
      ap (λ n. n % w) e ∙ add-mod_left w _ ∙ add-mod_left w _ ∙ mod-eq_of_lt (fits (pair l r))

  pub twins_items : (l r : Tree)
      → twins l r ≡ equal_leaves levels (item_number levels k (tree l)) (item_number levels k (tree r))
  unfolding twins equal_leaves item_number
  twins_items (leaf a) (leaf b) =
      rw (lt-ltb (2 ^ (2 ^ levels) + tree_number k (leaf a)) (2 * 2 ^ (2 ^ levels)) (omega (arith, fits (leaf a))))
      (go a b)
    where
      other : tree_number k (leaf true) ≡ tree_number k (leaf false) → ⊥
      other e = let two : 2 ≤ 2 ^ (2 ^ k) =
          pow_mono (pow_pos k) in omega (arith, sym (leaf_tree_number k true) ∙ e ∙ leaf_tree_number k false)

      go : (a b : Bool) → beq a b ≡ (eqb (2 ^ (2 ^ levels) + tree_number k (leaf a))
          (2 ^ (2 ^ levels) + tree_number k (leaf b)) && true)
      go true true = rw (eq-eqb (2 ^ (2 ^ levels) + tree_number k (leaf true)) _ refl)
      go false false = rw (eq-eqb (2 ^ (2 ^ levels) + tree_number k (leaf false)) _ refl)
      go true false = rw (ne_eqb (2 ^ (2 ^ levels) + tree_number k (leaf true))
          (2 ^ (2 ^ levels) + tree_number k (leaf false)) (λ e. other (omega arith)))
      go false true = rw (ne_eqb (2 ^ (2 ^ levels) + tree_number k (leaf false))
          (2 ^ (2 ^ levels) + tree_number k (leaf true)) (λ e. other (omega arith)))
  twins_items (leaf a) (pair l r) =
      rw (ne_eqb (2 ^ (2 ^ levels) + tree_number k (leaf a)) (2 * 2 ^ (2 ^ levels) + tree_number k (pair l r))
      (λ e. omega (arith, fits (leaf a))))
  twins_items (pair l r) t = go (eqb (2 * 2 ^ (2 ^ levels) + tree_number k (pair l r)) (item_number levels k (tree t)))
    where
      go : (b : Bool) → false ≡ (b && ltb (2 * 2 ^ (2 ^ levels) + tree_number k (pair l r)) (2 * 2 ^ (2 ^ levels)))
      go false = refl
      go true = sym (le-ltb (2 * 2 ^ (2 ^ levels) + tree_number k (pair l r)) (2 * 2 ^ (2 ^ levels)) (omega arith))

-- ---- what is kept stays, below what is put

kept_set : (levels : ℕ) (items : List ℕ) (σ : List Item) (i x : ℕ) → length σ ≤ i → Numbered levels items σ
    → Numbered levels (set items i x) σ
kept_set levels items [] i x l h = tt
kept_set levels items (y ∷ σ) i x l h =
    (get_or-set_other items i (length σ) x 0 (λ e. omega arith) ∙ h.0, kept_set levels items σ i x (omega arith) h.1)

pub brackets_few : (σ : List Item) → brackets σ ≤ length σ
unfolding brackets
brackets_few [] = omega arith
brackets_few (bracket ∷ σ) = omega (arith, brackets_few σ)
brackets_few (tree t ∷ σ) = omega (arith, brackets_few σ)

brackets_low : (σ : List Item) → brackets σ ≤ highest σ
unfolding brackets highest
brackets_low [] = omega arith
brackets_low (bracket ∷ σ) = omega arith
brackets_low (tree t ∷ σ) = omega (arith, brackets_low σ)

module _ (levels : ℕ) (items : List ℕ) (scan : Scan) (σ : List Item) (S : Stacked levels items scan σ) where
  put : (x : ℕ) (y : Item) → length σ < length items → x ≡ item_number levels (levels - brackets σ) y
      → Numbered levels (set items scan.top x) (y ∷ σ)
  put x y l e =
      subst (λ i. Numbered levels (set items i x) (y ∷ σ)) (sym S.top)
      (get_or-set_same items (length σ) x 0 l ∙ e, kept_set levels items σ (length σ) x (le_refl (length σ)) S.kept)

  pub shows_leaf : (b : Bool) (x : ℕ) → length σ < length items
      → x ≡ item_number levels (levels - brackets σ) (tree (leaf b))
      → Stacked levels (set items scan.top x) (leaf_scan scan) (tree (leaf b) ∷ σ)
  unfolding brackets highest all_folded height is_folded
  shows_leaf b x l e = record {
    top = rw S.top (add-one (length σ));
    pairs = S.pairs;
    highest = S.highest ∙ omega (arith, brackets_low σ);
    folded = S.folded;
    kept = put x (tree (leaf b)) l e;
  }

  pub shows_open : length σ < length items → Stacked levels (set items scan.top 0) (open_scan scan) (bracket ∷ σ)
  unfolding brackets highest all_folded item_number
  shows_open l = record {
    top = rw S.top (add-one (length σ));
    pairs = rw S.pairs (add-one (brackets σ));
    highest = rw (S.pairs, S.highest, add-one (brackets σ));
    folded = S.folded;
    kept = put 0 bracket l refl;
  }

-- ---- a pair is closed

module _ (levels : ℕ) (items : List ℕ) where
  short : (n : ℕ) → n < 3 → T (is_pair items n) → ⊥
  unfolding is_pair
  short n l t = rw (lt-ltb n 3 l) at t

  -- the test, where there are three items
  three : (n : ℕ) → is_pair items (suc (suc (suc n)))
      ≡ cond (eqb (get_or items (suc (suc n)) 0) 0) false
      (cond (eqb (get_or items (suc n) 0) 0) false (eqb (get_or items n 0) 0))
  unfolding is_pair
  three n =
      let a : suc (suc (suc n)) - 1 ≡ suc (suc n) = omega arith in
      let b : suc (suc (suc n)) - 2 ≡ suc n = omega arith in
      let c : suc (suc (suc n)) - 3 ≡ n = omega arith in
      rw (le-ltb (suc (suc (suc n))) 3 (omega arith), a, b, c)

  some_tree : (k n : ℕ) (t : Tree) → get_or items n 0 ≡ item_number levels (levels - k) (tree t)
      → eqb (get_or items n 0) 0 ≡ false
  some_tree k n t e = ne_eqb (get_or items n 0) 0 (λ z. tree_some levels (levels - k) (omega arith) t (sym e ∙ z))

  pub pair_there : (σ : List Item) → Numbered levels items σ → T (is_pair items (length σ)) → (r : Tree) × (l : Tree)
      × (ρ : List Item) × (σ ≡ tree r ∷ tree l ∷ bracket ∷ ρ)
  unfolding item_number
  pair_there [] h t = absurd (short 0 (omega arith) t)
  pair_there (x ∷ []) h t = absurd (short 1 (omega arith) t)
  pair_there (x ∷ y ∷ []) h t = absurd (short 2 (omega arith) t)
  pair_there (bracket ∷ y ∷ z ∷ ρ) h t =
      absurd (rw (three (length ρ), eq-eqb (get_or items (suc (suc (length ρ))) 0) 0 h.0) at t)
  pair_there (tree r ∷ bracket ∷ z ∷ ρ) h t =
      absurd (rw (
        three (length ρ),
        some_tree _ (suc (suc (length ρ))) r h.0,
        eq-eqb (get_or items (suc (length ρ)) 0) 0 h.1.0,
      ) at t)
  pair_there (tree r ∷ tree l ∷ tree u ∷ ρ) h t =
      absurd (rw (
        three (length ρ),
        some_tree _ (suc (suc (length ρ))) r h.0,
        some_tree _ (suc (length ρ)) l h.1.0,
        some_tree _ (length ρ) u h.1.1.0,
      ) at t)
  pair_there (tree r ∷ tree l ∷ bracket ∷ ρ) h t = (r, l, ρ, refl)

  pub no_pair : (σ : List Item) → Numbered levels items σ → T (not (is_pair items (length σ))) → closed σ ≡ none
  unfolding item_number
  no_pair σ h t = go (closed σ) refl
    where
      passes : (r l : Tree) (ρ : List Item) → σ ≡ tree r ∷ tree l ∷ bracket ∷ ρ → ⊥
      passes r l ρ is =
          let k = subst (Numbered levels items) is h in
          rw (
            is,
            three (length ρ),
            some_tree _ (suc (suc (length ρ))) r k.0,
            some_tree _ (suc (length ρ)) l k.1.0,
            eq-eqb (get_or items (length ρ) 0) 0 k.1.1.0,
          ) at t

      go : (o : Option (List Item)) → closed σ ≡ o → o ≡ none
      go none e = refl
      go (some τ) e = absurd (closed_law (λ _. ⊥) σ τ e passes)

folded_order : (n r l f : Bool) → ((r && (l && f)) && n) ≡ ((n && (l && r)) && f)
folded_order n false true f = rw (and-false n)
folded_order n false false f = rw (and-false n)
folded_order n true false f = rw (and-false n)
folded_order true true true f = and-true f
folded_order false true true f = and-false f

module _ (levels : ℕ) (items : List ℕ) (scan : Scan) (r l : Tree) (ρ : List Item)
    (S : Stacked levels items scan (tree r ∷ tree l ∷ bracket ∷ ρ)) where
  below : ℕ
  below = levels - suc (brackets ρ)

  module _ (x y : ℕ) (ex : x ≡ get_or items (scan.top - 2) 0) (ey : y ≡ get_or items (scan.top - 1) 0) where
    left_is : x ≡ item_number levels below (tree l)
    unfolding below brackets
    left_is = let e : scan.top - 2 ≡ suc (length ρ) = omega (arith, S.top) in ex ∙ ap (λ i. get_or items i 0) e
        ∙ S.kept.1.0

    right_is : y ≡ item_number levels below (tree r)
    unfolding below brackets
    right_is = let e : scan.top - 1 ≡ suc (suc (length ρ)) = omega (arith, S.top) in ey ∙ ap (λ i. get_or items i 0) e
        ∙ S.kept.0

    leaves_are : (v : ℕ) (t : Tree) → v ≡ item_number levels below (tree t) → v % 2 ^ (2 ^ levels) ≡ tree_number below t
    unfolding below
    leaves_are v t e = ap (λ n. n % 2 ^ (2 ^ levels)) e ∙ tree_leaves levels below (omega arith) t

    level : (k : ℕ) → k ≡ levels - (scan.pairs - 1) → (k ≡ levels - brackets ρ) × (k - 1 ≡ below)
    unfolding below brackets
    level k e = (omega (arith, S.pairs), omega (arith, S.pairs))

    pub close_room : (k : ℕ) → k ≡ levels - (scan.pairs - 1) → (x % 2 ^ (2 ^ levels) < 2 ^ (2 ^ (k - 1)))
        × (y % 2 ^ (2 ^ levels) < 2 ^ (2 ^ (k - 1)))
    close_room k e = rw (leaves_are x l left_is, leaves_are y r right_is, (level k e).1) (
      tree_number_lt below l,
      tree_number_lt below r,
    )

    pub shows_close : (k : ℕ) → k ≡ levels - (scan.pairs - 1) → suc (suc (suc (length ρ))) ≤ length items
        → Stacked levels (set items (scan.top - 2 - 1) (pair_item levels k x y))
        (close_scan (equal_leaves levels x y) scan) (tree (pair l r) ∷ ρ)
    unfolding below brackets highest all_folded height is_folded pair_item item_number
    shows_close k ek room = record {
      top = omega (arith, S.top);
      pairs = omega (arith, S.pairs);
      highest = S.highest ∙ omega arith;
      folded =
          rw (S.folded, left_is, right_is, ← (twins_items levels below (omega arith) l r))
          (folded_order (not (twins l r)) (is_folded r) (is_folded l) (all_folded ρ));
      kept =
          let at : scan.top - 2 - 1 ≡ length ρ = omega (arith, S.top) in
          let v = pair_item levels k x y in
          let is : v ≡ 2 * 2 ^ (2 ^ levels) + tree_number (levels - brackets ρ) (pair l r) =
          rw (leaves_are x l left_is, leaves_are y r right_is, ← (level k ek).1, ← (level k ek).0)
          (ap (λ n. 2 * 2 ^ (2 ^ levels) + n) (sym (pair_tree_number k l r))) in
          subst (λ i. Numbered levels (set items i v) (tree (pair l r) ∷ ρ)) (sym at) (
            get_or-set_same items (length ρ) v 0 (omega arith) ∙ is,
            kept_set levels items ρ (length ρ) v (le_refl (length ρ)) S.kept.1.1.1,
          );
    }

-- ---- by the test of a pair

module _ (levels : ℕ) (items : List ℕ) (scan : Scan) (σ : List Item) (S : Stacked levels items scan σ) (t : Bool)
    (e : t ≡ is_pair items scan.top) where
  tested : t ≡ is_pair items (length σ)
  tested = e ∙ ap (is_pair items) S.top

  pub pair_shape : t ≡ true → (r : Tree) × (l : Tree) × (ρ : List Item) × (σ ≡ tree r ∷ tree l ∷ bracket ∷ ρ)
  pair_shape y = pair_there levels items σ S.kept (of_true (sym tested ∙ y))

  pub pair_sizes : t ≡ true → (3 ≤ scan.top) × (1 ≤ scan.pairs)
  unfolding brackets
  pair_sizes y =
      let (r, l, ρ, is) = pair_shape y in
      let pairs : scan.pairs ≡ suc (brackets ρ) = S.pairs ∙ ap brackets is in
      (omega (arith, S.top ∙ ap length is), omega arith)

  pub steps_stop : t ≡ false → onto 0x29 σ ≡ none
  unfolding onto
  steps_stop n = no_pair levels items σ S.kept (of_false (sym tested ∙ n))

  module _ (yes-pair : t ≡ true) (x y : ℕ) (ex : x ≡ get_or items (scan.top - 2) 0)
      (ey : y ≡ get_or items (scan.top - 1) 0) (k : ℕ) (ek : k ≡ levels - (scan.pairs - 1)) where
    pub halves_room : (x % 2 ^ (2 ^ levels) < 2 ^ (2 ^ (k - 1))) × (y % 2 ^ (2 ^ levels) < 2 ^ (2 ^ (k - 1)))
    halves_room = let (r, l, ρ, is) =
        pair_shape yes-pair in close_room levels items scan r l ρ (subst (Stacked levels items scan) is S) x y
        ex ey k ek

    pub steps_close : length σ ≤ length items
        → (τ : List Item) × (onto 0x29 σ ≡ some τ)
        × Stacked levels (set items (scan.top - 2 - 1) (pair_item levels k x y))
        (close_scan (equal_leaves levels x y) scan) τ
    unfolding onto closed
    steps_close room =
        let (r, l, ρ, is) = pair_shape yes-pair in (
          tree (pair l r) ∷ ρ,
          ap closed is,
          shows_close levels items scan r l ρ (subst (Stacked levels items scan) is S) x y ex ey k ek (rw is at room),
        )

-- ---- the end of a text

module _ (levels : ℕ) (items : List ℕ) (scan : Scan) (σ : List Item) (S : Stacked levels items scan σ) where
  pub not_alone : (scan.top ≡ 1 → ⊥) → only (some σ) ≡ none
  not_alone n = go σ (λ e. n (S.top ∙ e))
    where
      go : (σ : List Item) → (length σ ≡ 1 → ⊥) → only (some σ) ≡ none
      go [] n = refl
      go (bracket ∷ σ) n = refl
      go (tree t ∷ []) n = absurd (n refl)
      go (tree t ∷ x ∷ σ) n = refl

  pub bracket_alone : (x : ℕ) → x ≡ get_or items 0 0 → scan.top ≡ 1 → x ≡ 0 → only (some σ) ≡ none
  unfolding item_number brackets
  bracket_alone x e one z = go σ S.kept (sym S.top ∙ one)
    where
      go : (σ : List Item) → Numbered levels items σ → length σ ≡ 1 → only (some σ) ≡ none
      go [] h n = refl
      go (bracket ∷ σ) h n = refl
      go (tree t ∷ []) h n = absurd (tree_some levels (levels - 0) (omega arith) t (sym h.0 ∙ sym e ∙ z))
      go (tree t ∷ x ∷ σ) h n = refl

  pub tree_alone : (x : ℕ) → x ≡ get_or items 0 0 → scan.top ≡ 1 → (x ≡ 0 → ⊥)
      → (t : Tree) × (only (some σ) ≡ some t) × (x % 2 ^ (2 ^ levels) ≡ tree_number levels t)
      × (scan.highest ≡ height t) × (scan.folded ≡ is_folded t)
  unfolding item_number brackets highest all_folded
  tree_alone x e one n = go σ S.kept (sym S.top ∙ one) S.highest S.folded
    where
      go : (σ : List Item) → Numbered levels items σ → length σ ≡ 1 → scan.highest ≡ highest σ
          → scan.folded ≡ all_folded σ
          → (t : Tree) × (only (some σ) ≡ some t) × (x % 2 ^ (2 ^ levels) ≡ tree_number levels t)
          × (scan.highest ≡ height t) × (scan.folded ≡ is_folded t)
      go [] h l hh hf = absurd (omega arith)
      go (bracket ∷ []) h l hh hf = absurd (n (e ∙ h.0))
      go (tree t ∷ []) h l hh hf =
          let z : levels - 0 ≡ levels = omega arith in (
            t,
            refl,
            ap (λ m. m % 2 ^ (2 ^ levels)) (e ∙ h.0) ∙ tree_leaves levels (levels - 0) (omega arith) t
                ∙ ap (λ k. tree_number k t) z,
            omega arith,
            hf ∙ and-true (is_folded t),
          )
      go (y ∷ z ∷ σ) h l hh hf = absurd (omega arith)

-- ---- a sign more, by its tests

module _ (levels : ℕ) (items : List ℕ) (scan : Scan) (σ : List Item) (S : Stacked levels items scan σ)
    (room : length σ < length items) (x : ℕ) where
  pub steps_open : x ≡ 0x28 → (τ : List Item) × (onto x σ ≡ some τ)
      × Stacked levels (set items scan.top 0) (open_scan scan) τ
  unfolding onto
  steps_open e = (bracket ∷ σ, rw (eq-eqb x 0x28 e), shows_open levels items scan σ S room)

  pub steps_leaf : (b : Bool) (n : ℕ) → x ≡ sign b → n ≡ cond b (2 ^ (2 ^ (levels - scan.pairs)) - 1) 0
      → (τ : List Item) × (onto x σ ≡ some τ)
      × Stacked levels (set items scan.top (2 ^ (2 ^ levels) + n)) (leaf_scan scan) τ
  unfolding item_number
  steps_leaf b n e en = (
    tree (leaf b) ∷ σ,
    ap (λ y. onto y σ) e ∙ onto_leaf b σ,
    shows_leaf levels items scan σ S b (2 ^ (2 ^ levels) + n) room
        (ap (λ m. 2 ^ (2 ^ levels) + m) (en ∙ ap (λ p. cond b (2 ^ (2 ^ (levels - p)) - 1) 0) S.pairs
        ∙ sym (leaf_tree_number (levels - brackets σ) b))),
  )

pub onto_other : (x : ℕ) (σ : List Item) → (x ≡ 0x28 → ⊥) → (x ≡ 0x6F → ⊥) → (x ≡ 0x2A → ⊥) → (x ≡ 0x29 → ⊥)
    → onto x σ ≡ none
unfolding onto
onto_other x σ a b c d = rw (ne_eqb x 0x28 a, ne_eqb x 0x6F b, ne_eqb x 0x2A c, ne_eqb x 0x29 d)

-- what a sign gives, by equal numbers
pub steps_same : (levels x : ℕ) (σ : List Item) (i j : List ℕ) {f g : code.Option Scan} → i ≡ j → f ≡ g
    → Stepped levels j x σ g → Stepped levels i x σ f
steps_same levels x σ i j {f} {g} d e h =
    subst (λ k. Stepped levels k x σ f) (sym d) (subst (λ r. Stepped levels j x σ r) (sym e) h)

-- before the first sign
pub none_yet : {levels : ℕ} {items : List ℕ}
    → Stacked levels items (record { top = 0; pairs = 0; highest = 0; folded = true }) []
unfolding brackets highest all_folded
none_yet = record { top = refl; pairs = refl; highest = refl; folded = refl; kept = tt }
