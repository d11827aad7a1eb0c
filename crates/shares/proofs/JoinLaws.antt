-- Laws of the join, each for every height: the join and its negation leaf by leaf, and when it is undefined. Assumes
-- nothing.
use Rattle.std.specs.Prelude.{◌≡◌, refl, Bool, true, false, not, cond, ◌&&◌, ◌↔◌, ◌⊎◌, ℕ, ◌^◌, ◌≤◌, ◌<◌, max, T}
use Rattle.std.proofs.Common.{sym, ap, ap₂, ◌∙◌, inl, inr, zero-le, le_refl, T_not}
use Rattle.std.proofs.Math.Option.{Option, none, some, get_or, some-injective, some-ne-none, none-ne-some}
use Rattle.std.proofs.Math.Nat.{max-le, le-max_left, le-max_right}
use Rattle.std.proofs.Math.Dec.{not_T}
use Rattle.shares.specs.Test.{passes, is_false, same_test, cond_passed, cond_failed, cond_law}
use Rattle.shares.specs.Below.{every_below}
use Rattle.shares.specs.BelowLaws.{Below, every_at, every_intro, every_ext, every_or, fails_iff}
use Rattle.shares.specs.Blocks.{block_of, first_of}
use Rattle.shares.specs.BlockLaws.{block_lt, first_lt, block_first}
use Rattle.shares.specs.Tree.{Tree, leaf, Folded, height, leaf_at, tree_of, join_leaf, defined, tree_if, join_at, join}
use Rattle.shares.specs.Tree.{is_way, leaf_test}
use Rattle.shares.specs.declared.Way.TheVariants.{Holds}
use Rattle.shares.proofs.WayLaws.{way_iff, is_way_iff, apart_iff}
use Rattle.shares.proofs.TreeLaws.{leaf_at_leaf, equal_iff, leaf_at_tree_of, tree_of_folded, tree_of_height}
use Rattle.shares.proofs.TreeLaws.{tree_of_ext, tree_of_leaf_at, tree_of_blocks, blocks}

-- ---- one leaf

-- it is undefined for full with full alone
overlap : (x y : Bool) → not (defined (join_leaf x y)) ≡ (x && y)
unfolding join_leaf
overlap true true = refl
overlap true false = refl
overlap false true = refl
overlap false false = refl

-- ---- 2 ^ k leaves that may be undefined

some_get_d : (o : Option Bool) → T (defined o) → o ≡ some (get_or o false)
some_get_d none t = absurd t
some_get_d (some b) t = refl

defined_some : {o : Option Bool} {b : Bool} → o ≡ some b → T (defined o)
defined_some e = rw e tt

tree_if_iff : (k : ℕ) (f : ℕ → Option Bool) (c : Tree) → Folded c → height c ≤ k
    → (tree_if k f ≡ some c) ↔ ((i : ℕ) → i < 2 ^ k → f i ≡ some (leaf_at k c i))
unfolding tree_if
tree_if_iff k f c fc hc = (only (passes every), back)
  where
    every : Bool
    every = every_below (2 ^ k) (λ i. defined (f i))

    g : ℕ → Bool
    g i = get_or (f i) false

    only : T every ⊎ T (not every) → cond every (some (tree_of k g)) none ≡ some c → (i : ℕ) → i < 2 ^ k
        → f i ≡ some (leaf_at k c i)
    only (inl t) e i h =
        let q : tree_of k g ≡ c = some-injective _ _ (sym (cond_passed every _ none t) ∙ e) in
        some_get_d (f i) (every_at (2 ^ k) (λ i. defined (f i)) t i h)
        ∙ ap some (sym (leaf_at_tree_of k g i h) ∙ ap (λ t. leaf_at k t i) q)
    only (inr t) e i h = absurd (none-ne-some c (sym (cond_failed every (some (tree_of k g)) none t) ∙ e))

    back : ((i : ℕ) → i < 2 ^ k → f i ≡ some (leaf_at k c i)) → cond every (some (tree_of k g)) none ≡ some c
    back e =
        cond_passed every _ none (every_intro (2 ^ k) _ (λ i h. defined_some (e i h)))
        ∙ ap some (tree_of_ext k g (leaf_at k c) (λ i h. ap (λ o. get_or o false) (e i h)) ∙ tree_of_leaf_at k c fc hc)

tree_if_none_iff : (k : ℕ) (f : ℕ → Option Bool) → (tree_if k f ≡ none) ↔ Below (2 ^ k) (λ i. not (defined (f i)))
unfolding tree_if
tree_if_none_iff k f = (only (every_or (2 ^ k) (λ i. defined (f i))), back)
  where
    every : Bool
    every = every_below (2 ^ k) (λ i. defined (f i))

    only : ((i : ℕ) → i < 2 ^ k → T (defined (f i))) ⊎ Below (2 ^ k) (λ i. not (defined (f i)))
        → cond every (some (tree_of k (λ i. get_or (f i) false))) none ≡ none → Below (2 ^ k) (λ i. not (defined (f i)))
    only (inl h) e = absurd (some-ne-none _ (sym (cond_passed every _ none (every_intro (2 ^ k) _ h)) ∙ e))
    only (inr b) e = b

    back : Below (2 ^ k) (λ i. not (defined (f i))) → cond every (some (tree_of k (λ i. get_or (f i) false))) none
        ≡ none
    back (i, l, t) = cond_failed every _ none
        (not_T every (λ u. T_not (defined (f i)) t (every_at (2 ^ k) (λ i. defined (f i)) u i l)))

tree_if_ext : (k : ℕ) (f g : ℕ → Option Bool) → ((i : ℕ) → i < 2 ^ k → f i ≡ g i) → tree_if k f ≡ tree_if k g
unfolding tree_if
tree_if_ext k f g e =
    ap₂ (λ (v : Bool) (t : Tree). cond v (some t) none)
    (every_ext (2 ^ k) _ _ (λ i h. ap defined (e i h)))
    (tree_of_ext k _ _ (λ i h. ap (λ o. get_or o false) (e i h)))

-- a test of every leaf, and of every block of leaves that repeats one
every_blocks : (h w : ℕ) (p : ℕ → Bool) → h ≤ w → every_below (2 ^ w) (λ i. p (block_of h w i)) ≡ every_below (2 ^ h) p
every_blocks h w p le =
    same_test (every_below (2 ^ w) (λ i. p (block_of h w i))) (every_below (2 ^ h) p)
    (λ t. every_intro (2 ^ h) p (λ b l.
    rw (block_first h w b) at (every_at (2 ^ w) (λ i. p (block_of h w i)) t (first_of h w b) (first_lt le l))))
    (λ t. every_intro (2 ^ w) _ (λ i l. every_at (2 ^ h) p t (block_of h w i) (block_lt le l)))

tree_if_blocks : (h w : ℕ) (f : ℕ → Option Bool) → h ≤ w → tree_if w (λ i. f (block_of h w i)) ≡ tree_if h f
unfolding tree_if
tree_if_blocks h w f le =
    ap₂ (λ (v : Bool) (t : Tree). cond v (some t) none)
    (every_blocks h w (λ b. defined (f b)) le)
    (tree_of_blocks h w (λ b. get_or (f b) false) le)

-- ---- the height to which two trees are unfolded makes no difference

pub join_at_join : (k : ℕ) (a b : Tree) → height a ≤ k → height b ≤ k → join_at k a b ≡ join a b
unfolding join_at join
join_at_join k a b ha hb =
    tree_if_ext k _ _ (λ i l. ap₂ join_leaf (blocks h k a i (le-max_left _ _) le)
    (blocks h k b i (le-max_right (height a) _) le))
    ∙ tree_if_blocks h k (λ i. join_leaf (leaf_at h a i) (leaf_at h b i)) le
  where
    h : ℕ
    h = max (height a) (height b)

    le : h ≤ k
    le = max-le ha hb

-- ---- and neither does their order

leaf_comm : (x y : Bool) → join_leaf x y ≡ join_leaf y x
unfolding join_leaf
leaf_comm true true = refl
leaf_comm true false = refl
leaf_comm false true = refl
leaf_comm false false = refl

pub join_comm : (a b : Tree) → join a b ≡ join b a
unfolding join_at join
join_comm a b =
    sym (join_at_join k a b (le-max_right (height b) _) (le-max_left _ _))
    ∙ tree_if_ext k _ _ (λ i l. leaf_comm (leaf_at k a i) (leaf_at k b i))
  where
    k : ℕ
    k = max (height b) (height a)

-- ---- the join, leaf by leaf

pub join_iff : (k : ℕ) (a b c : Tree) → Folded c → height a ≤ k → height b ≤ k → height c ≤ k
    → (join a b ≡ some c) ↔ ((i : ℕ) → i < 2 ^ k → leaf_test (leaf_at k a i) (leaf_at k b i) (some (leaf_at k c i))
    ≡ Holds)
unfolding join_at
join_iff k a b c fc ha hb hc =
    let J = tree_if_iff k (λ i. join_leaf (leaf_at k a i) (leaf_at k b i)) c fc hc in (
      λ e i l. (way_iff Holds (leaf_at k a i) (leaf_at k b i) (leaf_at k c i)).1
          (J.0 (join_at_join k a b ha hb ∙ e) i l),
      λ f. sym (join_at_join k a b ha hb)
          ∙ J.1 (λ i l. (way_iff Holds (leaf_at k a i) (leaf_at k b i) (leaf_at k c i)).0 (f i l)),
    )

-- it fails at a leaf, which is found
pub not_join_iff : (k : ℕ) (a b c : Tree) → Folded c → height a ≤ k → height b ≤ k → height c ≤ k
    → (¬ (join a b ≡ some c)) ↔ Below (2 ^ k)
    (λ i. not (is_way Holds (leaf_test (leaf_at k a i) (leaf_at k b i) (some (leaf_at k c i)))))
not_join_iff k a b c fc ha hb hc =
    let J = join_iff k a b c fc ha hb hc in
    fails_iff (2 ^ k) (λ i. is_way Holds (leaf_test (leaf_at k a i) (leaf_at k b i) (some (leaf_at k c i))))
    (λ e i l. (is_way_iff Holds _).1 (J.0 e i l), λ f. J.1 (λ i l. (is_way_iff Holds _).0 (f i l)))

-- it is undefined exactly if some leaf is full in both, and one is found
pub join_none_iff : (k : ℕ) (a b : Tree) → height a ≤ k → height b ≤ k
    → (join a b ≡ none) ↔ Below (2 ^ k) (λ i. leaf_at k a i && leaf_at k b i)
unfolding join_at
join_none_iff k a b ha hb =
    let J = tree_if_none_iff k (λ i. join_leaf (leaf_at k a i) (leaf_at k b i)) in (
      λ e. let (i, l, t) = J.0 (join_at_join k a b ha hb ∙ e) in
          (i, l, rw (overlap (leaf_at k a i) (leaf_at k b i)) at t),
      λ (i, l, t). sym (join_at_join k a b ha hb) ∙ J.1 (i, l, rw (overlap (leaf_at k a i) (leaf_at k b i)) t),
    )

-- it is defined exactly if the test without a sum holds at every leaf: none is full in both
pub join_defined_iff : (k : ℕ) (a b : Tree) → height a ≤ k → height b ≤ k
    → ((c : Tree) × (join a b ≡ some c)) ↔ ((i : ℕ) → i < 2 ^ k → leaf_test (leaf_at k a i) (leaf_at k b i) none
    ≡ Holds)
join_defined_iff k a b ha hb = (
  λ (c, e) i l. (apart i).1 (not_T (leaf_at k a i && leaf_at k b i)
      (λ t. none-ne-some c (sym ((join_none_iff k a b ha hb).1 (i, l, t)) ∙ e))),
  λ f. given (join a b) refl (λ e. let (i, l, t) = (join_none_iff k a b ha hb).0 e in
      T_not (leaf_at k a i && leaf_at k b i) ((apart i).0 (f i l)) t),
)
  where
    apart : (i : ℕ) → (leaf_test (leaf_at k a i) (leaf_at k b i) none ≡ Holds) ↔ T
        (not (leaf_at k a i && leaf_at k b i))
    apart i = apart_iff (leaf_at k a i) (leaf_at k b i)

    given : (o : Option Tree) → join a b ≡ o → (join a b ≡ none → ⊥) → (c : Tree) × (join a b ≡ some c)
    given none e f = absurd (f e)
    given (some c) e f = (c, e)

-- ---- the join with a leaf

empty_beside : (x z : Bool) → (leaf_test x false (some z) ≡ Holds) ↔ (x ≡ z)
unfolding join_leaf
empty_beside x z =
    let W = way_iff Holds x false z in
    (λ e. some-injective x z (sym (beside x) ∙ W.0 e), λ e. W.1 (beside x ∙ ap some e))
  where
    beside : (x : Bool) → join_leaf x false ≡ some x
    beside true = refl
    beside false = refl

-- with the empty share it is the other one
pub join_empty_iff : (a b : Tree) → Folded a → Folded b → (join a (leaf false) ≡ some b) ↔ (a ≡ b)
unfolding height
join_empty_iff a b fa fb =
    let J = join_iff k a (leaf false) b fb (le-max_left _ _) zero-le (le-max_right (height a) _) in
    let E = equal_iff k a b fa fb (le-max_left _ _) (le-max_right (height a) _) in (
      λ e. E.1 (λ i l. (empty_beside (leaf_at k a i) (leaf_at k b i)).0 (rw (leaf_at_leaf k false i) at (J.0 e i l))),
      λ e. J.1 (λ i l. rw (leaf_at_leaf k false i) ((empty_beside (leaf_at k a i) (leaf_at k b i)).1 (E.0 e i l))),
    )
  where
    k : ℕ
    k = max (height a) (height b)

-- with the full share only the empty one can be joined
pub join_full : (b c : Tree) → Folded b → join (leaf true) b ≡ some c → b ≡ leaf false
unfolding height
join_full b c fb e =
    let f = (join_defined_iff (height b) (leaf true) b zero-le (le_refl _)).0 (c, e) in
    (equal_iff (height b) b (leaf false) fb tt (le_refl _) zero-le).1 (λ i l.
    is_false (leaf_at (height b) b i)
    ((apart_iff true (leaf_at (height b) b i)).0 (rw (leaf_at_leaf (height b) true i) at (f i l)))
    ∙ sym (leaf_at_leaf (height b) false i))

-- a join that is defined is folded, and no taller than the two
pub join_folded : (a b c : Tree) → join a b ≡ some c → Folded c × (height c ≤ max (height a) (height b))
unfolding join join_at tree_if
join_folded a b c e =
    cond_law (λ o. o ≡ some c → Folded c × (height c ≤ k)) (every_below (2 ^ k) (λ i. defined (f i))) (some t) none
    (λ _ e. rw (← (some-injective t c e)) (tree_of_folded k _, tree_of_height k _)) (λ _ e. absurd (none-ne-some c e)) e
  where
    k : ℕ
    k = max (height a) (height b)

    f : ℕ → Option Bool
    f i = join_leaf (leaf_at k a i) (leaf_at k b i)

    t : Tree
    t = tree_of k (λ i. get_or (f i) false)
