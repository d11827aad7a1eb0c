-- Leaf by leaf: shares no taller than k are rows of leaves, and solutions and extensions by trees are those of the
-- problems at the leaves, for every height from h up. Assumes nothing.
use Rattle.std.specs.Prelude.{◌≡◌, refl, Bool, true, false, cond, [], ◌∷◌, ◌↔◌, ◌⊎◌, ℕ, zero, suc, ◌+◌, ◌-◌, ◌^◌, ◌≤◌}
use Rattle.std.specs.Prelude.{◌<◌, max, T, ltb}
use Rattle.std.proofs.Common.{sym, ◌∙◌, inl, inr, zero-le, le_trans, not-suc-le-zero, le_of_suc-le-suc, eq-or-lt_of_le}
use Rattle.std.proofs.Common.{arith, ltb→lt, nltb→le, lit<}
use Rattle.std.proofs.Math.Nat.{le-max_left, le-max_right, max-le}
use Rattle.shares.specs.Test.{of_true, of_false}
use Rattle.shares.specs.Below.{every_below}
use Rattle.shares.specs.BelowLaws.{Below}
use Rattle.shares.specs.Blocks.{block_of}
use Rattle.shares.specs.BlockLaws.{block_lt}
use Rattle.shares.specs.Tree.{leaf, pair, twins, fold, Share, height, half, full, leaf_at, tree_of, join_leaf, tree_if}
use Rattle.shares.specs.Tree.{join_at, join}
use Rattle.shares.proofs.TreeLaws.{share_path, tree_of_height, tree_of_ext, tree_of_leaf_at, leaf_at_tree_of, blocks}
use Rattle.leaves.specs.Heights.{any_height, at_most, exactly}
use Rattle.leaves.specs.Choices.{Row, at, table}
use Rattle.leaves.specs.ChoiceLaws.{at_table, row_path}
use Rattle.leaves.specs.LeafSolutions.{SolvesLeaves}
use Rattle.leaves.specs.Second.{Second}
use Rattle.leaves.specs.LeafExtensions.{ExtendsLeaves, LeafExtension, positives_only, only}
use Rattle.systems.specs.Clauses.{variable, joined, positive, Assignment, positives, disequation, AllHold, Holds}
use Rattle.systems.specs.Questions.{entailment, Question, Defined, InSystem, WellFormed, second_count}
use Rattle.systems.specs.Bounds.{Within, Bounds}
use Rattle.systems.specs.Solutions.{tallest, height_of, SolvesFirst, both, Beside, ExtendsBy, Extends, MeetsPositives}
use Rattle.systems.specs.Solutions.{MeetsWith}
use Rattle.systems.specs.SystemLaws.{parts, whole, in_system}
use Rattle.systems.specs.AtLeaves.{both_at, first_at, second_at}
use Rattle.systems.proofs.AtomLaws.{Good, Reads, positives_iff, disequation_iff}
use Rattle.systems.specs.Decide.{shares_of}

-- ---- an example, computed: beside v0, which is full, own v1 join own v2 is v0, with own shares that are taller

abbrev whole_split : Question
whole_split = record {
  kind = entailment;
  free = 1;
  own = 2;
  constants = record { levels = 0; numbers = [] };
  first = [];
  second = positive (joined (variable 1) (variable 2) (variable 0)) ∷ [];
}

-- the left half for v1, the right half for v2
abbrev half_share : ℕ → Share
unfolding twins
half_share zero = record { tree = pair (leaf true) (leaf false); folded = (refl, tt, tt) }
half_share (suc v) = record { tree = pair (leaf false) (leaf true); folded = (refl, tt, tt) }

split_extends : Extends whole_split (λ v. record { tree = leaf true; folded = tt })
unfolding tallest both height twins join join_at tree_if tree_of fold every_below leaf_at half full join_leaf
split_extends = record { own = half_share; allowed = tt; holds = (refl, tt) }

-- ---- the tallest tree

tallest_le : (n k : ℕ) (σ : Assignment) → ((v : ℕ) → v < n → height (σ v).tree ≤ k) → tallest n σ ≤ k
unfolding tallest
tallest_le zero k σ f = zero-le
tallest_le (suc n) k σ f = max-le (tallest_le n k σ (λ v l. f v (omega arith))) (f n (omega arith))

tallest_at : (n k : ℕ) (σ : Assignment) → tallest n σ ≤ k → (v : ℕ) → v < n → height (σ v).tree ≤ k
unfolding tallest
tallest_at zero k σ h v l = absurd (not-suc-le-zero l)
tallest_at (suc n) k σ h v l = go (eq-or-lt_of_le (le_of_suc-le-suc l)) (tallest_at n k σ (omega arith) v)
  where
    last : height (σ n).tree ≤ k
    last = omega arith

    go : (v ≡ n) ⊎ (v < n) → (v < n → height (σ v).tree ≤ k) → height (σ v).tree ≤ k
    go (inl e) ih = rw e last
    go (inr m) ih = ih m

-- ---- shares no taller than k are rows at 2 ^ k leaves, and back

-- the row at each leaf
unfoldable pub rows_at : (n k : ℕ) → Assignment → ℕ → Row Bool n
rows_at n k σ i = table n (λ v. leaf_at k (σ v).tree i)

pub rows_read : (n k : ℕ) (σ : Assignment) → tallest n σ ≤ k → Reads n k σ (λ i. at false (rows_at n k σ i))
unfolding rows_at
rows_read n k σ h = record {
  low = tallest_at n k σ h;
  bits =
      λ i l v m. at_table false n (λ v. leaf_at k (σ v).tree i) v m;
}

pub shares_read : (n k : ℕ) (s : ℕ → Row Bool n) → Reads n k (shares_of k s) (λ i. at false (s i))
unfolding shares_of
shares_read n k s = record {
  low = λ v l. tree_of_height k _;
  bits =
      λ i l v m. sym (leaf_at_tree_of k (λ i. at false (s i) v) i l);
}

pub shares_low : (n k : ℕ) (s : ℕ → Row Bool n) → tallest n (shares_of k s) ≤ k
shares_low n k s = tallest_le n k (shares_of k s) (shares_read n k s).low

shares_rows : (n k : ℕ) (σ : Assignment) → tallest n σ ≤ k → (v : ℕ) → v < n → shares_of k (rows_at n k σ) v ≡ σ v
unfolding shares_of
shares_rows n k σ h v l =
    share_path _ (σ v)
    (tree_of_ext k _ (leaf_at k (σ v).tree) (λ i m. (rows_read n k σ h).bits i m v l)
    ∙ tree_of_leaf_at k (σ v).tree (σ v).folded (tallest_at n k σ h v l))

rows_shares : (n k : ℕ) (s : ℕ → Row Bool n) (i : ℕ) → i < 2 ^ k → rows_at n k (shares_of k s) i ≡ s i
rows_shares n k s i l =
    row_path false n _ (s i) (λ v m. (rows_read n k (shares_of k s) (shares_low n k s)).bits i l v m
    ∙ sym ((shares_read n k s).bits i l v m))

-- trees whose height is among A are read at 2 ^ w leaves, with w from h up and among B
pub record Read (h : ℕ) (A B : ℕ → Type 0) : Type 0 where
  pub up : (k : ℕ) → A k → (w : ℕ) × (k ≤ w) × (h ≤ w) × B w
  pub down : (w k : ℕ) → B w → k ≤ w → A k

pub read_any : (h : ℕ) → Read h any_height any_height
read_any h = record { up = λ k _. (max k h, le-max_left k h, le-max_right k h, tt); down = λ w k _ _. tt }

pub read_most : {h w : ℕ} → h ≤ w → Read h (at_most w) (exactly w)
read_most {h} {w} l = record { up = λ k m. (w, m, l, refl); down = λ v k e m. rw (← e) m }

-- ---- the free variables and the own ones, at a greater height

both_read : (n m w v : ℕ) (σ τ : Assignment) (x y : ℕ → ℕ → Bool) → w ≤ v → Reads n w σ x → Reads m v τ y
    → Reads (n + m) v (both n σ τ) (λ i. both_at n (x (block_of w v i)) (y i))
unfolding both both_at
both_read n m w v σ τ x y le R S =
    record { low = λ u l. low u l (ltb u n) refl; bits = λ i k u l. bits i k u l (ltb u n) refl }
  where
    low : (u : ℕ) → u < n + m → (b : Bool) → ltb u n ≡ b → height (cond b (σ u) (τ (u - n))).tree ≤ v
    low u l true e = le_trans (R.low u (ltb→lt u n (of_true e))) le
    low u l false e = let g : n ≤ u = nltb→le u n (of_false e) in S.low (u - n) (omega arith)

    bits : (i : ℕ) → i < 2 ^ v → (u : ℕ) → u < n + m → (b : Bool) → ltb u n ≡ b
        → cond b (x (block_of w v i) u) (y i (u - n)) ≡ leaf_at v (cond b (σ u) (τ (u - n))).tree i
    bits i k u l true e =
        let g = ltb→lt u n (of_true e) in
        R.bits (block_of w v i) (block_lt le k) u g ∙ sym (blocks w v (σ u).tree i (R.low u g) le)
    bits i k u l false e = let g : n ≤ u = nltb→le u n (of_false e) in S.bits i k (u - n) (omega arith)

-- ---- solutions and extensions

module _ (h : ℕ) (q : Question) (F : WellFormed q) (B : Bounds h q) where
  first_good : InSystem (Good q.free h q.constants) q.first
  first_good = in_system (Defined q.free q.constants) (Within h q.constants) _ (λ t d w. (d, w)) q.first F.first B.first

  second_good : InSystem (Good (q.free + q.own) h q.constants) q.second
  second_good = in_system (Defined (q.free + q.own) q.constants) (Within h q.constants) _ (λ t d w. (d, w)) q.second
      F.second B.second

  -- σ, no taller than k and with the rows s, solves the first system exactly if the rows solve its problem at the
  -- leaves
  pub first_iff : (k : ℕ) → h ≤ k → (σ : Assignment) (s : ℕ → Row Bool q.free) → Reads q.free k σ (λ i. at false (s i))
      → SolvesFirst q σ ↔ SolvesLeaves h (first_at h q) k s
  first_iff k hk σ s R =
      let pos = positives_iff q.free h q.constants B.low k hk σ (λ i. at false (s i)) R q.first first_good in
      let dis = disequation_iff q.free h q.constants B.low k hk σ (λ i. at false (s i)) R q.first first_good in (
        λ e. let p = parts q.constants σ q.first e in
            record { tall = hk; everywhere = pos.0 p.0; somewhere = λ j l. (dis j l).0 (p.1 j l) },
        λ S. whole q.constants σ q.first (pos.1 S.everywhere, λ j l. (dis j l).1 (S.somewhere j l)),
      )

  -- σ, no taller than w, has the rows s
  module _ (w : ℕ) (hw : h ≤ w) (σ : Assignment) (s : ℕ → Row Bool q.free)
      (R : Reads q.free w σ (λ i. at false (s i))) where
    -- a property P of all shares is the problem Q at the leaves, whatever own shares and rows stand beside σ
    abbrev AtRows : (Assignment → Type 0) → Second (Row Bool q.free) (Row Bool q.own) → Type 0
    AtRows P Q = (v : ℕ) → w ≤ v → (τ : Assignment) (t : ℕ → Row Bool q.own) → Reads q.own v τ (λ i. at false (t i))
        → P (both q.free σ τ) ↔ ExtendsLeaves h Q w s v t

    -- then own shares with which it holds are an extension of the rows
    beside_iff : (P : Assignment → Type 0) (Q : Second (Row Bool q.free) (Row Bool q.own)) → AtRows P Q
        → (A A' : ℕ → Type 0) → Read w A A' → Beside A q σ P ↔ LeafExtension A' h Q w s
    beside_iff P Q iff A A' r = (
      λ E.
          let (v, k, l, a) = r.up (tallest q.own E.own) E.allowed in
          let rows = rows_at q.own v E.own in
          record {
            height = v;
            allowed = a;
            own = rows;
            extends =
                (iff v l E.own rows (rows_read q.own v E.own k)).0 E.holds;
          },
      λ E. record {
        own = shares_of E.height E.own;
        allowed = r.down E.height _ E.allowed (shares_low q.own E.height E.own);
        holds = (iff E.height E.extends.tall _ E.own (shares_read q.own E.height E.own)).1 E.extends;
      },
    )

    module _ (v : ℕ) (le : w ≤ v) (τ : Assignment) (t : ℕ → Row Bool q.own)
        (S : Reads q.own v τ (λ i. at false (t i))) where
      all_read : Reads (q.free + q.own) v (both q.free σ τ)
          (λ i. both_at q.free (at false (s (block_of w v i))) (at false (t i)))
      all_read = both_read q.free q.own w v σ τ (λ i. at false (s i)) (λ i. at false (t i)) le R S

      second_positives : AllHold q.constants (both q.free σ τ) (positives q.second)
          ↔ ((i : ℕ) → i < 2 ^ v → T ((second_at h q).pos (block_of h v i) (s (block_of w v i)) (t i)))
      second_positives =
          positives_iff (q.free + q.own) h q.constants B.low v (le_trans hw le) (both q.free σ τ) _ all_read q.second
          second_good

      second_disequation : (j : ℕ) → j < second_count q
          → (¬ Holds q.constants (both q.free σ τ) (disequation q.second j))
          ↔ Below (2 ^ v) (λ i. (second_at h q).dis j (block_of h v i) (s (block_of w v i)) (t i))
      second_disequation =
          disequation_iff (q.free + q.own) h q.constants B.low v (le_trans hw le) (both q.free σ τ) _ all_read q.second
          second_good

    -- σ extends exactly if its rows do
    pub extension_iff : (A A' : ℕ → Type 0) → Read w A A' → ExtendsBy A q σ ↔ LeafExtension A' h (second_at h q) w s
    extension_iff =
        beside_iff _ (second_at h q) (λ v le τ t S.
        let pos = second_positives v le τ t S in
        let dis = second_disequation v le τ t S in (
          λ e. let p = parts q.constants (both q.free σ τ) q.second e in
              record { tall = le; everywhere = pos.0 p.0; somewhere = λ j l. (dis j l).0 (p.1 j l) },
          λ E. whole q.constants (both q.free σ τ) q.second (pos.1 E.everywhere, λ j l. (dis j l).1 (E.somewhere j l)),
        ))

    -- it can meet the second system's positive clauses exactly if its rows can
    pub meets_iff : MeetsPositives q σ ↔ LeafExtension any_height h (positives_only (second_at h q)) w s
    meets_iff =
        beside_iff _ (positives_only (second_at h q)) (λ v le τ t S.
        let pos = second_positives v le τ t S in (
          λ e. record { tall = le; everywhere = pos.0 e; somewhere = λ j l. absurd (not-suc-le-zero l) },
          λ E. pos.1 E.everywhere,
        ))
        any_height any_height (read_any w)

    -- and have disequation j beside them exactly if its rows can
    pub with_iff : (j : ℕ) → j < second_count q
        → MeetsWith j q σ ↔ LeafExtension any_height h (only j (second_at h q)) w s
    with_iff j m =
        beside_iff _ (only j (second_at h q)) (λ v le τ t S.
        let pos = second_positives v le τ t S in
        let dis = second_disequation v le τ t S j m in (
          λ (e, f). record { tall = le; everywhere = pos.0 e; somewhere = λ _ _. dis.0 f },
          λ E. (pos.1 E.everywhere, dis.1 (E.somewhere 0 (lit< tt))),
        ))
        any_height any_height (read_any w)

-- ---- the theorem: leaf by leaf, for every height k from h up

-- what is claimed
pub record LeafByLeaf (h : ℕ) (q : Question) : Type 0 where
  -- shares no taller than k are rows at 2 ^ k leaves, and back
  pub shares : (k : ℕ) (σ : Assignment) → height_of q σ ≤ k → (v : ℕ) → v < q.free
      → shares_of k (rows_at q.free k σ) v ≡ σ v
  pub rows : (k : ℕ) (s : ℕ → Row Bool q.free) (i : ℕ) → i < 2 ^ k → rows_at q.free k (shares_of k s) i ≡ s i
  pub low : (k : ℕ) (s : ℕ → Row Bool q.free) → height_of q (shares_of k s) ≤ k
  -- they solve the first system exactly if the rows solve its problem at the leaves
  pub solution : (k : ℕ) → h ≤ k → (σ : Assignment) → height_of q σ ≤ k
      → SolvesFirst q σ ↔ SolvesLeaves h (first_at h q) k (rows_at q.free k σ)
  -- and extend exactly if the rows do
  pub extension : (k : ℕ) → h ≤ k → (σ : Assignment) → height_of q σ ≤ k
      → Extends q σ ↔ LeafExtension any_height h (second_at h q) k (rows_at q.free k σ)

pub leaf_by_leaf : (h : ℕ) (q : Question) → WellFormed q → Bounds h q → LeafByLeaf h q
leaf_by_leaf h q F B = record {
  shares = shares_rows q.free;
  rows = rows_shares q.free;
  low = shares_low q.free;
  solution = λ k l σ m. first_iff h q F B k l σ _ (rows_read q.free k σ m);
  extension = λ k l σ m. extension_iff h q F B k l σ _ (rows_read q.free k σ m) any_height any_height (read_any k);
}
