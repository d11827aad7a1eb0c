-- Laws of blocks, for every height: which bytes and bits they are, and their trees. Assumes nothing.
use Rattle.std.specs.Prelude.{◌≡◌, Bool, ◌&&◌, List, ◌++◌, ◌↔◌, T, eqb, ltb, length, get_or, set, take, drop, replicate}
use Rattle.std.proofs.Math.Path.{refl, sym, ap}
use Rattle.std.proofs.Common.{ap₂, ◌∙◌, subst, add-sub_of_le, mul-add, add-mul, mul_assoc, mul_comm, length-drop}
use Rattle.std.proofs.Common.{one-mul, two-mul, div-lt_iff_lt-mul, eq-eqb, ne_eqb, lt-ltb, le-ltb, lit<, pow_pos}
use Rattle.std.proofs.Common.{pow-add, pow_mono, shr-shr, length-take-le, get_or-append-add, get_or-set_same}
use Rattle.std.proofs.Common.{get_or-set_other, get_or-take, get_or-drop}
use Rattle.std.proofs.Math.Bool.{true, false, cond}
use Prim.Native.Nat.{ℕ, zero, suc, ◌+◌, ◌-◌, ◌*◌, ◌/◌, ◌%◌, ◌^◌, ◌≤◌, ◌<◌, zero-le}
use Rattle.std.proofs.Math.Nat.{two-pow-succ, mod-lt, lt-div-mul-add}
use Rattle.std.proofs.Math.Decide.{dec_lt, ℕ_discrete}
use native.Mathlib.Omega.{arith}
use Rattle.std.proofs.Math.Arith.{digits_div, digits_lt}
use Rattle.std.proofs.lemmas.List.{length-replicate, get_or-replicate}
use Rattle.std.proofs.Math.ListN.{get_or-append}
use Rattle.std.proofs.lemmas.Nat.{shl-shr}
use Rattle.std.specs.Bool.{MatchBool}
use Rattle.std.specs.List.{AllWithin, HoldsAt}
use Rattle.std.proofs.Math.Pow.{field, split}
use Rattle.shares.specs.Test.{is_true}
use Rattle.shares.specs.Below.{every_below}
use Rattle.shares.specs.BelowLaws.{every_at}
use Rattle.shares.specs.Tree.{Tree, leaf, pair, twins, fold, leaf_at, tree_of}
use Rattle.shares.proofs.TreeLaws.{tree_of_ext, tree_of_leaf, leaf_at_leaf, leaf_at_tree_of}
use Rattle.shares.specs.Constant.{bit, bytes_at}
use Rattle.shares.specs.BitLaws.{bit_zero, bits_same}
use Rattle.rows.specs.Rows.{row_leaf, row_tree, zeros}
use Rattle.rows.proofs.RowLaws.{ltb_next, eight, leaf_byte, zeros_leaf}
use Rattle.rows.specs.Blocks.{Inside, block_tree, AllLeaves, BlockSet, FirstBlocks, whole_byte}

-- ---- a leaf of a lower tree

-- each of the 2 ^ h leaves of a tree of height h is a block of its row, which is unfolded to height k
pub leaf_inside : {k h s : ℕ} → 3 ≤ k → k ≤ 32 → h ≤ k → s < 2 ^ h → Inside (k - h) s (bytes_at k)
leaf_inside {k} {h} {s} from to low l =
    let c = 2 ^ (k - h) in
    let e : 2 ^ h * c ≡ 2 ^ k = sym (pow-add 2 h (k - h)) ∙ ap (λ (n : ℕ). 2 ^ n) (add-sub_of_le low) in
    let last : s * c + (c - 1) < 2 ^ h * c = digits_lt l (omega (arith, pow_pos (k - h))) in
    let most : 2 ^ k ≤ 2 ^ 32 = pow_mono to in
    record { low = omega arith; few = omega arith; fits = omega (arith, pow_pos (k - h), eight k from) }

-- ---- a block within a byte: block q is block q mod 2 ^ (3 - h) of byte q div 2 ^ (3 - h)

module _ (h : ℕ) (low : h ≤ 3) where
  byte_of : (i : ℕ) → i / 2 ^ h / 2 ^ (3 - h) ≡ i / 8
  byte_of i = let e : h + (3 - h) ≡ 3 = omega arith in shr-shr i h (3 - h) ∙ ap (λ (n : ℕ). i / 2 ^ n) e

  bits_of : (i : ℕ) → (i / 2 ^ h) % 2 ^ (3 - h) ≡ i % 8 / 2 ^ h
  bits_of i = let e : 3 - h + h ≡ 3 = omega arith in sym (field i (3 - h) h) ∙ ap (λ (n : ℕ). i % 2 ^ n / 2 ^ h) e

  in_byte_iff : (q i : ℕ) → (i / 2 ^ h ≡ q) ↔ ((i / 8 ≡ q / 2 ^ (3 - h)) × (i % 8 / 2 ^ h ≡ q % 2 ^ (3 - h)))
  in_byte_iff q i = (
    λ e. (sym (byte_of i) ∙ ap (λ (x : ℕ). x / 2 ^ (3 - h)) e, sym (bits_of i) ∙ ap (λ (x : ℕ). x % 2 ^ (3 - h)) e),
    λ e. sym (split (i / 2 ^ h) (3 - h)) ∙ ap₂ (λ (x y : ℕ). x * 2 ^ (3 - h) + y) (byte_of i ∙ e.0) (bits_of i ∙ e.1)
        ∙ split q (3 - h),
  )

  module _ (row : List ℕ) (q : ℕ) where
    pub byte_inside : q * 2 ^ h + 2 ^ h ≤ 8 * length row → q / 2 ^ (3 - h) < length row
    byte_inside fits = let e = ((in_byte_iff q (q * 2 ^ h)).0 (shl-shr q h)).0 in omega (arith, pow_pos h)

    -- its leaves are set where those of the byte are
    pub set_byte : (b : ℕ) (v : Bool) → q / 2 ^ (3 - h) < length row
        → ((r : ℕ) → r < 8 → bit b r
        ≡ cond (eqb (r / 2 ^ h) (q % 2 ^ (3 - h))) v (bit (get_or row (q / 2 ^ (3 - h)) 0) r))
        → BlockSet row (set row (q / 2 ^ (3 - h)) b) h q v
    unfolding row_leaf
    set_byte b v inside given i = pick (ℕ_discrete (i / 8) j) (ℕ_discrete (i / 2 ^ h) q)
      where
        j : ℕ
        j = q / 2 ^ (3 - h)

        Goal : Type 0
        Goal = bit (get_or (set row j b) (i / 8) 0) (i % 8)
            ≡ cond (eqb (i / 2 ^ h) q) v (bit (get_or row (i / 8) 0) (i % 8))

        same : i / 8 ≡ j → bit (get_or (set row j b) (i / 8) 0) (i % 8)
            ≡ cond (eqb (i % 8 / 2 ^ h) (q % 2 ^ (3 - h))) v (bit (get_or row (i / 8) 0) (i % 8))
        same e = rw e (ap (λ n. bit n (i % 8)) (get_or-set_same row j b 0 inside) ∙ given (i % 8) (omega arith))

        pick : Dec (i / 8 ≡ j) → Dec (i / 2 ^ h ≡ q) → Goal
        pick (yes e) (yes p) = same e
            ∙ rw (eq-eqb (i / 2 ^ h) q p, eq-eqb (i % 8 / 2 ^ h) (q % 2 ^ (3 - h)) ((in_byte_iff q i).0 p).1)
        pick (yes e) (no n) = same e
            ∙ rw (
              ne_eqb (i / 2 ^ h) q n,
              ne_eqb (i % 8 / 2 ^ h) (q % 2 ^ (3 - h)) (λ p. n ((in_byte_iff q i).1 (e, p))),
            )
        pick (no n) (yes p) = absurd (n ((in_byte_iff q i).0 p).0)
        pick (no n) (no m) = rw (ne_eqb (i / 2 ^ h) q m)
            (ap (λ x. bit x (i % 8)) (get_or-set_other row j (i / 8) b 0 n))

    -- they are all v where those of the byte are
    pub byte_constant : (v : Bool)
        → ((r : ℕ) → r < 8 → r / 2 ^ h ≡ q % 2 ^ (3 - h) → bit (get_or row (q / 2 ^ (3 - h)) 0) r ≡ v) ↔ AllLeaves row h
        q v
    unfolding row_leaf
    byte_constant v = (
      λ f i e. let (a, b) = (in_byte_iff q i).0 e in ap (λ (x : ℕ). bit (get_or row x 0) (i % 8)) a
          ∙ f (i % 8) (omega arith) b,
      λ g r l e. let j = q / 2 ^ (3 - h) in
          let there : (8 * j + r) % 8 ≡ r = omega arith in
          sym (leaf_byte row j r l) ∙ g (8 * j + r)
          ((in_byte_iff q (8 * j + r)).1 (omega arith, ap (λ (x : ℕ). x / 2 ^ h) there ∙ e)),
    )

-- ---- a block of whole bytes: block q is the bytes q * 2 ^ (h - 3) to q * 2 ^ (h - 3) + 2 ^ (h - 3) - 1

pub whole_bit : (v : Bool) (r : ℕ) → r < 8 → bit (whole_byte v) r ≡ v
unfolding bit every_below
whole_bit true r l = is_true (bit 255 r) (every_at 8 (bit 255) tt r l)
whole_bit false r l = bit_zero r

whole_lt : (v : Bool) → whole_byte v < 256
whole_lt true = lit< tt
whole_lt false = lit< tt

-- part q of size s of a list, filled
filled_at : (l : List ℕ) (s q b : ℕ) → 0 < s → q * s + s ≤ length l → (j : ℕ)
    → get_or (take (q * s) l ++ (replicate s b ++ drop s (drop (q * s) l))) j 0 ≡ cond (eqb (j / s) q) b (get_or l j 0)
filled_at l s q b pos fits j = pick (dec_lt j (q * s)) (dec_lt j (q * s + s))
  where
    rest : List ℕ
    rest = replicate s b ++ drop s (drop (q * s) l)

    whole : List ℕ
    whole = take (q * s) l ++ rest

    size : length (take (q * s) l) ≡ q * s
    size = length-take-le (q * s) l (omega arith)

    past : (r : ℕ) → get_or whole (q * s + r) 0 ≡ get_or rest r 0
    past r = ap (λ (n : ℕ). get_or whole (n + r) 0) (sym size) ∙ get_or-append-add (take (q * s) l) rest r 0

    pick : Dec (j < q * s) → Dec (j < q * s + s) → get_or whole j 0 ≡ cond (eqb (j / s) q) b (get_or l j 0)
    pick (yes u) d =
        let other : j / s ≡ q → ⊥ = λ e. let t = (div-lt_iff_lt-mul {x = j} {y = q} pos).1 u in omega arith in
        rw (ne_eqb (j / s) q other) (get_or-append (take (q * s) l) rest 0 j (rw size u) ∙ get_or-take (q * s) l j 0 u)
    pick (no n) (yes u) =
        let r = j - q * s in
        let e : q * s + r ≡ j = omega arith in
        let small : r < s = omega arith in
        rw (eq-eqb (j / s) q (ap (λ (x : ℕ). x / s) (sym e) ∙ digits_div q small))
        (ap (λ (x : ℕ). get_or whole x 0) (sym e) ∙ past r
        ∙ get_or-append (replicate s b) _ 0 r (rw (length-replicate s b) small) ∙ get_or-replicate s r b 0 small)
    pick (no n) (no m) =
        let r = j - (q * s + s) in
        let e : q * s + (s + r) ≡ j = omega arith in
        let other : j / s ≡ q → ⊥ = λ p. let t : j < j / s * s + s =
        lt-div-mul-add pos in m (subst (λ (x : ℕ). j < x * s + s) p t) in
        rw (ne_eqb (j / s) q other)
        (ap (λ (x : ℕ). get_or whole x 0) (sym e) ∙ past (s + r)
        ∙ ap (λ (n : ℕ). get_or rest (n + r) 0) (sym (length-replicate s b)) ∙ get_or-append-add (replicate s b) _ r 0
        ∙ get_or-drop s (drop (q * s) l) r 0 ∙ get_or-drop (q * s) l (s + r) 0 ∙ ap (λ (x : ℕ). get_or l x 0) e)

module _ (h : ℕ) (high : 3 ≤ h) where
  of_bytes : (i : ℕ) → i / 8 / 2 ^ (h - 3) ≡ i / 2 ^ h
  of_bytes i = shr-shr i 3 (h - 3) ∙ ap (λ (n : ℕ). i / 2 ^ n) (omega arith)

  module _ (row : List ℕ) (q : ℕ) (fits : q * 2 ^ h + 2 ^ h ≤ 8 * length row) where
    pub bytes_inside : q * 2 ^ (h - 3) + 2 ^ (h - 3) ≤ length row
    bytes_inside =
        let x = 2 ^ (h - 3) in
        let e : q * 2 ^ h ≡ q * x * 8 = ap (λ (n : ℕ). q * n) (eight h high) ∙ sym (mul_assoc q x 8) in
        omega (arith, eight h high)

    pub set_bytes : (b : ℕ) (v : Bool) → b ≡ whole_byte v
        → BlockSet row (take (q * 2 ^ (h - 3)) row
        ++ (replicate (2 ^ (h - 3)) b ++ drop (2 ^ (h - 3)) (drop (q * 2 ^ (h - 3)) row))) h q v
    unfolding row_leaf
    set_bytes b v e i =
        ap (λ (x : ℕ). bit x (i % 8)) (filled_at row (2 ^ (h - 3)) q b (pow_pos (h - 3)) bytes_inside (i / 8)
        ∙ rw (of_bytes i, e))
        ∙ go (eqb (i / 2 ^ h) q)
      where
        go : (t : Bool) → bit (cond t (whole_byte v) (get_or row (i / 8) 0)) (i % 8)
            ≡ cond t v (bit (get_or row (i / 8) 0) (i % 8))
        go true = whole_bit v (i % 8) (omega arith)
        go false = refl

    part_at_lem : (r : ℕ) → r < 2 ^ (h - 3) → get_or (take (2 ^ (h - 3)) (drop (q * 2 ^ (h - 3)) row)) r 0
        ≡ get_or row (q * 2 ^ (h - 3) + r) 0
    part_at_lem r l = get_or-take (2 ^ (h - 3)) (drop (q * 2 ^ (h - 3)) row) r 0 l
        ∙ get_or-drop (q * 2 ^ (h - 3)) row r 0

    pub bytes_constant : (v : Bool) → ((j : ℕ) → get_or row j 0 < 256)
        → ((r : ℕ) → r < 2 ^ (h - 3) → get_or (take (2 ^ (h - 3)) (drop (q * 2 ^ (h - 3)) row)) r 0 ≡ whole_byte v) ↔
        AllLeaves row h q v
    unfolding row_leaf
    bytes_constant v byte = (
      λ f i e. let r = i / 8 % 2 ^ (h - 3) in
          let small : r < 2 ^ (h - 3) = mod-lt (i / 8) (pow_pos (h - 3)) in
          let there : i / 8 ≡ q * 2 ^ (h - 3) + r =
          sym (split (i / 8) (h - 3)) ∙ ap (λ (x : ℕ). x * 2 ^ (h - 3) + r) (of_bytes i ∙ e) in
          ap (λ (x : ℕ). bit (get_or row x 0) (i % 8)) there
          ∙ ap (λ (x : ℕ). bit x (i % 8)) (sym (part_at_lem r small) ∙ f r small)
          ∙ whole_bit v (i % 8) (omega arith),
      λ g r l. let j = q * 2 ^ (h - 3) + r in
          part_at_lem r l
          ∙ bits_same 8 (get_or row j 0) (whole_byte v) (byte j) (whole_lt v)
          (λ p u. let there : (8 * j + p) / 8 ≡ j = omega arith in
          sym (leaf_byte row j p u)
          ∙ g (8 * j + p) (sym (of_bytes (8 * j + p)) ∙ ap (λ (x : ℕ). x / 2 ^ (h - 3)) there ∙ digits_div q l)
          ∙ sym (whole_bit v p u)),
    )

    -- the leaves of its bytes are those of the block
    part_leaf : (i : ℕ) → i < 2 ^ h → row_leaf (take (2 ^ (h - 3)) (drop (q * 2 ^ (h - 3)) row)) i
        ≡ row_leaf row (q * 2 ^ h + i)
    unfolding row_leaf
    part_leaf i l =
        let s = 2 ^ (h - 3) in
        let start : q * 2 ^ h ≡ 8 * (q * s) =
        ap (λ (n : ℕ). q * n) (eight h high) ∙ sym (mul_assoc q s 8) ∙ mul_comm (q * s) 8 in
        ap (λ x. bit x (i % 8)) (get_or-take s (drop (q * s) row) (i / 8) 0 (omega (arith, eight h high))
        ∙ get_or-drop (q * s) row (i / 8) 0)
        ∙ ap₂ (λ x r. bit (get_or row x 0) r) (omega arith) (omega arith)

    pub leaves_constant : (v : Bool)
        → ((i : ℕ) → i < 8 * length (take (2 ^ (h - 3)) (drop (q * 2 ^ (h - 3)) row))
        → row_leaf (take (2 ^ (h - 3)) (drop (q * 2 ^ (h - 3)) row)) i ≡ v) ↔ AllLeaves row h q v
    leaves_constant v = (
      λ f i e. let r = i % 2 ^ h in
          let small : r < 2 ^ h = mod-lt i (pow_pos h) in
          let there : q * 2 ^ h + r ≡ i = ap (λ (x : ℕ). x * 2 ^ h + r) (sym e) ∙ split i h in
          ap (row_leaf row) (sym there) ∙ sym (part_leaf r small) ∙ f r (omega (arith, small, size, eight h high)),
      λ g i l. let small : i < 2 ^ h = omega (arith, size, eight h high) in
          part_leaf i small ∙ g (q * 2 ^ h + i) (digits_div q small),
    )
      where
        size : length (take (2 ^ (h - 3)) (drop (q * 2 ^ (h - 3)) row)) ≡ 2 ^ (h - 3)
        size = length-take-le (2 ^ (h - 3)) (drop (q * 2 ^ (h - 3)) row)
            (omega (arith, length-drop (q * 2 ^ (h - 3)) row, bytes_inside))

-- bytes are all the same whole byte exactly if their leaves are all the same
module _ (part : List ℕ) (v : Bool) (byte : (j : ℕ) → get_or part j 0 < 256) where
  pub whole_leaves : ((j : ℕ) → j < length part → get_or part j 0 ≡ whole_byte v) → (i : ℕ) → i < 8 * length part
      → row_leaf part i ≡ v
  unfolding row_leaf
  whole_leaves f i l = ap (λ (x : ℕ). bit x (i % 8)) (f (i / 8) (omega arith)) ∙ whole_bit v (i % 8) (omega arith)

  pub leaves_whole : ((i : ℕ) → i < 8 * length part → row_leaf part i ≡ v) → (j : ℕ) → j < length part
      → get_or part j 0 ≡ whole_byte v
  leaves_whole g j l =
      bits_same 8 (get_or part j 0) (whole_byte v) (byte j) (whole_lt v)
      (λ p u. sym (leaf_byte part j p u) ∙ g (8 * j + p) (omega arith) ∙ sym (whole_bit v p u))

  -- as the walk over the bytes tells
  pub filled_test : (b : ℕ) → b ≡ whole_byte v → (r : Bool)
      → MatchBool r (AllWithin (λ x. x ≡ b) part 0 (length part)) ((k : ℕ) × (k < length part)
      × HoldsAt (λ x. x ≡ b → ⊥) part k)
      → T r ↔ ((i : ℕ) → i < 8 * length part → row_leaf part i ≡ v)
  filled_test b e true all = (λ _. whole_leaves (λ j l. all j 0 zero-le l ∙ e), λ _. tt)
  filled_test b e false (k, l, other) = (λ t. absurd t, λ g. absurd (other 0 (leaves_whole g k l ∙ sym e)))

-- ---- the tree of a block

pub block_row : (row : List ℕ) (k : ℕ) → block_tree row k 0 ≡ row_tree k row
unfolding block_tree
block_row row k = tree_of_ext k _ _ (λ i l. ap (row_leaf row) (omega arith))

-- where its halves, blocks 2 q and 2 q + 1 of the height below, begin
left_first : (h q : ℕ) → 2 * q * 2 ^ h ≡ q * 2 ^ suc h
left_first h q =
    ap (λ (x : ℕ). x * 2 ^ h) (two-mul q) ∙ add-mul q q (2 ^ h) ∙ sym (mul-add q (2 ^ h) (2 ^ h))
    ∙ ap (λ (x : ℕ). q * x) (sym (two-pow-succ h))

right_first : (h q : ℕ) → (2 * q + 1) * 2 ^ h ≡ q * 2 ^ suc h + 2 ^ h
right_first h q = add-mul (2 * q) 1 (2 ^ h) ∙ ap₂ ◌+◌ (left_first h q) (one-mul (2 ^ h))

-- they lie within the row where it does
pub halves_inside : (h q bytes : ℕ) → 0 < h → Inside h q bytes → Inside (h - 1) (2 * q) bytes
    × Inside (h - 1) (2 * q + 1) bytes
halves_inside zero q bytes l inside = absurd (omega arith)
halves_inside (suc h) q bytes l inside =
    let e : suc h - 1 ≡ h = omega arith in
    let low : h ≤ 32 = omega (arith, inside.low) in
    rw e (
      record { low = low; few = inside.few; fits = omega (arith, inside.fits, left_first h q, two-pow-succ h) },
      record { low = low; few = inside.few; fits = omega (arith, inside.fits, right_first h q, two-pow-succ h) },
    )

-- it is its halves, folded
block_halves : (row : List ℕ) (h q : ℕ)
    → block_tree row (suc h) q ≡ fold (block_tree row h (2 * q)) (block_tree row h (2 * q + 1))
unfolding block_tree tree_of
block_halves row h q =
    ap₂ fold
    (tree_of_ext h _ _ (λ i l. ap (row_leaf row) (omega (arith, left_first h q))))
    (tree_of_ext h _ _ (λ i l. ap (row_leaf row) (omega (arith, right_first h q))))

-- leaves that are all v make the leaf v, and only they do
pub block_leaf_iff : (row : List ℕ) (h q : ℕ) (v : Bool) → AllLeaves row h q v ↔ (block_tree row h q ≡ leaf v)
unfolding block_tree
block_leaf_iff row h q v = (
  λ f. tree_of_ext h _ _ (λ i l. f (q * 2 ^ h + i) (digits_div q l)) ∙ tree_of_leaf h v,
  λ e i p. let r = i % 2 ^ h in
      let small : r < 2 ^ h = mod-lt i (pow_pos h) in
      ap (row_leaf row) (sym (split i h) ∙ ap (λ (x : ℕ). x * 2 ^ h + r) p)
      ∙ sym (leaf_at_tree_of h (λ i. row_leaf row (q * 2 ^ h + i)) r small) ∙ ap (λ t. leaf_at h t r) e
      ∙ leaf_at_leaf h v r,
)

fold_pair : (l r : Tree) → ((v : Bool) → fold l r ≡ leaf v → ⊥) → fold l r ≡ pair l r
unfolding fold twins
fold_pair (leaf true) (leaf true) n = absurd (n true refl)
fold_pair (leaf true) (leaf false) n = refl
fold_pair (leaf false) (leaf true) n = refl
fold_pair (leaf false) (leaf false) n = absurd (n false refl)
fold_pair (leaf a) (pair l r) n = refl
fold_pair (pair l r) t n = refl

-- where it is no leaf, it is the pair of its halves
pub block_pair : (row : List ℕ) (h q : ℕ) → ((v : Bool) → block_tree row h q ≡ leaf v → ⊥)
    → (0 < h) × (block_tree row h q ≡ pair (block_tree row (h - 1) (2 * q)) (block_tree row (h - 1) (2 * q + 1)))
unfolding block_tree tree_of
block_pair row zero q n = absurd (n _ refl)
block_pair row (suc h) q n =
    let e : suc h - 1 ≡ h = omega arith in
    (omega arith, rw e (block_halves row h q ∙ fold_pair _ _ (λ v p. n v (block_halves row h q ∙ p))))

-- ---- blocks set one after the other

-- a block whose leaves are v already is set as it stands
pub leaf_same : (row : List ℕ) (h q : ℕ) (v : Bool) → AllLeaves row h q v → BlockSet row row h q v
leaf_same row h q v all i = pick (ℕ_discrete (i / 2 ^ h) q)
  where
    pick : Dec (i / 2 ^ h ≡ q) → row_leaf row i ≡ cond (eqb (i / 2 ^ h) q) v (row_leaf row i)
    pick (yes e) = rw (eq-eqb (i / 2 ^ h) q e) (all i e)
    pick (no n) = rw (ne_eqb (i / 2 ^ h) q n)

module _ (h : ℕ) (f : ℕ → Bool) where
  -- none: a row of zeros
  pub blocks_none : (n : ℕ) → FirstBlocks (zeros n) h 0 f
  blocks_none n i = rw (le-ltb (i / 2 ^ h) 0 zero-le) (zeros_leaf n i)

  -- the next is empty
  pub blocks_next : (k : ℕ) (row : List ℕ) → FirstBlocks row h k f → AllLeaves row h k false
  blocks_next k row first i e = first i ∙ rw (le-ltb (i / 2 ^ h) k (omega arith))

  -- one more
  pub blocks_more : (k : ℕ) (v : Bool) (row after : List ℕ) → FirstBlocks row h k f → BlockSet row after h k v → v ≡ f k
      → FirstBlocks after h (k + 1) f
  blocks_more k v row after first step e i = step i ∙ pick (ℕ_discrete (i / 2 ^ h) k)
    where
      pick : Dec (i / 2 ^ h ≡ k) → cond (eqb (i / 2 ^ h) k) v (row_leaf row i)
          ≡ (ltb (i / 2 ^ h) (k + 1) && f (i / 2 ^ h))
      pick (yes p) = rw (eq-eqb (i / 2 ^ h) k p, lt-ltb (i / 2 ^ h) (k + 1) (omega arith)) (e ∙ ap f (sym p))
      pick (no n) = rw (ne_eqb (i / 2 ^ h) k n, ← ltb_next (i / 2 ^ h) k n) (first i)

  -- the leaves of those blocks
  pub blocks_all : (k : ℕ) (row : List ℕ) → FirstBlocks row h k f → (i : ℕ) → i / 2 ^ h < k
      → row_leaf row i ≡ f (i / 2 ^ h)
  blocks_all k row first i l = first i ∙ rw (lt-ltb (i / 2 ^ h) k l)
