-- Laws of unlike leaves: they give the height of a number, and those of two numbers together the greater of both
-- heights. Assumes nothing.
use Rattle.std.specs.Prelude.{◌≡◌, refl, Bool, true, false, cond, ◌&&◌, ◌||◌, ◌↔◌, ℕ, zero, suc, ◌+◌, ◌-◌, ◌*◌, ◌/◌}
use Rattle.std.specs.Prelude.{◌%◌, ◌^◌, ◌≤◌, ◌<◌, min, max, T, ltb, eqb}
use Rattle.std.proofs.Common.{sym, ◌∙◌, true≢false, zero-mul, div-add-mod', mod-lt, lt_of_le_of_lt, arith, ltb→lt}
use Rattle.std.proofs.Common.{lt→ltb, eqb→eq, pow_pos, eq-eqb, ne_eqb}
use Rattle.std.proofs.Math.Path.{ap}
use Rattle.std.proofs.Math.Bool.{xor}
use Rattle.std.proofs.Math.Decide.{ℕ_discrete}
use Rattle.std.proofs.Math.Nat.{zero-div}
use Rattle.std.proofs.Math.Arith.{digits_div}
use Rattle.std.specs.Int.Bits.{bit_and, bit_or, and_zero_l}
use Rattle.std.proofs.lemmas.Nat.{and_le_r}
use Rattle.std.proofs.Math.Dec.{eqb_refl}
use Rattle.shares.specs.Test.{and_intro, and_left, and_right}
use Rattle.shares.specs.Blocks.{block_of, first_of}
use Rattle.shares.specs.Tree.{height, tree_of}
use Rattle.shares.proofs.TreeLaws.{tree_of_height, height_iff}
use Rattle.shares.specs.Constant.{bit, number_tree}
use Rattle.shares.specs.BitLaws.{bit_of_and, bit_of_or, bit_of_xor, bit_half, bit_zero, bits_zero, number_lt}
use Rattle.shares.specs.BitLaws.{bit_number}
use Rattle.shares.specs.Unlike.{inner, inner_mask, unlike, raised}

-- ---- the height of a number

-- a leaf that is not in its neighbour's block is the first of its own
starts : (i b : ℕ) → 0 < b → ¬ (i / b ≡ suc i / b) → suc i / b * b ≡ suc i
starts i b p n = go (suc i % b) refl
  where
    q : ℕ
    q = suc i / b

    whole : q * b + suc i % b ≡ suc i
    whole = div-add-mod' (suc i) b

    go : (r : ℕ) → suc i % b ≡ r → q * b ≡ suc i
    go zero e = omega (arith, whole)
    go (suc r) e =
        let small : r < b = omega (arith, mod-lt (suc i) p) in
        let here : i ≡ q * b + r = omega (arith, whole) in
        absurd (n (ap (λ m. m / b) here ∙ digits_div q small))

-- a tree of given leaves is no taller than h exactly if neighbours in a block are equal
neighbours_iff : (h w : ℕ) (f : ℕ → Bool) → h ≤ w
    → (height (tree_of w f) ≤ h) ↔ ((i : ℕ) → T (inner h w i) → f i ≡ f (suc i))
neighbours_iff h w f le = (λ low. only ((height_iff h w f le).0 low), λ e. (height_iff h w f le).1 (back e))
  where
    first : ℕ → ℕ
    first i = first_of h w (block_of h w i)

    only : ((i : ℕ) → i < 2 ^ w → f i ≡ f (first i)) → (i : ℕ) → T (inner h w i) → f i ≡ f (suc i)
    only e i t =
        let l : suc i < 2 ^ w = ltb→lt (suc i) (2 ^ w) (and_left (ltb (suc i) (2 ^ w)) _ t) in
        let same : block_of h w i ≡ block_of h w (suc i) = eqb→eq _ _ (and_right (ltb (suc i) (2 ^ w)) _ t) in
        e i (omega arith) ∙ ap (λ b. f (first_of h w b)) same ∙ sym (e (suc i) l)

    back : ((i : ℕ) → T (inner h w i) → f i ≡ f (suc i)) → (i : ℕ) → i < 2 ^ w → f i ≡ f (first i)
    back e zero l = ap f (sym (ap (λ n. n * 2 ^ (w - h)) (zero-div (2 ^ (w - h))) ∙ zero-mul (2 ^ (w - h))))
    back e (suc i) l = go (ℕ_discrete (block_of h w i) (block_of h w (suc i))) (back e i (omega arith))
      where
        go : Dec (block_of h w i ≡ block_of h w (suc i)) → f i ≡ f (first i) → f (suc i) ≡ f (first (suc i))
        go (yes same) ih =
            let t : T (inner h w i) = and_intro (ltb (suc i) (2 ^ w)) _ (lt→ltb _ _ l)
            (rw same (eqb_refl (block_of h w (suc i)))) in
            sym (e i t) ∙ ih ∙ ap (λ b. f (first_of h w b)) same
        go (no other) ih = ap f (sym (starts i (2 ^ (w - h)) (pow_pos (w - h)) other))

-- under a test t, two bits that do not differ are equal
same_under : (a b t : Bool) → ((xor a b && t) ≡ false) ↔ (T t → a ≡ b)
unfolding xor
same_under true true t = (λ e u. refl, λ f. refl)
same_under true false true = (λ e u. e, λ f. f tt)
same_under true false false = (λ e u. absurd u, λ f. refl)
same_under false true true = (λ e u. sym e, λ f. sym (f tt))
same_under false true false = (λ e u. absurd u, λ f. refl)
same_under false false t = (λ e u. refl, λ f. refl)

-- a test on what is unlike as a whole: it is 0 under a mask exactly if no bit under it is set
module _ (h w d : ℕ) where
  mask_lt : inner_mask h w < 2 ^ (2 ^ w)
  unfolding inner_mask
  mask_lt = number_lt (2 ^ w) (inner h w)

  masked_bit : (i : ℕ) → i < 2 ^ w → bit (bit_and d (inner_mask h w)) i ≡ (bit d i && inner h w i)
  unfolding inner_mask
  masked_bit i l = bit_of_and d (inner_mask h w) i ∙ ap (bit d i &&◌) (bit_number (2 ^ w) (inner h w) i l)

  masked_iff : (bit_and d (inner_mask h w) ≡ 0) ↔ ((i : ℕ) → i < 2 ^ w → (bit d i && inner h w i) ≡ false)
  masked_iff = (
    λ e i l. sym (masked_bit i l) ∙ ap (λ n. bit n i) e ∙ bit_zero i,
    λ f. bits_zero (2 ^ w) _ (lt_of_le_of_lt (and_le_r d (inner_mask h w)) mask_lt) (λ i l. masked_bit i l ∙ f i l),
  )

-- so it tells whether the number is taller than h
pub height_mask_iff : (h w x : ℕ) → h ≤ w → (height (number_tree w x) ≤ h) ↔ (bit_and (unlike x) (inner_mask h w) ≡ 0)
height_mask_iff h w x le = (
  λ low. (masked_iff h w (unlike x)).1 (under ((neighbours_iff h w (bit x) le).0 low)),
  λ e. (neighbours_iff h w (bit x) le).1 (same e),
)
  where
    differ : (i : ℕ) → bit (unlike x) i ≡ xor (bit x i) (bit x (suc i))
    differ i = bit_of_xor x (x / 2) i ∙ ap (xor (bit x i)) (bit_half x i)

    under : ((i : ℕ) → T (inner h w i) → bit x i ≡ bit x (suc i)) → (i : ℕ) → i < 2 ^ w
        → (bit (unlike x) i && inner h w i) ≡ false
    under f i l = ap (◌&& inner h w i) (differ i) ∙ (same_under (bit x i) (bit x (suc i)) (inner h w i)).1 (f i)

    same : bit_and (unlike x) (inner_mask h w) ≡ 0 → (i : ℕ) → T (inner h w i) → bit x i ≡ bit x (suc i)
    same e i t =
        let l : suc i < 2 ^ w = ltb→lt (suc i) (2 ^ w) (and_left (ltb (suc i) (2 ^ w)) _ t) in
        (same_under (bit x i) (bit x (suc i)) (inner h w i)).0 (ap (◌&& inner h w i) (sym (differ i))
        ∙ (masked_iff h w (unlike x)).0 e i (omega arith)) t

-- one test more
pub raised_more : (w h d : ℕ) {before r : ℕ} → before ≡ raised w h d
    → r ≡ cond (eqb (bit_and d (inner_mask h w)) 0) before (suc h) → r ≡ raised w (suc h) d
unfolding raised
raised_more w h d e t = t ∙ ap (λ b. cond (eqb (bit_and d (inner_mask h w)) 0) b (suc h)) e

-- what is unlike raises the height to that of the number, as far as was tested
raised_height : (w h x : ℕ) → h ≤ w → raised w h (unlike x) ≡ min h (height (number_tree w x))
unfolding raised
raised_height w zero x le = omega arith
raised_height w (suc h) x le =
    go (ℕ_discrete (bit_and (unlike x) (inner_mask h w)) 0) (raised_height w h x (omega arith))
  where
    go : Dec (bit_and (unlike x) (inner_mask h w) ≡ 0) → raised w h (unlike x) ≡ min h (height (number_tree w x))
        → cond (eqb (bit_and (unlike x) (inner_mask h w)) 0) (raised w h (unlike x)) (suc h)
        ≡ min (suc h) (height (number_tree w x))
    go (yes e) ih = rw (eq-eqb _ 0 e) (omega (arith, ih, (height_mask_iff h w x (omega arith)).1 e))
    go (no n) ih =
        let taller : ¬ (height (number_tree w x) ≤ h) = λ low. n ((height_mask_iff h w x (omega arith)).0 low) in
        rw (ne_eqb _ 0 n) (omega arith)

-- all tests give its height
pub unlike_height : (w x : ℕ) → raised w w (unlike x) ≡ height (number_tree w x)
unlike_height w x = raised_height w w x (omega arith) ∙ omega (arith, tree_of_height w (bit x))

-- ---- what is unlike in several numbers

-- none gives height 0
pub raised_none : (w h : ℕ) → raised w h 0 ≡ 0
unfolding raised
raised_none w zero = refl
raised_none w (suc h) = rw (and_zero_l (inner_mask h w)) (raised_none w h)

-- under a test, one of two bits is set nowhere exactly if neither is
neither : (a b t : Bool) → (((a || b) && t) ≡ false) ↔ (((a && t) ≡ false) × ((b && t) ≡ false))
neither true b true = (λ e. absurd (true≢false e), λ (p, q). p)
neither true true false = (λ e. (refl, refl), λ p. refl)
neither true false false = (λ e. (refl, refl), λ p. refl)
neither false b t = (λ e. (refl, e), λ (p, q). q)

module _ (h w d e : ℕ) where
  either_masked : (bit_and (bit_or d e) (inner_mask h w) ≡ 0) ↔ ((bit_and d (inner_mask h w) ≡ 0)
      × (bit_and e (inner_mask h w) ≡ 0))
  either_masked =
      let N : (i : ℕ) → ((bit (bit_or d e) i && inner h w i) ≡ false) ↔ (((bit d i && inner h w i) ≡ false)
      × ((bit e i && inner h w i) ≡ false)) =
      λ i. rw (bit_of_or d e i) (neither (bit d i) (bit e i) (inner h w i)) in (
        λ z. (
          (masked_iff h w d).1 (λ i l. ((N i).0 ((masked_iff h w (bit_or d e)).0 z i l)).0),
          (masked_iff h w e).1 (λ i l. ((N i).0 ((masked_iff h w (bit_or d e)).0 z i l)).1),
        ),
        λ (p, q). (masked_iff h w (bit_or d e)).1
            (λ i l. (N i).1 ((masked_iff h w d).0 p i l, (masked_iff h w e).0 q i l)),
      )

  either_tested : eqb (bit_and (bit_or d e) (inner_mask h w)) 0
      ≡ (eqb (bit_and d (inner_mask h w)) 0 && eqb (bit_and e (inner_mask h w)) 0)
  either_tested = go (ℕ_discrete (bit_and d (inner_mask h w)) 0) (ℕ_discrete (bit_and e (inner_mask h w)) 0)
    where
      go : Dec (bit_and d (inner_mask h w) ≡ 0) → Dec (bit_and e (inner_mask h w) ≡ 0)
          → eqb (bit_and (bit_or d e) (inner_mask h w)) 0
          ≡ (eqb (bit_and d (inner_mask h w)) 0 && eqb (bit_and e (inner_mask h w)) 0)
      go (yes p) (yes q) = rw (eq-eqb _ 0 (either_masked.1 (p, q)), eq-eqb _ 0 p, eq-eqb _ 0 q) refl
      go (yes p) (no q) = rw (ne_eqb _ 0 (λ z. q (either_masked.0 z).1), eq-eqb _ 0 p, ne_eqb _ 0 q) refl
      go (no p) q = rw (ne_eqb _ 0 (λ z. p (either_masked.0 z).0), ne_eqb _ 0 p) refl

-- what is found is no greater than what was tested for
raised_le : (w h d : ℕ) → raised w h d ≤ h
unfolding raised
raised_le w zero d = omega arith
raised_le w (suc h) d = go (eqb (bit_and d (inner_mask h w)) 0) (raised_le w h d)
  where
    go : (t : Bool) → raised w h d ≤ h → cond t (raised w h d) (suc h) ≤ suc h
    go true ih = omega arith
    go false ih = omega arith

-- what is unlike in one or the other raises the height to the greater of theirs
pub raised_or : (w h d e : ℕ) → raised w h (bit_or d e) ≡ max (raised w h d) (raised w h e)
unfolding raised
raised_or w zero d e = omega arith
raised_or w (suc h) d e =
    ap (λ t. cond t (raised w h (bit_or d e)) (suc h)) (either_tested h w d e)
    ∙ go (eqb (bit_and d (inner_mask h w)) 0) (eqb (bit_and e (inner_mask h w)) 0) (raised_or w h d e) (raised_le w h d)
    (raised_le w h e)
  where
    go : (s t : Bool) → raised w h (bit_or d e) ≡ max (raised w h d) (raised w h e) → raised w h d ≤ h
        → raised w h e ≤ h
        → cond (s && t) (raised w h (bit_or d e)) (suc h)
        ≡ max (cond s (raised w h d) (suc h)) (cond t (raised w h e) (suc h))
    go true true ih p q = ih
    go true false ih p q = omega arith
    go false true ih p q = omega arith
    go false false ih p q = omega arith
