-- A search of pairs of a leaf and a choice, numbered leaf by leaf, is a search of the leaves with one of the choices in
-- each. Assumes nothing.
use Rattle.std.specs.Prelude.{◌≡◌, Bool, false, not, ℕ, suc, ◌+◌, ◌*◌, ◌/◌, ◌%◌, ◌<◌, T}
use Rattle.std.proofs.Common.{sym, ap, ap₂, ◌∙◌, subst, mod-lt, div-add-mod', div-lt_iff_lt-mul, suc-mul, arith, T_not}
use Rattle.std.proofs.Math.Decide.{dec_lt}
use Rattle.std.proofs.Math.Arith.{digits_lt, digits_div, digits_mod}
use Rattle.std.proofs.Math.Dec.{not_T}
use Rattle.shares.specs.Test.{is_true, is_false, same_test}
use Rattle.shares.specs.Below.{some_below, first_below}
use Rattle.shares.specs.BelowLaws.{some_found, some_intro, first_passes, first_least, first_is}

-- L leaves of W choices each
module _ (L W : ℕ) (some-width : 0 < W) (f : ℕ → ℕ → Bool) where
  -- the test of the pair of leaf b and choice z
  pair_test : (b z : ℕ) → z < W → f ((b * W + z) / W) ((b * W + z) % W) ≡ f b z
  pair_test b z l = ap₂ f (digits_div b l) (digits_mod b l)

  pub pairs_some : some_below (L * W) (λ u. f (u / W) (u % W)) ≡ some_below L (λ b. some_below W (f b))
  pairs_some =
      same_test (some_below (L * W) (λ u. f (u / W) (u % W))) (some_below L (λ b. some_below W (f b)))
      (λ t.
      let (u, l, v) = some_found (L * W) (λ u. f (u / W) (u % W)) t in
      some_intro L (λ b. some_below W (f b)) (u / W) ((div-lt_iff_lt-mul some-width).1 l)
      (some_intro W (f (u / W)) (u % W) (mod-lt u some-width) v))
      (λ t.
      let (b, l, v) = some_found L (λ b. some_below W (f b)) t in
      let (z, m, w) = some_found W (f b) v in
      some_intro (L * W) (λ u. f (u / W) (u % W)) (b * W + z) (digits_lt l m) (subst T (sym (pair_test b z m)) w))

  -- the first leaf that has a choice, and its first choice
  pub pairs_first : T (some_below L (λ b. some_below W (f b)))
      → first_below (L * W) (λ u. f (u / W) (u % W))
      ≡ first_below L (λ b. some_below W (f b)) * W + first_below W (f (first_below L (λ b. some_below W (f b))))
  pairs_first t =
      first_is (L * W) (λ u. f (u / W) (u % W)) (b * W + z) (digits_lt leaf_lt choice_lt) before
      (pair_test b z choice_lt ∙ is_true (f b z) (first_passes W (f b) within.0 within.1 within.2).1)
    where
      b : ℕ
      b = first_below L (λ b. some_below W (f b))

      z : ℕ
      z = first_below W (f b)

      leaf : (b < L) × T (some_below W (f b))
      leaf = let (i, l, v) = some_found L (λ b. some_below W (f b)) t in first_passes L (λ b. some_below W (f b)) i l v

      leaf_lt : b < L
      leaf_lt = leaf.0

      within : (i : ℕ) × (i < W) × T (f b i)
      within = some_found W (f b) leaf.1

      choice_lt : z < W
      choice_lt = (first_passes W (f b) within.0 within.1 within.2).0

      before : (u : ℕ) → u < b * W + z → f (u / W) (u % W) ≡ false
      before u l = is_false (f (u / W) (u % W)) (go (dec_lt (u / W) b))
        where
          go : Dec (u / W < b) → T (not (f (u / W) (u % W)))
          go (yes k) =
              not_T (f (u / W) (u % W)) (λ v.
              T_not (some_below W (f (u / W))) (first_least L (λ b. some_below W (f b)) (u / W) k)
              (some_intro W (f (u / W)) (u % W) (mod-lt u some-width) v))
          go (no k) =
              let up : u / W < suc b = (div-lt_iff_lt-mul some-width).1 (omega (arith, suc-mul b W, choice_lt)) in
              let e : u / W ≡ b = omega arith in
              let cut : b * W + u % W ≡ u = ap (λ k. k * W + u % W) (sym e) ∙ div-add-mod' u W in
              subst (λ k. T (not (f k (u % W)))) (sym e) (first_least W (f b) (u % W) (omega arith))
