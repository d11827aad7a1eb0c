-- A plan whose entries are those of a problem shows the problem's fixed solution. Assumes nothing.
use Rattle.std.specs.Prelude.{◌≡◌, ◌&&◌, T, ltb, eqb}
use Rattle.std.proofs.Math.Path.{sym, ap, ap₂}
use Rattle.std.proofs.Common.{◌∙◌, arith}
use Rattle.std.proofs.Math.Bool.{cond}
use Prim.Native.Nat.{ℕ, zero, suc, ◌+◌, ◌*◌, ◌/◌, ◌%◌, ◌^◌, ◌≤◌, ◌<◌}
use Rattle.std.proofs.Math.Decide.{dec_lt, ℕ_discrete}
use Rattle.std.proofs.Math.ListN.{get_or}
use Rattle.std.proofs.Math.Pow.{high, low, split, shr_lt}
use borrow.Author.Tests.{lt-ltb, le-ltb, eq-eqb, ne_eqb}
use Rattle.shares.specs.Below.{some_below}
use Rattle.shares.specs.Blocks.{block_of}
use Rattle.shares.specs.BlockLaws.{block_split}
use Rattle.leaves.specs.Choices.{least}
use Rattle.leaves.specs.RowNumbers.{value}
use Rattle.leaves.specs.Problem.{Problem, solvable}
use Rattle.leaves.specs.Fixed.{held_at, carried_at, fixed_at}
use Rattle.leaves.proofs.ProblemLaws.{held_there, at_rank, rank_lt, plain_passes, leaf_passes, fixed_split}
use Rattle.plans.specs.declared.Plan.{Plan}
use Rattle.plans.specs.Shown.{entry_at, plan_choice_after, plan_choice}
use Rattle.leaves.specs.Numbers.{numbered, leaf_for, rank_for, plain_choice, special_choice}
use Rattle.leaves.specs.ChoiceLaws.{pick_number}
use Rattle.plans.specs.NumberLaws.{plain_is, special_is}
use Rattle.plans.specs.Pairs.{Made}

module _ (n h : ℕ) (R : Problem ℕ) (k : ℕ) (plan : Plan) (M : Made n h R k plan) (room : R.count ≤ 2 ^ k) (s : ℕ)
    (s< : s < 2 ^ (h + k)) where
  b : ℕ
  b = s / 2 ^ k

  r : ℕ
  r = s % 2 ^ k

  g : ℕ
  g = held_at (least n) h (numbered n R) b r

  -- the disequation at a sub-leaf stands there
  at_there : g < R.count → (leaf_for n h R g ≡ b) × (rank_for n h R g ≡ r)
  unfolding g
  at_there l = held_there (least n) h (numbered n R) b r l

  -- and the one that stands there is the disequation at it
  there_at : (j : ℕ) → j < R.count → s ≡ leaf_for n h R j * 2 ^ k + rank_for n h R j → (j ≡ g) × (leaf_for n h R j ≡ b)
  unfolding b r g
  there_at j l e =
      let m = rank_lt (least n) h (numbered n R) k j room l in
      let e₁ : b ≡ leaf_for n h R j = ap (λ x. x / 2 ^ k) e ∙ high (leaf_for n h R j) k m in
      let e₂ : r ≡ rank_for n h R j = ap (λ x. x % 2 ^ k) e ∙ low (leaf_for n h R j) k m in
      (sym (ap₂ (held_at (least n) h (numbered n R)) e₁ e₂ ∙ at_rank (least n) h (numbered n R) j l), sym e₁)

  -- the plan once its first m entries stand
  after : (m : ℕ) → m ≤ R.count
      → plan_choice_after plan m s ≡ cond (ltb g m) (special_choice n h R g b) (plain_choice n h R b)
  unfolding plan_choice_after b r
  after zero l =
      rw (le-ltb g 0 (omega arith))
      (ap₂ (λ x y. get_or plan.plain (block_of x y s) 0) M.low M.high
      ∙ ap (λ x. get_or plan.plain x 0) (block_split h k s)
      ∙ M.plains (s / 2 ^ k) (shr_lt h k s<))
  after (suc m) l = go (ℕ_discrete s (entry_at plan.entries m).subleaf) (after m (omega arith))
    where
      go : Dec (s ≡ (entry_at plan.entries m).subleaf)
          → plan_choice_after plan m s ≡ cond (ltb g m) (special_choice n h R g b) (plain_choice n h R b)
          → cond (eqb s (entry_at plan.entries m).subleaf) (entry_at plan.entries m).choice (plan_choice_after plan m s)
          ≡ cond (ltb g (suc m)) (special_choice n h R g b) (plain_choice n h R b)
      go (yes e) ih =
          let (same, at) = there_at m l (e ∙ M.sub_leaves m l) in
          rw (eq-eqb s (entry_at plan.entries m).subleaf e, lt-ltb g (suc m) (omega arith))
          (M.choices m l ∙ ap₂ (special_choice n h R) same at)
      go (no e) ih = other (dec_lt g m)
        where
          not_m : g ≡ m → ⊥
          not_m q =
              let (at, rank) = at_there (omega arith) in
              e (sym (split s k) ∙ ap₂ (λ x y. x * 2 ^ k + y) (sym at) (sym rank)
              ∙ ap (λ j. leaf_for n h R j * 2 ^ k + rank_for n h R j) q ∙ sym (M.sub_leaves m l))

          other : Dec (g < m) → cond (eqb s (entry_at plan.entries m).subleaf) (entry_at plan.entries m).choice
              (plan_choice_after plan m s)
              ≡ cond (ltb g (suc m)) (special_choice n h R g b) (plain_choice n h R b)
          other (yes u) = rw (ne_eqb s (entry_at plan.entries m).subleaf e, lt-ltb g (suc m) (omega arith)) (ih
              ∙ rw (lt-ltb g m u))
          other (no u) = rw (ne_eqb s (entry_at plan.entries m).subleaf e, le-ltb g (suc m) (omega (arith, not_m))) (ih
              ∙ rw (le-ltb g m (omega arith)))

  pub plan_shows : T (solvable (least n) h (numbered n R))
      → plan_choice plan s ≡ value (fixed_at (least n) h (numbered n R) (h + k) s)
  unfolding carried_at b r g
  plan_shows t =
      ap (λ m. plan_choice_after plan m s) M.count ∙ after R.count (omega arith) ∙ go (dec_lt g R.count)
      ∙ ap value (sym (fixed_split (least n) h (numbered n R) k s))
    where
      bl : b < 2 ^ h
      bl = shr_lt h k s<

      go : Dec (g < R.count) → cond (ltb g R.count) (special_choice n h R g b) (plain_choice n h R b)
          ≡ value (cond (ltb g R.count) ((least n).pick (λ v. R.pos b (value v) && R.dis g b (value v)))
          ((least n).pick (λ v. R.pos b (value v))))
      go (yes l) =
          let (at, rank) = at_there l in
          let u : T (some_below (2 ^ n) (λ x. R.pos b x && R.dis g b x)) =
          rw (special_is n h R g b) at (rw at at (leaf_passes (least n) h (numbered n R) t g l).1) in
          rw (lt-ltb g R.count l) (sym (pick_number n (λ x. R.pos b x && R.dis g b x) u))
      go (no l) =
          let u : T (some_below (2 ^ n) (R.pos b)) =
          rw (plain_is n h R b) at (plain_passes (least n) h (numbered n R) t b bl) in
          rw (le-ltb g R.count (omega arith)) (sym (pick_number n (R.pos b) u))
