-- `beside::merge_word` meets its contract.
use Rattle.std.proofs.Common.{◌≡◌, refl, sym, ap, ◌∙◌, subst, ◌+◌, ◌%◌, ◌<◌, ◌≤◌, ◌||◌, arith, pow_pos, ℕ}
use Rattle.std.proofs.Math.Decide.{dec_le}
use lib.Pow.{pow-lt}
use Rattle.shares.specs.Constant.{bit}
use Rattle.shares.specs.BitLaws.{bit_of_or}
use Rattle.shares.specs.Shifts.{power_shift}
use Rattle.beside.specs.GatherLaws.{merged_same}
use Rattle.beside.specs.MergeLaws.{merge_start, merge_more, merge_whole}
use Rattle.beside.specs.Beside.{Merged, MergedTo}
use Rattle.beside.proofs.merge_word.Goals as goal

pub loop-p-init : goal.loop-p-init
loop-p-init c = record { merged = λ h. merge_start c.args.n c.args.x; same = λ h. refl }

-- the turn is by 2 ^ p
pub turned-r-requires : goal.turned-r-requires
turned-r-requires c =
    subst (λ k. (0 < k) × (k < 64)) (sym (power_shift c.loop-p.p (omega arith))) (
      pow_pos c.loop-p.p,
      pow-lt {j = 6} c.loop-p-test.true,
    )

pub loop-p-preserved : goal.loop-p-preserved
loop-p-preserved c =
    let l = c.loop-p in
    let turn = power_shift l.p (omega arith) in
    record {
      merged = λ n6. merge_more _ l.p _ l.r _ (omega arith) (l.invariant.merged n6)
          (λ i h.
          bit_of_or l.r c.turned-r.result i
          ∙ ap (◌||◌ (bit l.r i)) (c.turned-r.ensures i h ∙ ap (λ k. bit l.r ((i + k) % 64)) turn));
      same = λ h. absurd (omega arith);
    }

-- with six digits or more every bit is merged with itself alone
whole : (n x r p : ℕ) → 6 ≤ p → (n ≤ 6 → p ≤ 6) → (n ≤ 6 → MergedTo n p x r) → (6 ≤ n → r ≡ x) → Merged n x r
whole n x r p far end merged same = go (dec_le n 6)
  where
    go : Dec (n ≤ 6) → Merged n x r
    go (yes h) = let e : p ≡ 6 =
        omega (arith, end h) in merge_whole n x r h (subst (λ k. MergedTo n k x r) e (merged h))
    go (no h) = rw (same (omega arith)) (merged_same n x (omega arith))

pub returns : goal.returns
returns c = let l = c.loop-p in
    whole c.args.n c.args.x l.r l.p c.loop-p-test.false l.auto.p-end l.invariant.merged l.invariant.same
