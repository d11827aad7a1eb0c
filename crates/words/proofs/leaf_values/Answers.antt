-- A turn moves one value over to the bits that are there. Assumes nothing.
use Rattle.std.proofs.Common.{◌≡◌, refl, sym, ap, ◌∙◌, ◌&&◌, ◌||◌, false, ℕ, ◌*◌, ◌/◌, ◌%◌, ◌^◌, ◌<◌, eqb, get_or}
use Rattle.std.proofs.Common.{bit_and, bit_or, arith, mod-lt}
use Rattle.std.proofs.Math.Path.{ap₂}
use Rattle.std.proofs.Math.Bool.{or-false}
use Rattle.std.proofs.Math.Pow.{shl_exact}
use Rattle.std.proofs.lemmas.Nat.{and_mask}
use Rattle.shares.specs.Constant.{bit}
use Rattle.shares.specs.BitLaws.{bit_zero, bit_of_or}
use Rattle.shares.specs.BitParts.{bit_digit, digit_of}
use Rattle.words.specs.LowestLaws.{set_below, moved_over}
use Rattle.words.proofs.leaf_values.Goals as goal

-- value i, put at bit i beside the others
placed : (r x leaf i : ℕ) → i < 32 → (j : ℕ) → bit (bit_or r (bit_and (x / 2 ^ leaf) 1 * 2 ^ i % 2 ^ 64)) j
    ≡ (bit r j || (eqb j i && bit x leaf))
placed r x leaf i l j =
    let v = x / 2 ^ leaf % 2 in
    let v-lt : v < 2 = mod-lt (x / 2 ^ leaf) (omega arith) in
    let moved : bit_and (x / 2 ^ leaf) 1 * 2 ^ i % 2 ^ 64 ≡ v * 2 ^ i =
    ap (λ y. y * 2 ^ i % 2 ^ 64) (and_mask (x / 2 ^ leaf) 1) ∙ shl_exact 1 i 64 v-lt (omega arith) in
    ap (λ y. bit (bit_or r y) j) moved ∙ bit_of_or r (v * 2 ^ i) j
    ∙ ap (◌||◌ (bit r j)) (bit_digit v i j v-lt ∙ ap (◌&&◌ (eqb j i)) (digit_of x leaf))

pub loop-i-init : goal.loop-i-init
loop-i-init c =
    let e : c.into_iter-i-iterator.result.rest ≡ c.args.named = cc in
    rw e (record { within = omega arith; all = λ j. rw bit_zero refl })

pub bounds-constants-i : goal.bounds-constants-i
bounds-constants-i c = set_below 32 c.loop-i.i-iterator.rest _ (omega arith) c.in-Some.ensures.steps.set

pub loop-i-preserved : goal.loop-i-preserved
loop-i-preserved c =
    let l = c.loop-i in
    let t = c.in-Some.ensures.steps in
    let v = λ (j : ℕ). bit (get_or c.args.constants.now j 0) c.args.leaf in
    let here = set_below 32 l.i-iterator.rest _ (omega arith) t.set in
    record {
      within = omega (arith, t.less);
      all = λ j.
          ap₂ (λ y z. y || (z && v j))
          (placed l.r (get_or c.args.constants.now c.in-Some.i 0) c.args.leaf c.in-Some.i here j) (t.out j)
          ∙ moved_over (bit l.r) (bit l.i-iterator.rest) v c.in-Some.i t.set j ∙ l.invariant.all j;
    }

pub returns : goal.returns
returns c i =
    let l = c.loop-i in
    let e : bit l.i-iterator.rest i ≡ false = ap (λ x. bit x i) c.in-None.ensures.steps ∙ bit_zero i in
    sym (or-false (bit l.r i)) ∙ ap (λ b. bit l.r i || (b && bit (get_or c.args.constants.now i 0) c.args.leaf)) (sym e)
    ∙ l.invariant.all i
