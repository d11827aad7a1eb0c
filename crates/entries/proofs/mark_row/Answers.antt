-- Those that are not set yet are left, and a turn moves one over. Assumes nothing.
use Rattle.std.proofs.Common.{◌≡◌, refl, sym, ap, ap₂, ◌∙◌, subst, Bool, true, false, not, ◌&&◌, ◌||◌, ℕ, ◌+◌, T, ltb}
use Rattle.std.proofs.Common.{ltb→lt, lt-ltb, get_or, arith}
use Rattle.std.proofs.Math.Bool.{or-false}
use Rattle.shares.specs.Test.{and_left}
use Rattle.shares.specs.Constant.{bit}
use Rattle.shares.specs.BitLaws.{bit_zero}
use Rattle.words.specs.ClauseLaws.{not_bits}
use Rattle.entries.specs.Entry.{common}
use Rattle.entries.proofs.mark_row.Goals as goal

rest_of : (m p : Bool) → (m || (not m && p)) ≡ (m || p)
rest_of true p = refl
rest_of false p = refl

pub loop-i-init : goal.loop-i-init
loop-i-init c =
    let a = c.args in
    let first = c.first_bits.ensures.1 in
    let p = λ (k : ℕ). common (get_or a.rows.now (32 + k) 0) (get_or a.rows.now a.j 0) in
    let e : c.into_iter-i-iterator.result.rest ≡ c.first_bits.result = cc in
    rw e
    (record {
      among = λ k t. ltb→lt k a.count (and_left (ltb k a.count) _ (subst T (first k) t));
      all = λ k l.
          ap (λ b. bit a.mark k || (b && p k))
          (first k ∙ ap₂ ◌&&◌ (lt-ltb k a.count l)
          (not_bits a.mark k (bit a.mark k) c.ranges.mark.fits (omega arith) refl)) ∙ rest_of (bit a.mark k) (p k);
    })

pub returns : goal.returns
returns c i m =
    let l = c.loop-i in
    let p = common (get_or c.args.rows.now (32 + i) 0) (get_or c.args.rows.now c.args.j 0) in
    let e : bit l.i-iterator.rest i ≡ false = ap (λ x. bit x i) c.in-None.ensures.steps ∙ bit_zero i in
    sym (or-false (bit l.r i)) ∙ ap (λ b. bit l.r i || (b && p)) (sym e) ∙ l.invariant.all i m
