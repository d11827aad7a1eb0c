-- A turn takes the lowest bit that is set out of the rest, which is smaller then. Assumes nothing.
use Rattle.std.proofs.Common.{◌≡◌, ◌&&◌, not, ℕ, ◌^◌, ◌<◌, ◌≤◌, eqb, arith}
use Rattle.shares.specs.Below.{first_below}
use Rattle.shares.specs.BelowLaws.{first_least}
use Rattle.shares.specs.Constant.{bit}
use Rattle.words.specs.LowestLaws.{lowest_set, without_less}
use Rattle.words.specs.SetBits.{TakesLowest}
use Rattle.words.proofs.SetBitsIterator.next.Goals as goal

taken : (x y i : ℕ) → x < 2 ^ 64 → (x ≡ 0 → ⊥) → i ≡ first_below 64 (bit x) → y ≤ x
    → ((k : ℕ) → bit y k ≡ (bit x k && not (eqb k (first_below 64 (bit x)))))
    → TakesLowest (record { rest = x }) i (record { rest = y })
taken x y i small some e less out =
    let low = lowest_set x i small some e in
    let out_i : (k : ℕ) → bit y k ≡ (bit x k && not (eqb k i)) = rw e out in
    record {
      in_word = low.0;
      set = low.1;
      lowest = λ k l. first_least 64 (bit x) k (omega (arith, e));
      out = out_i;
      less = without_less x y i less out_i low.1;
    }

pub returns-clause-steps : goal.returns-clause-steps
returns-clause-steps c =
    taken c.args.self.now.rest _ _ (omega arith) c.if-self-eq0.false c.lowest-i.ensures c.without_lowest-self.ensures.0
    c.without_lowest-self.ensures.1

pub returns-clause-goes : goal.returns-clause-goes
returns-clause-goes c =
    let t = taken c.args.self.now.rest _ _ (omega arith) c.if-self-eq0.false c.lowest-i.ensures
    c.without_lowest-self.ensures.0 c.without_lowest-self.ensures.1 in
    record { on = λ f. (tt, tt, t.less); keeps = tt; rests = λ f. tt }
