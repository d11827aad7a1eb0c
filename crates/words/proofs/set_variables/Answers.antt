-- A turn sets the word of the one variable that has its digit. Assumes nothing.
use Rattle.std.proofs.Common.{◌≡◌, refl, sym, ap, ◌∙◌, ℕ, ◌+◌, ◌*◌, ◌≤◌, ◌<◌, length, get_or, arith}
use Rattle.shares.specs.Constant.{bit}
use Rattle.words.specs.Clause.{position}
use Rattle.words.specs.Table.{Digits}
use Rattle.words.specs.TermLaws.{position_lt, position_twice}
use Rattle.words.specs.Stores.{store_law}
use Rattle.words.proofs.set_variables.Goals as goal

pub loop-p-init : goal.loop-p-init
loop-p-init c = record { set = λ t a b d. absurd (omega arith); kept = λ t a. refl }

pub loop-p-preserved : goal.loop-p-preserved
loop-p-preserved c =
    let l = c.loop-p in
    let a = c.args in
    let s = c.variable_at-t.result in
    let v = c.variable_at-t.ensures in
    let pos = position a.n a.m in
    let in_list : s < length l.terms = omega (arith, v) in
    let apart : (t : ℕ) → t < a.n + a.m → (t ≡ s → ⊥) → pos t ≡ l.p → ⊥ =
    λ t h n e. n (sym (position_twice a.n a.m t h) ∙ ap pos (e ∙ sym v.1) ∙ position_twice a.n a.m s v.0) in
    record {
      set = store_law (λ t x. t < a.n + a.m → a.from ≤ pos t → pos t < l.p + 1 → Digits a.n a.m a.w t x) l.terms s
          c.digit_word.result in_list
          (λ t n h b d. l.invariant.set t h b (omega (arith, apart t h n)))
          (λ h b d i k. c.digit_word.ensures i k ∙ ap (bit (64 * a.w + i)) (sym v.1));
      kept = store_law (λ t x. (t < a.n + a.m → pos t < a.from) → x ≡ get_or a.terms.now t 0) l.terms s
          c.digit_word.result in_list
          (λ t n. l.invariant.kept t) (λ f. absurd (omega (arith, f v.0, v.1)));
    }

pub returns : goal.returns
returns c =
    let l = c.loop-p in
    let a = c.args in
    record { set = λ t h b. l.invariant.set t h b (omega (arith, position_lt a.n a.m t h)); kept = l.invariant.kept }
