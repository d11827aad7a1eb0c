-- `pass::pass_leaves` meets its contract.
use Rattle.std.proofs.Common.{◌≡◌, refl, sym, ◌∙◌, ℕ, ◌^◌, ◌≤◌, ◌<◌, List, Option, None, Some, IfSome, get_or}
use Rattle.std.proofs.Common.{length-set, pow_mono, arith}
use lib.ListN.{get_or-replicate}
use Rattle.shares.specs.BitLaws.{bit_zero}
use Rattle.shares.specs.Shifts.{power_shift}
use Rattle.shares.specs.Test.{of_true}
use Rattle.steps.specs.Steps.{posed}
use Rattle.steps.specs.Tests.{leaf_values}
use Rattle.pass.specs.PassLaws.{values_within, keys_more, after_none, passed_all, passed_none}
use Rattle.pass.proofs.pass_leaves.Goals as goal

pub start_terms-requires : goal.start_terms-requires
start_terms-requires c = (c.args.question.now.readable.variables, λ t l. get_or-replicate 64 t 0 0 l)

-- there are at most 64 leaves
few : (h b leaves : ℕ) → h ≤ 5 → leaves ≡ 2 ^ h → b < leaves → b < 64
few h b leaves l e m = omega (arith, pow_mono {i = h} {j = 6} (omega arith))

-- a leaf that looks like this one stands before it, and the constants have the same values there
module _ (keys : List ℕ) (values b : ℕ) where
  before : (r : Option ℕ) → IfSome r (λ a. (a < b) × (get_or keys a 0 ≡ values)) → IfSome r (λ a. a < b)
  before None p = p
  before (Some a) p = p.0

  same : (f : ℕ → ℕ) (x : ℕ) → ((i : ℕ) → i < b → get_or keys i 0 ≡ f i) → x ≡ values
      → (r : Option ℕ) → IfSome r (λ a. (a < b) × (get_or keys a 0 ≡ values)) → IfSome r (λ a. f a ≡ x)
  same f x known e None p = p
  same f x known e (Some a) p = sym (known a p.0) ∙ p.1 ∙ sym e

pub loop-b-init : goal.loop-b-init
loop-b-init c =
    let a = c.args in
    let q = a.question.now in
    record {
      long = refl;
      placed = (0, 0, λ i l. bit_zero i, c.start_terms.ensures);
      keys = λ i l. absurd (omega arith);
      after = rw (power_shift (get_or q.sizes.counts 3 0) (omega (arith, q.readable.few)))
          (after_none (posed q) q.sizes.height a.search a.firsts.now a.plains.now a.rows.now c.requires.named.1);
    }

pub first_like-like-requires : goal.first_like-like-requires
first_like-like-requires c =
    omega (
      arith,
      few c.args.question.now.sizes.height c.loop-b.b c.power-b-end.result c.requires.bounded.height
          c.power-b-end.ensures c.loop-b-test.true,
    )

pub bounds-keys-b : goal.bounds-keys-b
bounds-keys-b c = few c.args.question.now.sizes.height c.loop-b.b c.power-b-end.result c.requires.bounded.height
    c.power-b-end.ensures c.loop-b-test.true

pub visit-seen-requires : goal.visit-seen-requires
visit-seen-requires c = (
  c.requires.named.0,
  few c.args.question.now.sizes.height c.loop-b.b c.power-b-end.result c.requires.bounded.height c.power-b-end.ensures
      c.loop-b-test.true,
  before c.loop-b.keys c.values_at-values.result c.loop-b.b _ c.first_like-like.ensures,
  c.requires.bounded,
  (let e : c.from.result ≡ c.values_at-values.result =
      cc in rw (e, c.values_at-values.ensures) (values_within _ _ _ _ _)),
  c.loop-b.invariant.placed,
)

pub returns-then-not-digit : goal.returns-then-not-digit
returns-then-not-digit c =
    let a = c.args in
    let q = a.question.now in
    let l = c.loop-b in
    let e : c.from.result ≡ c.values_at-values.result = cc in
    passed_none (posed q) q.sizes.height a.search l.b c.visit-seen.result _ _ _
    (omega (arith, c.power-b-end.ensures, c.loop-b-test.true)) (sym c.digit.ensures ∙ c.if-not-digit.true)
    (c.visit-seen.ensures.by_index q.sizes.height (e ∙ c.values_at-values.ensures)
    (same l.keys c.values_at-values.result l.b (leaf_values (posed q) q.sizes.height) c.from.result l.invariant.keys e _
    c.first_like-like.ensures) l.invariant.after)

pub loop-b-preserved : goal.loop-b-preserved
loop-b-preserved c =
    let a = c.args in
    let q = a.question.now in
    let l = c.loop-b in
    let e : c.from.result ≡ c.values_at-values.result = cc in
    let W = c.visit-seen.ensures.by_index q.sizes.height (e ∙ c.values_at-values.ensures)
    (same l.keys c.values_at-values.result l.b (leaf_values (posed q) q.sizes.height) c.from.result l.invariant.keys e _
    c.first_like-like.ensures) l.invariant.after in
    record {
      long = simp length-set l.invariant.long;
      placed = c.visit-seen.ensures.placed_within;
      keys = keys_more (leaf_values (posed q) q.sizes.height) l.keys l.b c.values_at-values.result
          (omega (
            arith,
            few q.sizes.height l.b c.power-b-end.result c.requires.bounded.height c.power-b-end.ensures
                c.loop-b-test.true,
          )) c.values_at-values.ensures l.invariant.keys;
      after = W.done (of_true (sym c.digit.ensures ∙ c.if-not-digit.false));
    }

pub returns : goal.returns
returns c =
    let a = c.args in
    let q = a.question.now in
    let l = c.loop-b in
    let e : l.b ≡ 2 ^ q.sizes.height = omega (arith, c.power-b-end.ensures) in
    passed_all (posed q) q.sizes.height a.search l.seen l.firsts l.plains l.rows (rw e at l.invariant.after)
