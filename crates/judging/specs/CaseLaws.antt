-- Which case of judging is met. Assumes nothing.
use Rattle.std.specs.Prelude.{◌≡◌, refl, Bool, true, false, cond, List, [], ◌∷◌, ℕ, zero, suc, ◌*◌, ◌≤◌, ◌<◌, eqb}
use Rattle.std.specs.Prelude.{length, get_or, drop}
use Rattle.std.proofs.Common.{ap, ◌∙◌, arith}
use borrow.Author.Tests.{eq-eqb, eqb-true}
use Rattle.shares.specs.Test.{is_true, of_true, and_left, and_right}
use Rattle.shares.specs.Constant.{constant_levels}
use Rattle.systems.specs.Questions.{Question}
use Rattle.format.specs.Format.{Result, refused, accepted, read}
use Rattle.format.specs.Limits.{longest}
use Rattle.format.proofs.FormatLaws.{refusal_number, refusal_place}
use Rattle.rows.specs.Rows.{row_bytes, answer_bytes}
use Rattle.judging.specs.Worked
use Rattle.judging.specs.Judging.{turned_away, judged, is_zero, handed_to, judged_with}

-- ---- parts whose bytes are 0

pub zero_part : (part : List ℕ) → ((i : ℕ) → i < length part → get_or part i 0 ≡ 0) → is_zero part ≡ true
unfolding is_zero
zero_part [] f = refl
zero_part (b ∷ part) f = rw (eq-eqb b 0 (f zero (omega arith)), zero_part part (λ i l. f (suc i) (omega arith)))

pub zero_bytes : (part : List ℕ) → is_zero part ≡ true → (i : ℕ) → i < length part → get_or part i 0 ≡ 0
unfolding is_zero
zero_bytes [] e i l = absurd (omega arith)
zero_bytes (b ∷ part) e zero l = eqb-true b 0 (is_true _ (and_left (eqb b 0) (is_zero part) (of_true e)))
zero_bytes (b ∷ part) e (suc i) l =
    zero_bytes part (is_true _ (and_right (eqb b 0) (is_zero part) (of_true e))) i (omega arith)

-- ---- the cases of judging

module _ (s rows : List ℕ) where
  pub judged_refused : (n place : ℕ) → read s ≡ refused n place → judged_with s rows ≡ turned_away n place
  unfolding judged_with
  judged_refused n place e = rw e

  module _ (q : Question) (e : read s ≡ accepted q) where
    pub judged_18 : eqb (length rows) (answer_bytes q.constants.levels) ≡ false → judged_with s rows ≡ turned_away 18 0
    unfolding judged_with
    judged_18 f = rw (e, f)

    module _ (l : length rows ≡ answer_bytes q.constants.levels) where
      pub judged_19 : is_zero (drop (q.free * row_bytes q.constants.levels) rows) ≡ false
          → judged_with s rows ≡ turned_away 19 0
      unfolding judged_with
      judged_19 f = rw (e, eq-eqb (length rows) (answer_bytes q.constants.levels) l, f)

      pub judged_on : is_zero (drop (q.free * row_bytes q.constants.levels) rows) ≡ true → judged_with s rows ≡ judged q
      unfolding judged_with
      judged_on f = rw (e, eq-eqb (length rows) (answer_bytes q.constants.levels) l, f)

-- rows that are judged were handed over with a question that was accepted
pub judged_read : (s rows : List ℕ) (q : Question) → judged_with s rows ≡ judged q → read s ≡ accepted q
unfolding judged_with
judged_read s rows q e = go (read s) refl e
  where
    never : {A : Type 0} (n place : ℕ) → turned_away n place ≡ judged q → A
    never n place f = let z : ◌≡◌ {A = ℕ} 0 1 = cc in absurd (omega arith)

    handed : (p : Question) → (a b : Bool) → read s ≡ accepted p
        → cond a (cond b (judged p) (turned_away 19 0)) (turned_away 18 0) ≡ judged q → read s ≡ accepted q
    handed p true true h f = let g : p ≡ q = cc in h ∙ ap accepted g
    handed p true false h f = never 19 0 f
    handed p false b h f = never 18 0 f

    go : (r : Result) → read s ≡ r → handed_to r rows ≡ judged q → read s ≡ accepted q
    go (refused n place) h f = never n place f
    go (accepted p) h f =
        handed p (eqb (length rows) (answer_bytes p.constants.levels))
        (is_zero (drop (p.free * row_bytes p.constants.levels) rows)) h f

-- the number and the place of a refusal are small
pub turned_away_small : (s rows : List ℕ) (n place : ℕ) → judged_with s rows ≡ turned_away n place → (n ≤ 19)
    × (place ≤ longest constant_levels)
unfolding judged_with
turned_away_small s rows n place e = go (read s) refl e
  where
    numbers : {a b c d : ℕ} → turned_away a b ≡ turned_away c d → (a ≡ c) × (b ≡ d)
    numbers f = (cc, cc)

    handed : (p : Question) → (a b : Bool) → cond a (cond b (judged p) (turned_away 19 0)) (turned_away 18 0)
        ≡ turned_away n place → (n ≤ 19) × (place ≤ longest constant_levels)
    handed p true true f = let z : ◌≡◌ {A = ℕ} 0 1 = cc in absurd (omega arith)
    handed p true false f = let g = numbers f in (omega (arith, g.0), omega (arith, g.1))
    handed p false b f = let g = numbers f in (omega (arith, g.0), omega (arith, g.1))

    go : (r : Result) → read s ≡ r → handed_to r rows ≡ turned_away n place → (n ≤ 19)
        × (place ≤ longest constant_levels)
    go (refused m at) h f = let g =
        numbers f in (omega (arith, g.0, (refusal_number s m at h).1), omega (arith, g.1, refusal_place s m at h))
    go (accepted p) h f =
        handed p (eqb (length rows) (answer_bytes p.constants.levels))
        (is_zero (drop (p.free * row_bytes p.constants.levels) rows)) f
