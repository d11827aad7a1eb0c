-- Laws of c, and heights that have room. Assumes nothing.
use Rattle.std.specs.Prelude.{◌≡◌, refl, ◌⊎◌, Bool, ℕ, zero, suc, ◌+◌, ◌-◌, ◌^◌, ◌≤◌, ◌<◌, leb}
use Rattle.std.proofs.Common.{inl, inr, zero-le, pow-suc, eq-or-lt_of_le, le_trans, arith, leb→le, pow_pos, pow_mono}
use Rattle.std.proofs.Math.Decide.{dec_lt}
use Rattle.std.proofs.Math.Dec.{nleb→lt}
use Rattle.shares.specs.Below.{first_below}
use Rattle.shares.specs.BelowLaws.{first_le, first_below_lem, first_least}
use Rattle.leaves.specs.Heights.{c, any_height, exactly}
use Rattle.leaves.specs.Room.{Room}

-- ---- c

-- some values, computed
splits : (c 0 ≡ 0) × (c 1 ≡ 0) × (c 2 ≡ 1) × (c 3 ≡ 2) × (c 4 ≡ 2) × (c 5 ≡ 3)
unfolding c first_below
splits = (refl, refl, refl, refl, refl, refl)

pub le_pow : (n : ℕ) → n ≤ 2 ^ n
le_pow zero = zero-le
le_pow (suc n) = rw pow-suc (omega (arith, le_pow n, pow_pos n))

-- c n is the least k with n ≤ 2 ^ k
pub c_enough : (n : ℕ) → n ≤ 2 ^ c n
unfolding c
c_enough n = go (eq-or-lt_of_le (first_le n p))
  where
    p : ℕ → Bool
    p k = leb n (2 ^ k)

    go : (first_below n p ≡ n) ⊎ (first_below n p < n) → n ≤ 2 ^ first_below n p
    go (inl e) = rw e (le_pow n)
    go (inr h) = leb→le n _ (first_below_lem n p h)

pub c_least : (n k : ℕ) → k < c n → 2 ^ k < n
unfolding c
c_least n k h = nleb→lt n (2 ^ k) (first_least n (λ k. leb n (2 ^ k)) k h)

pub c_most : (n k : ℕ) → n ≤ 2 ^ k → c n ≤ k
c_most n k l = go (dec_lt k (c n))
  where
    go : Dec (k < c n) → c n ≤ k
    go (yes m) = absurd (omega (arith, c_least n k m))
    go (no m) = omega arith

pub c_more : (n k : ℕ) → 2 ^ k < n → k < c n
c_more n k l = go (dec_lt k (c n))
  where
    go : Dec (k < c n) → k < c n
    go (yes m) = m
    go (no m) = let p : 2 ^ c n ≤ 2 ^ k = pow_mono (omega arith) in absurd (omega (arith, c_enough n))

-- ---- heights with room for n

pub room_any : (h n : ℕ) → Room any_height h n
room_any h n = record { times = c n; enough = c_enough n; allowed = tt }

-- any one height from h + c n up
pub room_at : {h n k : ℕ} → h + c n ≤ k → Room (exactly k) h n
room_at {h} {n} {k} l = record {
  times = k - h;
  enough = le_trans (c_enough n) (pow_mono (omega arith));
  allowed = omega arith;
}

-- room for n is room for fewer
pub room_less : {A : ℕ → Type 0} {h n m : ℕ} → m ≤ n → Room A h n → Room A h m
room_less l r = record { times = r.times; enough = le_trans l r.enough; allowed = r.allowed }
