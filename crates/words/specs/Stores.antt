-- A store into a list: what holds of the stored value, and of each other entry; and one store after the other. Assumes
-- nothing.
use Rattle.std.specs.Prelude.{◌≡◌, refl, List, ℕ, ◌+◌, ◌≤◌, ◌<◌, length, get_or, set}
use Rattle.std.proofs.Common.{sym, subst, arith, get_or-set_same, get_or-set_other}
use Rattle.std.proofs.Math.Decide.{ℕ_discrete}
use Rattle.words.specs.Stored.{Stored}

-- what holds of v at t and of each entry elsewhere holds of each entry once v is stored at t
pub store_law : (P : ℕ → ℕ → Type 0) (l : List ℕ) (t v : ℕ) → t < length l
    → ((j : ℕ) → (j ≡ t → ⊥) → P j (get_or l j 0)) → P t v → (j : ℕ) → P j (get_or (set l t v) j 0)
store_law P l t v h others here j = go (ℕ_discrete j t)
  where
    go : Dec (j ≡ t) → P j (get_or (set l t v) j 0)
    go (yes e) = subst (λ k. P k (get_or (set l t v) k 0)) (sym e) (rw (get_or-set_same l t v 0 h) here)
    go (no n) = rw (get_or-set_other l t j v 0 n) (others j n)

-- ---- one after the other

module _ (start : ℕ) (P : ℕ → ℕ → Type 0) (old : List ℕ) where
  pub stored_none : Stored start 0 P old old
  stored_none = record { set = λ j l. absurd (omega arith); kept = λ t h. refl }

  pub stored_more : (n x : ℕ) (new : List ℕ) → start + n < length new → P n x → Stored start n P old new
      → Stored start (n + 1) P old (set new (start + n) x)
  stored_more n x new room holds c = record {
    set = λ j l. store_law (λ t y. (j : ℕ) → t ≡ start + j → j < n + 1 → P j y) new (start + n) x room
        (λ t other j e m. subst (λ t. P j (get_or new t 0)) (sym e) (c.set j (omega arith)))
        (λ j e m. subst (λ j. P j x) (omega arith) holds) (start + j) j refl l;
    kept = λ t h. store_law (λ t y. (start ≤ t → start + (n + 1) ≤ t) → y ≡ get_or old t 0) new (start + n) x room
        (λ t other h. c.kept t (λ q. omega (arith, h q))) (λ h. absurd (omega (arith, h (omega arith)))) t h;
  }
