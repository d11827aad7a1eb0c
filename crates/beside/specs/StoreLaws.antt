-- Words stored one after another: those below j are stored, and those from j on are as they were. Assumes nothing.
use Rattle.std.specs.Prelude.{◌≡◌, List, ℕ, ◌+◌, ◌≤◌, ◌<◌, length, get_or, set}
use Rattle.std.proofs.Common.{arith}
use Rattle.words.specs.Stores.{store_law}

module _ (list : List ℕ) (j v : ℕ) (room : j < length list) where
  pub stored_more : (P : ℕ → ℕ → Type 0) → ((i : ℕ) → i < j → P i (get_or list i 0)) → P j v → (i : ℕ) → i < j + 1
      → P i (get_or (set list j v) i 0)
  stored_more P below here i h =
      store_law (λ t y. t < j + 1 → P t y) list j v room (λ t n l. below t (omega arith)) (λ l. here) i h

  pub kept_more : (old : List ℕ) → ((k : ℕ) → j ≤ k → get_or list k 0 ≡ get_or old k 0) → (k : ℕ) → j + 1 ≤ k
      → get_or (set list j v) k 0 ≡ get_or old k 0
  kept_more old kept k h = store_law (λ t y. j + 1 ≤ t → y ≡ get_or old t 0) list j v room
      (λ t n l. kept t (omega arith)) (λ l. absurd (omega arith)) k h
