-- Entries of a list, stored one after the other. Assumes nothing.
use Rattle.std.specs.Prelude.{◌≡◌, List, ℕ, ◌+◌, ◌≤◌, ◌<◌, get_or}

-- n entries from `start` on are as P says of their number, counted from 0, and every other entry is as it was
pub record Stored (start n : ℕ) (P : ℕ → ℕ → Type 0) (old new : List ℕ) : Type 0 where
  pub set : (j : ℕ) → j < n → P j (get_or new (start + j) 0)
  pub kept : (t : ℕ) → (start ≤ t → start + n ≤ t) → get_or new t 0 ≡ get_or old t 0
