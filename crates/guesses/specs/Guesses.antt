-- The least choice that passes, and a choice as the values of its variables. Assumes nothing.
use Rattle.std.specs.Prelude.{List, ℕ, zero, suc, ◌+◌, ◌*◌, ◌<◌, get_or}

-- every value is empty, 0, or full, 1
abbrev pub Values : List ℕ → Type 0
Values values = (v : ℕ) → get_or values v 0 < 2

-- the number of the choice that the first variables make: their values are its digits, that of variable 0 the highest
unfoldable pub choice_number : ℕ → List ℕ → ℕ
choice_number zero values = 0
choice_number (suc v) values = 2 * choice_number v values + get_or values v 0
