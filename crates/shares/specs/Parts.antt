-- Two numbers that stand where a stored clause has a term's byte, and are no term's. Assumes nothing.
use Rattle.std.specs.Prelude.{ℕ}

-- always empty
abbrev pub empty_part : ℕ
empty_part = 0x0C

-- always full
abbrev pub full_part : ℕ
full_part = 0x0D
