-- Permission policies: what buyers write as clauses, and a system that no shares satisfy. Assumes nothing.
use Rattle.std.specs.Prelude.{◌≡◌, [], ◌∷◌, ◌⊎◌}
use Rattle.systems.specs.Clauses.{Term, is_full, is_empty, together, Clause, positive, negated, System}

-- "a may write": a is full
abbrev pub may_write : Term → Clause
may_write a = positive (is_full a)

-- "a may read": a is not empty
abbrev pub may_read : Term → Clause
may_read a = negated (is_empty a)

-- "a and b may be held together": their join is defined
abbrev pub may_be_held_together : Term → Term → Clause
may_be_held_together a b = positive (together a b)

-- a clause stands in a system
abbrev pub Among : Clause → System → Type 0
Among c [] = ⊥
Among c (d ∷ s) = (d ≡ c) ⊎ Among c s

-- a writer and a reader of one cell, which may be one term, and their shares may be held together, named in either
-- order
pub record WriterAndReader (a b : Term) (s : System) : Type 0 where
  pub writes : Among (may_write a) s
  pub reads : Among (may_read b) s
  pub held : Among (may_be_held_together a b) s ⊎ Among (may_be_held_together b a) s
