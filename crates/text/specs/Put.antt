-- Bytes put into a buffer. Assumes nothing.
use Rattle.std.specs.Prelude.{◌≡◌, List, ℕ, ◌+◌, length}
use Rattle.std.proofs.lemmas.List.Edits.{sets}

-- the bytes t put into a buffer from an offset on: the offset after them, and the buffer with those bytes set
pub record Put (t before : List ℕ) (at next : ℕ) (after : List ℕ) : Type 0 where
  pub end : next ≡ at + length t
  pub bytes : after ≡ sets before at t
