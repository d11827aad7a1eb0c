-- The numbers of the bits of a word that are set, the lowest first: one turn, and the end. Assumes nothing.
use Rattle.std.specs.Prelude.{◌≡◌, Option, None, Some, ◌&&◌, not, ℕ, ◌<◌, T, eqb}
use Rattle.shares.specs.Constant.{bit}
use Rattle.words.specs.declared.SetBits.{SetBits}

-- i is the lowest bit that is set, and it is set no more afterwards
pub record TakesLowest (old : SetBits) (i : ℕ) (new : SetBits) : Type 0 where
  pub in_word : i < 64
  pub set : T (bit old.rest i)
  pub lowest : (k : ℕ) → k < i → T (not (bit old.rest k))
  pub out : (k : ℕ) → bit new.rest k ≡ (bit old.rest k && not (eqb k i))
  pub less : new.rest < old.rest

-- what each call of `next` gives
abbrev pub LowestFirst : SetBits → Option ℕ → SetBits → Type 0
LowestFirst old None new = old.rest ≡ 0
LowestFirst old (Some i) new = TakesLowest old i new
