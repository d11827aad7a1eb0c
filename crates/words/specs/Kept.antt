-- The table of first words: entry e is the number of the first word that has a choice for search e, and the choices of
-- it that pass. Assumes nothing.
use Rattle.std.specs.Prelude.{List, ℕ, ◌+◌, ◌*◌, get_or}
use Rattle.words.specs.declared.Passing.{Passing}
use Rattle.shares.specs.Below.{first_below}
use Rattle.shares.specs.Constant.{bit}

-- the lowest bit of a word that is set, and the last where none is
unfoldable pub lowest_in : ℕ → ℕ
lowest_in x = first_below 63 (bit x)

-- the number of the least choice that passes: bit i of the word says whether choice 64 * word + i does
abbrev pub least_number : Passing → ℕ
least_number passing = 64 * passing.word + lowest_in passing.choices

-- an entry that no word was kept in
abbrev pub nothing_kept : Passing
nothing_kept = record { word = 0; choices = 0 }

-- the number of the lowest choice that passes in the word of entry e
unfoldable pub number_at : List Passing → ℕ → ℕ
number_at firsts e = least_number (get_or firsts e nothing_kept)
