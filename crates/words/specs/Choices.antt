-- Choices of values for the variables at a leaf: how many words hold them, and what clauses say of them. Assumes
-- nothing.
use Rattle.std.specs.Prelude.{◌≡◌, Bool, ◌&&◌, not, List, ℕ, ◌+◌, ◌-◌, ◌*◌, ◌%◌, ◌^◌, get_or}
use Rattle.shares.specs.Below.{some_below}
use Rattle.shares.specs.Blocks.{first_of}
use Rattle.shares.specs.Constant.{bit, number_of}
use Rattle.words.specs.Clause.{clause_test, all_clauses, term_value}

-- how many words hold 2 ^ d choices: 2 ^ (d - 6), which is 1 where d is below 6
unfoldable pub word_count : ℕ → ℕ
word_count d = 2 ^ (d - 6)

-- the values of the constants that are named, of so many levels, at leaf b of 2 ^ h, constant i at bit i
unfoldable pub values_at : ℕ → List ℕ → ℕ → ℕ → ℕ → ℕ
values_at levels constants named h b =
    number_of 64 (λ i. bit named i && bit (get_or constants i 0) (first_of h levels b))

-- all clauses of a section pass in choice z
unfoldable pub all_pass : List ℕ → ℕ → ℕ → ℕ → ℕ → ℕ → ℕ → Bool
all_pass clauses start count n m values z = all_clauses clauses (term_value n m values z) start count

-- the clause at byte `at` fails in choice z
unfoldable pub clause_fails : List ℕ → ℕ → ℕ → ℕ → ℕ → ℕ → Bool
clause_fails clauses at n m values z = not (clause_test clauses (term_value n m values z) at)

-- all clauses of a section pass in choice z, and the clause at byte `at` fails
unfoldable pub all_pass_but : List ℕ → ℕ → ℕ → ℕ → ℕ → ℕ → ℕ → ℕ → Bool
all_pass_but clauses start count at n m values z = all_pass clauses start count n m values z
    && clause_fails clauses at n m values z

-- some choice of the m own variables passes the test p beside choice x of the n free ones
unfoldable pub some_own : ℕ → ℕ → (ℕ → Bool) → ℕ → Bool
some_own n m p x = some_below (2 ^ m) (λ y. p (y * 2 ^ n + x))

-- only the low d digits of a choice count
abbrev pub Periodic : ℕ → (ℕ → Bool) → Type 0
Periodic d p = (z : ℕ) → p z ≡ p (z % 2 ^ d)
