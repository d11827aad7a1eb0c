-- A whole pass: before the first leaf, after the last, and where a leaf has no choice. Assumes nothing.
use Rattle.std.specs.Prelude.{◌≡◌, Bool, false, not, List, ℕ, ◌+◌, ◌-◌, ◌*◌, ◌^◌, ◌<◌, length, get_or, set}
use Rattle.std.proofs.Math.Path.{sym, ap}
use Rattle.std.proofs.Common.{◌∙◌, zero-mul, arith, pow_pos, get_or-set_same, get_or-set_other}
use Rattle.std.proofs.Math.Decide.{dec_lt}
use lib.Dec.{T, T_not}
use Rattle.shares.specs.Test.{is_true, is_false, of_false}
use Rattle.shares.specs.Below.{every_below, some_below}
use Rattle.shares.specs.BelowLaws.{every_at, every_intro}
use Rattle.shares.specs.Constant.{bit}
use Rattle.shares.specs.BitLaws.{bit_zero, bit_number, number_lt}
use Rattle.shares.specs.BitParts.{bit_ones, bit_beyond}
use Rattle.format.specs.Stored.{Stored}
use Rattle.words.specs.Choices.{word_count, values_at}
use Rattle.words.specs.Table.{Within}
use Rattle.entries.specs.Entry.{Entry}
use Rattle.plans.specs.Pairs.{leaf_width}
use Rattle.steps.specs.Tests.{leaf_values, allowed_in}
use Rattle.steps.specs.Steps.{on_pairs, meets_here, unmet_here}
use Rattle.pass.specs.Pass.{After, Visited, Passed}
use Rattle.steps.specs.declared.Search.{Search}
use Rattle.steps.specs.declared.Search.TheVariants.{Missed}
use Rattle.steps.specs.declared.Seen.{Seen}
use Rattle.words.specs.declared.Passing.{Passing}

-- only the values of the constants that are named are set
pub values_within : (levels : ℕ) (constants : List ℕ) (named h b : ℕ)
    → Within named (values_at levels constants named h b)
unfolding values_at
values_within levels constants named h b i e = go (dec_lt i 64)
  where
    go : Dec (i < 64) → bit (values_at levels constants named h b) i ≡ false
    go (yes m) = bit_number 64 _ i m ∙ rw e
    go (no m) = bit_beyond 64 (values_at levels constants named h b) i (number_lt 64 _) (omega arith)

-- one key more
pub keys_more : (f : ℕ → ℕ) (keys : List ℕ) (b x : ℕ) → b < length keys → x ≡ f b
    → ((i : ℕ) → i < b → get_or keys i 0 ≡ f i)
    → (i : ℕ) → i < b + 1 → get_or (set keys b x) i 0 ≡ f i
keys_more f keys b x room e K i l = go (dec_lt i b)
  where
    go : Dec (i < b) → get_or (set keys b x) i 0 ≡ f i
    go (yes m) = get_or-set_other keys b i x 0 (λ q. omega arith) ∙ K i m
    go (no m) = let q : i ≡ b = omega arith in rw q (get_or-set_same keys b x 0 room ∙ e)

module _ (S : Stored) (h : ℕ) (search : Search) where
  -- before the first leaf
  none : (f : ℕ → ℕ → Bool) → some_below (64 * (0 * word_count S.free)) (on_pairs S h f) ≡ false
  unfolding some_below
  none f = ap (λ k. some_below (64 * k) (on_pairs S h f)) (zero-mul (word_count S.free))

  entry_start : (f : ℕ → ℕ → Bool) (firsts : List Passing) (e : ℕ)
      → Entry (on_pairs S h f) (0 * word_count S.free) 0 firsts e
  entry_start f firsts e = record {
    found = bit_zero e ∙ sym (none f);
    stored =
        λ t. absurd (T_not (bit 0 e) (of_false (bit_zero e)) t);
  }

  pub after_none : (firsts plains : List Passing) (rows : List ℕ) → ((k : ℕ) → get_or rows k 0 ≡ 0)
      → After S h search 0 (record { met = 0; possible = 2 ^ get_or S.counts 3 0 - 1; here = 0; wanted = 0 }) firsts
      plains rows
  unfolding every_below
  after_none firsts plains rows zero = record {
    least = λ a l. absurd (omega arith);
    found = λ l. absurd (omega arith);
    entries = λ i l. entry_start (meets_here S search i) firsts i;
    unmet = λ e. entry_start (unmet_here S) firsts 31;
    possible = λ e t j l. bit_ones (get_or S.counts 3 0) j l;
    marks = λ e t j l u i m. ap (λ x. bit x i) (zero (64 + j)) ∙ bit_zero i ∙ sym (none (meets_here S (Missed j) i));
  }

  -- after the last
  pub passed_all : (seen : Seen) (firsts plains : List Passing) (rows : List ℕ)
      → After S h search (2 ^ h) seen firsts plains rows → Passed S h search seen firsts plains rows
  passed_all seen firsts plains rows A = record {
    all = is_true _ (A.found (pow_pos h)) ∙ sym (is_true _ (every_intro (2 ^ h) _ (λ b l. (A.least b l).0)));
    after = λ _. A;
  }

  -- a leaf has no choice
  pub passed_none : (b : ℕ) (seen : Seen) (firsts plains : List Passing) (rows : List ℕ) → b < 2 ^ h
      → bit seen.met 32 ≡ false → Visited S h search b seen firsts plains rows
      → Passed S h search seen firsts plains rows
  passed_none b seen firsts plains rows l e W = record {
    all = e ∙ sym (every_fails (λ b. some_below (leaf_width S.free) (allowed_in S search (leaf_values S h b)))
        (W.none (of_false e)));
    after = λ t. absurd (T_not (bit seen.met 32) (of_false e) t);
  }
    where
      every_fails : (p : ℕ → Bool) → T (not (p b)) → every_below (2 ^ h) p ≡ false
      every_fails p t = is_false (every_below (2 ^ h) p)
          (lib.Dec.not_T (every_below (2 ^ h) p) (λ u. T_not (p b) t (every_at (2 ^ h) p u b l)))
