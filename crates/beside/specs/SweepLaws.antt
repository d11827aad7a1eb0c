-- Laws of a sweep over the words beside one word of free choices. Assumes nothing.
use Rattle.std.specs.Prelude.{◌≡◌, ◌⊎◌, Bool, not, ◌&&◌, List, ℕ, ◌+◌, ◌*◌, ◌≤◌, ◌<◌, T, get_or}
use Rattle.std.proofs.Common.{sym, ap, ◌∙◌, subst, inl, inr, arith}
use Rattle.std.proofs.Math.Bool.{and_assoc}
use Rattle.std.proofs.Math.Arith.{digits_lt}
use Rattle.shares.specs.Test.{passes, of_false}
use Rattle.shares.specs.Constant.{bit}
use Rattle.shares.specs.BitLaws.{bit_zero}
use Rattle.words.specs.Clause.{clause_test, all_clauses}
use Rattle.words.specs.ClauseLaws.{clauses_at}
use Rattle.words.specs.Choices.{word_count}
use Rattle.words.specs.Table.{Terms}
use Rattle.words.specs.TableLaws.{table_section, table_but}
use Rattle.words.specs.TermLaws.{pass_mod, but_mod}
use Rattle.beside.specs.Beside.{
  Readable,
  Shared,
  SameFree,
  Left,
  beside_words,
  TakenAll,
  Emptied,
  Swept,
  SweptAll,
  Missing,
  positives_pass,
  disequation_passes,
}
use Rattle.beside.specs.GatherLaws.{words_le}
use Rattle.beside.specs.LeftLaws.{left_start, left_word, left_empty, left_own}

-- the words beside word w are below 64
pub word_small : (n m total words o w : ℕ) → n + m ≤ 12 → words ≡ word_count n
    → total * word_count n ≡ word_count (n + m) → o < total → w < word_count n
    → o * words + w < 64
word_small n m total words o w few e enough h l =
    let small : o * word_count n + w < total * word_count n = digits_lt h l in
    subst (λ k. o * k + w < 64) (sym e) (omega (arith, words_le (n + m) few))

-- a word that is no longer wanted stays empty
pub emptied_more : (count : ℕ) (s : ℕ → ℕ → Bool) (wanted going going' : ℕ) (left left' : List ℕ)
    → TakenAll count s going left going' left'
    → Emptied count wanted going left → Emptied count wanted going' left'
emptied_more count s wanted going going' left left' taken empty j h t u = go (passes (bit going j))
  where
    go : T (bit going j) ⊎ T (not (bit going j)) → get_or left' j 0 ≡ 0
    go (inl v) = taken.empty j h v u
    go (inr v) = taken.left_kept j (λ l. v) ∙ empty j h t v

module _ (clauses counts : List ℕ) (n m values w x wanted : ℕ) where
  pub swept_start : (terms left : List ℕ) → ((j : ℕ) → j < get_or counts 3 0 → get_or left j 0 ≡ x)
      → Terms n m values w terms
      → Swept clauses counts n m values w x wanted 0 x terms left
  swept_start terms left all table = record {
    rest = left_start (word_count n) w x (positives_pass clauses counts n m values);
    each = λ j h t.
        subst (Left x (beside_words (word_count n) w 0 (disequation_passes clauses counts n m values j)))
        (sym (all j h))
        (left_start (word_count n) w x (disequation_passes clauses counts n m values j));
    at = w;
    table = table;
  }

  -- where nothing is left in any word, the sweep is at its end
  pub swept_stop : (o more none going : ℕ) (terms left : List ℕ) → o ≤ more → none ≡ 0 → going ≡ 0
      → Emptied (get_or counts 3 0) wanted going left
      → Swept clauses counts n m values w x wanted o none terms left
      → Swept clauses counts n m values w x wanted more none terms left
  swept_stop o more none going terms left h e g empty S = record {
    rest = left_empty (word_count n) w o more x none (positives_pass clauses counts n m values) h e S.rest;
    each = λ j l t.
        left_empty (word_count n) w o more x (get_or left j 0) (disequation_passes clauses counts n m values j) h
        (empty j l t (of_false (ap (λ y. bit y j) g ∙ bit_zero j))) (S.each j l t);
    at = S.at;
    table = S.table;
  }

  -- one word more: y has the choices of x that meet the positive clauses there
  module _ (o none going y none' going' : ℕ) (terms terms' left left' : List ℕ) (C : Readable clauses counts n m)
      (v : ℕ) (next : v ≡ o * word_count n + w) (moved : Terms n m values v terms')
      (section : (i : ℕ) → i < 64 → bit y i
      ≡ (bit x i && all_clauses clauses (λ t. bit (get_or terms' t 0) i) 384 (get_or counts 2 0)))
      (fewer : Left none (bit y) none')
      (taken : TakenAll (get_or counts 3 0) (λ j i. bit y i
      && not (clause_test clauses (λ t. bit (get_or terms' t 0) i) (640 + 4 * j))) going left going' left')
    where
      table : Terms n m values (o * word_count n + w) terms'
      table = subst (λ v. Terms n m values v terms') next moved

      positives : (i : ℕ) → i < 64
          → bit y i ≡ (bit x i && positives_pass clauses counts n m values (64 * (o * word_count n + w) + i))
      positives i l =
          section i l
          ∙ ap (◌&&◌ (bit x i)) (table_section n m values (o * word_count n + w) terms' clauses table 384
          (get_or counts 2 0) C.second_positive i l)

      disequation : (j : ℕ) → j < get_or counts 3 0 → (i : ℕ) → i < 64
          → (bit y i && not (clause_test clauses (λ t. bit (get_or terms' t 0) i) (640 + 4 * j)))
          ≡ (bit x i && disequation_passes clauses counts n m values j (64 * (o * word_count n + w) + i))
      disequation j h i l =
          let test = not (clause_test clauses (λ t. bit (get_or terms' t 0) i) (640 + 4 * j)) in
          ap (λ b. b && test) (section i l)
          ∙ and_assoc (bit x i) (all_clauses clauses (λ t. bit (get_or terms' t 0) i) 384 (get_or counts 2 0)) test
          ∙ ap (◌&&◌ (bit x i))
          (table_but n m values (o * word_count n + w) terms' clauses table 384 (get_or counts 2 0) (640 + 4 * j)
          C.second_positive
          (clauses_at C.second_disequation j h) i l)

      pub swept_more : Emptied (get_or counts 3 0) wanted going left
          → Swept clauses counts n m values w x wanted o none terms left
          → Swept clauses counts n m values w x wanted (o + 1) none' terms' left'
      swept_more empty S = record {
        rest = left_word (word_count n) w o x none none' (positives_pass clauses counts n m values) S.rest
            (λ i l. fewer i l ∙ ap (λ b. bit none i && not b) (positives i l));
        each = λ j h t. each j h t (passes (bit going j));
        at = o * word_count n + w;
        table = table;
      }
        where
          each : (j : ℕ) → j < get_or counts 3 0 → T (bit wanted j) → T (bit going j) ⊎ T (not (bit going j))
              → Left x (beside_words (word_count n) w (o + 1) (disequation_passes clauses counts n m values j))
              (get_or left' j 0)
          each j h t (inl u) =
              left_word (word_count n) w o x (get_or left j 0) (get_or left' j 0)
              (disequation_passes clauses counts n m values j) (S.each j h t)
              (λ i l. taken.word j h u i l ∙ ap (λ b. bit (get_or left j 0) i && not b) (disequation j h i l))
          each j h t (inr u) =
              subst (Left x (beside_words (word_count n) w (o + 1) (disequation_passes clauses counts n m values j)))
              (sym (taken.left_kept j (λ l. u)))
              (left_empty (word_count n) w o (o + 1) x (get_or left j 0)
              (disequation_passes clauses counts n m values j) (omega arith) (empty j h t u) (S.each j h t))

  -- after all words, shared among the bits with the same free digits
  pub swept_missing : (none r : ℕ) (terms left left' : List ℕ) → w < word_count n → SameFree n x → Shared n none r
      → ((j : ℕ) → j < get_or counts 3 0 → Shared n (get_or left j 0) (get_or left' j 0))
      → SweptAll clauses counts n m values w x wanted none terms left
      → Missing clauses counts n m values w x wanted r left'
  swept_missing none r terms left left' hw same share shares S = record {
    none = left_own n m w S.words (positives_pass clauses counts n m values)
        (λ z. pass_mod n m values z clauses 384 (get_or counts 2 0)) hw S.enough
        x none r same S.swept.rest share;
    each = λ j h t.
        left_own n m w S.words (disequation_passes clauses counts n m values j)
        (λ z. but_mod n m values z clauses 384 (get_or counts 2 0) (640 + 4 * j)) hw S.enough
        x (get_or left j 0) (get_or left' j 0) same (S.swept.each j h t) (shares j h);
  }
