-- One word more of a leaf. Assumes nothing.
use Rattle.std.specs.Prelude.{◌≡◌, refl, Bool, false, not, ◌&&◌, ◌||◌, List, [], ℕ, ◌+◌, ◌*◌, ◌/◌, ◌%◌, ◌≤◌, ◌<◌, T}
use Rattle.std.specs.Prelude.{get_or}
use Rattle.std.proofs.Common.{sym, ap, ap₂, ◌∙◌, subst, arith}
use Rattle.std.proofs.Math.Bool.{or-false}
use Rattle.std.proofs.Math.Arith.{digits_lt, digits_div, digits_mod}
use Rattle.shares.specs.Below.{some_below}
use Rattle.shares.specs.BelowLaws.{some_ext, some_none}
use Rattle.shares.specs.Constant.{bit}
use Rattle.format.specs.Stored.{Stored}
use Rattle.words.specs.Clause.{clause_test}
use Rattle.words.specs.Choices.{word_count}
use Rattle.words.specs.Kept.{number_at}
use Rattle.words.specs.Table.{Terms}
use Rattle.beside.specs.declared.Sizes.{Sizes}
use Rattle.beside.specs.Beside.{Readable}
use Rattle.beside.specs.GatherLaws.{words_le}
use Rattle.entries.specs.Entry.{Entry, WordOf, Kept, KeptAll}
use Rattle.entries.specs.EntryLaws.{some_word, entry_none, entry_same}
use Rattle.plans.specs.Pairs.{leaf_width}
use Rattle.plans.specs.PairLaws.{number_leaf, number_choice}
use Rattle.steps.specs.Tests.{leaf_values, first_meets, first_differs, second_meets, second_differs, allowed_in}
use Rattle.steps.specs.Steps.{stored_by, on_pairs, meets_here, unmet_here, Settled, Second, Amid}
use Rattle.steps.specs.TestLaws.{differs_bits}
use Rattle.steps.specs.declared.Search.{Search}
use Rattle.steps.specs.declared.Search.TheVariants.{First, Unmet, Missed}
use Rattle.steps.specs.declared.Seen.{Seen}
use Rattle.words.specs.declared.Passing.{Passing}

-- ---- pairs

-- bit k of word w of leaf b is a pair
pub pair_parts : (n b w k : ℕ) → w < word_count n → k < 64
    → ((64 * (b * word_count n + w) + k) / leaf_width n ≡ b)
    × ((64 * (b * word_count n + w) + k) % leaf_width n ≡ 64 * w + k)
pair_parts n b w k l m =
    let t = b * word_count n + w in
    (sym (number_leaf t k n m) ∙ digits_div b l, sym (number_choice t k n m) ∙ ap (λ v. 64 * v + k) (digits_mod b l))

pub on_pairs_lem : (S : Stored) (h b w k : ℕ) (f : ℕ → ℕ → Bool) → w < word_count S.free → k < 64
    → on_pairs S h f (64 * (b * word_count S.free + w) + k) ≡ f (leaf_values S h b) (64 * w + k)
on_pairs_lem S h b w k f l m = let (e, r) = pair_parts S.free b w k l m in ap₂ (λ a z. f (leaf_values S h a) z) e r

-- no test of a leaf needs the constants themselves
pub allowed_same : (sizes : Sizes) (clauses constants : List ℕ) (search : Search) (values z : ℕ)
    → allowed_in (stored_by sizes clauses []) search values z
    ≡ allowed_in (stored_by sizes clauses constants) search values z
allowed_same sizes clauses constants First values z = refl
allowed_same sizes clauses constants Unmet values z = refl
allowed_same sizes clauses constants (Missed j) values z = refl

-- the word after word w
next : (c b w : ℕ) → (b * c + w) + 1 ≡ b * c + (w + 1)
next c b w = omega arith

module _ (sizes : Sizes) (clauses constants : List ℕ) (h b w : ℕ) (search : Search) (seen : Seen)
    (firsts : List Passing) (rows : List ℕ) (l : w < word_count sizes.free)
    (A : Amid (stored_by sizes clauses constants) h search b w seen firsts rows) where
  abbrev S : Stored
  S = stored_by sizes clauses constants

  abbrev values : ℕ
  values = leaf_values S h b

  abbrev turn : ℕ
  turn = b * word_count sizes.free + w

  -- a test that fails throughout the word
  some_same : (f : ℕ → ℕ → Bool) → ((k : ℕ) → k < 64 → f values (64 * w + k) ≡ false)
      → some_below (64 * turn) (on_pairs S h f)
      ≡ some_below (64 * (b * word_count sizes.free + (w + 1))) (on_pairs S h f)
  some_same f none =
      sym (ap (λ t. some_below (64 * t) (on_pairs S h f)) (sym (next (word_count sizes.free) b w))
      ∙ some_word turn (on_pairs S h f)
      ∙ ap (◌||◌ (some_below (64 * turn) (on_pairs S h f)))
      (some_none 64 _ (λ k m. on_pairs_lem S h b w k f l m ∙ none k m))
      ∙ or-false (some_below (64 * turn) (on_pairs S h f)))

  entry_next : (p : ℕ → Bool) (met : ℕ) (table : List Passing) (e : ℕ) → Entry p (turn + 1) met table e
      → Entry p (b * word_count sizes.free + (w + 1)) met table e
  entry_next p met table e E = subst (λ t. Entry p t met table e) (next (word_count sizes.free) b w) E

  -- ---- no choice of the word is allowed

  module _ (none : (k : ℕ) → k < 64 → allowed_in S search values (64 * w + k) ≡ false) (rows' : List ℕ)
      (kept : search ≡ Unmet → rows' ≡ rows) where
    no_meeting : (i k : ℕ) → k < 64 → meets_here S search i values (64 * w + k) ≡ false
    no_meeting i k m = ap (λ c. c && first_differs S values i (64 * w + k)) (none k m)

    not_first : search ≡ Unmet → (k : ℕ) → k < 64 → first_meets S values (64 * w + k) ≡ false
    not_first e k m = ap (λ s. allowed_in S s values (64 * w + k)) (sym e) ∙ none k m

    not_missed : search ≡ Unmet → (j k : ℕ) → k < 64 → allowed_in S (Missed j) values (64 * w + k) ≡ false
    not_missed e j k m = ap (λ c. c && not (second_differs S values j (64 * w + k))) (not_first e k m)

    pub amid_none : Amid S h search b (w + 1) seen firsts rows'
    amid_none = record {
      plain = entry_none (allowed_in S search values) w seen.met firsts 32 none A.plain;
      entries = λ i m.
          entry_next _ _ _ i
          (entry_none (on_pairs S h (meets_here S search i)) turn seen.met firsts i
          (λ k u. on_pairs_lem S h b w k (meets_here S search i) l u ∙ no_meeting i k u) (A.entries i m));
      unmet = λ e.
          entry_next _ _ _ 31
          (entry_none (on_pairs S h (unmet_here S)) turn seen.met firsts 31
          (λ k u. on_pairs_lem S h b w k (unmet_here S) l u
          ∙ ap (λ c. c && not (second_meets S values (64 * w + k))) (not_first e k u)) (A.unmet e));
      here = λ e t j m u.
          A.here e t j m u
          ∙ sym (some_word w (allowed_in S (Missed j) values)
          ∙ ap (◌||◌ (some_below (64 * w) (allowed_in S (Missed j) values)))
          (some_none 64 _ (λ k v. not_missed e j k v))
          ∙ or-false (some_below (64 * w) (allowed_in S (Missed j) values)));
      marks = λ e t j m u i v.
          ap (λ r. bit (get_or r (64 + j) 0) i) (kept e) ∙ A.marks e t j m u i v
          ∙ some_same (meets_here S (Missed j) i)
          (λ k q. ap (λ c. c && first_differs S values i (64 * w + k)) (not_missed e j k q));
      settled = λ e. subst (λ r. Settled S seen r) (sym (kept e)) (A.settled e);
    }

  -- ---- some are

  module _ (R : Readable clauses sizes.counts sizes.free sizes.own) (terms : List ℕ)
      (table : Terms sizes.free sizes.own values w terms)
      (x : ℕ) (bits : (k : ℕ) → k < 64 → bit x k ≡ allowed_in S search values (64 * w + k))
      (met₁ : ℕ) (firsts₁ : List Passing) (K : Kept 32 w (bit x) seen.met firsts met₁ firsts₁)
      (met₂ : ℕ) (firsts₂ : List Passing)
      (L : KeptAll (get_or sizes.counts 1 0) turn (λ i k. bit x k
      && not (clause_test clauses (λ t. bit (get_or terms t 0) k) (256 + 4 * i))) met₁ firsts₁ met₂ firsts₂) where
    -- the choices of a disequation
    meeting : (i : ℕ) → i < get_or sizes.counts 1 0
        → WordOf (λ k. bit x k && not (clause_test clauses (λ t. bit (get_or terms t 0) k) (256 + 4 * i)))
        (on_pairs S h (meets_here S search i)) turn
    meeting i m k u =
        ap₂ ◌&&◌ (bits k u) (differs_bits sizes clauses constants R values w terms table i m k u)
        ∙ sym (on_pairs_lem S h b w k (meets_here S search i) l u)

    pub plain_after : Entry (allowed_in S search values) (w + 1) met₂ firsts₂ 32
    plain_after =
        entry_same _ _ _ _ _ _ 32 (L.met_kept 32 (omega (arith, R.few))) (L.firsts_kept 32 (omega (arith, R.few)))
        (K.entry (allowed_in S search values) bits A.plain)

    pub entries_after : (i : ℕ) → i < get_or sizes.counts 1 0
        → Entry (on_pairs S h (meets_here S search i)) (b * word_count sizes.free + (w + 1)) met₂ firsts₂ i
    entries_after i m =
        entry_next _ _ _ i
        (L.entry i m _ (meeting i m)
        (entry_same _ _ _ _ _ _ i (K.met_kept i (λ q. omega (arith, R.few)))
        (K.firsts_kept i (λ q. omega (arith, R.few))) (A.entries i m)))

    -- entry 31 is as it was
    met_apart : bit met₂ 31 ≡ bit seen.met 31
    met_apart = L.met_kept 31 (omega (arith, R.few)) ∙ K.met_kept 31 (λ q. omega arith)

    unmet_apart : search ≡ Unmet → Entry (on_pairs S h (unmet_here S)) turn met₂ firsts₂ 31
    unmet_apart e =
        entry_same _ _ _ _ _ _ 31 met_apart (L.firsts_kept 31 (omega (arith, R.few))
        ∙ K.firsts_kept 31 (λ q. omega arith)) (A.unmet e)

    -- a search for a solution of the first system, or for one that misses a disequation
    pub amid_kept : (search ≡ Unmet → ⊥) → (rows' : List ℕ)
        → Amid S h search b (w + 1) (record {
          met = met₂;
          possible = seen.possible;
          here = seen.here;
          wanted =
              seen.wanted;
        }) firsts₂ rows'
    amid_kept n rows' = record {
      plain = plain_after;
      entries = entries_after;
      unmet = λ e. absurd (n e);
      here = λ e. absurd (n e);
      marks = λ e. absurd (n e);
      settled = λ e. absurd (n e);
    }

    -- a search for an unmet choice
    module _ (e : search ≡ Unmet) (seen₃ : Seen) (firsts₃ : List Passing) (rows₃ : List ℕ)
        (Q : Second (stored_by sizes clauses constants) values (record { word = w; turn = turn; choices = x })
        (record { met = met₂; possible = seen.possible; here = seen.here; wanted = seen.wanted }) firsts₂ rows seen₃
        firsts₃ rows₃)
        (possible_kept : seen₃.possible ≡ seen.possible)
        (met_kept : (k : ℕ) → (k ≡ 31 → ⊥) → bit seen₃.met k ≡ bit met₂ k) (firsts_kept : (k : ℕ) → (k ≡ 31 → ⊥)
        → number_at firsts₃ k ≡ number_at firsts₂ k) where
      before : T (not (bit seen₃.met 31)) → T (not (bit seen.met 31))
      before t = subst (λ c. T (not c)) met_apart (Q.stays t)

      pub amid_second : Amid S h search b (w + 1) seen₃ firsts₃ rows₃
      amid_second = record {
        plain = entry_same _ _ _ _ _ _ 32 (met_kept 32 (λ q. omega arith)) (firsts_kept 32 (λ q. omega arith))
            plain_after;
        entries = λ i m. entry_same _ _ _ _ _ _ i (met_kept i (λ q. omega (arith, R.few)))
            (firsts_kept i (λ q. omega (arith, R.few))) (entries_after i m);
        unmet = λ q.
            entry_next _ _ _ 31 (Q.unmet (on_pairs S h (unmet_here S))
            (λ k u. sym (on_pairs_lem S h b w k (unmet_here S) l u)) (unmet_apart q));
        here = λ q t j m u.
            let v : T (bit seen.possible j) = rw possible_kept at u in
            Q.here t j m v ∙ ap (λ c. c || some_below 64 (λ i. allowed_in S (Missed j) values (64 * w + i)))
            (A.here q (before t) j m v)
            ∙ sym (some_word w (allowed_in S (Missed j) values));
        marks = λ q t j m u i r.
            let v : T (bit seen.possible j) = rw possible_kept at u in
            Q.marks t j m v i r
            ∙ ap₂ ◌||◌ (A.marks q (before t) j m v i r)
            (some_ext 64 _ _ (λ k z. sym (on_pairs_lem S h b w k (meets_here S (Missed j) i) l z)))
            ∙ sym (some_word turn (on_pairs S h (meets_here S (Missed j) i)))
            ∙ ap (λ t. some_below (64 * t) (on_pairs S h (meets_here S (Missed j) i)))
            (next (word_count sizes.free) b w);
        settled = λ q. Q.settled;
      }

-- ---- numbers

-- there are at most 4,096 words
pub turn_lt : (n b w : ℕ) → n ≤ 12 → b < 64 → w < word_count n → b * word_count n + w < 4096
turn_lt n b w h l m = omega (arith, digits_lt l m, words_le n h)
