-- Laws of pairs: how wide a leaf is, where a pair stands, and the plan once some disequations have their sub-leaves.
-- Assumes nothing.
use Rattle.std.specs.Prelude.{◌≡◌, refl, ◌&&◌, T, List, ℕ, suc, ◌+◌, ◌-◌, ◌*◌, ◌/◌, ◌%◌, ◌^◌, ◌≤◌, ◌<◌, eqb, length}
use Rattle.std.specs.Prelude.{get_or, set, replicate}
use Rattle.std.proofs.Math.Path.{sym, ap}
use Rattle.std.proofs.Common.{ap₂, get_or-set_same, get_or-set_other, ◌∙◌, le_trans, div-add-mod', div-lt_iff_lt-mul}
use Rattle.std.proofs.Common.{mul_left_comm, arith, pow-add, pow_mono, pow_pos, lt-ltb, le-ltb, eq-eqb, eqb→eq, ne_eqb}
use Rattle.std.proofs.Math.Nat.{mod-lt, add-zero}
use Rattle.std.proofs.Math.Numerals.{add-one}
use Rattle.std.proofs.Math.Decide.{dec_lt, ℕ_discrete}
use Rattle.std.proofs.Math.ListN.{get_or-replicate}
use Rattle.std.proofs.Math.Arith.{digits_div, digits_mod}
use Rattle.shares.specs.Test.{and_left, and_right}
use Rattle.shares.specs.Below.{one, count_below}
use Rattle.shares.specs.BelowLaws.{count_ext, count_le}
use Rattle.leaves.specs.Problem.{Problem}
use Rattle.leaves.specs.Numbers.{leaf_for, rank_for, special_choice}
use Rattle.plans.specs.NumberLaws.{rank_here}
use Rattle.words.specs.Choices.{word_count}
use Rattle.words.specs.Kept.{lowest_in, least_number, number_at}
use Rattle.words.specs.Stores.{store_law}
use Rattle.plans.specs.declared.Entry.{Entry}
use Rattle.plans.specs.declared.Outline.{Outline}
use Rattle.plans.specs.Shown.{entry_at}
use Rattle.plans.specs.Pairs.{leaf_width, slot_of, pair_leaf, Fitting, PairsOf, Filled, Made}
use Rattle.words.specs.declared.Passing.{Passing}

-- ---- a leaf is as wide as a power of two

-- so many words hold its choices
pub words_few : (n : ℕ) → n < 6 → 2 ^ 0 ≡ word_count n
unfolding word_count
words_few n h = let e : 0 ≡ n - 6 = omega arith in ap (λ k. 2 ^ k) e

pub words_many : (n : ℕ) → 2 ^ (n - 6) ≡ word_count n
unfolding word_count
words_many n = refl

width_few : (n : ℕ) → n < 6 → 64 ≡ leaf_width n
width_few n h = ap (◌*◌ 64) (words_few n h)

width_many : (n : ℕ) → 6 ≤ n → 2 ^ n ≡ leaf_width n
width_many n h = let e : n ≡ 6 + (n - 6) = omega arith in ap (λ k. 2 ^ k) e ∙ pow-add 2 6 (n - 6)
    ∙ ap (◌*◌ 64) (words_many n)

pub width_pos : (n : ℕ) → 0 < leaf_width n
unfolding word_count
width_pos n = omega (arith, pow_pos (n - 6))

-- it has room for the choices of n variables
pub width_enough : (n : ℕ) → 2 ^ n ≤ leaf_width n
width_enough n = go (dec_lt n 6)
  where
    go : Dec (n < 6) → 2 ^ n ≤ leaf_width n
    go (yes l) = rw (← (width_few n l)) (pow_mono {j = 6} (omega arith))
    go (no l) = omega (arith, width_many n (omega arith))

-- words that are the same have the same least choice
pub same_least : (a b : Passing) → T (eqb a.word b.word && eqb a.choices b.choices) → least_number a ≡ least_number b
same_least a b t =
    ap₂ (λ w y. 64 * w + lowest_in y) (eqb→eq a.word b.word (and_left (eqb a.word b.word) _ t))
    (eqb→eq a.choices b.choices (and_right (eqb a.word b.word) _ t))

-- the number of a word among those of all leaves says the leaf, and the word there
module _ (t r n : ℕ) (small : r < 64) where
  within : 64 * (t % word_count n) + r < 64 * word_count n
  unfolding word_count
  within = omega (arith, mod-lt t (pow_pos (n - 6)))

  regroup : (b c w : ℕ) → 64 * (b * c + w) + r ≡ b * (64 * c) + (64 * w + r)
  regroup b c w = omega (arith, mul_left_comm b 64 c)

  parts : 64 * t + r ≡ t / word_count n * leaf_width n + (64 * (t % word_count n) + r)
  parts = ap (λ z. 64 * z + r) (sym (div-add-mod' t (word_count n)))
      ∙ regroup (t / word_count n) (word_count n) (t % word_count n)

  pub number_leaf : t / word_count n ≡ (64 * t + r) / leaf_width n
  number_leaf = sym (ap (λ z. z / leaf_width n) parts ∙ digits_div (t / word_count n) within)

  pub number_choice : 64 * (t % word_count n) + r ≡ (64 * t + r) % leaf_width n
  number_choice = sym (ap (λ z. z % leaf_width n) parts ∙ digits_mod (t / word_count n) within)

-- ---- the pairs of a table that fits

pub slot_lt : (extra e : ℕ) → e < 33 → slot_of extra e < 33
slot_lt extra e h = go (dec_lt e extra)
  where
    go : Dec (e < extra) → slot_of extra e < 33
    go (yes l) = rw (lt-ltb e extra l) (omega arith)
    go (no l) = rw (le-ltb e extra (omega arith)) (omega arith)

module _ (o : Outline) (firsts : List Passing) (fits : Fitting o firsts) where
  pub leaves_le : 2 ^ o.height ≤ 64
  leaves_le = pow_mono {j = 6} fits.low

  pub pair_leaf_lt : (e : ℕ) → e < o.extra + o.count → pair_leaf o firsts e < 64
  pair_leaf_lt e l = omega (arith, leaves_le, (div-lt_iff_lt-mul (width_pos o.free)).1 (fits.entries e l))

-- ---- one disequation after another gets its sub-leaf

module _ (o : Outline) (firsts : List Passing) where
  -- how many of the first e disequations have a leaf
  abbrev pub leaf_count : ℕ → ℕ → ℕ
  leaf_count e b = count_below e (λ i. eqb (pair_leaf o firsts i) b)

  -- the sub-leaves that the first e disequations take of each leaf
  abbrev pub Taken : ℕ → List ℕ → Type 0
  Taken e taken = (b : ℕ) → b < 64 → get_or taken b 0 ≡ leaf_count e b

  pub filled_none : (es : List Entry) → Filled o firsts 0 es
  filled_none es = record { sub_leaves = λ i l. absurd (omega arith); choices = λ i l. absurd (omega arith) }

  pub taken_none : Taken 0 (replicate 64 0)
  unfolding count_below
  taken_none b l = get_or-replicate 64 b 0 0 l

  module _ (e leaf rank : ℕ) (taken : List ℕ) (here : leaf ≡ pair_leaf o firsts e) (within : leaf < 64)
      (is : rank ≡ get_or taken leaf 0) (t : Taken e taken) where
    pub rank_le : rank ≤ e
    rank_le = omega (arith, t leaf within, count_le e (λ i. eqb (pair_leaf o firsts i) leaf))

    pub taken_more : (after : List ℕ) → leaf < length taken → after ≡ set taken leaf (rank + 1) → Taken (e + 1) after
    unfolding count_below
    taken_more after l q =
        rw (q, add-one e)
        (store_law (λ b x. b < 64 → x ≡ leaf_count (suc e) b) taken leaf (rank + 1) l
        (λ b n m. t b m ∙ sym (ap (λ x. leaf_count e b + one x)
        (ne_eqb (pair_leaf o firsts e) b (λ p. n (sym p ∙ sym here))) ∙ add-zero (leaf_count e b)))
        (λ m. ap (λ x. x + 1) (is ∙ t leaf m)
        ∙ sym (ap (λ x. leaf_count e leaf + one x) (eq-eqb (pair_leaf o firsts e) leaf (sym here)))))

    pub sub_leaf_is : leaf * 2 ^ o.splits + rank
        ≡ pair_leaf o firsts e * 2 ^ o.splits + leaf_count e (pair_leaf o firsts e)
    sub_leaf_is = ap₂ (λ x y. x * 2 ^ o.splits + y) here (is ∙ t leaf within ∙ ap (leaf_count e) here)

  -- the entry of disequation i: its sub-leaf and its choice
  abbrev IsEntry : ℕ → Entry → Type 0
  IsEntry i x =
      (x.subleaf ≡ pair_leaf o firsts i * 2 ^ o.splits + leaf_count i (pair_leaf o firsts i))
      × (x.choice ≡ number_at firsts (slot_of o.extra i) % leaf_width o.free)

  pub filled_more : (e : ℕ) (x : Entry) (es : List Entry) → e < length es → IsEntry e x → Filled o firsts e es
      → Filled o firsts (e + 1) (set es e x)
  filled_more e x es h is f = record { sub_leaves = λ i l. (more i l).0; choices = λ i l. (more i l).1 }
    where
      more : (i : ℕ) → i < e + 1 → IsEntry i (entry_at (set es e x) i)
      more i l = go (ℕ_discrete i e)
        where
          go : Dec (i ≡ e) → IsEntry i (entry_at (set es e x) i)
          go (yes q) = rw (q, get_or-set_same es e x (record { subleaf = 0; choice = 0 }) h) is
          go (no n) = rw (get_or-set_other es e i x (record { subleaf = 0; choice = 0 }) n)
              (f.sub_leaves i (omega arith), f.choices i (omega arith))

-- ---- a table of a problem's pairs gives the problem's plan

module _ (o : Outline) (firsts leaves : List Passing) (R : Problem ℕ)
    (P : PairsOf o.free o.height R o.extra firsts leaves) where
  leaf_is : (j : ℕ) → j < R.count → pair_leaf o firsts j ≡ leaf_for o.free o.height R j
  leaf_is j l = ap (λ x. x / leaf_width o.free) (P.entries j l)
      ∙ digits_div (leaf_for o.free o.height R j) (le_trans (P.within j l) (width_enough o.free))

  choice_is : (j : ℕ) → j < R.count
      → number_at firsts (slot_of o.extra j) % leaf_width o.free
      ≡ special_choice o.free o.height R j (leaf_for o.free o.height R j)
  choice_is j l = ap (λ x. x % leaf_width o.free) (P.entries j l)
      ∙ digits_mod (leaf_for o.free o.height R j) (le_trans (P.within j l) (width_enough o.free))

  rank_is : (j : ℕ) → j < R.count → leaf_count o firsts j (pair_leaf o firsts j) ≡ rank_for o.free o.height R j
  rank_is j l =
      count_ext j (λ i. eqb (pair_leaf o firsts i) (pair_leaf o firsts j))
      (λ i. eqb (leaf_for o.free o.height R i) (leaf_for o.free o.height R j))
      (λ i m. ap₂ eqb (leaf_is i (omega arith)) (leaf_is j l))
      ∙ sym (rank_here o.free o.height R j (leaf_for o.free o.height R j) refl)

  pub made : R.count ≡ o.extra + o.count → (plain : List ℕ) (entries : List Entry)
      → ((b : ℕ) → b < 2 ^ o.height → get_or plain b 0 ≡ number_at leaves b)
      → Filled o firsts (o.extra + o.count) entries
      → Made o.free o.height R o.splits
      (record {
        low = o.height;
        high = o.height + o.splits;
        plain = plain;
        count = o.extra + o.count;
        entries =
            entries;
      })
  made e plain entries ps f =
      record {
        low = refl;
        high = refl;
        count = sym e;
        plains = λ b l. ps b l ∙ P.plains b l;
        sub_leaves = λ j l. f.sub_leaves j (omega arith)
            ∙ ap₂ (λ x y. x * 2 ^ o.splits + y) (leaf_is j l) (rank_is j l);
        choices = λ j l. f.choices j (omega arith) ∙ choice_is j l;
      }
