-- Words of leaves: eight bytes as one word, a part that is filled with one word, and the words of a row, each full or
-- not. Assumes nothing.
use Rattle.std.proofs.Common.{◌≡◌, refl, sym, ap, subst, ◌∙◌, Bool, true, false, List, [], ◌∷◌, ℕ, ◌+◌, ◌-◌, ◌*◌, ◌/◌}
use Rattle.std.proofs.Common.{◌%◌, ◌^◌, ◌≤◌, ◌<◌, T, rules, zero-le, length, get_or, take, drop, arith, lit<}
use Rattle.std.proofs.Common.{length-take-le, length-drop}
use Rattle.std.specs.Prelude.{replicate}
use Rattle.std.specs.Bool.{MatchBool}
use Rattle.std.specs.Int.{from_le_bytes}
use Rattle.std.specs.List.{AllWithin, HoldsAt, range_with_len}
use Rattle.std.proofs.lemmas.List.{places}
use Rattle.std.proofs.Math.Decide.{dec_lt}
use Rattle.std.proofs.lemmas.List.FromFn.{length-range_with_len, get_or-range_with_len}
use borrow.Rule.Slice.PartMut.{put_mid}
use mir.Syntax.{w64}
use Rattle.shares.specs.Below.{every_below}
use Rattle.shares.specs.BelowLaws.{every_at, every_intro}
use Rattle.shares.specs.BitLaws.{bits_same}
use Rattle.shares.specs.BitParts.{bit_ones}
use Rattle.shares.specs.Constant.{bit, number}
use Rattle.shares.specs.Test.{is_true, of_true}
use Rattle.words.specs.Stored.{Stored}
use Rattle.unfolded.specs.Filling.{WordOf}

-- the number that eight bytes make
pub eight_bytes : (bs : List ℕ) → length bs ≡ 8 → from_le_bytes w64 bs ≡ number bs
unfolding number
eight_bytes (a ∷ b ∷ c ∷ d ∷ e ∷ f ∷ g ∷ h ∷ []) l = omega arith
eight_bytes [] l = absurd (omega arith)
eight_bytes (a ∷ []) l = absurd (omega arith)
eight_bytes (a ∷ b ∷ []) l = absurd (omega arith)
eight_bytes (a ∷ b ∷ c ∷ []) l = absurd (omega arith)
eight_bytes (a ∷ b ∷ c ∷ d ∷ []) l = absurd (omega arith)
eight_bytes (a ∷ b ∷ c ∷ d ∷ e ∷ []) l = absurd (omega arith)
eight_bytes (a ∷ b ∷ c ∷ d ∷ e ∷ f ∷ []) l = absurd (omega arith)
eight_bytes (a ∷ b ∷ c ∷ d ∷ e ∷ f ∷ g ∷ []) l = absurd (omega arith)
eight_bytes (a ∷ b ∷ c ∷ d ∷ e ∷ f ∷ g ∷ h ∷ i ∷ bs) l = absurd (omega arith)

-- n entries from `start` on are all v, and every other is as it was
module _ (start n v : ℕ) (old : List ℕ) (room : start + n ≤ length old) where
  part_length : length (take n (drop start old)) ≡ n
  part_length = length-take-le n (drop start old) (omega (arith, length-drop start old))

  filled_in : (j : ℕ) → j < n → get_or (put_mid start n old (replicate n v)) (start + j) 0 ≡ v
  filled_in j l = search (rules, places)

  filled_before : (t : ℕ) → t < start → get_or (put_mid start n old (replicate n v)) t 0 ≡ get_or old t 0
  filled_before t l = search (rules, places)

  filled_after : (t : ℕ) → start + n ≤ t → get_or (put_mid start n old (replicate n v)) t 0 ≡ get_or old t 0
  filled_after t l = search (rules, places)

  pub stored_fill : (P : ℕ → ℕ → Type 0) (part : List ℕ) → part ≡ replicate (length (take n (drop start old))) v
      → ((j : ℕ) → P j v)
      → Stored start n P old (put_mid start n old part)
  stored_fill P part e holds = rw (e, part_length) (record {
    set = λ j l. rw (filled_in j l) (holds j);
    kept = λ t h. go t h (dec_lt t start);
  })
    where
      go : (t : ℕ) → (start ≤ t → start + n ≤ t) → Dec (t < start) → get_or (put_mid start n old (replicate n v)) t 0
          ≡ get_or old t 0
      go t h (yes l) = filled_before t l
      go t h (no l) = filled_after t (h (omega arith))

-- a word whose leaves all pass, and one of which some does not
abbrev pub FullWord : (ℕ → Bool) → ℕ → Type 0
FullWord f w = (x : ℕ) × WordOf f w x × (x ≡ 2 ^ 64 - 1)

abbrev pub OpenWord : (ℕ → Bool) → ℕ → Type 0
OpenWord f w = (x : ℕ) × WordOf f w x × (x < 2 ^ 64) × (x ≡ 2 ^ 64 - 1 → ⊥)

-- all leaves of n words pass exactly if each word is full
pub all_words : (f : ℕ → Bool) (n : ℕ) (r : Bool)
    → MatchBool r (AllWithin (FullWord f) (range_with_len 0 n) 0 (length (range_with_len 0 n))) ((k : ℕ)
    × (k < length (range_with_len 0 n)) × HoldsAt (OpenWord f) (range_with_len 0 n) k)
    → r ≡ every_below (64 * n) f
all_words f n true full = sym (is_true _ (every_intro (64 * n) f passes))
  where
    passes : (i : ℕ) → i < 64 * n → T (f i)
    passes i l =
        let low : i / 64 < n = omega arith in
        let at : get_or (range_with_len 0 n) (i / 64) 0 ≡ i / 64 = get_or-range_with_len 0 n (i / 64) 0 low
        ∙ omega arith in
        let (x, bits, e) = subst (FullWord f) at (full (i / 64) 0 zero-le (rw length-range_with_len low)) in
        let here : 64 * (i / 64) + i % 64 ≡ i = omega arith in
        of_true (ap f (sym here) ∙ sym (bits (i % 64) (omega arith)) ∙ ap (λ y. bit y (i % 64)) e
        ∙ bit_ones 64 (i % 64) (omega arith))
all_words f n false (k, l, some) = sym (go (every_below (64 * n) f) refl)
  where
    low : k < n
    low = rw length-range_with_len at l

    at : get_or (range_with_len 0 n) k 0 ≡ k
    at = get_or-range_with_len 0 n k 0 low ∙ omega arith

    contrary : T (every_below (64 * n) f) → OpenWord f k → ⊥
    contrary all (x, bits, fits, other) =
        other
        (bits_same 64 x (2 ^ 64 - 1) fits (lit< tt)
        (λ i m. bits i m ∙ is_true _ (every_at (64 * n) f all (64 * k + i) (omega (arith, low)))
        ∙ sym (bit_ones 64 i m)))

    go : (b : Bool) → every_below (64 * n) f ≡ b → b ≡ false
    go false e = refl
    go true e = absurd (contrary (of_true e) (subst (OpenWord f) at (some 0)))
