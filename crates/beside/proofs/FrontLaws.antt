-- The first words of a list are written, and the others are as they were.
use Rattle.std.proofs.Common.{◌≡◌, sym, ap, ◌∙◌, subst, List, ◌++◌, ℕ, ◌+◌, ◌-◌, ◌<◌, ◌≤◌, length, get_or, take, drop}
use Rattle.std.proofs.Common.{arith, length-take}
use Rattle.std.proofs.lemmas.List.{get_or_append_left, get_or-append_right, get_or-take, get_or-drop}
use Rattle.beside.specs.Beside.{Shared}

-- `words` is what stands in front
module _ (count : ℕ) (list words : List ℕ) (long : length words ≡ count) where
  pub front_kept : (k : ℕ) → count ≤ k → get_or (words ++ drop count list) k 0 ≡ get_or list k 0
  front_kept k h =
      let e : count + (k - count) ≡ k = omega arith in
      get_or-append_right words (drop count list) count k 0 long h ∙ get_or-drop count list (k - count) 0
      ∙ ap (λ i. get_or list i 0) e

  pub front_shared : (n : ℕ) → count ≤ length list
      → ((j : ℕ) → j < length (take count list) → Shared n (get_or (take count list) j 0) (get_or words j 0))
      → (j : ℕ) → j < count → Shared n (get_or list j 0) (get_or (words ++ drop count list) j 0)
  front_shared n room shared j h =
      subst (Shared n (get_or list j 0)) (sym (get_or_append_left words (drop count list) 0 j (omega arith)))
      (subst (λ x. Shared n x (get_or words j 0)) (get_or-take count list j 0 h)
      (shared j (omega (arith, length-take {A = ℕ}))))
