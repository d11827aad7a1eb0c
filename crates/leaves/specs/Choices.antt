-- Choices: a way to pick one that passes a test, and rows of values with the least picked first. Assumes nothing.
use Rattle.std.specs.Prelude.{◌≡◌, refl, Bool, true, false, not, ℕ, zero, suc, T}

-- a way to pick: a choice that passes the test, where there is one
pub record Picker (X : Type 0) : Type 0 where
  pub pick : (X → Bool) → X
  pub picked : (p : X → Bool) (x : X) → T (p x) → T (p (pick p))

-- some choice passes
unfoldable pub some_choice : {X : Type 0} → Picker X → (X → Bool) → Bool
some_choice C p = p (C.pick p)

-- a row of n values
pub data Row (X : Type 0) : ℕ → Type 0 where
  nil : Row X zero
  cons : {n : ℕ} → X → Row X n → Row X (suc n)

-- the value at i, and d past the end
unfoldable pub at : {X : Type 0} {n : ℕ} → X → Row X n → ℕ → X
at d nil i = d
at d (cons x v) zero = x
at d (cons x v) (suc i) = at d v i

-- the row of f 0, f 1, ..
unfoldable pub table : {X : Type 0} (n : ℕ) → (ℕ → X) → Row X n
table zero f = nil
table (suc n) f = cons (f zero) (table n (λ i. f (suc i)))

-- of the two leaves: empty before full
abbrev pub pick_leaf : (Bool → Bool) → Bool
pick_leaf p = not (p false)

-- of the rows of n values: the first value is picked first
unfoldable pub pick_row : {X : Type 0} → Picker X → (n : ℕ) → (Row X n → Bool) → Row X n
pick_row C zero p = nil
pick_row {X = X} C (suc n) p =
    let rest : X → Row X n = λ x. pick_row C n (λ v. p (cons x v)) in
    let x = C.pick (λ x. p (cons x (rest x))) in
    cons x (rest x)

-- ---- what is picked passes: the two proofs that a way to pick consists of

pub picked_leaf : (p : Bool → Bool) (x : Bool) → T (p x) → T (p (pick_leaf p))
picked_leaf p x t = go (p false) refl x t
  where
    go : (b : Bool) → p false ≡ b → (x : Bool) → T (p x) → T (p (not b))
    go true e x t = rw e tt
    go false e false t = absurd (rw e at t)
    go false e true t = t

pub picked_row : {X : Type 0} (C : Picker X) (n : ℕ) (p : Row X n → Bool) (v : Row X n) → T (p v)
    → T (p (pick_row C n p))
unfolding pick_row
picked_row C zero p nil t = t
picked_row C (suc n) p (cons x v) t =
    C.picked (λ x. p (cons x (pick_row C n (λ v. p (cons x v))))) x (picked_row C n (λ v. p (cons x v)) v t)

-- ---- the ways to pick

-- a leaf
abbrev pub leaf_picker : Picker Bool
leaf_picker = record { pick = pick_leaf; picked = picked_leaf }

-- a row of n values
abbrev pub row_picker : {X : Type 0} → Picker X → (n : ℕ) → Picker (Row X n)
row_picker C n = record { pick = pick_row C n; picked = picked_row C n }

-- the least row of n leaves: variable 0 is compared first, empty before full
abbrev pub least : (n : ℕ) → Picker (Row Bool n)
least n = row_picker leaf_picker n
