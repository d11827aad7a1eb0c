-- The stack after a text has its tree alone exactly if it is that tree's, so a text has one tree at most, and whether
-- it has one can be told. Assumes nothing.
use Rattle.std.specs.Prelude.{◌≡◌, refl, Bool, true, false, List, [], ◌∷◌, ◌++◌, ℕ, suc, ◌+◌, ◌≤◌, ◌<◌, length, get_or}
use Rattle.std.specs.Prelude.{drop}
use Rattle.std.proofs.Common.{sym, ◌∙◌, subst, append_assoc, append-nil, arith, add-one, drop_of_length-le, drop-cons}
use Rattle.std.proofs.Common.{eq-eqb, ne_eqb}
use Rattle.std.proofs.Math.Path.{ap}
use Rattle.std.proofs.Math.Option.{Option, none, some, some-injective, none-ne-some}
use Rattle.std.proofs.Math.Decide.{ℕ_discrete}
use Rattle.shares.specs.Tree.{Tree, leaf, pair}
use Rattle.shares.specs.Text.{sign, text, TreeText}
use Rattle.constants.specs.Stacks.{Item, bracket, tree, closed, onto, runs, only, whole}

-- ---- a tree's text puts the tree on the stack

pub onto_leaf : (b : Bool) (σ : List Item) → onto (sign b) σ ≡ some (tree (leaf b) ∷ σ)
unfolding onto
onto_leaf true σ = refl
onto_leaf false σ = refl

pair_text : (l r : Tree) (u : List ℕ) → text (pair l r) ++ u ≡ 0x28 ∷ (text l ++ (text r ++ (0x29 ∷ u)))
unfolding text
pair_text l r u =
    ap (λ (s : List ℕ). 0x28 ∷ s)
    (append_assoc (text l) (text r ++ (0x29 ∷ [])) u
    ∙ ap (λ (s : List ℕ). text l ++ s) (append_assoc (text r) (0x29 ∷ []) u))

runs_text : (t : Tree) (s : List ℕ) (σ : List Item) → runs (text t ++ s) (some σ) ≡ runs s (some (tree t ∷ σ))
unfolding text runs onto closed
runs_text (leaf b) s σ = ap (runs s) (onto_leaf b σ)
runs_text (pair l r) s σ =
    ap (λ u. runs u (some σ)) (pair_text l r s)
    ∙ runs_text l (text r ++ (0x29 ∷ s)) (bracket ∷ σ)
    ∙ runs_text r (0x29 ∷ s) (tree l ∷ bracket ∷ σ)

pub whole_text : (t : Tree) → whole (text t) ≡ some t
unfolding whole runs
whole_text t = ap (λ s. only (runs s (some []))) (sym (append-nil (text t))) ∙ ap only (runs_text t [] [])

-- ---- what is on the stack spells what was read, and nothing else

-- what holds of each stack that a sign can give holds of the one it gives
pub closed_law : (P : List Item → Type 0) (σ τ : List Item) → closed σ ≡ some τ
    → ((r l : Tree) (ρ : List Item) → σ ≡ tree r ∷ tree l ∷ bracket ∷ ρ → P (tree (pair l r) ∷ ρ)) → P τ
unfolding closed
closed_law P [] τ e f = absurd (none-ne-some _ e)
closed_law P (bracket ∷ σ) τ e f = absurd (none-ne-some _ e)
closed_law P (tree r ∷ []) τ e f = absurd (none-ne-some _ e)
closed_law P (tree r ∷ bracket ∷ σ) τ e f = absurd (none-ne-some _ e)
closed_law P (tree r ∷ tree l ∷ []) τ e f = absurd (none-ne-some _ e)
closed_law P (tree r ∷ tree l ∷ tree t ∷ σ) τ e f = absurd (none-ne-some _ e)
closed_law P (tree r ∷ tree l ∷ bracket ∷ ρ) τ e f = subst P (some-injective _ _ e) (f r l ρ refl)

onto_law : (P : List Item → Type 0) (x : ℕ) (σ τ : List Item) → onto x σ ≡ some τ
    → (x ≡ 0x28 → P (bracket ∷ σ)) → ((b : Bool) → x ≡ sign b → P (tree (leaf b) ∷ σ))
    → (x ≡ 0x29 → (r l : Tree) (ρ : List Item) → σ ≡ tree r ∷ tree l ∷ bracket ∷ ρ → P (tree (pair l r) ∷ ρ)) → P τ
unfolding onto
onto_law P x σ τ e f g h = go (ℕ_discrete x 0x28) (ℕ_discrete x (sign false)) (ℕ_discrete x (sign true))
    (ℕ_discrete x 0x29)
  where
    got : (ρ : List Item) → some ρ ≡ some τ → P ρ → P τ
    got ρ q p = subst P (some-injective _ _ q) p

    go : Dec (x ≡ 0x28) → Dec (x ≡ sign false) → Dec (x ≡ sign true) → Dec (x ≡ 0x29) → P τ
    go (yes a) b c d = got _ (rw (eq-eqb x 0x28 a) at e) (f a)
    go (no a) (yes b) c d = got _ (rw (ne_eqb x 0x28 a, eq-eqb x (sign false) b) at e) (g false b)
    go (no a) (no b) (yes c) d =
        got _ (rw (ne_eqb x 0x28 a, ne_eqb x (sign false) b, eq-eqb x (sign true) c) at e) (g true c)
    go (no a) (no b) (no c) (yes d) =
        closed_law P σ τ (rw (ne_eqb x 0x28 a, ne_eqb x (sign false) b, ne_eqb x (sign true) c, eq-eqb x 0x29 d) at e)
        (h d)
    go (no a) (no b) (no c) (no d) =
        absurd (none-ne-some _ (rw (
          ne_eqb x 0x28 a,
          ne_eqb x (sign false) b,
          ne_eqb x (sign true) c,
          ne_eqb x 0x29 d,
        ) at
        e))

-- it has one item more at most
onto_length : (x : ℕ) (σ τ : List Item) → onto x σ ≡ some τ → length τ ≤ suc (length σ)
onto_length x σ τ e = onto_law (λ τ. length τ ≤ suc (length σ)) x σ τ e (λ _. omega arith) (λ b _. omega arith)
    (λ _ r l ρ is. omega (arith, ap length is))

-- the signs that were read, from the bottom on
spell : List Item → List ℕ
spell [] = []
spell (bracket ∷ σ) = spell σ ++ (0x28 ∷ [])
spell (tree t ∷ σ) = spell σ ++ text t

-- and spells one sign more
onto_spell : (x : ℕ) (σ τ : List Item) → onto x σ ≡ some τ → spell τ ≡ spell σ ++ (x ∷ [])
unfolding spell text
onto_spell x σ τ e =
    onto_law (λ τ. spell τ ≡ spell σ ++ (x ∷ [])) x σ τ e (λ d. rw d) (λ b d. rw d)
    (λ d r l ρ is.
    rw (d, is)
    (sym
    (append_assoc (spell ρ ++ (0x28 ∷ []) ++ text l) (text r) (0x29 ∷ [])
    ∙ append_assoc (spell ρ ++ (0x28 ∷ [])) (text l) (text r ++ (0x29 ∷ []))
    ∙ append_assoc (spell ρ) (0x28 ∷ []) (text l ++ (text r ++ (0x29 ∷ []))))))

runs_none : (s : List ℕ) → runs s none ≡ none
unfolding runs
runs_none [] = refl
runs_none (x ∷ s) = runs_none s

runs_spell : (s : List ℕ) (σ τ : List Item) → runs s (some σ) ≡ some τ → spell τ ≡ spell σ ++ s
unfolding runs
runs_spell [] σ τ e = ap spell (sym (some-injective _ _ e)) ∙ sym (append-nil (spell σ))
runs_spell (x ∷ s) σ τ e = go (onto x σ) refl (λ ρ. runs_spell s ρ τ) e
  where
    go : (o : Option (List Item)) → onto x σ ≡ o → ((ρ : List Item) → runs s (some ρ) ≡ some τ → spell τ ≡ spell ρ ++ s)
        → runs s o ≡ some τ → spell τ ≡ spell σ ++ (x ∷ s)
    go none p below q = absurd (none-ne-some _ (sym (runs_none s) ∙ q))
    go (some ρ) p below q = below ρ q ∙ ap (λ u. u ++ s) (onto_spell x σ ρ p) ∙ append_assoc (spell σ) (x ∷ []) s

pub text_whole : (s : List ℕ) (t : Tree) → whole s ≡ some t → text t ≡ s
unfolding whole spell
text_whole s t e = go (runs s (some [])) refl e
  where
    go : (o : Option (List Item)) → runs s (some []) ≡ o → only o ≡ some t → text t ≡ s
    go none p q = absurd (none-ne-some _ q)
    go (some []) p q = absurd (none-ne-some _ q)
    go (some (bracket ∷ σ)) p q = absurd (none-ne-some _ q)
    go (some (tree u ∷ [])) p q = ap text (sym (some-injective _ _ q)) ∙ runs_spell s [] (tree u ∷ []) p
    go (some (tree u ∷ x ∷ σ)) p q = absurd (none-ne-some _ q)

-- ---- one tree at most, and whether there is one can be told

pub ended : (s : List ℕ) (σ : List Item) → runs s (some []) ≡ some σ → whole s ≡ only (some σ)
unfolding whole
ended s σ e = ap only e

pub one_tree : (a b : Tree) → text a ≡ text b → a ≡ b
one_tree a b e = some-injective _ _ (sym (whole_text a) ∙ ap whole e ∙ whole_text b)

pub whole_none : (s : List ℕ) → whole s ≡ none → ¬ TreeText s
whole_none s p (t, e) = none-ne-some _ (sym p ∙ ap whole (sym e) ∙ whole_text t)

pub is_tree_text : (s : List ℕ) → Dec (TreeText s)
is_tree_text s = go (whole s) refl
  where
    go : (o : Option Tree) → whole s ≡ o → Dec (TreeText s)
    go none p = no (whole_none s p)
    go (some t) p = yes (t, text_whole s t p)

-- ---- one turn of the reader

module _ (s : List ℕ) (at : ℕ) (l : at < length s) (σ : List Item) (so_far : runs (drop at s) (some σ)
    ≡ runs s (some [])) where
  next_sign : runs (drop at s) (some σ) ≡ runs (drop (at + 1) s) (onto (get_or s at 0) σ)
  unfolding runs
  next_sign = ap (λ u. runs u (some σ)) (drop-cons s at 0 l) ∙ rw (add-one at)

  pub turn_goes : (τ : List Item) → onto (get_or s at 0) σ ≡ some τ → length σ ≤ at → (length τ ≤ at + 1)
      × (runs (drop (at + 1) s) (some τ) ≡ runs s (some []))
  turn_goes τ e few = (
    omega (arith, onto_length (get_or s at 0) σ τ e),
    ap (runs (drop (at + 1) s)) (sym e)
        ∙ sym next_sign ∙ so_far,
  )

  pub turn_stops : onto (get_or s at 0) σ ≡ none → whole s ≡ none
  unfolding whole
  turn_stops e = ap only (sym so_far ∙ next_sign ∙ ap (runs (drop (at + 1) s)) e ∙ runs_none (drop (at + 1) s))

pub all_read : (s : List ℕ) (at : ℕ) (σ : List Item) → length s ≤ at → runs (drop at s) (some σ) ≡ runs s (some [])
    → runs s (some []) ≡ some σ
unfolding runs
all_read s at σ l e = sym e ∙ ap (λ u. runs u (some σ)) (drop_of_length-le s l)
