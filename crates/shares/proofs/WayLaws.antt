-- Laws of the test of a join at one leaf: its four ways are exhaustive and exclusive. Assumes nothing.
use Rattle.std.specs.Prelude.{◌≡◌, refl, Bool, true, false, not, cond, ◌&&◌, ◌↔◌, ℕ, zero, suc, ◌<◌, T}
use Rattle.std.proofs.Common.{sym, ap, ◌∙◌, subst, eqb→eq, lit<}
use Rattle.std.proofs.Math.Option.{none, some}
use Rattle.std.proofs.Math.Dec.{eqb_refl}
use Rattle.shares.specs.Examples
use Rattle.shares.specs.Tree.{join_leaf, way_number, is_way, compared, leaf_test}
use Rattle.shares.specs.declared.Way.{Way}
use Rattle.shares.specs.declared.Way.TheVariants.{Holds, Overlap, Surplus, Shortfall}

-- what each way says of two parts and their sum
abbrev pub Says : Way → Bool → Bool → Bool → Type 0
Says Holds x y z = join_leaf x y ≡ some z
Says Overlap x y z = (x ≡ true) × (y ≡ true)
Says Surplus x y z = (x ≡ not y) × (z ≡ false)
Says Shortfall x y z = (x ≡ false) × (y ≡ false) × (z ≡ true)

-- the test says what is so,
says : (x y z : Bool) → Says (leaf_test x y (some z)) x y z
unfolding leaf_test join_leaf
says true true z = (refl, refl)
says true false true = refl
says true false false = (refl, refl)
says false true true = refl
says false true false = (refl, refl)
says false false true = (refl, refl, refl)
says false false false = refl

-- and nothing else
says_only : (w : Way) (x y z : Bool) → Says w x y z → leaf_test x y (some z) ≡ w
unfolding leaf_test join_leaf
says_only Holds x y z e = rw e (same z)
  where
    same : (z : Bool) → compared (some z) (some z) ≡ Holds
    same true = refl
    same false = refl
says_only Overlap x y z e = rw (e.0, e.1) refl
says_only Surplus x y z e = rw (e.0, e.1) (one y)
  where
    one : (y : Bool) → compared (join_leaf (not y) y) (some false) ≡ Surplus
    one true = refl
    one false = refl
says_only Shortfall x y z e = rw (e.0, e.1, e.2) refl

pub way_iff : (w : Way) (x y z : Bool) → (leaf_test x y (some z) ≡ w) ↔ Says w x y z
way_iff w x y z = (λ e. subst (λ w. Says w x y z) e (says x y z), says_only w x y z)

-- of the four just one is so
pub one_way : (x y z : Bool) → (w : Way) × Says w x y z × ((v : Way) → Says v x y z → v ≡ w)
one_way x y z = (leaf_test x y (some z), says x y z, λ v s. sym (says_only v x y z s))

-- ---- the number of a way

-- the way with a number
abbrev way_of : ℕ → Way
way_of zero = Holds
way_of (suc zero) = Overlap
way_of (suc (suc zero)) = Surplus
way_of (suc (suc (suc n))) = Shortfall

of_number : (w : Way) → way_of (way_number w) ≡ w
of_number Holds = refl
of_number Overlap = refl
of_number Surplus = refl
of_number Shortfall = refl

pub number_lt : (w : Way) → way_number w < 4
number_lt Holds = lit< tt
number_lt Overlap = lit< tt
number_lt Surplus = lit< tt
number_lt Shortfall = lit< tt

-- no two have the same
pub same_way : (v w : Way) → way_number v ≡ way_number w → v ≡ w
same_way v w e = sym (of_number v) ∙ ap way_of e ∙ of_number w

pub is_way_iff : (v w : Way) → T (is_way v w) ↔ (w ≡ v)
is_way_iff v w = (λ t. sym (same_way v w (eqb→eq (way_number v) (way_number w) t)), λ e. rw e (eqb_refl (way_number v)))

-- ---- without a sum

-- where no sum is asked the test holds, or the parts overlap
pub apart_test : (x y : Bool) → leaf_test x y none ≡ cond (x && y) Overlap Holds
unfolding leaf_test join_leaf
apart_test true true = refl
apart_test true false = refl
apart_test false true = refl
apart_test false false = refl

pub apart_iff : (x y : Bool) → (leaf_test x y none ≡ Holds) ↔ T (not (x && y))
apart_iff x y = rw (apart_test x y) (by_case (x && y))
  where
    by_case : (b : Bool) → (cond b Overlap Holds ≡ Holds) ↔ T (not b)
    by_case true = (λ e. (is_way_iff Holds Overlap).1 e, λ t. absurd t)
    by_case false = (λ _. tt, λ _. refl)
