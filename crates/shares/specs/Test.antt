-- Laws of tests: `T b` says that the test b passes. Assumes nothing.
use Rattle.std.specs.Prelude.{◌≡◌, refl, ◌⊎◌, ◌↔◌, Bool, true, false, not, cond, ◌&&◌, ◌||◌, T}
use Rattle.std.proofs.Common.{inl, inr, true≢false}
use Rattle.std.specs.Bool.{beq}
use Rattle.std.proofs.lemmas.Bool.{false≢true}

pub is_true : (a : Bool) → T a → a ≡ true
is_true true t = refl
is_true false t = absurd t

pub of_true : {a : Bool} → a ≡ true → T a
of_true e = rw e tt

pub is_false : (a : Bool) → T (not a) → a ≡ false
is_false true t = absurd t
is_false false t = refl

pub of_false : {a : Bool} → a ≡ false → T (not a)
of_false e = rw e tt

-- a test passes or fails
pub passes : (a : Bool) → T a ⊎ T (not a)
passes true = inl tt
passes false = inr tt

pub holds : (a : Bool) → (T (not a) → ⊥) → T a
holds true f = tt
holds false f = f tt

-- tests that pass together are equal
pub same_test : (a b : Bool) → (T a → T b) → (T b → T a) → a ≡ b
same_test true true f g = refl
same_test true false f g = absurd (f tt)
same_test false true f g = absurd (g tt)
same_test false false f g = refl

-- the test of equality
pub beq_iff : (a b : Bool) → T (beq a b) ↔ (a ≡ b)
beq_iff true true = (λ t. refl, λ e. tt)
beq_iff true false = (λ t. absurd t, λ e. absurd (true≢false e))
beq_iff false true = (λ t. absurd t, λ e. absurd (false≢true e))
beq_iff false false = (λ t. refl, λ e. tt)

pub and_intro : (a b : Bool) → T a → T b → T (a && b)
and_intro true b s t = t
and_intro false b s t = s

pub and_left : (a b : Bool) → T (a && b) → T a
and_left true b t = tt
and_left false b t = t

pub and_right : (a b : Bool) → T (a && b) → T b
and_right true b t = t
and_right false b t = absurd t

pub or_left : (a b : Bool) → T a → T (a || b)
or_left true b t = tt
or_left false b t = absurd t

pub or_right : (a b : Bool) → T b → T (a || b)
or_right true b t = tt
or_right false b t = t

pub or_cases : (a b : Bool) → T (a || b) → T a ⊎ T b
or_cases true b t = inl tt
or_cases false b t = inr t

pub cond_passed : {A : Type 0} (a : Bool) (x y : A) → T a → cond a x y ≡ x
cond_passed true x y t = refl
cond_passed false x y t = absurd t

pub cond_failed : {A : Type 0} (a : Bool) (x y : A) → T (not a) → cond a x y ≡ y
cond_failed true x y t = absurd t
cond_failed false x y t = refl

-- what holds of x where the test passes, and of y where it fails, holds of the choice between them
pub cond_law : {A : Type 0} (M : A → Type 0) (a : Bool) (x y : A) → (T a → M x) → (T (not a) → M y) → M (cond a x y)
cond_law M true x y f g = f tt
cond_law M false x y f g = g tt
