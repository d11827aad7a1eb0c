-- A question that was read and is searched is stored as it was read, so that it stands for the same questions.
use Rattle.std.proofs.Common.{◌≡◌, refl, ap, ◌∙◌, List, ℕ}
use Rattle.systems.specs.Questions.{Question as Asked, question_height}
use Rattle.format.specs.Stored.{stored_of, Stands}
use Rattle.format.specs.declared.Question.{Question}
use Rattle.beside.specs.declared.Searchable.{Searchable}
use Rattle.steps.specs.Steps.{posed}
use Rattle.decide.specs.Decision.{sizes_of, Decided}
use Rattle.decide.specs.NamedLaws.{height_is}
use Rattle.decide.specs.declared.Finding.{Finding}
use Rattle.words.specs.declared.Passing.{Passing}

module _ (x : Question) (clauses : List ℕ) (y : Searchable) (sized : y.sizes ≡ sizes_of x)
    (same : y.clauses.now ≡ clauses) (constants : y.constants.now ≡ x.constants) where
  pub posed_is : posed y ≡ stored_of x clauses
  posed_is = rw (sized, same, constants) refl

  -- and its height is the question's
  pub posed_height : {k : ℕ} (q : Asked) → Stands k (stored_of x clauses) q → y.sizes.height ≡ question_height q
  posed_height q St = ap (λ s. s.height) sized ∙ height_is _ q St

  -- what decides the question that is searched decides the one that was read
  pub posed_decided : {k : ℕ} (r : Finding) (firsts leaves : List Passing)
      → ((q : Asked) → Stands k (posed y) q → y.sizes.height ≡ question_height q → Decided (posed y) q r firsts leaves)
      → (q : Asked) → Stands k (stored_of x clauses) q → Decided (stored_of x clauses) q r firsts leaves
  posed_decided r firsts leaves D q St = (rw posed_is at D) q St (posed_height q St)
