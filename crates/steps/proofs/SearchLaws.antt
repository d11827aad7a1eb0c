-- A search that is not for an unmet choice, as a pattern of the two others tells it.
use Rattle.std.proofs.Common.{◌≡◌, ◌⊎◌, inl, inr, ℕ}
use Rattle.steps.specs.declared.Search.{Search}
use Rattle.steps.specs.declared.Search.TheVariants.{First, Unmet, Missed}

pub not_unmet : (s : Search) → s ≡ First ⊎ ((j : ℕ) × s ≡ Missed j) → s ≡ Unmet → ⊥
not_unmet s (inl e) u = cc
not_unmet s (inr (j, e)) u = cc
