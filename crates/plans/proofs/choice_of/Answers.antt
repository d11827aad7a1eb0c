-- The low digits of a word's number are its number in its leaf.
use Rattle.std.proofs.Common.{ℕ, ◌≡◌, ◌+◌, ◌-◌, ◌*◌, ◌%◌, ◌^◌, ap, ◌∙◌, arith, bit_and, pow_mono}
use Rattle.std.proofs.lemmas.Nat.{and_mask}
use Rattle.words.specs.Kept.{lowest_in}
use Rattle.words.specs.Choices.{word_count}
use Rattle.words.specs.KeptLaws.{lowest_in_lt}
use Rattle.words.specs.declared.Passing.{Passing}
use Rattle.words.specs.Kept.{least_number}
use Rattle.plans.specs.Pairs.{leaf_width}
use Rattle.plans.specs.PairLaws.{number_choice}
use Rattle.plans.proofs.choice_of.Goals as goal

-- the number in the leaf
here : (kept : Passing) (free digits power : ℕ) → 2 ^ digits ≡ word_count free → power ≡ 2 ^ digits
    → 64 * bit_and kept.word (power - 1) + lowest_in kept.choices ≡ least_number kept % leaf_width free
here kept free digits power count is =
    ap (λ w. 64 * w + lowest_in kept.choices) (ap (λ x. bit_and kept.word (x - 1)) is ∙ and_mask kept.word digits
    ∙ ap (◌%◌ kept.word) count)
    ∙ number_choice kept.word _ free (lowest_in_lt kept.choices)

pub least_choice-requires : goal.least_choice-requires
least_choice-requires c =
    (c.requires.0, rw (here c.args.kept c.args.free _ _ c.word_digits.ensures.0 c.power.ensures) c.requires.1)

pub overflow_cast-result : goal.overflow_cast-result
overflow_cast-result c =
    omega (
      arith,
      c.least_choice.ensures,
      here c.args.kept c.args.free _ _ c.word_digits.ensures.0 c.power.ensures,
      c.requires.1,
      pow_mono {j = 12} c.requires.0,
    )

pub returns : goal.returns
returns c = c.least_choice.ensures ∙ here c.args.kept c.args.free _ _ c.word_digits.ensures.0 c.power.ensures
