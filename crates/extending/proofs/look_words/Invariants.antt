-- `extending::look_words`: the first w words are looked at.
use Rattle.std.proofs.Common.{ℕ, Some}
use Rattle.words.specs.Table.{Terms}
use Rattle.steps.specs.Steps.{posed}
use Rattle.extending.specs.Looks.{ChoicesLooked, InWords}
use Rattle.extending.proofs.look_words.Given as goal

abbrev pub invariant-loop-w : goal.invariant-loop-w
invariant-loop-w l =
    (values v : ℕ) → Terms l.question.sizes.free l.question.sizes.own values v l.initial.terms
    → ((u : ℕ) × Terms l.question.sizes.free l.question.sizes.own values u l.terms)
    × ChoicesLooked (posed l.question) values (InWords l.w l.present) l.wanted (Some l.rest)
