-- Every field of what asking gives fits its bytes. Assumes nothing.
use Rattle.std.specs.Prelude.{◌≡◌, refl, List, ℕ, ◌≤◌, ◌<◌, ltb}
use Rattle.std.proofs.Common.{arith}
use Rattle.shares.specs.Test.{cond_law}
use Rattle.shares.specs.Constant.{constant_levels}
use Rattle.leaves.specs.Heights.{any_height}
use Rattle.systems.specs.Questions.{Question, WellFormed}
use Rattle.systems.specs.Answers.{Answer, satisfied, unsatisfied, vacuous, entailed, unmet, missed, Says, verdict}
use Rattle.systems.specs.Answers.{reason, disequation_number}
use Rattle.systems.specs.Decide.{decide}
use Rattle.systems.proofs.Heights.{exact}
use Rattle.format.specs.Format.{Result, refused, accepted, read}
use Rattle.format.specs.Limits.{longest, Limited}
use Rattle.format.proofs.FormatLaws.{accepted_formed, accepted_limited, refusal_number, refusal_place}
use Rattle.format.specs.declared.Section.TheVariants.{SecondDisequation}
use Rattle.rows.specs.Rows.{answer_bytes}
use Rattle.asking.specs.Asking.{work_bytes, Asked, turned_away, answered, lent_to, asked, outcome_of}
use Rattle.asking.specs.AskingLaws.{height_low}
use Rattle.zimorgal.specs.Fields.{InBytes}

module _ (q : Question) (L : Limited q) where
  number_low : (a : Answer) → Says any_height q a → disequation_number a < 31
  number_low satisfied s = omega arith
  number_low unsatisfied s = omega arith
  number_low vacuous s = omega arith
  number_low entailed s = omega arith
  number_low unmet s = omega arith
  number_low (missed j) s = omega (arith, s.0, L.sections SecondDisequation)

verdict_low : (a : Answer) → verdict a ≤ 2
verdict_low satisfied = omega arith
verdict_low unsatisfied = omega arith
verdict_low vacuous = omega arith
verdict_low entailed = omega arith
verdict_low unmet = omega arith
verdict_low (missed j) = omega arith

reason_low : (a : Answer) → reason a ≤ 3
reason_low satisfied = omega arith
reason_low unsatisfied = omega arith
reason_low vacuous = omega arith
reason_low entailed = omega arith
reason_low unmet = omega arith
reason_low (missed j) = omega arith

refusal_fits : (n place : ℕ) → n ≤ 12 → place ≤ longest constant_levels → InBytes (outcome_of (turned_away n place))
refusal_fits n place l m = record {
  verdict = omega arith;
  refusal = omega arith;
  place = omega arith;
  height = omega arith;
  reason = omega arith;
  number = omega arith;
}

answer_fits : (q : Question) → WellFormed q → Limited q → InBytes (outcome_of (answered q))
answer_fits q F L = record {
  verdict = omega (arith, verdict_low (decide q));
  refusal = omega arith;
  place = omega arith;
  height = omega (arith, height_low q F L (decide q), L.levels);
  reason = omega (arith, reason_low (decide q));
  number = omega (arith, number_low q L (decide q) ((exact q F (decide q)).1 refl).1);
}

-- every result fits its bytes
pub outcome_fits : (s : List ℕ) (a w : ℕ) → InBytes (outcome_of (asked s a w))
unfolding asked
outcome_fits s a w = go (read s) refl
  where
    M : Asked → Type 0
    M g = InBytes (outcome_of g)

    go : (o : Result) → read s ≡ o → InBytes (outcome_of (lent_to o a w))
    go (refused n place) h = refusal_fits n place (omega (arith, refusal_number s n place h))
        (refusal_place s n place h)
    go (accepted q) h =
        cond_law M (ltb a (answer_bytes q.constants.levels)) _ _ (λ _. refusal_fits 11 0 (omega arith) (omega arith))
        (λ _. cond_law M (ltb w work_bytes) _ _ (λ _. refusal_fits 12 0 (omega arith) (omega arith))
        (λ _. answer_fits q (accepted_formed s q h) (accepted_limited s q h)))
