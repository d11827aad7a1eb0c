-- Laws of the number of a judgement: it fits its bytes; a refusal and a broken clause are read back from it; of two
-- judgements, one no refusal and its numbers fitting, the numbers differ. Assumes nothing.
use Rattle.std.specs.Prelude.{◌≡◌, refl, Bool, true, false, cond, List, ℕ, ◌/◌, ◌%◌, ◌^◌, ◌<◌, ltb, length}
use Rattle.std.proofs.Common.{sym, ap, ap₂, ◌∙◌, subst, lt_of_le_of_lt, arith, ltb-true, lit<}
use Rattle.shares.specs.Constant.{constant_levels}
use Rattle.shares.specs.Tree.{way_number}
use Rattle.shares.proofs.WayLaws.{number_lt, same_way}
use Rattle.shares.specs.declared.Way.{Way}
use Rattle.systems.specs.Clauses.{Constants, Assignment, Clause, positive, negated}
use Rattle.systems.specs.Questions.{Kind, satisfiability, entailment, Question}
use Rattle.format.specs.Format.{accepted, read}
use Rattle.format.proofs.FormatLaws.{accepted_limited}
use Rattle.asking.specs.Demand3.{row_shares}
use Rattle.judging.specs.Judging.{Judged, turned_away, judged, judged_with, clause_of, lowest_broken, extends_at}
use Rattle.judging.specs.Judging.{broken_as, unbroken, judgement_of}
use Rattle.judging.specs.Exactly.{Exactly, AskingShows}
use Rattle.judging.proofs.WalkLaws.{failing_le, first_few}
use Rattle.judging.specs.CaseLaws.{judged_read, turned_away_small}
use Rattle.judging.proofs.JudgeLaws.{Judges}
use Rattle.judging.specs.Judging.{Judgement, Refused, Accepted, Broken, Extending}
use Rattle.zimorgal.specs.Calls.{judgement_number, Small}

-- what judging gives does
unbroken_small : (k : Kind) (b : Bool) → Small (unbroken k b)
unbroken_small satisfiability b = tt
unbroken_small entailment true = tt
unbroken_small entailment false = tt

broken_small : (cs : Constants) (rows : List ℕ) (k : ℕ) (c : Clause) → cs.levels ≡ constant_levels → k < 2 ^ 8
    → Small (broken_as cs rows k c)
broken_small cs rows k (positive a) e l = (l, lt_of_le_of_lt (failing_le cs rows a) (rw e (lit< tt)))
broken_small cs rows k (negated a) e l = (l, omega arith)

pub judgement_small : (s rows : List ℕ) → Small (judgement_of (judged_with s rows) rows)
judgement_small s rows = go (judged_with s rows) refl
  where
    rows_small : (q : Question) → read s ≡ accepted q → (b : Bool) → ltb (lowest_broken q rows) (length q.first) ≡ b
        → Small (cond b (broken_as q.constants rows (lowest_broken q rows) (clause_of q.first (lowest_broken q rows)))
        (unbroken q.kind (extends_at q rows)))
    rows_small q e true f =
        broken_small q.constants rows (lowest_broken q rows) (clause_of q.first (lowest_broken q rows))
        (accepted_limited s q e).levels
        (omega (arith, ltb-true (lowest_broken q rows) (length q.first) f, first_few s q e))
    rows_small q e false f = unbroken_small q.kind (extends_at q rows)

    go : (j : Judged) → judged_with s rows ≡ j → Small (judgement_of j rows)
    go (turned_away n place) e = let T = turned_away_small s rows n place e in (omega (arith, T.0), omega (arith, T.1))
    go (judged q) e = rows_small q (judged_read s rows q e) _ refl

-- a refusal is read back from its number
pub refusal_reads_back : (n place : ℕ) → Small (Refused n place)
    → (judgement_number (Refused n place) % 2 ^ 8 ≡ 0) × (judgement_number (Refused n place) / 2 ^ 8 % 2 ^ 8 ≡ n)
    × (judgement_number (Refused n place) / 2 ^ 16 % 2 ^ 16 ≡ place)
refusal_reads_back n place (l, m) = (omega arith, omega arith, omega arith)

-- so is what is said of a broken clause
pub broken_reads_back : (k : ℕ) (w : Way) (i : ℕ) → Small (Broken k w i)
    → let n = judgement_number (Broken k w i) in (n % 2 ^ 8 ≡ 2) × (n / 2 ^ 32 % 2 ^ 8 ≡ k)
    × (n / 2 ^ 40 % 2 ^ 8 ≡ way_number w) × (n / 2 ^ 48 ≡ i)
broken_reads_back k w i (l, m) = let small =
    number_lt w in (omega (arith, small), omega (arith, small), omega (arith, small), omega (arith, small))

-- no two judgements have one number, where one of them is no refusal and its numbers fit
same_number : (i j : Judgement) → ((n place : ℕ) → ¬ (i ≡ Refused n place)) → Small i → Small j
    → judgement_number i ≡ judgement_number j → i ≡ j
same_number (Refused n place) j r s t e = absurd (r n place refl)
same_number Accepted (Refused n place) r s t e = absurd (omega arith)
same_number Accepted Accepted r s t e = refl
same_number Accepted (Broken k w l) r s t e = absurd (omega arith)
same_number Accepted Extending r s t e = absurd (omega arith)
same_number (Broken k w l) (Refused n place) r s t e = absurd (omega arith)
same_number (Broken k w l) Accepted r s t e = absurd (omega arith)
same_number (Broken k w l) (Broken m v i) r s t e =
    let A = broken_reads_back k w l s in
    let B = broken_reads_back m v i t in
    let clause : k ≡ m = sym A.1 ∙ ap (λ (n : ℕ). n / 2 ^ 32 % 2 ^ 8) e ∙ B.1 in
    let way : w ≡ v = same_way w v (sym A.2 ∙ ap (λ (n : ℕ). n / 2 ^ 40 % 2 ^ 8) e ∙ B.2) in
    let leaf : l ≡ i = sym A.3 ∙ ap (λ (n : ℕ). n / 2 ^ 48) e ∙ B.3 in
    ap₂ (λ k w. Broken k w l) clause way ∙ ap (Broken m v) leaf
same_number (Broken k w l) Extending r s t e = absurd (omega arith)
same_number Extending (Refused n place) r s t e = absurd (omega arith)
same_number Extending Accepted r s t e = absurd (omega arith)
same_number Extending (Broken k w l) r s t e = absurd (omega arith)
same_number Extending Extending r s t e = refl

-- the number is as exact as the judgement
exactly_numbered : (q : Question) (σ : Assignment) (i : Judgement) → Small i → Exactly q σ (λ j. i ≡ j)
    → Exactly q σ (λ j. Small j × (judgement_number i ≡ judgement_number j))
exactly_numbered q σ i small E =
    let back : (j : Judgement) → Small j × (judgement_number i ≡ judgement_number j) → i ≡ j =
    λ j (s, e). same_number i j E.not_refused small s e in
    let on : (j : Judgement) → i ≡ j → Small j × (judgement_number i ≡ judgement_number j) =
    λ j e. (subst Small e small, ap judgement_number e) in
    record {
      accepted = (λ e. E.accepted.0 (back Accepted e), λ h. on Accepted (E.accepted.1 h));
      broken = λ k w l. (
        λ e. (E.broken k w l).0 (back (Broken k w l) e),
        λ h. on (Broken k w l) ((E.broken k w l).1 h),
      );
      extending = (λ e. E.extending.0 (back Extending e), λ h. on Extending (E.extending.1 h));
      not_refused = λ n place e. E.not_refused n place (back (Refused n place) e);
    }

-- what judging gives, as a number
pub judges_numbered : (s rows : List ℕ) (j : Judgement) → Judges s rows j → (r : ℕ) → r ≡ judgement_number j
    → (r ≡ judgement_number (judgement_of (judged_with s rows) rows))
    × (((q : Question) → judged_with s rows ≡ judged q
    → Exactly q (row_shares q.constants.levels rows) (λ j. Small j × (r ≡ judgement_number j)))
    × (AskingShows s rows → r ≡ judgement_number Accepted))
judges_numbered s rows j J r e =
    let small : Small j = subst Small (sym J.0) (judgement_small s rows) in (
      e ∙ ap judgement_number J.0,
      (
        λ q f. subst (λ r. Exactly q (row_shares q.constants.levels rows) (λ j. Small j × (r ≡ judgement_number j)))
            (sym e) (exactly_numbered q _ j small (J.1.0 q f)),
        λ A. e ∙ ap judgement_number (J.1.1 A),
      ),
    )
