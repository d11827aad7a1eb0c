-- Every solution that asking shows is accepted. Assumes nothing.
use Rattle.std.specs.Prelude.{◌≡◌, refl, true, List, ℕ, ◌*◌, T, take, drop}
use Rattle.std.proofs.Common.{sym, ◌∙◌, subst, arith, length-take-le, get_or-drop}
use Rattle.std.proofs.Math.Path.{ap}
use Rattle.std.proofs.Math.ListN.{length}
use Rattle.shares.specs.Test.{is_true}
use Rattle.systems.specs.Clauses.{Assignment}
use Rattle.systems.specs.Questions.{Question, WellFormed, question_height}
use Rattle.systems.specs.Answers.{Answer, satisfied, unsatisfied, vacuous, entailed, unmet, missed, kind_of, shows}
use Rattle.systems.specs.Answers.{Fails}
use Rattle.systems.specs.Decide.{decide}
use Rattle.systems.proofs.Exact.{decide_kind_lem}
use Rattle.systems.proofs.Heights.{exact}
use Rattle.format.proofs.FormatLaws.{accepted_formed}
use Rattle.rows.specs.Rows.{row_levels, row_bytes, answer_bytes}
use Rattle.rows.proofs.RowLaws.{filled_first, filled_length, others_zero}
use Rattle.asking.specs.Asking.{answered, asked_with, answer_after, shown_trees}
use Rattle.asking.specs.AskingLaws.{Granted, granted, asked_answered}
use Rattle.asking.specs.Demand3.{row_shares, RowsShow}
use Rattle.asking.proofs.AskedRight.{demand_3}
use Rattle.judging.specs.Judging.{is_zero, judged_with, judgement_of}
use Rattle.judging.specs.CaseLaws.{zero_part, judged_on}
use Rattle.judging.specs.Exactly.{ExtendsToo}
use Rattle.judging.proofs.ModelLaws.{judged_exactly}
use Rattle.judging.specs.Judging.{Accepted}

-- a solution that is shown with a no does not extend
not_extending : (q : Question) (σ : Assignment) (a : Answer) → T (shows a) → Fails q σ a → ¬ ExtendsToo (kind_of a) q σ
not_extending q σ satisfied t f e = e
not_extending q σ unsatisfied t f e = e
not_extending q σ vacuous t f e = t
not_extending q σ entailed t f e = t
not_extending q σ unmet t f e = f.0 e
not_extending q σ (missed j) t f e = f.0 e

module _ (s answer work : List ℕ) (q : Question) (e : asked_with s answer work ≡ answered q)
    (t : T (shows (decide q))) where
  G : Granted s (length answer) (length work) q
  G = granted s (length answer) (length work) q e

  formed : WellFormed q
  formed = accepted_formed s q G.taken

  abbrev bytes : ℕ
  bytes = answer_bytes q.constants.levels

  -- the first bytes of the answer buffer
  abbrev rows : List ℕ
  rows = take bytes (answer_after (answered q) answer)

  first_bytes : rows ≡ answer_after (answered q) (take bytes answer)
  unfolding answer_after
  first_bytes = rw (is_true (shows (decide q)) t)
      (filled_first (row_levels q.constants.levels) q.free (shown_trees q) answer G.answer)

  -- are what a buffer of that length is left with
  short : length (take bytes answer) ≡ bytes
  short = length-take-le bytes answer G.answer

  shown : RowsShow q (decide q) rows
  shown =
      let again : asked_with s (take bytes answer) work ≡ answered q =
      asked_answered s _ (length work) q G.taken (omega (arith, short)) G.work in
      rw first_bytes ((demand_3 s (take bytes answer) work q again).shown (decide q)
      ((exact q formed (decide q)).1 refl) t)

  long : length rows ≡ bytes
  unfolding answer_after
  long =
      ap length first_bytes
      ∙ rw (is_true (shows (decide q)) t)
      (filled_length (row_levels q.constants.levels) q.free (shown_trees q) (take bytes answer) (omega (arith, short))
      ∙ short)

  pub shown_accepted : judgement_of (judged_with s rows) rows ≡ Accepted
  shown_accepted =
      ap (λ j. judgement_of j rows) (judged_on s rows q G.taken long others)
      ∙ (judged_exactly q formed rows).accepted.1 (shown.solution.solves, right)
    where
      others : is_zero (drop (q.free * row_bytes q.constants.levels) rows) ≡ true
      others =
          zero_part _ (λ i l. get_or-drop (q.free * row_bytes q.constants.levels) rows i 0
          ∙ others_zero (row_levels q.constants.levels) q.free rows (omega arith) (sym long) shown.others _
          (omega arith))

      right : ¬ ExtendsToo q.kind q (row_shares q.constants.levels rows)
      right =
          subst (λ k. ¬ ExtendsToo k q (row_shares q.constants.levels rows))
          (decide_kind_lem (question_height q) q q.kind)
          (not_extending q _ (decide q) t shown.solution.fails)
