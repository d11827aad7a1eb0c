-- What the code finds of the rows is the judgement. Assumes nothing.
use Rattle.std.specs.Prelude.{◌≡◌, refl, Bool, true, false, cond, Option, Some, None, List, ◌↔◌, ℕ, ◌+◌, ◌-◌, ◌*◌, ◌^◌}
use Rattle.std.specs.Prelude.{◌<◌, T, ltb, length, get_or, drop}
use Rattle.std.proofs.Common.{sym, ap, ap₂, ◌∙◌, subst, arith, length-drop, get_or-drop}
use Rattle.shares.specs.declared.Way.TheVariants.{Holds}
use Rattle.shares.specs.Constant.{constant_levels}
use Rattle.shares.specs.Test.{same_test, is_true, of_true}
use Rattle.systems.specs.Questions.{entailment, Question}
use Rattle.format.specs.declared.Question as stored
use Rattle.format.specs.declared.Kind.{Kind}
use Rattle.format.specs.declared.Kind.TheVariants.{Satisfiability, Entailment}
use Rattle.format.proofs.FormatLaws.{accepted_formed}
use Rattle.format.specs.Numbers.{kind_value}
use Rattle.format.specs.Format.{read}
use Rattle.format.specs.Stored.{stored_of, Stands, refused_with, reading_of}
use Rattle.rows.specs.Rows.{row_bytes, answer_bytes}
use borrow.Author.Tests.{ne_eqb}
use Rattle.format.proofs.Callers.{Taken, answer_refused, levels_are, kind_satisfiability, kind_entailment}
use Rattle.beside.specs.declared.Searchable.{Searchable}
use Rattle.steps.specs.Steps.{stored_by, posed}
use Rattle.decide.specs.Decision.{sizes_of}
use Rattle.decide.specs.NamedLaws.{first_kept, named_lt}
use Rattle.decide.specs.ReadableLaws.{readable}
use Rattle.beside.specs.Beside.{Readable}
use Rattle.beside.specs.declared.Sizes.{Sizes}
use Rattle.unfolded.specs.Unfolded.{Unfolded, ZeroBytes}
use Rattle.extending.specs.Extending.{extends_in}
use Rattle.asking.specs.Demand3.{row_shares}
use Rattle.judging.specs.Judging.{turned_away, judged, is_zero, judged_with, clause_of, lowest_broken, extends_at}
use Rattle.judging.specs.Judging.{broken_as, unbroken, judgement_of}
use Rattle.judging.specs.Told.{said_told, broken_told}
use Rattle.judging.specs.declared.Failing.{Failing}
use Rattle.judging.specs.declared.BrokenClause.{BrokenClause}
use Rattle.judging.specs.Exactly.{Exactly, AskingShows}
use Rattle.judging.specs.Walk.{Laid, first_judged}
use Rattle.judging.specs.ExtendLaws.{extends_same}
use Rattle.judging.specs.CaseLaws.{zero_part, zero_bytes, judged_read, judged_refused, judged_18, judged_19, judged_on}
use Rattle.judging.proofs.ModelLaws.{only_broken, said_broken, judged_exactly}
use Rattle.judging.proofs.ShownAccepted.{shown_accepted}
use Rattle.judging.specs.Judging.{Judgement, Refused, Accepted, Extending}

-- ---- rows of a question that was read

-- the kind with number 0
kind_zero : (k : Kind) → kind_value k ≡ 0 → k ≡ Satisfiability
kind_zero Satisfiability e = refl
kind_zero Entailment e = absurd (omega arith)

module _ (x : stored.Question) (clauses rows : List ℕ) (q : Question)
    (St : Stands (kind_value x.kind) (stored_of x clauses) q) where
  -- a table of the rows and the constants
  pub laid : (table : List ℕ) → Unfolded constant_levels rows x.constants x.named table
      → Laid constant_levels q rows x.constants x.named table
  laid table U = record { constants_are = St.constants; kept = first_kept (stored_of x clauses) q St; unfolded = U }

  -- what the second system's clauses are asked with
  module _ (sizes : Sizes) (sized : sizes ≡ sizes_of x) where
    pub sizes_readable : Readable clauses sizes.counts sizes.free sizes.own × (sizes.named < 2 ^ 32)
    sizes_readable = rw sized (readable (stored_of x clauses) q St, named_lt (stored_of x clauses) q St)

    pub extends_found : (table : List ℕ) → Unfolded constant_levels rows x.constants x.named table → (b : Bool)
        → b ≡ extends_in (stored_by sizes clauses x.constants) table → b ≡ extends_at q rows
    extends_found table U b e =
        e ∙ ap (λ z. extends_in (stored_by z clauses x.constants) table) sized
        ∙ extends_same (stored_of x clauses) q St rows x.constants table x.named U

  -- whether they extend, by the question as it is searched
  pub extends_searched : (searched : Searchable) → searched.sizes ≡ sizes_of x → searched.clauses.now ≡ clauses
      → searched.constants.now ≡ x.constants
      → (table : List ℕ) → Unfolded constant_levels rows x.constants x.named table
      → (b : Bool) → b ≡ extends_in (posed searched) table → b ≡ extends_at q rows
  extends_searched searched sized same same' table U b e =
      extends_found searched.sizes sized table U b (e
      ∙ ap₂ (λ c n. extends_in (stored_by searched.sizes c n) table) same same')

  -- the judgement of the first system alone
  module _ (r : Judgement) (found : r ≡ first_judged q rows) where
    -- where it is broken, that is the whole judgement
    pub rows_broken : (r ≡ Accepted → ⊥) → r ≡ judgement_of (judged q) rows
    rows_broken other = found ∙ go (ltb (lowest_broken q rows) (length q.first)) refl
      where
        go : (b : Bool) → ltb (lowest_broken q rows) (length q.first) ≡ b
            → first_judged q rows ≡ judgement_of (judged q) rows
        go true e = rw e refl
        go false e = absurd (other (found ∙ rw e refl))

    module _ (solved : r ≡ Accepted) where
      -- no clause is broken
      unbroken_here : judgement_of (judged q) rows ≡ unbroken q.kind (extends_at q rows)
      unbroken_here = go (ltb (lowest_broken q rows) (length q.first)) (sym found ∙ solved)
        where
          broken : Judgement
          broken = broken_as q.constants rows (lowest_broken q rows) (clause_of q.first (lowest_broken q rows))

          go : (b : Bool) → cond b broken Accepted ≡ Accepted → cond b broken (unbroken q.kind (extends_at q rows))
              ≡ unbroken q.kind (extends_at q rows)
          go true e = absurd ((said_broken q.constants rows (lowest_broken q rows)
              (clause_of q.first (lowest_broken q rows))).accepted e)
          go false e = refl

      pub rows_satisfied : x.kind ≡ Satisfiability → Accepted ≡ judgement_of (judged q) rows
      rows_satisfied e = sym (unbroken_here
          ∙ ap (λ k. unbroken k (extends_at q rows)) (kind_satisfiability (stored_of x clauses) q St (ap kind_value e)))

      module _ (n : x.kind ≡ Satisfiability → ⊥) (b : Bool) (extends : b ≡ extends_at q rows) where
        entailed : judgement_of (judged q) rows ≡ unbroken entailment b
        entailed = unbroken_here ∙ ap₂ unbroken
            (kind_entailment (stored_of x clauses) q St (λ e. n (kind_zero x.kind e))) (sym extends)

        pub rows_extending : b ≡ true → Extending ≡ judgement_of (judged q) rows
        rows_extending e = sym (entailed ∙ ap (unbroken entailment) e)

        pub rows_accepted : b ≡ false → Accepted ≡ judgement_of (judged q) rows
        rows_accepted e = sym (entailed ∙ ap (unbroken entailment) e)

-- what is told of a broken clause is not that the rows are accepted
pub told_broken : (b : BrokenClause) → broken_told b ≡ Accepted → ⊥
told_broken b = go b.number b.failing
  where
    go : (k : ℕ) (f : Option Failing) → said_told k f ≡ Accepted → ⊥
    go k None = (only_broken k Holds 0).accepted
    go k (Some f) = (only_broken k f.way f.leaf).accepted

-- ---- every question and all rows

-- whether the rows of no free variable are zero, by their bytes from a word on
pub others_are : (rows : List ℕ) (word start : ℕ) (r : Bool) → 8 * word ≡ start
    → T r ↔ ZeroBytes rows (8 * word) (length rows) → r ≡ is_zero (drop start rows)
others_are rows word start r e E =
    same_test r (is_zero (drop start rows))
    (λ t. of_true (zero_part (drop start rows) (λ i l. get_or-drop start rows i 0
    ∙ E.0 t (start + i) (omega arith) (omega (arith, length-drop start rows)))))
    (λ t. E.1 (λ i l m. let at : i ≡ start + (i - start) = omega arith in
    ap (λ k. get_or rows k 0) at ∙ sym (get_or-drop start rows (i - start) 0)
    ∙ zero_bytes (drop start rows) (is_true _ t) (i - start) (omega (arith, length-drop start rows))))

module _ (s rows : List ℕ) where
  -- the result, what it means, and that what asking shows is accepted
  abbrev pub Judges : Judgement → Type 0
  Judges r = (r ≡ judgement_of (judged_with s rows) rows)
      × (((q : Question) → judged_with s rows ≡ judged q → Exactly q (row_shares q.constants.levels rows) (λ j. r ≡ j))
      × (AskingShows s rows → r ≡ Accepted))

  -- the rest follows from the result
  judges : (r : Judgement) → r ≡ judgement_of (judged_with s rows) rows → Judges r
  judges r e = (
    e,
    (
      λ q f. subst (λ r. Exactly q (row_shares q.constants.levels rows) (λ j. r ≡ j))
          (sym (e ∙ ap (λ j. judgement_of j rows) f))
          (judged_exactly q (accepted_formed s q (judged_read s rows q f)) rows),
      λ A. e ∙ subst (λ l. judgement_of (judged_with s l) l ≡ Accepted) (sym A.first)
          (shown_accepted s A.answer A.work A.question A.asked A.shown),
    ),
  )

  -- a refusal
  pub judges_refused : (n place : ℕ) → judged_with s rows ≡ turned_away n place → Judges (Refused n place)
  judges_refused n place e = judges (Refused n place) (sym (ap (λ j. judgement_of j rows) e))

  -- and what is found of the rows
  pub judges_rows : (q : Question) → judged_with s rows ≡ judged q → (r : Judgement) → r ≡ judgement_of (judged q) rows
      → Judges r
  judges_rows q e r f = judges r (f ∙ sym (ap (λ j. judgement_of j rows) e))

  -- by the reader
  pub refused_read : (n place : ℕ) → refused_with n place ≡ reading_of (read s) → Judges (Refused n place)
  refused_read n place e = judges_refused n place (judged_refused s rows n place (answer_refused s n place e))

  -- of rows for a question that was read
  module _ (x : stored.Question) (clauses : List ℕ) (got : Taken s x clauses) where
    pub refused_length : (length rows ≡ 1536 → ⊥) → Judges (Refused 18 0)
    refused_length n = judges_refused 18 0
        (judged_18 s rows got.question got.read (rw (levels_are _ _ got.stands) (ne_eqb _ 1536 n)))

    module _ (l : length rows ≡ 1536) (zero : Bool)
        (E : T zero ↔ ZeroBytes rows (8 * (x.free * 16)) (length rows)) where
      long : length rows ≡ answer_bytes got.question.constants.levels
      long = rw (levels_are _ _ got.stands) l

      others : zero ≡ is_zero (drop (got.question.free * row_bytes got.question.constants.levels) rows)
      others = rw (levels_are _ _ got.stands, ← got.stands.free)
          (others_are rows (x.free * 16) (x.free * 128) zero (omega arith) E)

      pub refused_rows : zero ≡ false → Judges (Refused 19 0)
      refused_rows e = judges_refused 19 0 (judged_19 s rows got.question got.read long (sym others ∙ e))

      -- what is found of them
      pub judges_held : zero ≡ true → (r : Judgement) → r ≡ judgement_of (judged got.question) rows → Judges r
      judges_held e r f = judges_rows got.question (judged_on s rows got.question got.read long (sym others ∙ e)) r f
