-- Judging by leaves is right of the trees of the rows, for every number of levels. Assumes nothing.
use Rattle.std.specs.Prelude.{◌≡◌, refl, Bool, true, false, not, List, [], ◌∷◌, ◌↔◌, ℕ, zero, suc, ◌^◌, ◌≤◌, ◌<◌, T}
use Rattle.std.specs.Prelude.{length, get_or}
use Rattle.std.proofs.Math.Path.{sym}
use Rattle.std.proofs.Common.{ap, ap₂, ◌∙◌, subst, le_refl, not-suc-le-zero, le_of_suc-le-suc, arith}
use Rattle.std.proofs.Math.Bool.{true≢false}
use Rattle.std.proofs.Math.Decide.{dec_lt}
use borrow.Author.Tests.{lt-ltb, le-ltb, eq-eqb}
use Rattle.std.proofs.Math.Arith.{lt_of_le-ne}
use Rattle.std.proofs.Math.Dec.{T_not, not_T}
use Rattle.shares.specs.Test.{is_true, is_false, holds}
use Rattle.shares.specs.BelowLaws.{every_intro, every_at, every_first, first_le, first_below_lem, first_least, first_is}
use Rattle.shares.specs.Tree.{is_way}
use Rattle.shares.specs.declared.Way.{Way}
use Rattle.shares.specs.declared.Way.TheVariants as way
use Rattle.shares.proofs.WayLaws.{is_way_iff}
use Rattle.shares.proofs.TreeLaws.{tree_of_height, leaf_at_tree_of}
use Rattle.leaves.specs.Heights.{any_height}
use Rattle.leaves.specs.Choices.{at, least}
use Rattle.leaves.specs.ChoiceLaws.{at_table}
use Rattle.leaves.proofs.SecondLaws.{extension_solvable}
use Rattle.systems.specs.Clauses.{Term, Constants, Assignment, Atom, Clause, positive, negated, System, Holds}
use Rattle.systems.specs.Clauses.{ClauseHolds, SystemHolds}
use Rattle.systems.specs.Questions.{Kind, satisfiability, entailment, Question, Defined, InAtom, InSystem, WellFormed}
use Rattle.systems.specs.Bounds.{Within}
use Rattle.systems.specs.Solutions.{SolvesFirst, Extends}
use Rattle.systems.specs.AtLeaves.{tree_way, second_at}
use Rattle.systems.specs.SystemLaws.{in_system}
use Rattle.systems.proofs.AtomLaws.{Good, Reads, atom_way_lem, atom_iff}
use Rattle.systems.proofs.Heights.{levels_bounds}
use Rattle.systems.proofs.Link.{read_any, extension_iff}
use Rattle.rows.specs.Rows.{row_levels, row_leaf, row_part}
use Rattle.asking.specs.Demand3.{row_shares}
use Rattle.judging.specs.Worked
use Rattle.judging.specs.Judging.{judged, row_at, row_way, everywhere, failing_leaf, clause_met, no_clause, clause_of}
use Rattle.judging.specs.Judging.{lowest_broken, choices, extends_at, broken_as, unbroken, judgement_of}
use Rattle.judging.specs.Exactly.{FailsAt, SaidOf, BrokenAt, ExtendsToo, Exactly}
use Rattle.judging.specs.Judging.{Judgement, Refused, Accepted, Broken, Extending}

-- ---- clauses by their number

-- what holds of every term of a system holds of every term of one of its clauses
abbrev pub InClause : (Term → Type 0) → Clause → Type 0
InClause P (positive a) = InAtom P a
InClause P (negated a) = InAtom P a

pub in_clause : (P : Term → Type 0) (s : System) (d : Clause) → InSystem P s → (k : ℕ) → k < length s
    → InClause P (get_or s k d)
in_clause P [] d h k l = absurd (not-suc-le-zero l)
in_clause P (positive a ∷ s) d h zero l = h.0
in_clause P (negated a ∷ s) d h zero l = h.0
in_clause P (positive a ∷ s) d h (suc k) l = in_clause P s d h.1 k (le_of_suc-le-suc l)
in_clause P (negated a ∷ s) d h (suc k) l = in_clause P s d h.1 k (le_of_suc-le-suc l)

-- a system holds exactly if each of its clauses does
system_each : (cs : Constants) (σ : Assignment) (s : System) (d : Clause) → SystemHolds cs σ s → (k : ℕ) → k < length s
    → ClauseHolds cs σ (get_or s k d)
system_each cs σ [] d h k l = absurd (not-suc-le-zero l)
system_each cs σ (c ∷ s) d h zero l = h.0
system_each cs σ (c ∷ s) d h (suc k) l = system_each cs σ s d h.1 k (le_of_suc-le-suc l)

system_all : (cs : Constants) (σ : Assignment) (s : System) (d : Clause)
    → ((k : ℕ) → k < length s → ClauseHolds cs σ (get_or s k d)) → SystemHolds cs σ s
system_all cs σ [] d f = tt
system_all cs σ (c ∷ s) d f = (f zero (omega arith), system_all cs σ s d (λ k l. f (suc k) (omega arith)))

-- ---- what is said of a broken clause is no other judgement

pub record OnlyBroken (j : Judgement) : Type 0 where
  pub accepted : ¬ (j ≡ Accepted)
  pub extending : ¬ (j ≡ Extending)
  pub refused : (n place : ℕ) → ¬ (j ≡ Refused n place)

pub only_broken : (k : ℕ) (w : Way) (i : ℕ) → OnlyBroken (Broken k w i)
only_broken k w i = record {
  accepted = λ e. let z : ◌≡◌ {A = ℕ} 0 1 = cc in omega arith;
  extending = λ e. let z : ◌≡◌ {A = ℕ} 0 1 = cc in omega arith;
  refused = λ n place e. let z : ◌≡◌ {A = ℕ} 0 1 = cc in omega arith;
}

pub said_broken : (cs : Constants) (rows : List ℕ) (k : ℕ) (c : Clause) → OnlyBroken (broken_as cs rows k c)
said_broken cs rows k (positive a) = only_broken _ _ _
said_broken cs rows k (negated a) = only_broken _ _ _

module _ (q : Question) (F : WellFormed q) (rows : List ℕ) where
  abbrev levels : ℕ
  levels = q.constants.levels

  abbrev height : ℕ
  height = row_levels levels

  -- the shares of the rows
  abbrev shares : Assignment
  shares = row_shares levels rows

  -- each has the leaves of its row
  rows_read : (n : ℕ) → Reads n height shares (row_at levels rows)
  rows_read n = record {
    low = λ v l. tree_of_height height _;
    bits =
        λ i l v m. sym (leaf_at_tree_of height (row_leaf (row_part height rows v)) i l);
  }

  tall : levels ≤ height
  tall = omega arith

  -- ---- the first system

  atom_met : (a : Atom) → InAtom (Good q.free levels q.constants) a
      → T (everywhere q.constants rows a) ↔ Holds q.constants shares a
  unfolding everywhere
  atom_met a g =
      let E = atom_iff q.free levels q.constants (le_refl levels) height tall shares (row_at levels rows)
      (rows_read q.free) a g in (
        λ t. E.1 (every_at _ _ t),
        λ h. every_intro _ _ (E.0 h),
      )

  -- an atom comes out at a leaf of the rows as it does at that leaf of their shares
  row_way_lem : (a : Atom) → InAtom (Good q.free levels q.constants) a → (i : ℕ) → i < 2 ^ height
      → row_way q.constants rows a i ≡ tree_way height q.constants shares a i
  row_way_lem a g = atom_way_lem q.free levels q.constants (le_refl levels) height tall shares (row_at levels rows)
      (rows_read q.free) a g

  -- the lowest leaf at which it does not hold, and how it comes out there
  abbrev failing : Atom → ℕ
  failing a = failing_leaf q.constants rows a

  abbrev fails : Atom → ℕ → Bool
  fails a i = not (is_way way.Holds (row_way q.constants rows a i))

  fails_found : (a : Atom) → InAtom (Good q.free levels q.constants) a → everywhere q.constants rows a ≡ false
      → FailsAt height q.constants shares a (row_way q.constants rows a (failing a)) (failing a)
  unfolding everywhere failing_leaf
  fails_found a g e = record {
    there = l;
    says = sym (row_way_lem a g (failing a) l);
    fails = λ h. T_not (is_way way.Holds (row_way q.constants rows a (failing a)))
        (first_below_lem (2 ^ height) (fails a) l) ((is_way_iff way.Holds _).1 h);
    lowest = λ j m. sym (row_way_lem a g j (omega (arith, l)))
        ∙ (is_way_iff way.Holds _).0
        (holds (is_way way.Holds (row_way q.constants rows a j))
        (λ t. T_not (fails a j) (first_least (2 ^ height) (fails a) j m) t));
  }
    where
      l : failing a < 2 ^ height
      l =
          let n : ¬ (failing a ≡ 2 ^ height) =
          λ h. true≢false (sym (every_first (2 ^ height) (λ i. is_way way.Holds (row_way q.constants rows a i))
          ∙ eq-eqb _ _ h) ∙ e) in
          lt_of_le-ne (first_le (2 ^ height) (fails a)) n

  fails_only : (a : Atom) → InAtom (Good q.free levels q.constants) a → (w : Way) (i : ℕ)
      → FailsAt height q.constants shares a w i
      → (row_way q.constants rows a (failing a) ≡ w) × (failing a ≡ i)
  unfolding failing_leaf
  fails_only a g w i F = (ap (row_way q.constants rows a) here ∙ says, here)
    where
      says : row_way q.constants rows a i ≡ w
      says = row_way_lem a g i F.there ∙ F.says

      here : failing a ≡ i
      here =
          first_is (2 ^ height) (fails a) i F.there
          (λ j m. ap not (is_true (is_way way.Holds (row_way q.constants rows a j))
          ((is_way_iff way.Holds _).1 (row_way_lem a g j (omega (arith, F.there)) ∙ F.lowest j m))))
          (is_true (fails a i) (not_T (is_way way.Holds (row_way q.constants rows a i))
          (λ t. F.fails (sym says ∙ (is_way_iff way.Holds _).0 t))))

  -- what is said of a clause that is broken
  broken_parts : {k n : ℕ} {w v : Way} {i j : ℕ} → Broken k w i ≡ Broken n v j → (k ≡ n) × (w ≡ v) × (i ≡ j)
  broken_parts e = (cc, cc, cc)

  said_iff : (c : Clause) → InClause (Good q.free levels q.constants) c → clause_met q.constants rows c ≡ false
      → (n k : ℕ) (w : Way) (i : ℕ)
      → (broken_as q.constants rows n c ≡ Broken k w i) ↔ ((n ≡ k) × SaidOf height q.constants shares c w i)
  said_iff (positive a) g b n k w i = (
    λ e. let (p, r, s) = broken_parts e in (
      p,
      subst (λ j. FailsAt height q.constants shares a w j) s
          (subst (λ v. FailsAt height q.constants shares a v (failing a)) r (fails_found a g b)),
    ),
    λ (p, F). let (r, s) = fails_only a g w i F in
        ap (λ k. Broken k (row_way q.constants rows a (failing a)) (failing a)) p ∙ ap₂ (Broken k) r s,
  )
  said_iff (negated a) g b n k w i = (
    λ e. let (p, r, s) = broken_parts e in (p, (sym r, sym s)),
    λ (p, (r, s)). ap (λ k. Broken k way.Holds 0) p ∙ ap₂ (Broken k) (sym r) (sym s),
  )

  clause_met_lem : (c : Clause) → InClause (Good q.free levels q.constants) c
      → T (clause_met q.constants rows c) ↔ ClauseHolds q.constants shares c
  clause_met_lem (positive a) g = atom_met a g
  clause_met_lem (negated a) g =
      let E = atom_met a g in (
        λ t h. T_not (everywhere q.constants rows a) t (E.1 h),
        λ n. not_T (everywhere q.constants rows a) (λ t. n (E.0 t)),
      )

  -- clause number k
  number_good : (k : ℕ) → k < length q.first → InClause (Good q.free levels q.constants) (clause_of q.first k)
  number_good k l = in_clause (Good q.free levels q.constants) q.first no_clause good k l
    where
      good : InSystem (Good q.free levels q.constants) q.first
      good =
          in_system (Defined q.free q.constants) (Within levels q.constants) _ (λ t d w. (d, w)) q.first F.first
          (levels_bounds q F).first

  number_met : (k : ℕ) → k < length q.first
      → T (clause_met q.constants rows (clause_of q.first k)) ↔ ClauseHolds q.constants shares (clause_of q.first k)
  number_met k l = clause_met_lem (clause_of q.first k) (number_good k l)

  -- it is broken
  abbrev breaks : ℕ → Bool
  breaks k = not (clause_met q.constants rows (clause_of q.first k))

  -- a clause below the lowest that is broken holds
  below_holds : (k : ℕ) → k < length q.first → k < lowest_broken q rows
      → ClauseHolds q.constants shares (clause_of q.first k)
  below_holds k l m =
      (number_met k l).0 (holds (clause_met q.constants rows (clause_of q.first k))
      (λ t. T_not (breaks k) (first_least (length q.first) breaks k m) t))

  -- what is given where one is broken
  abbrev given : Judgement
  given = broken_as q.constants rows (lowest_broken q rows) (clause_of q.first (lowest_broken q rows))

  not_holds : (l : lowest_broken q rows < length q.first)
      → ¬ ClauseHolds q.constants shares (clause_of q.first (lowest_broken q rows))
  not_holds l h = T_not (clause_met q.constants rows (clause_of q.first (lowest_broken q rows)))
      (first_below_lem (length q.first) breaks l) ((number_met _ l).1 h)

  broken_said : (l : lowest_broken q rows < length q.first) (k : ℕ) (w : Way) (i : ℕ)
      → (given ≡ Broken k w i) ↔ ((lowest_broken q rows ≡ k)
      × SaidOf height q.constants shares (clause_of q.first (lowest_broken q rows)) w i)
  broken_said l k w i =
      said_iff (clause_of q.first (lowest_broken q rows)) (number_good _ l)
      (is_false _ (first_below_lem (length q.first) breaks l)) (lowest_broken q rows) k w i

  broken_found : lowest_broken q rows < length q.first → (k : ℕ) (w : Way) (i : ℕ) → given ≡ Broken k w i
      → BrokenAt q shares k w i
  broken_found l k w i e =
      let (f, s) = (broken_said l k w i).0 e in
      rw (← f) (record { there = l; broken = not_holds l; lowest = λ j m. below_holds j (omega arith) m; said = s })

  broken_only : (k : ℕ) (w : Way) (i : ℕ) → BrokenAt q shares k w i → lowest_broken q rows ≡ k
  broken_only k w i B =
      first_is (length q.first) breaks k B.there
      (λ i l. is_false (breaks i) (not_T (breaks i)
      (λ t. T_not (clause_met q.constants rows (clause_of q.first i)) t
      ((number_met i (omega (arith, B.there))).1 (B.lowest i l)))))
      (is_true (breaks k) (not_T (clause_met q.constants rows (clause_of q.first k))
      (λ t. B.broken ((number_met k B.there).0 t))))

  -- none is
  solves_found : length q.first ≤ lowest_broken q rows → SolvesFirst q shares
  solves_found g =
      system_all q.constants shares q.first no_clause (λ k l. below_holds k l (omega arith))

  solves_only : SolvesFirst q shares → length q.first ≤ lowest_broken q rows
  solves_only h = go (dec_lt (lowest_broken q rows) (length q.first))
    where
      go : Dec (lowest_broken q rows < length q.first) → length q.first ≤ lowest_broken q rows
      go (yes l) = absurd (not_holds l (system_each q.constants shares q.first no_clause h _ l))
      go (no n) = omega arith

  -- ---- the second system

  choices_read : Reads q.free height shares (λ i. at false (choices q rows i))
  choices_read = record {
    low = (rows_read q.free).low;
    bits = λ i l v m. at_table false q.free (row_at levels rows i) v m ∙ (rows_read q.free).bits i l v m;
  }

  -- the rows extend exactly if their shares do
  extends_iff : T (extends_at q rows) ↔ Extends q shares
  extends_iff =
      let E = extension_iff levels q F (levels_bounds q F) height tall shares (choices q rows) choices_read any_height
      any_height (read_any height) in
      let S = extension_solvable (least q.own) levels (second_at levels q) height (choices q rows) tall in
      (λ t. E.1 (S.1 t), λ e. S.0 (E.0 e))

  -- ---- what is given is right, and nothing else is given where it is

  apart : Accepted ≡ Extending → ⊥
  apart e = let z : ◌≡◌ {A = ℕ} 0 1 = cc in omega arith

  abbrev Gives : Judgement → Type 0
  Gives j = judgement_of (judged q) rows ≡ j

  given_broken : lowest_broken q rows < length q.first → judgement_of (judged q) rows ≡ given
  given_broken l = rw (lt-ltb (lowest_broken q rows) (length q.first) l)

  given_unbroken : length q.first ≤ lowest_broken q rows
      → judgement_of (judged q) rows ≡ unbroken q.kind (extends_at q rows)
  given_unbroken g = rw (le-ltb (lowest_broken q rows) (length q.first) g)

  -- where none is broken: accepted or extending
  unbroken_iff : (k : Kind) (b : Bool) → T b ↔ Extends q shares
      → ((unbroken k b ≡ Accepted) ↔ (¬ ExtendsToo k q shares)) × ((unbroken k b ≡ Extending) ↔ ExtendsToo k q shares)
  unbroken_iff satisfiability b E = ((λ _ e. e, λ _. refl), (λ e. apart e, λ e. absurd e))
  unbroken_iff entailment true E = ((λ e. absurd (apart (sym e)), λ n. absurd (n (E.0 tt))), (λ _. E.0 tt, λ _. refl))
  unbroken_iff entailment false E = ((λ _ e. E.1 e, λ _. refl), (λ e. absurd (apart e), λ e. absurd (E.1 e)))

  not_broken : (k : Kind) (b : Bool) (n : ℕ) (w : Way) (i : ℕ) → unbroken k b ≡ Broken n w i → ⊥
  not_broken satisfiability b n w i e = let z : ◌≡◌ {A = ℕ} 0 1 = cc in omega arith
  not_broken entailment true n w i e = let z : ◌≡◌ {A = ℕ} 0 1 = cc in omega arith
  not_broken entailment false n w i e = let z : ◌≡◌ {A = ℕ} 0 1 = cc in omega arith

  not_refused : (k : Kind) (b : Bool) (n place : ℕ) → unbroken k b ≡ Refused n place → ⊥
  not_refused satisfiability b n place e = let z : ◌≡◌ {A = ℕ} 0 1 = cc in omega arith
  not_refused entailment true n place e = let z : ◌≡◌ {A = ℕ} 0 1 = cc in omega arith
  not_refused entailment false n place e = let z : ◌≡◌ {A = ℕ} 0 1 = cc in omega arith

  -- with a broken clause
  exactly_broken : lowest_broken q rows < length q.first → Exactly q shares Gives
  exactly_broken l =
      let g = given_broken l in
      let unsolved : ¬ SolvesFirst q shares = λ s. omega (arith, l, solves_only s) in
      let only = said_broken q.constants rows (lowest_broken q rows) (clause_of q.first (lowest_broken q rows)) in
      record {
        accepted = (λ e. absurd (only.accepted (sym g ∙ e)), λ s. absurd (unsolved s.0));
        broken = λ k w i. (
          λ e. broken_found l k w i (sym g ∙ e),
          λ B. let f = broken_only k w i B in g ∙ (broken_said l k w i).1 (f, rw f B.said),
        );
        extending = (λ e. absurd (only.extending (sym g ∙ e)), λ s. absurd (unsolved s.0));
        not_refused = λ n place e. only.refused n place (sym g ∙ e);
      }

  -- without one
  exactly_unbroken : length q.first ≤ lowest_broken q rows → Exactly q shares Gives
  exactly_unbroken m =
      let g = given_unbroken m in
      let u = unbroken_iff q.kind (extends_at q rows) extends_iff in
      let s = solves_found m in
      record {
        accepted = (λ e. (s, u.0.0 (sym g ∙ e)), λ (_, n). g ∙ u.0.1 n);
        broken = λ k w i. (
          λ e. absurd (not_broken q.kind (extends_at q rows) k w i (sym g ∙ e)),
          λ B. absurd (omega (arith, B.there, broken_only k w i B)),
        );
        extending = (λ e. (s, u.1.0 (sym g ∙ e)), λ (_, x). g ∙ u.1.1 x);
        not_refused = λ n place e. not_refused q.kind (extends_at q rows) n place (sym g ∙ e);
      }

  -- judging is exact
  pub judged_exactly : Exactly q shares Gives
  judged_exactly = go (dec_lt (lowest_broken q rows) (length q.first))
    where
      go : Dec (lowest_broken q rows < length q.first) → Exactly q shares Gives
      go (yes l) = exactly_broken l
      go (no n) = exactly_unbroken (omega arith)
