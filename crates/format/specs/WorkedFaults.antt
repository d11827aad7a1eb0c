-- Worked faults: where two are so of one command, the order of docs/SPEC.md, 7.3, decides. Assumes nothing.
use Rattle.std.specs.Prelude.{refl, List, [], ◌∷◌, ℕ, drop}
use Rattle.std.proofs.Common.{inl, inr, arith, lit<, lit≤}
use Rattle.systems.specs.Questions.{Question}
use Rattle.format.specs.declared.Section.TheVariants.{SecondDisequation}
use Rattle.format.specs.declared.Test.TheVariants.{Join}
use Rattle.format.specs.declared.Shape.{Shape}
use Rattle.format.specs.Format.{entry_of, term_of, opened}
use Rattle.format.specs.Faults.{Announced, NoHead, UnfitHead, ForeignClause, NamesNothing, head_due, command_due}
use Rattle.format.specs.Faults.{CutShort, faults_at, NoneOf, FirstOf, start, further, FirstFault}
use Rattle.format.specs.AnnouncedLaws.{byte_there, byte_known, not_cut, no_head, in_place}

-- kind 0 with one free variable, then "not (a join b is c)" in a second system, of three terms that name nothing
abbrev pub bytes : List ℕ
bytes = 0x01 ∷ 0x00 ∷ 0x01 ∷ 0x00 ∷ 0x21 ∷ 0x0C ∷ 0x40 ∷ 0xFF ∷ []

-- what its head gives
abbrev headed : Question
headed = opened 0 1 0

head_announced : Announced bytes 0 Shape.Head
unfolding entry_of
head_announced = record { there = lit< tt; known = refl }

clause_announced : Announced bytes 4 (Shape.Clause SecondDisequation Join)
unfolding entry_of
clause_announced = record { there = lit< tt; known = refl }

-- its head has no fault
head_clear : NoneOf (faults_at bytes 0 head_due)
head_clear =
    (there, (byte_there head_announced, (byte_known head_announced, (not_cut head_announced (lit≤ tt), (fits, tt)))))
  where
    there : NoHead bytes → ⊥
    there (inl e) = omega arith
    there (inr f) = f refl

    fits : UnfitHead bytes 0 → ⊥
    fits (a, inl u) = omega arith
    fits (a, inr (inl u)) = omega arith
    fits (a, inr (inr u)) = omega (arith, u.0)

-- the clause has two: 9, and 8
foreign : ForeignClause bytes 4 headed
unfolding opened
foreign = (SecondDisequation, Join, clause_announced, refl, refl)

pub nameless : NamesNothing bytes 4 headed
unfolding opened term_of
nameless = (SecondDisequation, Join, 0, clause_announced, lit< tt, λ d. omega arith)

-- and 9 comes first
pub nine_first : FirstFault bytes 9 4
nine_first = (
  command_due headed,
  further start head_clear head_announced,
  inr (byte_there a, inr (byte_known a, inr (whole, inr (in_place headed a refl refl, inr (no_head a refl, first))))),
)
  where
    a : Announced bytes 4 (Shape.Clause SecondDisequation Join)
    a = clause_announced

    whole : CutShort bytes 4 → ⊥
    whole = not_cut a (lit≤ tt)

    first : FirstOf (drop 5 (faults_at bytes 4 (command_due headed))) 9
    first = inl (refl, foreign)
