-- Worked questions: one with every kind of command, written; and a string in which the two systems alternate, gone
-- over. Assumes nothing.
use Rattle.std.specs.Prelude.{◌≡◌, refl, List, [], ◌∷◌, ℕ}
use Rattle.shares.specs.Constant.{constant_levels}
use Rattle.systems.specs.Clauses.{variable, constant, joined, equal, is_full, is_empty, together, positive, negated}
use Rattle.systems.specs.Questions.{Question, entailment}
use Rattle.format.specs.Format.{entry_of, command_of, whole_at, read_at, term_of}
use Rattle.encoding.specs.Encode.{lowest_bytes, encode_commands, encode}
use Rattle.encoding.specs.Order.{commands_from, commands_of, first_clauses, second_clauses}

-- one free variable and two own ones, two constants, and a clause of every kind in each system
abbrev every_kind : Question
every_kind = record {
  kind = entailment;
  free = 1;
  own = 2;
  constants = record { levels = constant_levels; numbers = 0x0000FFFF ∷ 0x12345678 ∷ [] };
  first =
      positive (joined (variable 0) (constant 0) (constant 1))
      ∷ negated (joined (constant 1) (variable 0) (constant 0))
      ∷ positive (equal (variable 0) (constant 1))
      ∷ negated (equal (variable 0) (constant 0))
      ∷ positive (is_full (constant 1))
      ∷ negated (is_empty (variable 0))
      ∷ positive (together (variable 0) (constant 0))
      ∷ [];
  second =
      negated (joined (variable 0) (variable 1) (variable 2))
      ∷ positive (joined (variable 2) (variable 1) (variable 0))
      ∷ negated (equal (variable 1) (variable 2))
      ∷ positive (equal (variable 2) (constant 0))
      ∷ positive (together (variable 1) (variable 2))
      ∷ negated (is_empty (variable 2))
      ∷ positive (is_full (variable 1))
      ∷ [];
}

pub every_kind_written : encode every_kind
    ≡ 0x01 ∷ 0x01 ∷ 0x01 ∷ 0x02
    ∷ 0x03 ∷ 0xFF ∷ 0xFF ∷ 0x00 ∷ 0x00
    ∷ 0x03 ∷ 0x78 ∷ 0x56 ∷ 0x34 ∷ 0x12
    ∷ 0x10 ∷ 0x00 ∷ 0x20 ∷ 0x21
    ∷ 0x11 ∷ 0x21 ∷ 0x00 ∷ 0x20
    ∷ 0x12 ∷ 0x00 ∷ 0x21
    ∷ 0x13 ∷ 0x00 ∷ 0x20
    ∷ 0x30 ∷ 0x21
    ∷ 0x31 ∷ 0x00
    ∷ 0x32 ∷ 0x00 ∷ 0x20
    ∷ 0x21 ∷ 0x00 ∷ 0x01 ∷ 0x02
    ∷ 0x20 ∷ 0x02 ∷ 0x01 ∷ 0x00
    ∷ 0x23 ∷ 0x01 ∷ 0x02
    ∷ 0x22 ∷ 0x02 ∷ 0x20
    ∷ 0x3A ∷ 0x01 ∷ 0x02
    ∷ 0x39 ∷ 0x02
    ∷ 0x38 ∷ 0x01
    ∷ 0x00
    ∷ []
unfolding encode encode_commands lowest_bytes
every_kind_written = refl

-- v0 is not v0; own v1 is v0; v0 join v0 is v0; own v1 is not empty; v0 is full
abbrev alternating : List ℕ
alternating =
    0x01 ∷ 0x01 ∷ 0x01 ∷ 0x01
    ∷ 0x13 ∷ 0x00 ∷ 0x00
    ∷ 0x22 ∷ 0x01 ∷ 0x00
    ∷ 0x10 ∷ 0x00 ∷ 0x00 ∷ 0x00
    ∷ 0x39 ∷ 0x01
    ∷ 0x30 ∷ 0x00
    ∷ 0x00
    ∷ []

pub first_in_order : first_clauses (commands_of alternating)
    ≡ negated (equal (variable 0) (variable 0)) ∷ positive (joined (variable 0) (variable 0) (variable 0))
    ∷ positive (is_full (variable 0)) ∷ []
unfolding commands_from first_clauses read_at whole_at entry_of command_of term_of
first_in_order = refl

pub second_in_order : second_clauses (commands_of alternating) ≡ positive (equal (variable 1) (variable 0))
    ∷ negated (is_empty (variable 1)) ∷ []
unfolding commands_from second_clauses read_at whole_at entry_of command_of term_of
second_in_order = refl
