-- What the numbers of the calls other than asking stand for. Assumes nothing.
use Rattle.std.specs.Prelude.{cond, ℕ, Result, ◌+◌, ◌*◌, ◌^◌, ◌<◌, eqb}
use Rattle.std.proofs.Math.Option.{Option, none, some}
use Rattle.shares.specs.Tree.{Tree, way_number}
use Rattle.shares.specs.Constant.{number_tree}
use Rattle.rows.specs.declared.Range.{Range}
use Rattle.text.specs.Texts.{text_length, text_refusal}
use Rattle.text.specs.declared.TextRefusal.{TextRefusal}
use Rattle.constants.specs.FromText.{constant_refusal, constant_given}
use Rattle.constants.specs.declared.NoConstant.{NoConstant}
use Rattle.judging.specs.Judging.{Judgement}
use Rattle.judging.specs.Judging as judgement

-- a range's offset in the low 32 bits, its length in the high 32
abbrev pub range_number : Range → ℕ
range_number r = r.offset + 2 ^ 32 * r.bytes

-- a text's length in the low 32 bits, the refusal number in the byte after them
abbrev pub text_number : Result ℕ TextRefusal → ℕ
text_number w = text_length w + 2 ^ 32 * text_refusal w

-- the constant that a text gives in the low 32 bits, the refusal number in the byte after them
abbrev pub constant_number : Result ℕ NoConstant → ℕ
constant_number g = constant_given g + 2 ^ 32 * constant_refusal g

-- the number of no join, where constants have so many levels: one past the largest constant, 2 ^ 32 at 5 levels
abbrev pub undefined_join : ℕ → ℕ
undefined_join levels = 2 ^ (2 ^ levels)

-- the tree that the number of a join of such constants stands for
abbrev pub number_join : ℕ → ℕ → Option Tree
number_join levels n = cond (eqb n (undefined_join levels)) none (some (number_tree levels n))

-- a version's three numbers, a byte each, the last lowest
abbrev pub version_number : ℕ → ℕ → ℕ → ℕ
version_number major minor patch = 2 ^ 16 * major + 2 ^ 8 * minor + patch

-- a judgement: 0 refused, with the number of the refusal in byte 1 and its place in bytes 2 and 3, low first; 1
-- accepted; 2 a clause is broken, with its number in byte 4, the number of the way in byte 5 and the leaf in bytes 6
-- and 7, low first; 3 the rows extend
abbrev pub judgement_number : Judgement → ℕ
judgement_number (judgement.Refused n place) = 2 ^ 8 * n + 2 ^ 16 * place
judgement_number judgement.Accepted = 1
judgement_number (judgement.Broken k w i) = 2 + 2 ^ 32 * k + 2 ^ 40 * way_number w + 2 ^ 48 * i
judgement_number judgement.Extending = 3

-- each of its numbers fits its bytes
abbrev pub Small : Judgement → Type 0
Small (judgement.Refused n place) = (n < 2 ^ 8) × (place < 2 ^ 16)
Small judgement.Accepted = Unit {0}
Small (judgement.Broken k w i) = (k < 2 ^ 8) × (i < 2 ^ 16)
Small judgement.Extending = Unit {0}
