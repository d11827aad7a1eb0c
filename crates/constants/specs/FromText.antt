-- The constant that a text gives. Assumes nothing.
use Rattle.std.specs.Prelude.{cond, List, ℕ, Result, Ok, Err, ltb, length}
use Rattle.shares.specs.Tree.{Tree, Folded, height}
use Rattle.shares.specs.Constant.{tree_number}
use Rattle.shares.specs.Text.{TreeText, longest_text}
use Rattle.constants.specs.FoldLaws.{dec_folded}
use Rattle.constants.specs.StackLaws.{is_tree_text}
use Rattle.constants.specs.declared.NoConstant.{NoConstant}
use Rattle.constants.specs.declared.NoConstant.TheVariants.{NotTreeText, NotFolded, TooTall}

-- the number of a refusal
abbrev pub refusal_number : NoConstant → ℕ
refusal_number NotTreeText = 15
refusal_number NotFolded = 16
refusal_number TooTall = 17

-- the refusal number: 0 where the text was read
abbrev pub constant_refusal : Result ℕ NoConstant → ℕ
constant_refusal (Ok n) = 0
constant_refusal (Err refusal) = refusal_number refusal

-- the constant given: a refusal gives 0
abbrev pub constant_given : Result ℕ NoConstant → ℕ
constant_given (Ok n) = n
constant_given (Err refusal) = 0

-- what a tree gives, where constants have k levels: it is not folded if some pair could be folded, then too tall if it
-- is taller, else the number of its leaves
abbrev pub of_folding : ℕ → (t : Tree) → Dec (Folded t) → Result ℕ NoConstant
of_folding k t (no n) = Err NotFolded
of_folding k t (yes f) = cond (ltb k (height t)) (Err TooTall) (Ok (tree_number k t))

-- the same by the tree alone: `dec_folded` is believed by its type, it shows that the tree is folded, or that it is not
unfoldable pub from_tree : ℕ → Tree → Result ℕ NoConstant
from_tree k t = of_folding k t (dec_folded t)

-- what a text gives that is not too long: it is no tree text if no tree is written so, else what that tree gives
abbrev pub of_text : (k : ℕ) {s : List ℕ} → Dec (TreeText s) → Result ℕ NoConstant
of_text k (no n) = Err NotTreeText
of_text k (yes (t, e)) = from_tree k t

-- what a text gives, which is no tree text if it is too long: `is_tree_text` is believed by its type, it gives a tree
-- that is written so, or shows that there is none
unfoldable pub from_text : ℕ → List ℕ → Result ℕ NoConstant
from_text k s = cond (ltb (longest_text k) (length s)) (Err NotTreeText) (of_text k (is_tree_text s))
