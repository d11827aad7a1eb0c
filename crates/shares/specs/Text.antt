-- The text of a tree. Assumes nothing.
use Rattle.std.specs.Prelude.{◌≡◌, Bool, true, false, List, [], ◌∷◌, ◌++◌, ℕ, ◌*◌, ◌-◌, ◌^◌}
use Rattle.shares.specs.Tree.{Tree, leaf, pair}

-- the sign of a leaf: `o` empty, `*` full
abbrev pub sign : Bool → ℕ
sign false = 0x6F
sign true = 0x2A

-- a leaf is its sign, `(` left right `)` a pair, as bytes
unfoldable pub text : Tree → List ℕ
text (leaf b) = sign b ∷ []
text (pair l r) = 0x28 ∷ (text l ++ (text r ++ (0x29 ∷ [])))

-- a tree text: some tree, folded or not, is written so
abbrev pub TreeText : List ℕ → Type 0
TreeText s = (t : Tree) × (text t ≡ s)

-- the text of a tree of height k has at most this many bytes: 94 at height 5, 3,070 at height 10
abbrev pub longest_text : ℕ → ℕ
longest_text k = 3 * 2 ^ k - 2
