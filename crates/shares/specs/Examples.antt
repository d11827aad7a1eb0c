-- Closed examples, computed: folding, unfolding, joins, constants, heights and texts. Assumes nothing.
use Rattle.std.specs.Prelude.{◌≡◌, refl, true, false, [], ◌∷◌}
use Rattle.std.proofs.Math.Option.{none, some}
use Rattle.shares.specs.Below.{every_below, some_below}
use Rattle.shares.specs.Tree.{Tree, leaf, pair, twins, fold, height, half, full, leaf_at, tree_of, join_leaf, tree_if}
use Rattle.shares.specs.Tree.{join_at, join, leaf_test}
use Rattle.shares.specs.declared.Way.TheVariants.{Holds, Overlap, Surplus, Shortfall}
use Rattle.shares.specs.Constant.{bit, set_in_both, number_tree, constant_levels, number}
use Rattle.shares.specs.Text.{text}

-- the left half
abbrev L : Tree
L = pair (leaf true) (leaf false)

-- the right half
abbrev R : Tree
R = pair (leaf false) (leaf true)

folded : (fold (leaf false) (leaf false) ≡ leaf false) × (fold (leaf true) (leaf true) ≡ leaf true)
    × (fold (leaf false) (leaf true) ≡ R)
unfolding fold twins
folded = (refl, refl, refl)

unfolded : (leaf_at 1 L 0 ≡ true) × (leaf_at 1 L 1 ≡ false) × (leaf_at 2 L 1 ≡ true) × (leaf_at 2 L 2 ≡ false)
unfolding leaf_at half full
unfolded = (refl, refl, refl, refl)

joined : (join L R ≡ some (leaf true)) × (join R R ≡ none) × (join (leaf false) L ≡ some L)
    × (join L (leaf true) ≡ none)
unfolding tree_of fold twins join_leaf tree_if join join_at every_below leaf_at half full height
joined = (refl, refl, refl, refl)

-- the test of a join at one leaf, of all parts and sums; where no sum is asked, the parts can only overlap
tests : (leaf_test true true (some true) ≡ Overlap) × (leaf_test true true (some false) ≡ Overlap)
    × (leaf_test true false (some false) ≡ Surplus)
    × (leaf_test false true (some false) ≡ Surplus) × (leaf_test false false (some true) ≡ Shortfall)
    × (leaf_test true false (some true) ≡ Holds)
    × (leaf_test false true (some true) ≡ Holds) × (leaf_test false false (some false) ≡ Holds)
    × (leaf_test true true none ≡ Overlap) × (leaf_test true false none ≡ Holds) × (leaf_test false true none ≡ Holds)
    × (leaf_test false false none ≡ Holds)
unfolding leaf_test join_leaf
tests = (refl, refl, refl, refl, refl, refl, refl, refl, refl, refl, refl, refl)

-- a taller right half counts too
heights : (height (leaf true) ≡ 0) × (height L ≡ 1) × (height (pair L (leaf false)) ≡ 2)
    × (height (pair (leaf false) R) ≡ 2)
unfolding height
heights = (refl, refl, refl, refl)

-- leaf i is at bit i
constants : (number_tree constant_levels 0x0000FFFF ≡ L) × (number_tree constant_levels 0xFFFF0000 ≡ R)
    × (number_tree constant_levels 0 ≡ leaf false) × (number_tree constant_levels 0xFFFFFFFF ≡ leaf true)
unfolding tree_of fold twins bit
constants = (refl, refl, refl, refl)

constants_joined : join (number_tree constant_levels 0x00000001) (number_tree constant_levels 0x00000002)
    ≡ some (number_tree constant_levels 0x00000003)
unfolding tree_of fold twins bit join_leaf tree_if join join_at every_below leaf_at half full height
constants_joined = refl

-- bit 2 is set in both; none is
in_both : (set_in_both 4 5 6 ≡ true) × (set_in_both 4 5 10 ≡ false)
unfolding set_in_both some_below bit
in_both = (refl, refl)

constant_heights : (height (number_tree constant_levels 0xFFFF0001) ≡ 5)
    × (height (number_tree constant_levels 0x80000000) ≡ 5)
    × (height (number_tree constant_levels 0x00FF00FF) ≡ 2) × (height (number_tree constant_levels 0) ≡ 0)
unfolding tree_of fold twins bit height
constant_heights = (refl, refl, refl, refl)

-- the lowest byte comes first
bytes : number (0x34 ∷ 0x12 ∷ []) ≡ 0x1234
unfolding number
bytes = refl

-- "(o*)"
texts : text R ≡ 0x28 ∷ 0x6F ∷ 0x2A ∷ 0x29 ∷ []
unfolding text
texts = refl
