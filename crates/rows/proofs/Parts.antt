-- The bytes of a block as the code finds them: one byte, or a part of the row. Assumes nothing.
use mathlib.Core.Path.{◌≡◌}
use mathlib.Core.Bool.{Bool, cond}
use mathlib.Core.List.{List, ◌++◌}
use mathlib.Core.Logic.{◌↔◌}
use Prim.Native.Nat.{ℕ, ◌+◌, ◌-◌, ◌*◌, ◌/◌, ◌%◌, ◌^◌, ◌≤◌, ◌<◌}
use native.Mathlib.Nat.{mod-lt}
use native.Mathlib.Omega.{arith}
use lib.Dec.{T, eqb}
use lib.ListN.{length, get_or, set, take, drop, replicate}
use lib.Pow.{pow_pos}
use Rattle.shares.specs.Constant.{bit}
use Rattle.rows.specs.Rows.{row_leaf}
use Rattle.rows.specs.Blocks.{Inside, AllLeaves, BlockSet, whole_byte}
use Rattle.rows.proofs.BlockLaws.{byte_inside, set_byte, byte_constant, bytes_inside, set_bytes, leaves_constant}

module _ (row : List ℕ) (h q : ℕ) (inside : Inside h q (length row)) where
  pub first_at_lem : (s : ℕ) → s ≡ 2 ^ h → q * s < 8 * length row
  first_at_lem s e = rw e (omega (arith, pow_pos h, inside.fits))

  module _ (at_most : h ≤ 3) (s : ℕ) (e : s ≡ 2 ^ (3 - h)) where
    pub size_pos : 0 < s
    size_pos = rw e (pow_pos (3 - h))

    pub byte_at : q / s < length row
    byte_at = rw e (byte_inside h at_most row q inside.fits)

    pub bits_at : (h ≤ 3) × (q % s < 2 ^ (3 - h))
    bits_at = (at_most, rw e (mod-lt q (pow_pos (3 - h))))

    pub set_at : (b : ℕ) (v : Bool)
        → ((r : ℕ) → r < 8 → bit b r ≡ cond (eqb (r / 2 ^ h) (q % s)) v (bit (get_or row (q / s) 0) r))
        → BlockSet row (set row (q / s) b) h q v
    set_at b v given = rw e (set_byte h at_most row q b v (byte_inside h at_most row q inside.fits) (rw e at given))

    pub test_at : (v r : Bool) → T r ↔ ((i : ℕ) → i < 8 → i / 2 ^ h ≡ q % s → bit (get_or row (q / s) 0) i ≡ v)
        → T r ↔ AllLeaves row h q v
    test_at v r given =
        let k = rw e at given in
        let iff = byte_constant h at_most row q v in
        (λ t. iff.0 (k.0 t), λ a. k.1 (iff.1 a))

  module _ (taller : 3 < h) (s : ℕ) (e : s ≡ 2 ^ (h - 3)) where
    high : 3 ≤ h
    high = omega arith

    pub part_fits : q * s + s ≤ length row
    part_fits = rw e (bytes_inside h high row q inside.fits)

    part_size : q * s + s - q * s ≡ s
    part_size = omega arith

    pub fill_at : (m b : ℕ) (v : Bool) (last : List ℕ) → q * s + s - q * s ≡ m → last ≡ replicate m b → b ≡ whole_byte v
        → BlockSet row (take (q * s) row ++ (last ++ drop (q * s + s - q * s) (drop (q * s) row))) h q v
    fill_at m b v last em el eb = rw (el, ← em, part_size, e) (set_bytes h high row q inside.fits b v eb)

    pub test_part : (v r : Bool)
        → T r ↔ ((i : ℕ) → i < 8 * length (take (q * s + s - q * s) (drop (q * s) row))
        → row_leaf (take (q * s + s - q * s) (drop (q * s) row)) i ≡ v)
        → T r ↔ AllLeaves row h q v
    test_part v r given =
        let k = rw (part_size, e) at given in
        let iff = leaves_constant h high row q inside.fits v in
        (λ t. iff.0 (k.0 t), λ a. k.1 (iff.1 a))
