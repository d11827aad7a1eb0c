-- Each read takes its bytes from the input and puts them behind those that were read before.
use Rattle.std.proofs.Common.{◌≡◌, ℕ, ◌+◌, ◌≤◌, List, ◌++◌, length, take, refl, sym, ap, ◌∙◌, subst, arith}
use Rattle.std.proofs.Math.Seq.{take-append-add}
use Rattle.std.proofs.lemmas.List.{length-take-le, take-append-le}
use Rattle.std.specs.Io.KnownBytes.{Consumes}
use Rattle.std.proofs.KnownBytes.{Consumes-nil, Consumes-trans}
use borrow.Rule.Slice.PartMut.{put_mid}
use Rattle.input.proofs.read_full.Goals as goal

-- what n more bytes fill behind the first a
more : (a k n : ℕ) (xs ys : List ℕ) → a ≤ length xs → n ≤ length ys → take (a + n) (put_mid a k xs ys) ≡ take a xs
    ++ take n ys
more a k n xs ys p q =
    ap (λ m. take (m + n) (put_mid a k xs ys)) (sym (length-take-le a xs p))
    ∙ take-append-add (take a xs) _ n
    ∙ ap (λ l. take a xs ++ l) (take-append-le n ys _ q)

pub loop-done-init : goal.loop-done-init
loop-done-init g c = record { within = omega arith; same_length = refl; bytes = Consumes-nil _ }

pub loop-done-preserved : goal.loop-done-preserved
loop-done-preserved g c =
    let read = c.in-Ok.ensures in
    let before = c.loop-done.invariant in
    record {
      within = omega arith;
      same_length = omega arith;
      bytes = subst (Consumes _ _)
          (sym (more c.loop-done.done _ c.in-Ok.n c.loop-done.buffer c.read.new.buf before.within read.bound.0))
          (Consumes-trans _ _ _ _ _ before.bytes read.bytes.0);
    }
