-- What one more read puts behind what was read so far is what the file has lost by it.
use Rattle.std.proofs.Common.{◌≡◌, ℕ, ◌+◌, ◌≤◌, List, ◌++◌, length, take, rules, sym, ap, subst, ◌∙◌}
use Rattle.std.proofs.Math.Seq.{take-append-add}
use Rattle.std.proofs.lemmas.List.{length-take-le, take-append-le}
use Rattle.std.proofs.KnownBytes.{Consumes-trans}
use Rattle.std.specs.Io.KnownBytes.{Consumes}
use Rattle.given.proofs.files.read_full.Goals as goal

-- the first a elements, then n of what stands behind them
part_read : (a n : ℕ) (xs ys rest : List ℕ) → a ≤ length xs → n ≤ length ys → take (a + n) (take a xs ++ (ys ++ rest)) ≡ take a xs ++ take n ys
part_read a n xs ys rest h l =
    subst (λ (m : ℕ). take (m + n) (take a xs ++ (ys ++ rest)) ≡ take a xs ++ take n ys) (length-take-le a xs h)
    (take-append-add (take a xs) (ys ++ rest) n ∙ ap (λ (zs : List ℕ). take a xs ++ zs) (take-append-le n ys rest l))

pub loop-done-preserved : goal.loop-done-preserved
loop-done-preserved g c =
    (search rules, subst (Consumes _ _) (sym (part_read _ _ _ _ _ c.loop-done.invariant.0 c.in-Ok.ensures.bound.0)) (Consumes-trans _ _ _ _ _ c.loop-done.invariant.1 c.in-Ok.ensures.bytes.0))
