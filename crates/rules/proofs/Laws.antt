-- A word of bytes, lowest first, byte by byte. Assumes nothing.
use Prim.Native.Nat.{ℕ, suc, ◌+◌, ◌*◌}
use mathlib.Core.Path.{◌≡◌, ap}
use mathlib.Core.List.{List}
use native.Mathlib.Omega.{arith}
use lib.ListN.{get_or}
use Rattle.std.proofs.lemmas.Grind.{common_steps}
use Rattle.rules.specs.Calls.{lowest_first}

pub lowest-first : (s : List ℕ) (i : ℕ) → lowest_first 8 s i ≡ get_or s i 0 + 256 * (get_or s (i + 1) 0 + 256 * (get_or s (i + 2) 0 + 256 * (get_or s (i + 3) 0 + 256 * (get_or s (i + 4) 0 + 256 * (get_or s (i + 5) 0 + 256 * (get_or s (i + 6) 0 + 256 * (get_or s (i + 7) 0)))))))
unfolding lowest_first
lowest-first s i =
    let at : (k j : ℕ) → j ≡ i + k → get_or s j 0 ≡ get_or s (i + k) 0 = λ k j e. ap (λ (n : ℕ). get_or s n 0) e in
    omega (arith, at 1 (suc i) (omega arith), at 2 (suc (suc i)) (omega arith), at 3 (suc (suc (suc i))) (omega arith), at 4 (suc (suc (suc (suc i)))) (omega arith), at 5 (suc (suc (suc (suc (suc i))))) (omega arith), at 6 (suc (suc (suc (suc (suc (suc i)))))) (omega arith), at 7 (suc (suc (suc (suc (suc (suc (suc i))))))) (omega arith))

-- what the check cites of `word`
pub ruleset words = (common_steps, lowest-first)
