-- What is in s and not in t is s without what both have. Assumes nothing.
use Prim.Native.Nat.{ℕ, ◌-◌, ◌^◌, ◌<◌}
use mathlib.Core.Path.{◌≡◌, sym, ap, ◌∙◌}
use native.Mathlib.Omega.{arith}
use borrow.Author.Rules.{rules}
use lib.Bits.{bit_and}
use Rattle.std.proofs.lemmas.Nat.{and-not, and_comm, and_assoc}
use Rattle.std.specs.Int.Bits.{xor_add_and, and_self}
use Rattle.cpuset.specs.Bit.{bit_less}
use Rattle.cpuset.specs.Set.{less_of}
use Rattle.cpuset.proofs.CpuSet.less.Goals as goal

without : (a b : ℕ) → a < 2 ^ 64 → b < 2 ^ 64 → bit_and a (2 ^ 64 - 1 - b) ≡ bit_less a b
without a b h g =
    let both : bit_and a (bit_and a b) ≡ bit_and a b = sym (and_assoc b a a) ∙ ap (λ (x : ℕ). bit_and x b) (and_self a) in
    let turned : bit_and a (2 ^ 64 - 1 - b) ≡ bit_and (2 ^ 64 - 1 - b) a = and_comm _ _ in
    omega (arith, both, turned, and_comm a b, and-not 64 b a g h, xor_add_and a (bit_and a b))

pub returns : goal.returns
unfolding less_of
returns c = ap (λ (x : ℕ). record { bits = x }) (without c.args.self.bits c.args.t.bits (search rules) (search rules))
