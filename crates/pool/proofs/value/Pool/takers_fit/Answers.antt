use borrow.Author.Rules.{rules}
use native.Mathlib.Omega.{arith}
use mathlib.Core.Path.{◌∙◌}
use Prim.Native.Nat.{◌<◌, ◌^◌}
use lib.ListN.{get_or}
use Rattle.std.proofs.lemmas.Bool.Decides.{nat_tests}
use Rattle.pool.proofs.ValueLaws.{takers_test}
use Rattle.pool.proofs.value.Pool.takers_fit.Goals as goal

-- That what the code allows are the takers allowed is left to the tests of numbers.
pub returns : goal.returns
returns c =
    let pool = c.args.self.now in
    let narrow : get_or pool.gives c.args.u 0 < 2 ^ 16 = search rules in
    c.is_empty.ensures ∙ rw c.sub.ensures (takers_test pool.size pool.altruists pool.gives c.args.u narrow (grind (arith, nat_tests)))
