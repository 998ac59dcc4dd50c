use mathlib.Core.Path.{◌≡◌, sym, ◌∙◌}
use Prim.Native.Nat.{◌-◌}
use native.Mathlib.Nat.{sub-zero}
use native.Mathlib.Omega.{arith}
use lib.Bits.{bit_or, or_zero_r}
use Rattle.kep.specs.Sets.{without_vertex}
use Rattle.kep.proofs.Operations.{or_holds, without_or, without_none}
use Rattle.sets.proofs.OneBit.{by_bit}
use Rattle.sets.proofs.vertex_set.VertexSet.without.Goals as goal

pub overflow_sub-result : goal.overflow_sub-result
overflow_sub-result c = or_holds c.args.self.0 _

pub returns : goal.returns
returns c =
    let s = c.args.self.0 in
    let v = c.args.v in
    rw c.bit-one.ensures
    (by_bit (λ b. bit_or s b - b ≡ without_vertex 16 s v) v (λ l. sym (without_or 16 s (omega arith) v)) (λ h. sub-zero _ ∙ or_zero_r s ∙ sym (without_none 16 s (omega arith) v h)))
