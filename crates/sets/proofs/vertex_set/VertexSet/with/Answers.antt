use mathlib.Core.Path.{◌≡◌, sym, ◌∙◌}
use native.Mathlib.Omega.{arith}
use lib.Bits.{bit_or, or_zero_r}
use Rattle.kep.specs.Sets.{with_vertex}
use Rattle.kep.proofs.Operations.{with_or, with_none}
use Rattle.sets.proofs.OneBit.{by_bit}
use Rattle.sets.proofs.vertex_set.VertexSet.with.Goals as goal

pub returns : goal.returns
returns c =
    let s = c.args.self.0 in
    let v = c.args.v in
    rw c.bit.ensures
    (by_bit (λ b. bit_or s b ≡ with_vertex 16 s v) v (λ l. sym (with_or 16 s (omega arith) v l)) (λ h. or_zero_r s ∙ sym (with_none 16 s (omega arith) v h)))
